-- Laws of the words, as the functions that read them have it: results as variables, each with what its call promised.
use Rattle.std.proofs.Common.{Some, None, Option}
use Prim.Native.Nat.{ℕ, ◌+◌, ◌-◌, ◌*◌, ◌^◌, ◌≤◌, ◌<◌}
use mathlib.Core.Path.{◌≡◌, refl, sym, ap, ap₂, ◌∙◌}
use mathlib.Core.Bool.{Bool, true, false, cond, ◌&&◌}
use mathlib.Core.List.{List, [], ◌∷◌, ◌++◌, map, map-append, append-nil}
use native.Mathlib.Numerals.{add-one}
use native.Mathlib.Decide.{dec_le}
use native.Mathlib.Omega.{arith}
use borrow.Author.Tests.{lt-ltb, le-ltb, le-leb, lt-leb, eqb-true, eq-eqb, ne_eqb}
use lib.Dec.{leb, ltb}
use lib.ListN.{length, get_or, take, drop, set, length-append, length-map, drop_of_length-le, get_or-eq_default}
use lib.Seq.{get_or_at, drop-cons, take-suc, take_all, set_at, append_snoc, length-take-le}
use Rattle.endian.specs.Bytes.{window, splice, all_pass, zeros}
use Rattle.endian.proofs.Parts.{length-window-fits, splice_next, splice-whole}
use Rattle.endian.proofs.Tests.{and_left, length-zeros}
use Rattle.text.specs.Decimal.{value_after, is_digit}
use Rattle.words.specs.Words.{digit_of, number_after, number_of, dash, dashed, joined, undashed, lower, hex_uuid, uuid_of}

-- digits only add
value_grows : (v : ℕ) (s : List ℕ) → v ≤ value_after v s
unfolding value_after
value_grows v [] = omega arith
value_grows v (c ∷ s) = omega (arith, value_grows (v * 10 + (c - 48)) s)

pub and_false : (b : Bool) → b && false ≡ false
and_false true = refl
and_false false = refl

-- the test of one digit more, where the product fits
pub fits_test : (v d : ℕ) → v ≤ 1844674407370955161 → leb d (18446744073709551615 - v * 10) ≡ ltb (v * 10 + d) (2 ^ 64)
fits_test v d h =
    elim (dec_le d (18446744073709551615 - v * 10)) [
      | yes l ↦ le-leb d (18446744073709551615 - v * 10) l ∙ sym (lt-ltb (v * 10 + d) (2 ^ 64) (omega arith))
      | no l ↦ lt-leb d (18446744073709551615 - v * 10) (omega arith) ∙ sym (le-ltb (v * 10 + d) (2 ^ 64) (omega arith))
    ]

-- the first character: no digit, one digit too many, or a digit
after_stop : (v x : ℕ) (t : List ℕ) → is_digit x ≡ false → number_after v (x ∷ t) ≡ None
unfolding number_after all_pass
after_stop v x t h = rw h

after_over : (v x : ℕ) (t : List ℕ) → 2 ^ 64 ≤ v * 10 + (x - 48) → number_after v (x ∷ t) ≡ None
unfolding number_after value_after
after_over v x t h =
    rw
    (le-ltb (value_after (v * 10 + (x - 48)) t) (2 ^ 64) (let l : 2 ^ 64 ≤ value_after (v * 10 + (x - 48)) t = omega (arith, value_grows (v * 10 + (x - 48)) t) in l), and_false (all_pass is_digit (x ∷ t)))

after_next : (v x : ℕ) (t : List ℕ) → is_digit x ≡ true → number_after v (x ∷ t) ≡ number_after (v * 10 + (x - 48)) t
unfolding number_after value_after all_pass
after_next v x t h = rw h

after-done : (v : ℕ) → v < 2 ^ 64 → number_after v [] ≡ Some v
unfolding number_after value_after all_pass
after-done v h = rw (lt-ltb v (2 ^ 64) h)

-- what a digit stands for, and that there is none
a_digit : (c d : ℕ) → digit_of c ≡ Some d → (is_digit c ≡ true) × (d ≡ c - 48)
unfolding digit_of
a_digit c d e = go (is_digit c) refl e
  where
    go : (r : Bool) → r ≡ is_digit c → cond r (Some (c - 48)) None ≡ Some d → (is_digit c ≡ true) × (d ≡ c - 48)
    go true f g = (sym f, cc)
    go false f g = absurd (cc)

no_digit : (c : ℕ) → digit_of c ≡ None → is_digit c ≡ false
unfolding digit_of
no_digit c e = go (is_digit c) refl e
  where
    go : (r : Bool) → r ≡ is_digit c → cond r (Some (c - 48)) None ≡ None → is_digit c ≡ false
    go true f g = absurd (cc)
    go false f g = sym f

left : (s : List ℕ) (i : ℕ) → i < length s → drop i s ≡ get_or s i 0 ∷ drop (i + 1) s
left s i h = rw (add-one i) (drop-cons s i 0 h)

pub number-none : (s : List ℕ) → length s ≡ 0 → None ≡ number_of s
unfolding number_of
number-none s e = rw (le-ltb 0 (length s) (let l : length s ≤ 0 = omega arith in l))

pub number_start : (s : List ℕ) → (length s ≡ 0 → ⊥) → number_after 0 s ≡ number_of s
unfolding number_of
number_start s h = rw (lt-ltb 0 (length s) (let l : 0 < length s = omega arith in l))

-- at place i, with v before it, and the digit there
module _ (s : List ℕ) (i v : ℕ) (o : Option ℕ) (h : i < length s) (read : o ≡ digit_of (get_or s i 0)) (whole : number_after v (drop i s) ≡ number_of s) where
  pub number_stop : o ≡ None → None ≡ number_of s
  unfolding digit_of
  number_stop f = sym (after_stop v (get_or s i 0) (drop (i + 1) s) (no_digit (get_or s i 0) (sym read ∙ f))) ∙ (ap (number_after v) (sym (left s i h)) ∙ whole)

  module _ (d : ℕ) (f : o ≡ Some d) where
    pub number_over : 2 ^ 64 ≤ v * 10 + d → None ≡ number_of s
    number_over l =
        let e : d ≡ get_or s i 0 - 48 = (a_digit (get_or s i 0) d (sym read ∙ f)).1 in
        sym (after_over v (get_or s i 0) (drop (i + 1) s) (omega arith)) ∙ (ap (number_after v) (sym (left s i h)) ∙ whole)

    pub number_next : number_after (v * 10 + d) (drop (i + 1) s) ≡ number_of s
    number_next =
        let e : (is_digit (get_or s i 0) ≡ true) × (d ≡ get_or s i 0 - 48) = a_digit (get_or s i 0) d (sym read ∙ f) in
        ap (λ (z : ℕ). number_after (v * 10 + z) (drop (i + 1) s)) e.1
        ∙ (sym (after_next v (get_or s i 0) (drop (i + 1) s) e.0) ∙ (ap (number_after v) (sym (left s i h)) ∙ whole))

pub number-done : (s : List ℕ) (i v : ℕ) → number_after v (drop i s) ≡ number_of s → length s ≤ i → v < 2 ^ 64 → Some v ≡ number_of s
number-done s i v whole h l = sym (after-done v l) ∙ (ap (number_after v) (sym (drop_of_length-le s h)) ∙ whole)

-- past the end there is no dash
pub no_dash : (s : List ℕ) (i : ℕ) → length s ≤ i → false ≡ dash s i
unfolding dash
no_dash s i h = rw (get_or-eq_default s 0 h)

pub dashed-length : (s : List ℕ) (r : Bool) → r ≡ dashed s → r ≡ true → length s ≡ 36
unfolding dashed
dashed-length s r e f = eqb-true (length s) 36 (and_left _ _ (sym e ∙ f))

-- the five parts, put one after the other
pub joined-parts : (s z a b c d e d1 d2 d3 d4 d5 : List ℕ) → length s ≡ 36 → length z ≡ 32
    → a ≡ window s 0 8 → b ≡ window s 9 4 → c ≡ window s 14 4 → d ≡ window s 19 4 → e ≡ window s 24 12
    → d1 ≡ splice z 0 a → d2 ≡ splice d1 8 b → d3 ≡ splice d2 12 c → d4 ≡ splice d3 16 d → d5 ≡ splice d4 20 e → d5 ≡ joined s
unfolding joined
joined-parts s z a b c d e d1 d2 d3 d4 d5 h k ea eb ec ed ee p1 p2 p3 p4 p5 =
    let la : length a ≡ 8 = ap length ea ∙ length-window-fits s 0 8 (omega arith) in
    let lb : length b ≡ 4 = ap length eb ∙ length-window-fits s 9 4 (omega arith) in
    let lc : length c ≡ 4 = ap length ec ∙ length-window-fits s 14 4 (omega arith) in
    let ld : length d ≡ 4 = ap length ed ∙ length-window-fits s 19 4 (omega arith) in
    let le : length e ≡ 12 = ap length ee ∙ length-window-fits s 24 12 (omega arith) in
    let lab : length (a ++ b) ≡ 12 = length-append a b ∙ ap₂ ◌+◌ la lb in
    let labc : length (a ++ b ++ c) ≡ 16 = length-append (a ++ b) c ∙ ap₂ ◌+◌ lab lc in
    let labcd : length (a ++ b ++ c ++ d) ≡ 20 = length-append (a ++ b ++ c) d ∙ ap₂ ◌+◌ labc ld in
    let lall : length (a ++ b ++ c ++ d ++ e) ≡ 32 = length-append (a ++ b ++ c ++ d) e ∙ ap₂ ◌+◌ labcd le in
    let q2 : d2 ≡ splice z 0 (a ++ b) = p2 ∙ (ap (λ (x : List ℕ). splice x 8 b) p1 ∙ splice_next z 0 a b 8 (omega arith) (omega arith)) in
    let q3 : d3 ≡ splice z 0 (a ++ b ++ c) = p3 ∙ (ap (λ (x : List ℕ). splice x 12 c) q2 ∙ splice_next z 0 (a ++ b) c 12 (omega arith) (omega arith)) in
    let q4 : d4 ≡ splice z 0 (a ++ b ++ c ++ d) = p4 ∙ (ap (λ (x : List ℕ). splice x 16 d) q3 ∙ splice_next z 0 (a ++ b ++ c) d 16 (omega arith) (omega arith)) in
    p5
    ∙ (ap (λ (x : List ℕ). splice x 20 e) q4
    ∙ (splice_next z 0 (a ++ b ++ c ++ d) e 20 (omega arith) (omega arith) ∙ (splice-whole z (a ++ b ++ c ++ d ++ e) (lall ∙ sym k) ∙ rw (ea, eb, ec, ed, ee))))

length-joined : (s : List ℕ) → length s ≡ 36 → length (joined s) ≡ 32
unfolding joined
length-joined s h =
    simp length-append
    (rw (length-window-fits s 0 8 (let l : 0 + 8 ≤ length s = omega arith in l), length-window-fits s 9 4 (let l : 9 + 4 ≤ length s = omega arith in l), length-window-fits s 14 4 (let l : 14 + 4 ≤ length s = omega arith in l), length-window-fits s 19 4 (let l : 19 + 4 ≤ length s = omega arith in l), length-window-fits s 24 12 (let l : 24 + 12 ≤ length s = omega arith in l)))

-- one character more is small
pub lower_next : (d l : List ℕ) (i w : ℕ) → i < length d → w ≡ lower (get_or l i 0)
    → l ≡ map lower (take i d) ++ drop i d → set l i w ≡ map lower (take (i + 1) d) ++ drop (i + 1) d
lower_next d l i w h e f =
    let n : length (map lower (take i d)) ≡ i = length-map (take i d) lower ∙ length-take-le i d (omega arith) in
    let g : l ≡ map lower (take i d) ++ (get_or d i 0 ∷ drop (i + 1) d) = f ∙ ap (λ (z : List ℕ). map lower (take i d) ++ z) (left d i h) in
    let r : get_or l i 0 ≡ get_or d i 0 = ap (λ (z : List ℕ). get_or z i 0) g ∙ get_or_at (map lower (take i d)) (get_or d i 0) (drop (i + 1) d) 0 i n in
    ap₂ (λ (x : List ℕ) (y : ℕ). set x i y) g (e ∙ ap lower r)
    ∙ (set_at (map lower (take i d)) (get_or d i 0) (drop (i + 1) d) (lower (get_or d i 0)) i n
    ∙ (sym (append_snoc (map lower (take i d)) (lower (get_or d i 0)) (drop (i + 1) d))
    ∙ ap (λ (z : List ℕ). z ++ drop (i + 1) d)
    (sym (ap (map lower) (ap (λ (k : ℕ). take k d) (add-one i) ∙ take-suc d i 0 h) ∙ map-append lower (take i d) (get_or d i 0 ∷ [])))))

pub lower-done : (d l : List ℕ) (i : ℕ) → length d ≤ i → l ≡ map lower (take i d) ++ drop i d → l ≡ map lower d
lower-done d l i h f = f ∙ (ap₂ (λ (x y : List ℕ). map lower x ++ y) (take_all i d h) (drop_of_length-le d h) ∙ append-nil (map lower d))

module _ (s : List ℕ) (r : Bool) (tested : r ≡ dashed s) where
  pub undashed-joined : r ≡ true → undashed s ≡ joined s
  unfolding undashed
  undashed-joined f = rw (sym tested ∙ f)

  pub undashed-same : r ≡ false → undashed s ≡ s
  unfolding undashed
  undashed-same f = rw (sym tested ∙ f)

  pub uuid-dashed : (j : List ℕ) (x : Option (List ℕ)) → r ≡ true → j ≡ joined s → x ≡ hex_uuid (map lower j) → x ≡ uuid_of s
  unfolding uuid_of
  uuid-dashed j x f e g =
      rw (undashed-joined f, eq-eqb (length (joined s)) 32 (length-joined s (dashed-length s r tested f))) (g ∙ ap (λ (z : List ℕ). hex_uuid (map lower z)) e)

  pub uuid-none : r ≡ false → (length s ≡ 32 → ⊥) → None ≡ uuid_of s
  unfolding uuid_of
  uuid-none f h = rw (undashed-same f, ne_eqb (length s) 32 h)

  pub uuid-plain : (d : List ℕ) (x : Option (List ℕ)) → r ≡ false → length s ≡ 32 → d ≡ splice (zeros 32) 0 s → x ≡ hex_uuid (map lower d) → x ≡ uuid_of s
  unfolding uuid_of
  uuid-plain d x f h e g =
      rw (undashed-same f, eq-eqb (length s) 32 h) (g ∙ ap (λ (z : List ℕ). hex_uuid (map lower z)) (e ∙ splice-whole (zeros 32) s (h ∙ sym (length-zeros 32))))
