-- What holds of the words, proved.
use Rattle.std.proofs.Common.{Some, None, Option}
use Prim.Native.Nat.{ℕ, zero, suc, ◌+◌, ◌-◌, ◌*◌, ◌^◌, ◌≤◌, ◌<◌}
use mathlib.Core.Path.{◌≡◌, refl, sym, ap, ap₂, subst, ◌∙◌}
use mathlib.Core.Bool.{Bool, true, false, cond, ◌&&◌, ◌||◌}
use mathlib.Core.Logic.{◌⊎◌, inl, inr}
use mathlib.Core.List.{List, [], ◌∷◌, ◌++◌, map, map-append, append_assoc}
use native.Mathlib.Decide.{dec_le}
use native.Mathlib.Nat.{mul-le-mul_left, le_of_eq}
use native.Mathlib.Omega.{arith}
use borrow.Author.Tests.{lt-ltb, le-ltb, ltb-true, leb-true, le-leb, lt-leb, eqb-true, eq-eqb, ne_eqb}
use lib.Dec.{ltb, leb, eqb, lit<}
use lib.ListN.{length, get_or, take, drop, length-append, length-map, take-append-drop, get_or-map}
use lib.Seq.{take_at, take_all, take-suc, get_or_at, drop-cons, drop-drop, drop-append-add, get_or-append-add}
use Rattle.endian.specs.Bytes.{window, same, all_pass}
use Rattle.endian.proofs.Tests.{and_left, and_right, all_at, same_equal}
use Rattle.endian.proofs.Parts.{length-window-fits, window_rest}
use Rattle.text.specs.Decimal.{decimal, value_after, value, is_digit}
use Rattle.text.proofs.Decimals.{all_digits, decimal-value, decimal-some}
use Rattle.block.specs.Block.{is_hex}
use Rattle.words.specs.Words.{number_after, number_of, unit_of, times_of, size_of, sectors_of, last, thin_metadata, thin_data, spare, metadata_volume, kind_of, dash, dashed, joined, undashed, lower, hex_uuid, uuid_of}
use Rattle.words.specs.Demand.{ReadBack, DigitsAlone, Numbers, Sizes, Lettered, Size, SizesOnly, Names, Kinds, Digits, Dashes, Form, Says, upper, Uuids}
use Rattle.words.proofs.Words.{and_false, number_start, undashed-joined, undashed-same}

pub read_back : ReadBack
unfolding number_after
read_back n h =
    sym (number_start (decimal n) (let l : 0 < length (decimal n) = decimal-some n in omega arith))
    ∙ rw (all_digits 20 n, decimal-value n (omega arith), lt-ltb n (2 ^ 64) h)

-- a choice that says a number was for the first
said : (b : Bool) (a : Option ℕ) (n : ℕ) → cond b a None ≡ Some n → (b ≡ true) × (a ≡ Some n)
said true a n e = (refl, e)
said false a n e = absurd (let z : ◌≡◌ {A = ℕ} 0 1 = cc in omega arith)

same_is : (v n : ℕ) → Some v ≡ Some n → v ≡ n
same_is v n e = cc

pub digits-alone : DigitsAlone
unfolding number_of number_after
digits-alone s n e =
    let o : (ltb 0 (length s) ≡ true) × (number_after 0 s ≡ Some n) = said (ltb 0 (length s)) (number_after 0 s) n e in
    let i : (all_pass is_digit s && ltb (value s) (2 ^ 64) ≡ true) × (Some (value s) ≡ Some n) = said (all_pass is_digit s && ltb (value s) (2 ^ 64)) (Some (value s)) n o.1 in
    let v : value s ≡ n = same_is (value s) n i.1 in
    let l : value s < 2 ^ 64 = ltb-true (value s) (2 ^ 64) (and_right (all_pass is_digit s) (ltb (value s) (2 ^ 64)) i.0) in (
      ltb-true 0 (length s) o.0,
      and_left (all_pass is_digit s) (ltb (value s) (2 ^ 64)) i.0,
      v,
      omega arith,
    )

digits-below : (s : List ℕ) → 0 < length s → all_pass is_digit s ≡ true → value s < 2 ^ 64 → number_of s ≡ Some (value s)
unfolding number_of number_after
digits-below s l a h = rw (lt-ltb 0 (length s) l, a, lt-ltb (value s) (2 ^ 64) h)

digits_above : (s : List ℕ) → 0 < length s → all_pass is_digit s ≡ true → 2 ^ 64 ≤ value s → number_of s ≡ None
unfolding number_of number_after
digits_above s l a h = rw (lt-ltb 0 (length s) l, a, le-ltb (value s) (2 ^ 64) h)

zero-before : (s : List ℕ) → 0 < length s → number_of (48 ∷ s) ≡ number_of s
unfolding number_of number_after value_after all_pass
zero-before s l = rw (lt-ltb 0 (length s) l, lt-ltb 0 (length (48 ∷ s)) (let m : 0 < length (48 ∷ s) = omega arith in m))

pub numbers : Numbers
numbers = record { below = digits-below; above = digits_above; leading = zero-before; only = digits-alone }

-- digits name no unit
no_unit : (x : ℕ) → is_digit x ≡ true → unit_of x ≡ None
unfolding unit_of
no_unit x h =
    let l : x ≤ 57 = leb-true x 57 (and_right (leb 48 x) (leb x 57) h) in
    rw (ne_eqb x 75 (λ e. omega arith), ne_eqb x 77 (λ e. omega arith), ne_eqb x 71 (λ e. omega arith), ne_eqb x 84 (λ e. omega arith))

-- digits alone, and a letter behind them
module _ (d : List ℕ) (some : 0 < length d) (a : all_pass is_digit d ≡ true) where
  alone : value d < 2 ^ 64 → sectors_of d ≡ Some (value d)
  unfolding size_of
  alone h = rw (no_unit (last d) (all_at is_digit d a (length d - 1) (omega arith))) (digits-below d some a h)

  behind : (c u : ℕ) → unit_of c ≡ Some u → 0 < u → value d * u < 2 ^ 64 → sectors_of (d ++ (c ∷ [])) ≡ Some (value d * u)
  unfolding size_of times_of
  behind c u e p h =
      let k : length d ≡ length (d ++ (c ∷ [])) - 1 = rw length-append (omega arith) in
      let m : value d * 1 ≤ value d * u = mul-le-mul_left (value d) p in
      rw
      (get_or_at d c [] 0 (length (d ++ (c ∷ [])) - 1) k, e, take_at d (c ∷ []) (length (d ++ (c ∷ [])) - 1) k, digits-below d some a (let l : value d < 2 ^ 64 = omega arith in l), lt-ltb (value d * u) (2 ^ 64) h)

-- the same of a number's digits
module _ (n : ℕ) where
  plain : n < 2 ^ 64 → sectors_of (decimal n) ≡ Some n
  plain h =
      let v : value (decimal n) ≡ n = decimal-value n (omega arith) in
      alone (decimal n) (decimal-some n) (all_digits 20 n) (omega arith) ∙ ap Some v

  lettered : (c u : ℕ) → unit_of c ≡ Some u → 0 < u → n * u < 2 ^ 64 → sectors_of (decimal n ++ (c ∷ [])) ≡ Some (n * u)
  lettered c u e p h =
      let m : n * 1 ≤ n * u = mul-le-mul_left n p in
      let v : value (decimal n) ≡ n = decimal-value n (omega arith) in
      behind (decimal n) (decimal-some n) (all_digits 20 n) c u e p (rw v h) ∙ ap (λ (z : ℕ). Some (z * u)) v

pub sizes : Sizes
unfolding unit_of
sizes = (
  plain,
  λ n h. lettered n 75 2 refl (lit< tt) h,
  λ n h. lettered n 77 (2 ^ 11) refl (lit< tt) h,
  λ n h. lettered n 71 (2 ^ 21) refl (lit< tt) h,
  λ n h. lettered n 84 (2 ^ 31) refl (lit< tt) h,
)

-- the letters that name a unit
abbrev Letter : ℕ → ℕ → Type 0
Letter c u = ((c ≡ 75) × (u ≡ 2)) ⊎ (((c ≡ 77) × (u ≡ 2 ^ 11)) ⊎ (((c ≡ 71) × (u ≡ 2 ^ 21)) ⊎ ((c ≡ 84) × (u ≡ 2 ^ 31))))

unit_letters : (c u : ℕ) → unit_of c ≡ Some u → Letter c u
unfolding unit_of
unit_letters c u h = go (eqb c 75) (eqb c 77) (eqb c 71) (eqb c 84) refl refl refl refl h
  where
    go : (p q r t : Bool) → p ≡ eqb c 75 → q ≡ eqb c 77 → r ≡ eqb c 71 → t ≡ eqb c 84
        → cond p (Some (2 ^ 1)) (cond q (Some (2 ^ 11)) (cond r (Some (2 ^ 21)) (cond t (Some (2 ^ 31)) None))) ≡ Some u → Letter c u
    go true q r t e f g k h = inl (eqb-true c 75 (sym e), sym (same_is (2 ^ 1) u h))
    go false true r t e f g k h = inr (inl (eqb-true c 77 (sym f), sym (same_is (2 ^ 11) u h)))
    go false false true t e f g k h = inr (inr (inl (eqb-true c 71 (sym g), sym (same_is (2 ^ 21) u h))))
    go false false false true e f g k h = inr (inr (inr (eqb-true c 84 (sym k), sym (same_is (2 ^ 31) u h))))
    go false false false false e f g k h = absurd (cc)

-- a product that is said: of what number
times-said : (u : ℕ) (a : Option ℕ) (x : ℕ) → times_of u a ≡ Some x → (n : ℕ) × (a ≡ Some n) × (x ≡ n * u) × (x < 2 ^ 64)
unfolding times_of
times-said u (Some n) x e =
    let o : (ltb (n * u) (2 ^ 64) ≡ true) × (Some (n * u) ≡ Some x) = said (ltb (n * u) (2 ^ 64)) (Some (n * u)) x e in
    let v : n * u ≡ x = same_is (n * u) x o.1 in
    let l : n * u < 2 ^ 64 = ltb-true (n * u) (2 ^ 64) o.0 in
    (n, refl, sym v, omega arith)
times-said u None x e = absurd (let z : ◌≡◌ {A = ℕ} 0 1 = cc in omega arith)

-- a word is what stands before its last character, and that character
ends : (s : List ℕ) → 0 < length s → s ≡ take (length s - 1) s ++ (last s ∷ [])
ends s h =
    sym (take_all (suc (length s - 1)) s (omega arith)) ∙ take-suc s (length s - 1) 0 (omega arith)

some-before : (s : List ℕ) → 0 < length (take (length s - 1) s) → 0 < length s
some-before [] h = h
some-before (y ∷ t) h = omega arith

size : (s : List ℕ) (x : ℕ) → sectors_of s ≡ Some x → Size s x
unfolding size_of
size s x e = by_unit (unit_of (last s)) refl e
  where
    of-letter : (d : List ℕ) (c u : ℕ) → 0 < length d → all_pass is_digit d ≡ true → s ≡ d ++ (c ∷ []) → x ≡ value d * u → x < 2 ^ 64
        → Letter c u → Size s x
    of-letter d c u l a w v b k = record { d = d; some = l; digits = a; form = inr (go k); below = b }
      where
        to : (m n : ℕ) → c ≡ m → u ≡ n → Lettered s x d m n
        to m n f g = record { word = w ∙ ap (λ (z : ℕ). d ++ (z ∷ [])) f; says = v ∙ ap (λ (z : ℕ). value d * z) g }

        go : Letter c u → Lettered s x d 75 2 ⊎ (Lettered s x d 77 (2 ^ 11) ⊎ (Lettered s x d 71 (2 ^ 21) ⊎ Lettered s x d 84 (2 ^ 31)))
        go (inl f) = inl (to 75 2 f.0 f.1)
        go (inr (inl f)) = inr (inl (to 77 (2 ^ 11) f.0 f.1))
        go (inr (inr (inl f))) = inr (inr (inl (to 71 (2 ^ 21) f.0 f.1)))
        go (inr (inr (inr f))) = inr (inr (inr (to 84 (2 ^ 31) f.0 f.1)))

    by_unit : (o : Option ℕ) → unit_of (last s) ≡ o → size_of s o ≡ Some x → Size s x
    by_unit (Some u) f e =
        let b : List ℕ = take (length s - 1) s in
        let p : (n : ℕ) × (number_of b ≡ Some n) × (x ≡ n * u) × (x < 2 ^ 64) = times-said u (number_of b) x e in
        let o : (0 < length b) × (all_pass is_digit b ≡ true) × (value b ≡ p.0) × (p.0 < 2 ^ 64) = digits-alone b p.0 p.1 in
        of-letter b (last s) u o.0 o.1 (ends s (some-before s o.0)) (p.2 ∙ ap (λ (z : ℕ). z * u) (sym o.2)) p.3 (unit_letters (last s) u f)
    by_unit None f e =
        let o : (0 < length s) × (all_pass is_digit s ≡ true) × (value s ≡ x) × (x < 2 ^ 64) = digits-alone s x e in
        record { d = s; some = o.0; digits = o.1; form = inl (refl, sym o.2); below = o.3 }

-- a letter whose unit is known
with_letter : (s : List ℕ) (x : ℕ) (d : List ℕ) (c u : ℕ) → 0 < length d → all_pass is_digit d ≡ true → x < 2 ^ 64 → unit_of c ≡ Some u → 0 < u
    → Lettered s x d c u → sectors_of s ≡ Some x
with_letter s x d c u l a b e h r =
    ap sectors_of r.word ∙ (behind d l a c u e h (subst (λ (z : ℕ). z < 2 ^ 64) r.says b) ∙ ap Some (sym r.says))

size-read : (s : List ℕ) (x : ℕ) → Size s x → sectors_of s ≡ Some x
unfolding unit_of
size-read s x z = go z.form
  where
    go : ((s ≡ z.d) × (x ≡ value z.d))
        ⊎ (Lettered s x z.d 75 2 ⊎ (Lettered s x z.d 77 (2 ^ 11) ⊎ (Lettered s x z.d 71 (2 ^ 21) ⊎ Lettered s x z.d 84 (2 ^ 31))))
        → sectors_of s ≡ Some x
    go (inl f) = ap sectors_of f.0 ∙ (alone z.d z.some z.digits (subst (λ (y : ℕ). y < 2 ^ 64) f.1 z.below) ∙ ap Some (sym f.1))
    go (inr (inl f)) = with_letter s x z.d 75 2 z.some z.digits z.below refl (lit< tt) f
    go (inr (inr (inl f))) = with_letter s x z.d 77 (2 ^ 11) z.some z.digits z.below refl (lit< tt) f
    go (inr (inr (inr (inl f)))) = with_letter s x z.d 71 (2 ^ 21) z.some z.digits z.below refl (lit< tt) f
    go (inr (inr (inr (inr f)))) = with_letter s x z.d 84 (2 ^ 31) z.some z.digits z.below refl (lit< tt) f

pub sizes_only : SizesOnly
sizes_only = record { only = size; every = size-read }

-- the names and digits, computed
named : (s : List ℕ) (k : ℕ) → Names s k → kind_of s ≡ Some k
unfolding kind_of same
named s k (inl (e, inl f)) = ap kind_of f ∙ ap Some (sym e)
named s k (inl (e, inr f)) = ap kind_of f ∙ ap Some (sym e)
named s k (inr (inl (e, inl f))) = ap kind_of f ∙ ap Some (sym e)
named s k (inr (inl (e, inr f))) = ap kind_of f ∙ ap Some (sym e)
named s k (inr (inr (inl (e, inl f)))) = ap kind_of f ∙ ap Some (sym e)
named s k (inr (inr (inl (e, inr f)))) = ap kind_of f ∙ ap Some (sym e)
named s k (inr (inr (inr (e, inl f)))) = ap kind_of f ∙ ap Some (sym e)
named s k (inr (inr (inr (e, inr f)))) = ap kind_of f ∙ ap Some (sym e)

-- of four tests, which held
tested : (a b c d : Bool) (k : ℕ) → cond a (Some 1) (cond b (Some 2) (cond c (Some 3) (cond d (Some 4) None))) ≡ Some k
    → ((k ≡ 1) × (a ≡ true)) ⊎ (((k ≡ 2) × (b ≡ true)) ⊎ (((k ≡ 3) × (c ≡ true)) ⊎ ((k ≡ 4) × (d ≡ true))))
tested true b c d k e = inl (sym (same_is 1 k e), refl)
tested false true c d k e = inr (inl (sym (same_is 2 k e), refl))
tested false false true d k e = inr (inr (inl (sym (same_is 3 k e), refl)))
tested false false false true k e = inr (inr (inr (sym (same_is 4 k e), refl)))
tested false false false false k e = absurd (cc)

one_of : (s p q : List ℕ) → same s p || same s q ≡ true → (s ≡ p) ⊎ (s ≡ q)
one_of s p q h = go (same s p) (same s q) refl refl h
  where
    go : (a b : Bool) → a ≡ same s p → b ≡ same s q → a || b ≡ true → (s ≡ p) ⊎ (s ≡ q)
    go true b e f h = inl (same_equal s p (sym e))
    go false b e f h = inr (same_equal s q (sym f ∙ h))

only_named : (s : List ℕ) (k : ℕ) → kind_of s ≡ Some k → Names s k
unfolding kind_of
only_named s k e = go (tested _ _ _ _ k e)
  where
    go : ((k ≡ 1) × (same s thin_metadata || same s (49 ∷ []) ≡ true))
        ⊎ (((k ≡ 2) × (same s thin_data || same s (50 ∷ []) ≡ true))
        ⊎ (((k ≡ 3) × (same s spare || same s (51 ∷ []) ≡ true)) ⊎ ((k ≡ 4) × (same s metadata_volume || same s (52 ∷ []) ≡ true))))
        → Names s k
    go (inl f) = inl (f.0, one_of s thin_metadata (49 ∷ []) f.1)
    go (inr (inl f)) = inr (inl (f.0, one_of s thin_data (50 ∷ []) f.1))
    go (inr (inr (inl f))) = inr (inr (inl (f.0, one_of s spare (51 ∷ []) f.1)))
    go (inr (inr (inr f))) = inr (inr (inr (f.0, one_of s metadata_volume (52 ∷ []) f.1)))

-- where a word says nothing of a kind there is none
none_of : {A : Type 0} (o : Option A) → ((x : A) → o ≡ Some x → ⊥) → o ≡ None
none_of (Some x) h = absurd (h x refl)
none_of None h = refl

none_named : (s : List ℕ) → ((k : ℕ) → Names s k → ⊥) → kind_of s ≡ None
none_named s h = none_of (kind_of s) (λ k e. h k (only_named s k e))

pub kinds : Kinds
kinds = record { named = named; only = only_named; other = none_named }

-- a hex digit is no capital letter
small : (x : ℕ) → is_hex x ≡ true → lower x ≡ x
unfolding lower
small x h =
    elim (dec_le x 57) [
      | yes l ↦ rw (lt-leb 65 x (let m : x < 65 = omega arith in m))
      | no l ↦
          let e : leb 97 x && leb x 102 ≡ true = (rw (lt-leb x 57 (let m : 57 < x = omega arith in m), and_false (leb 48 x)) at h) in
          let m : 97 ≤ x = leb-true 97 x (and_left (leb 97 x) (leb x 102) e) in
          rw (lt-leb x 70 (let k : 70 < x = omega arith in k), and_false (leb 65 x))
    ]

all_small : (s : List ℕ) → all_pass is_hex s ≡ true → map lower s ≡ s
unfolding all_pass
all_small [] h = refl
all_small (x ∷ s) h =
    ap₂ (λ (y : ℕ) (ys : List ℕ). y ∷ ys) (small x (and_left (is_hex x) (all_pass is_hex s) h)) (all_small s (and_right (is_hex x) (all_pass is_hex s) h))

-- only 36 characters have dashes
not_dashed : (s : List ℕ) → length s ≡ 32 → false ≡ dashed s
unfolding dashed
not_dashed s h = rw (ne_eqb (length s) 36 (λ e. omega arith))

pub digits : Digits
unfolding uuid_of hex_uuid
digits s h a =
    rw (undashed-same s false (not_dashed s h) refl, eq-eqb (length s) 32 h, all_small s a, a)

-- a part and a dash, and what follows
first : (p q : List ℕ) (n : ℕ) → length p ≡ n → window (p ++ q) 0 n ≡ p
unfolding window
first p q n e = take_at p q n e

whole : (p : List ℕ) (n : ℕ) → length p ≡ n → window p 0 n ≡ p
unfolding window
whole p n e = take_all n p (le_of_eq e)

after : (p q : List ℕ) (i j n : ℕ) → i ≡ length p + suc j → window (p ++ (45 ∷ q)) i n ≡ window q j n
unfolding window
after p q i j n e = ap (take n) (ap (λ (z : ℕ). drop z (p ++ (45 ∷ q))) e ∙ drop-append-add p (45 ∷ q) (suc j))

here : (p q : List ℕ) (n : ℕ) → length p ≡ n → dash (p ++ (45 ∷ q)) n ≡ true
unfolding dash
here p q n e = rw (get_or_at p 45 q 0 n e)

there : (p q : List ℕ) (i j : ℕ) → i ≡ length p + suc j → dash (p ++ (45 ∷ q)) i ≡ dash q j
unfolding dash
there p q i j e = ap (λ (z : ℕ). eqb z 45) (ap (λ (z : ℕ). get_or (p ++ (45 ∷ q)) z 0) e ∙ get_or-append-add p (45 ∷ q) (suc j) 0)

module _ (a b c d e : List ℕ) (la : length a ≡ 8) (lb : length b ≡ 4) (lc : length c ≡ 4) (ld : length d ≡ 4) (le : length e ≡ 12) where
  abbrev from-d : List ℕ
  from-d = d ++ (45 ∷ e)

  abbrev from-c : List ℕ
  from-c = c ++ (45 ∷ from-d)

  abbrev from-b : List ℕ
  from-b = b ++ (45 ∷ from-c)

  abbrev form : List ℕ
  form = a ++ (45 ∷ from-b)

  form_length : length form ≡ 36
  form_length = simp length-append (omega arith)

  form_dashed : true ≡ dashed form
  unfolding dashed
  form_dashed =
      let d8 : dash form 8 ≡ true = here a from-b 8 la in
      let d13 : dash form 13 ≡ true = there a from-b 13 4 (omega arith) ∙ here b from-c 4 lb in
      let d18 : dash form 18 ≡ true = there a from-b 18 9 (omega arith) ∙ (there b from-c 9 4 (omega arith) ∙ here c from-d 4 lc) in
      let d23 : dash form 23 ≡ true = there a from-b 23 14 (omega arith) ∙ (there b from-c 14 9 (omega arith) ∙ (there c from-d 9 4 (omega arith) ∙ here d e 4 ld)) in
      rw (eq-eqb (length form) 36 form_length, d8, d13, d18, d23)

  form_joined : joined form ≡ a ++ (b ++ (c ++ (d ++ e)))
  unfolding joined
  form_joined =
      let w1 : window form 0 8 ≡ a = first a (45 ∷ from-b) 8 la in
      let w2 : window form 9 4 ≡ b = after a from-b 9 0 4 (omega arith) ∙ first b (45 ∷ from-c) 4 lb in
      let w3 : window form 14 4 ≡ c = after a from-b 14 5 4 (omega arith) ∙ (after b from-c 5 0 4 (omega arith) ∙ first c (45 ∷ from-d) 4 lc) in
      let w4 : window form 19 4 ≡ d =
      after a from-b 19 10 4 (omega arith) ∙ (after b from-c 10 5 4 (omega arith) ∙ (after c from-d 5 0 4 (omega arith) ∙ first d (45 ∷ e) 4 ld)) in
      let w5 : window form 24 12 ≡ e =
      after a from-b 24 15 12 (omega arith)
      ∙ (after b from-c 15 10 12 (omega arith) ∙ (after c from-d 10 5 12 (omega arith) ∙ (after d e 5 0 12 (omega arith) ∙ whole e 12 le))) in
      rw (w1, w2, w3, w4, w5) (simp append_assoc)

  same_digits : undashed form ≡ undashed (a ++ (b ++ (c ++ (d ++ e))))
  same_digits =
      undashed-joined form true form_dashed refl
      ∙ (form_joined
      ∙ sym (undashed-same (a ++ (b ++ (c ++ (d ++ e)))) false (not_dashed (a ++ (b ++ (c ++ (d ++ e)))) (simp length-append (omega arith))) refl))

pub dashes : Dashes
unfolding uuid_of
dashes a b c d e la lb lc ld le =
    ap (λ (z : List ℕ). cond (eqb (length z) 32) (hex_uuid (map lower z)) None) (same_digits a b c d e la lb lc ld le)

-- what is given by two tests
given_both : (a b : Bool) (d u : List ℕ) → cond a (cond b (Some d) None) None ≡ Some u → (a ≡ true) × (b ≡ true) × (u ≡ d)
given_both true true d u h = (refl, refl, cc)
given_both true false d u h = absurd (cc)
given_both false b d u h = absurd (cc)

-- from place i: a part of n characters, a dash, and what follows
part : (s : List ℕ) (i n j : ℕ) → i + n ≡ j → j < length s → dash s j ≡ true → drop i s ≡ window s i n ++ (45 ∷ drop (suc j) s)
unfolding window dash
part s i n j e h t =
    sym (take-append-drop n (drop i s))
    ∙ ap (λ (z : List ℕ). take n (drop i s) ++ z)
    (drop-drop n i s ∙ (ap (λ (z : ℕ). drop z s) e ∙ (drop-cons s j 0 h ∙ ap (λ (z : ℕ). z ∷ drop (suc j) s) (eqb-true (get_or s j 0) 45 t))))

-- a word with dashes where they belong has the form
formed : (s : List ℕ) → dashed s ≡ true → Form s (joined s)
unfolding dashed joined
formed s h =
    let l : length s ≡ 36 = eqb-true (length s) 36 (and_left (eqb (length s) 36) ((dash s 8 && dash s 13) && (dash s 18 && dash s 23)) h) in
    let t : (dash s 8 && dash s 13) && (dash s 18 && dash s 23) ≡ true = and_right (eqb (length s) 36) ((dash s 8 && dash s 13) && (dash s 18 && dash s 23)) h in
    let p : dash s 8 && dash s 13 ≡ true = and_left (dash s 8 && dash s 13) (dash s 18 && dash s 23) t in
    let q : dash s 18 && dash s 23 ≡ true = and_right (dash s 8 && dash s 13) (dash s 18 && dash s 23) t in
    let w1 : s ≡ window s 0 8 ++ (45 ∷ drop 9 s) = part s 0 8 8 refl (omega arith) (and_left (dash s 8) (dash s 13) p) in
    let w2 : drop 9 s ≡ window s 9 4 ++ (45 ∷ drop 14 s) = part s 9 4 13 refl (omega arith) (and_right (dash s 8) (dash s 13) p) in
    let w3 : drop 14 s ≡ window s 14 4 ++ (45 ∷ drop 19 s) = part s 14 4 18 refl (omega arith) (and_left (dash s 18) (dash s 23) q) in
    let w4 : drop 19 s ≡ window s 19 4 ++ (45 ∷ drop 24 s) = part s 19 4 23 refl (omega arith) (and_right (dash s 18) (dash s 23) q) in
    let w5 : drop 24 s ≡ window s 24 12 = sym (window_rest s 24 12 (omega arith)) in
    record {
      a = window s 0 8;
      b = window s 9 4;
      c = window s 14 4;
      d = window s 19 4;
      e = window s 24 12;
      long_a = length-window-fits s 0 8 (omega arith);
      long_b = length-window-fits s 9 4 (omega arith);
      long_c = length-window-fits s 14 4 (omega arith);
      long_d = length-window-fits s 19 4 (omega arith);
      long_e = length-window-fits s 24 12 (omega arith);
      word = w1 ∙ dashing (window s 0 8) (w2 ∙ dashing (window s 9 4) (w3 ∙ dashing (window s 14 4) (w4 ∙ dashing (window s 19 4) w5)));
      left = simp append_assoc;
    }
  where
    dashing : (p : List ℕ) {q r : List ℕ} → q ≡ r → p ++ (45 ∷ q) ≡ p ++ (45 ∷ r)
    dashing p e = ap (λ (z : List ℕ). p ++ (45 ∷ z)) e

-- the word's own digits
own_digits : (s : List ℕ) → (undashed s ≡ s) ⊎ ((j : List ℕ) × Form s j × (undashed s ≡ j))
own_digits s = go (dashed s) refl
  where
    go : (r : Bool) → r ≡ dashed s → (undashed s ≡ s) ⊎ ((j : List ℕ) × Form s j × (undashed s ≡ j))
    go true e = inr (joined s, formed s (sym e), undashed-joined s true e refl)
    go false e = inl (undashed-same s false e refl)

only_said : (s u : List ℕ) → uuid_of s ≡ Some u → Says s u
unfolding uuid_of hex_uuid
only_said s u h =
    let g : (eqb (length (undashed s)) 32 ≡ true) × (all_pass is_hex (map lower (undashed s)) ≡ true) × (u ≡ map lower (undashed s)) =
    given_both (eqb (length (undashed s)) 32) (all_pass is_hex (map lower (undashed s))) (map lower (undashed s)) u h in
    record {
      long = ap length g.2 ∙ (length-map (undashed s) lower ∙ eqb-true (length (undashed s)) 32 g.0);
      hex = ap (all_pass is_hex) g.2 ∙ g.1;
      own = go g.2 (own_digits s);
    }
  where
    go : u ≡ map lower (undashed s) → (undashed s ≡ s) ⊎ ((j : List ℕ) × Form s j × (undashed s ≡ j))
        → (u ≡ map lower s) ⊎ ((j : List ℕ) × Form s j × (u ≡ map lower j))
    go e (inl f) = inl (e ∙ ap (map lower) f)
    go e (inr f) = inr (f.0, f.1, e ∙ ap (map lower) f.2)

-- a word of 32 characters that are hex digits, once they are small
own_said : (s u : List ℕ) → length u ≡ 32 → all_pass is_hex u ≡ true → u ≡ map lower s → uuid_of s ≡ Some u
unfolding uuid_of hex_uuid
own_said s u l a e =
    let h : length s ≡ 32 = sym (length-map s lower) ∙ (ap length (sym e) ∙ l) in
    rw (undashed-same s false (not_dashed s h) refl, eq-eqb (length s) 32 h, ← e, a)

said-given : (s u : List ℕ) → Says s u → uuid_of s ≡ Some u
said-given s u y = go y.own
  where
    go : (u ≡ map lower s) ⊎ ((j : List ℕ) × Form s j × (u ≡ map lower j)) → uuid_of s ≡ Some u
    go (inl e) = own_said s u y.long y.hex e
    go (inr (j, f, e)) =
        ap uuid_of f.word
        ∙ (dashes f.a f.b f.c f.d f.e f.long_a f.long_b f.long_c f.long_d f.long_e
        ∙ (ap uuid_of (sym f.left) ∙ own_said j u y.long y.hex e))

none_said : (s : List ℕ) → ((u : List ℕ) → Says s u → ⊥) → uuid_of s ≡ None
none_said s h = none_of (uuid_of s) (λ u e. h u (only_said s u e))

-- what is done to each character is done to each part
module _ (f : ℕ → ℕ) where
  take-map : (n : ℕ) (s : List ℕ) → take n (map f s) ≡ map f (take n s)
  take-map zero s = refl
  take-map (suc n) [] = refl
  take-map (suc n) (x ∷ s) = ap (λ (z : List ℕ). f x ∷ z) (take-map n s)

  drop-map : (n : ℕ) (s : List ℕ) → drop n (map f s) ≡ map f (drop n s)
  drop-map zero s = refl
  drop-map (suc n) [] = refl
  drop-map (suc n) (x ∷ s) = drop-map n s

  window-map : (s : List ℕ) (i n : ℕ) → window (map f s) i n ≡ map f (window s i n)
  unfolding window
  window-map s i n = ap (take n) (drop-map i s) ∙ take-map n (drop i s)

  joined-map : (s : List ℕ) → joined (map f s) ≡ map f (joined s)
  unfolding joined
  joined-map s = simp map-append (rw (window-map s 0 8, window-map s 9 4, window-map s 14 4, window-map s 19 4, window-map s 24 12))

-- a letter as a capital is a letter still, and made small the same
upper_out : (c : ℕ) → (97 ≤ c → c ≤ 102 → ⊥) → upper c ≡ c
upper_out c h =
    elim (dec_le 97 c) [
      | yes l ↦ rw (lt-leb c 102 (let m : 102 < c = above (dec_le c 102) l in m), and_false (leb 97 c))
      | no l ↦ rw (lt-leb 97 c (let m : c < 97 = omega arith in m))
    ]
  where
    above : Dec (c ≤ 102) → 97 ≤ c → 102 < c
    above (yes k) l = absurd (h l k)
    above (no k) l = omega arith

upper_in : (c : ℕ) → 97 ≤ c → c ≤ 102 → upper c ≡ c - 32
upper_in c l h = rw (le-leb 97 c l, le-leb c 102 h)

lower_in : (c : ℕ) → 65 ≤ c → c ≤ 70 → lower c ≡ c + 32
unfolding lower
lower_in c l h = rw (le-leb 65 c l, le-leb c 70 h)

lower-below : (c : ℕ) → c < 65 → lower c ≡ c
unfolding lower
lower-below c h = rw (lt-leb 65 c h)

lower_above : (c : ℕ) → 70 < c → lower c ≡ c
unfolding lower
lower_above c h = rw (lt-leb c 70 h, and_false (leb 65 c))

-- a letter a to f, or any other character
by_letter : (P : ℕ → Type 0) (c : ℕ) → (97 ≤ c → c ≤ 102 → upper c ≡ c - 32 → P c) → (upper c ≡ c → P c) → P c
by_letter P c p q =
    elim (dec_le 97 c) [
      | yes l ↦
          elim (dec_le c 102) [
            | yes h ↦ p l h (upper_in c l h)
            | no h ↦ q (upper_out c (λ a b. h b))
          ]
      | no l ↦ q (upper_out c (λ a b. l a))
    ]

lower-upper : (c : ℕ) → lower (upper c) ≡ lower c
lower-upper c =
    by_letter (λ (z : ℕ). lower (upper z) ≡ lower z) c
    (λ l h e.
    ap lower e
    ∙ (lower_in (c - 32) (omega arith) (omega arith) ∙ ((let m : c - 32 + 32 ≡ c = omega arith in m) ∙ sym (lower_above c (omega arith)))))
    (λ e. ap lower e)

dash-upper : (c : ℕ) → eqb (upper c) 45 ≡ eqb c 45
dash-upper c =
    by_letter (λ (z : ℕ). eqb (upper z) 45 ≡ eqb z 45) c
    (λ l h e. ap (λ (z : ℕ). eqb z 45) e ∙ (ne_eqb (c - 32) 45 (λ k. omega arith) ∙ sym (ne_eqb c 45 (λ k. omega arith))))
    (λ e. ap (λ (z : ℕ). eqb z 45) e)

dash_capitals : (s : List ℕ) (i : ℕ) → dash (map upper s) i ≡ dash s i
unfolding dash
dash_capitals s i = ap (λ (z : ℕ). eqb z 45) (get_or-map upper s i 0) ∙ dash-upper (get_or s i 0)

dashed_capitals : (s : List ℕ) → dashed (map upper s) ≡ dashed s
unfolding dashed
dashed_capitals s =
    rw (length-map s upper, dash_capitals s 8, dash_capitals s 13, dash_capitals s 18, dash_capitals s 23)

undashed_capitals : (s : List ℕ) → undashed (map upper s) ≡ map upper (undashed s)
unfolding undashed
undashed_capitals s =
    ap₂ (λ (r : Bool) (j : List ℕ). cond r j (map upper s)) (dashed_capitals s) (joined-map upper s) ∙ go (dashed s)
  where
    go : (r : Bool) → cond r (map upper (joined s)) (map upper s) ≡ map upper (cond r (joined s) s)
    go true = refl
    go false = refl

all_lower-upper : (s : List ℕ) → map lower (map upper s) ≡ map lower s
all_lower-upper [] = refl
all_lower-upper (x ∷ s) = ap₂ (λ (y : ℕ) (ys : List ℕ). y ∷ ys) (lower-upper x) (all_lower-upper s)

in_capitals : (s : List ℕ) → uuid_of (map upper s) ≡ uuid_of s
unfolding uuid_of
in_capitals s =
    ap₂ (λ (n : ℕ) (l : List ℕ). cond (eqb n 32) (hex_uuid l) None)
    (ap length (undashed_capitals s) ∙ length-map (undashed s) upper)
    (ap (map lower) (undashed_capitals s) ∙ all_lower-upper (undashed s))

pub uuids : Uuids
uuids = record {
  only = only_said;
  every = said-given;
  none = none_said;
  capitals = in_capitals;
  small = lower_in;
  below = lower-below;
  above = lower_above;
}
