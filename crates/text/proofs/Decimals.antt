-- Decimal digits mean their number, have no leading zero, and are written from the last to the first.
use Prim.Native.Nat.{ℕ, zero, suc, ◌+◌, ◌-◌, ◌*◌, ◌/◌, ◌%◌, ◌^◌, ◌≤◌, ◌<◌}
use mathlib.Core.Path.{◌≡◌, refl, sym, ap, ◌∙◌}
use mathlib.Core.Bool.{true}
use mathlib.Core.List.{List, [], ◌∷◌, ◌++◌, append_assoc}
use native.Mathlib.Decide.{dec_le}
use native.Mathlib.Nat.{pow-suc, div-lt_iff_lt-mul, div-add-mod'}
use native.Mathlib.Numerals.{add-one}
use native.Mathlib.Omega.{arith}
use borrow.Author.Tests.{lt-ltb, le-ltb, le-leb}
use lib.Dec.{lit<}
use lib.ListN.{length, get_or, drop, set, length-append, length-set, get_or-append}
use lib.Seq.{drop-cons, get_or-set_same, drop-set-lt}
use Rattle.endian.specs.Bytes.{all_pass}
use Rattle.endian.proofs.Tests.{and_left, and_right, and_both}
use Rattle.text.specs.Decimal.{digits, decimal, value_after, value, is_digit}

pub digits-one : (k n : ℕ) → n < 10 → digits (suc k) n ≡ (48 + n) ∷ []
unfolding digits
digits-one k n h = rw (lt-ltb n 10 h)

pub digits_more : (k n : ℕ) → 10 ≤ n → digits (suc k) n ≡ digits k (n / 10) ++ ((48 + n % 10) ∷ [])
unfolding digits
digits_more k n h = rw (le-ltb n 10 h)

pub length_digits : (k n : ℕ) → length (digits k n) ≤ k
unfolding digits
length_digits zero n = omega arith
length_digits (suc k) n =
    elim (dec_le 10 n) [
      | yes h ↦ rw (digits_more k n h, length-append) (omega (arith, length_digits k (n / 10)))
      | no h ↦ rw (digits-one k n (let l : n < 10 = omega arith in l)) (omega arith)
    ]

-- a number without its last digit needs one digit less
shorter : (k n : ℕ) → n < 10 ^ suc k → n / 10 < 10 ^ k
shorter k n h = (div-lt_iff_lt-mul (lit< tt)).1 (rw (pow-suc 10 k) at h)

value-last : (v : ℕ) (xs : List ℕ) (d : ℕ) → value_after v (xs ++ (d ∷ [])) ≡ value_after v xs * 10 + (d - 48)
unfolding value_after
value-last v [] d = refl
value-last v (x ∷ xs) d = value-last (v * 10 + (x - 48)) xs d

-- the digits of a number make that number
pub value-digits : (k n : ℕ) → n < 10 ^ k → value (digits k n) ≡ n
unfolding digits value_after
value-digits zero n h = omega arith
value-digits (suc k) n h =
    elim (dec_le 10 n) [
      | yes l ↦
          rw (digits_more k n l, value-last 0 (digits k (n / 10)) (48 + n % 10), value-digits k (n / 10) (shorter k n h))
          (omega (arith, div-add-mod' n 10))
      | no l ↦ rw (digits-one k n (let m : n < 10 = omega arith in m)) (omega arith)
    ]

some : (k n : ℕ) → 0 < n → n < 10 ^ k → 0 < length (digits k n)
some zero n p h = absurd (let z : 1 ≤ 0 = omega arith in omega arith)
some (suc k) n p h =
    elim (dec_le 10 n) [
      | yes l ↦ rw (digits_more k n l, length-append) (omega arith)
      | no l ↦ rw (digits-one k n (let m : n < 10 = omega arith in m)) (omega arith)
    ]

-- only zero begins with the digit 0
pub leading_digit : (k n : ℕ) → n < 10 ^ k → get_or (digits k n) 0 0 ≡ 48 → n ≡ 0
unfolding digits
leading_digit zero n h e = omega arith
leading_digit (suc k) n h e =
    elim (dec_le 10 n) [
      | yes l ↦
          let m : n / 10 < 10 ^ k = shorter k n h in
          let p : 0 < n / 10 = omega (arith, div-add-mod' n 10) in
          let z : n / 10 ≡ 0 = leading_digit k (n / 10) m
          (rw (digits_more k n l, get_or-append (digits k (n / 10)) ((48 + n % 10) ∷ []) 0 0 (some k (n / 10) p m)) at e) in
          omega arith
      | no l ↦ let d : 48 + n ≡ 48 = (rw (digits-one k n (let m : n < 10 = omega arith in m)) at e) in omega arith
    ]

all_last : (xs : List ℕ) (d : ℕ) → all_pass is_digit xs ≡ true → is_digit d ≡ true → all_pass is_digit (xs ++ (d ∷ [])) ≡ true
unfolding all_pass
all_last [] d h e = rw e
all_last (x ∷ xs) d h e =
    and_both (is_digit x) (all_pass is_digit (xs ++ (d ∷ []))) (and_left (is_digit x) (all_pass is_digit xs) h)
    (all_last xs d (and_right (is_digit x) (all_pass is_digit xs) h) e)

is_digit_lem : (n : ℕ) → n < 10 → is_digit (48 + n) ≡ true
is_digit_lem n h = rw (le-leb 48 (48 + n) (let l : 48 ≤ 48 + n = omega arith in l), le-leb (48 + n) 57 (let l : 48 + n ≤ 57 = omega arith in l))

-- digits are digits
pub all_digits : (k n : ℕ) → all_pass is_digit (digits k n) ≡ true
unfolding digits all_pass
all_digits zero n = refl
all_digits (suc k) n =
    elim (dec_le 10 n) [
      | yes h ↦ rw (digits_more k n h) (all_last (digits k (n / 10)) (48 + n % 10) (all_digits k (n / 10)) (is_digit_lem (n % 10) (omega arith)))
      | no h ↦ rw (digits-one k n (let m : n < 10 = omega arith in m), is_digit_lem n (let m : n < 10 = omega arith in m))
    ]

-- every number of 64 bits has 20 digits at most, so `decimal` means it
pub decimal-value : (n : ℕ) → n < 10 ^ 20 → value (decimal n) ≡ n
decimal-value n h = value-digits 20 n h

pub decimal_leading : (n : ℕ) → n < 10 ^ 20 → get_or (decimal n) 0 0 ≡ 48 → n ≡ 0
decimal_leading n h e = leading_digit 20 n h e

pub decimal-some : (n : ℕ) → 0 < length (decimal n)
decimal-some n =
    elim (dec_le 10 n) [
      | yes h ↦ rw (digits_more 19 n h, length-append) (omega arith)
      | no h ↦ rw (digits-one 19 n (let m : n < 10 = omega arith in m)) (omega arith)
    ]

drop-set : (d : List ℕ) (i w : ℕ) → i < length d → drop i (set d i w) ≡ w ∷ drop (i + 1) d
drop-set d i w h =
    rw (add-one i, drop-cons (set d i w) i 0 (rw length-set h), get_or-set_same d i w 0 h, drop-set-lt (suc i) d i w (let l : i < suc i = omega arith in l))

-- the digits left to write, then those written: one more
pub digit-written : (d : List ℕ) (i x v : ℕ) → i < length d → 10 ≤ x → 0 < i
    → digits (i + 1) x ++ drop (i + 1) d ≡ digits 20 v
    → digits (i - 1 + 1) (x / 10) ++ drop (i - 1 + 1) (set d i (48 + x % 10)) ≡ digits 20 v
digit-written d i x v l h p e =
    let n : i - 1 + 1 ≡ i = omega arith in
    rw (n, drop-set d i (48 + x % 10) l)
    (sym (append_assoc (digits i (x / 10)) ((48 + x % 10) ∷ []) (drop (i + 1) d))
    ∙ (ap (λ (l : List ℕ). l ++ drop (i + 1) d) (sym (digits_more i x h) ∙ ap (λ (k : ℕ). digits k x) (sym (add-one i))) ∙ e))

-- and the first
pub digits-written : (d : List ℕ) (i x v : ℕ) → i < length d → x < 10
    → digits (i + 1) x ++ drop (i + 1) d ≡ digits 20 v
    → drop i (set d i (48 + x)) ≡ digits 20 v
digits-written d i x v l h e =
    drop-set d i (48 + x) l
    ∙ (ap (λ (l : List ℕ). l ++ drop (i + 1) d) (sym (digits-one i x h) ∙ ap (λ (k : ℕ). digits k x) (sym (add-one i))) ∙ e)

-- one digit less is left
pub digit-less : (i x : ℕ) → 10 ≤ x → x < 10 ^ (i + 1) → (0 < i) × (x / 10 < 10 ^ (i - 1 + 1))
digit-less zero x h l = absurd (let z : 10 ^ 1 ≡ 10 = refl in omega arith)
digit-less (suc i) x h l =
    let n : suc i - 1 + 1 ≡ suc i = omega arith in
    (omega arith, rw n (shorter (suc i) x (rw (add-one (suc i)) at l)))
