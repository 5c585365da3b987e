-- Laws of the register's shifts. Of the polynomial they use only that it is 32 bits wide and has the highest of them, that of x^0.
use Prim.Native.Nat.{ℕ, zero, suc, ◌+◌, ◌*◌, ◌/◌, ◌%◌, ◌^◌, ◌≤◌, ◌<◌}
use mathlib.Core.Path.{◌≡◌, refl, sym, ap, ap₂, ◌∙◌}
use mathlib.Core.Bool.{Bool, true, false, cond}
use native.Mathlib.Nat.{mod-lt, not-suc-le-zero, le_of_suc-le-suc, zero-add, suc-add, pow-suc, mul-one, mul_assoc}
use native.Mathlib.Omega.{arith}
use borrow.Author.Tests.{eqb-false}
use lib.Dec.{eqb, lit<, lit≤}
use lib.Bits.{bit_xor, differ, xor_comm, xor_zero_l, xor_zero_r, xor_self, xor_lt, xor_shifted}
use Rattle.shifts.specs.Shifts.{polynomial, shift, shifts}
use Rattle.shifts.proofs.Xor.{xor_half, xor_odd, xor_assoc, xor_same}

pub polynomial_width : polynomial < 2 ^ 32
unfolding polynomial
polynomial_width = lit< tt

pub polynomial_highest : 2 ^ 31 ≤ polynomial
unfolding polynomial
polynomial_highest = lit≤ tt

-- what is added as the lowest bit leaves
added : ℕ → ℕ
added c = cond (eqb (c % 2) 1) polynomial 0

shift-added : (c : ℕ) → shift c ≡ bit_xor (c / 2) (added c)
unfolding shift added
shift-added c = go (eqb (c % 2) 1)
  where
    go : (b : Bool) → cond b (bit_xor (c / 2) polynomial) (c / 2) ≡ bit_xor (c / 2) (cond b polynomial 0)
    go true = refl
    go false = sym (xor_zero_r (c / 2))

added_bits : (x y : ℕ) → x < 2 → y < 2
    → cond (eqb (differ x y) 1) polynomial 0 ≡ bit_xor (cond (eqb x 1) polynomial 0) (cond (eqb y 1) polynomial 0)
added_bits zero zero p q = refl
added_bits zero (suc zero) p q = sym (xor_zero_l polynomial)
added_bits (suc zero) zero p q = sym (xor_zero_r polynomial)
added_bits (suc zero) (suc zero) p q = sym (xor_self polynomial)
added_bits zero (suc (suc y)) p q = absurd (not-suc-le-zero (le_of_suc-le-suc (le_of_suc-le-suc q)))
added_bits (suc zero) (suc (suc y)) p q = absurd (not-suc-le-zero (le_of_suc-le-suc (le_of_suc-le-suc q)))
added_bits (suc (suc x)) y p q = absurd (not-suc-le-zero (le_of_suc-le-suc (le_of_suc-le-suc p)))

added-xor : (a b : ℕ) → added (bit_xor a b) ≡ bit_xor (added a) (added b)
unfolding added
added-xor a b =
    ap (λ (x : ℕ). cond (eqb x 1) polynomial 0) (xor_odd a b)
    ∙ added_bits (a % 2) (b % 2) (mod-lt a (lit< tt)) (mod-lt b (lit< tt))

pub regroup : (p q r s : ℕ) → bit_xor (bit_xor p q) (bit_xor r s) ≡ bit_xor (bit_xor p r) (bit_xor q s)
regroup p q r s =
    xor_assoc p q (bit_xor r s)
    ∙ (ap (bit_xor p) (sym (xor_assoc q r s) ∙ (ap (λ (x : ℕ). bit_xor x s) (xor_comm q r) ∙ xor_assoc r q s))
    ∙ sym (xor_assoc p r (bit_xor q s)))

pub shift-xor : (a b : ℕ) → shift (bit_xor a b) ≡ bit_xor (shift a) (shift b)
shift-xor a b =
    shift-added (bit_xor a b)
    ∙ (ap₂ bit_xor (xor_half a b) (added-xor a b)
    ∙ (regroup (a / 2) (b / 2) (added a) (added b) ∙ sym (ap₂ bit_xor (shift-added a) (shift-added b))))

pub shifts_none : (c : ℕ) → shifts 0 c ≡ c
unfolding shifts
shifts_none c = refl

-- bits leave each of two registers as they leave their sum
pub shifts-xor : (n a b : ℕ) → shifts n (bit_xor a b) ≡ bit_xor (shifts n a) (shifts n b)
unfolding shifts
shifts-xor zero a b = refl
shifts-xor (suc n) a b = ap (shifts n) (shift-xor a b) ∙ shifts-xor n (shift a) (shift b)

-- m bits leave, then n
pub shifts-add : (m n c : ℕ) → shifts (m + n) c ≡ shifts n (shifts m c)
unfolding shifts
shifts-add zero n c = ap (λ (k : ℕ). shifts k c) (zero-add n)
shifts-add (suc m) n c = ap (λ (k : ℕ). shifts k c) (suc-add m n) ∙ shifts-add m n (shift c)

pub shift_double : (r : ℕ) → shift (r * 2) ≡ r
unfolding shift
shift_double r =
    let e : r * 2 % 2 ≡ 0 = omega arith in
    let h : r * 2 / 2 ≡ r = omega arith in
    rw e h

pub shift_odd : (r : ℕ) → shift (r * 2 + 1) ≡ bit_xor r polynomial
unfolding shift
shift_odd r =
    let o : (r * 2 + 1) % 2 ≡ 1 = omega arith in
    let h : (r * 2 + 1) / 2 ≡ r = omega arith in
    rw (o, h)

pub shift_zero : shift 0 ≡ 0
unfolding shift
shift_zero = refl

-- the polynomial with its highest power, which leaves first
pub shift-divisor : shift (polynomial * 2 + 1) ≡ 0
shift-divisor = shift_odd polynomial ∙ xor_self polynomial

-- zeros leave and change nothing
pub shifts_scaled : (k r : ℕ) → shifts k (r * 2 ^ k) ≡ r
unfolding shifts
shifts_scaled zero r = mul-one r
shifts_scaled (suc k) r =
    ap (λ (x : ℕ). shifts k (shift x)) (ap (λ (p : ℕ). r * p) (pow-suc 2 k) ∙ sym (mul_assoc r (2 ^ k) 2))
    ∙ (ap (shifts k) (shift_double (r * 2 ^ k)) ∙ shifts_scaled k r)

-- the lowest k bits and those above them, each by itself
pub shifts_split : (k n w r : ℕ) → w < 2 ^ k → shifts (k + n) (r * 2 ^ k + w) ≡ bit_xor (shifts n r) (shifts (k + n) w)
shifts_split k n w r h =
    ap (shifts (k + n)) (sym (xor_shifted r k w h))
    ∙ (shifts-xor (k + n) (r * 2 ^ k) w
    ∙ ap (λ (x : ℕ). bit_xor x (shifts (k + n) w)) (shifts-add k n (r * 2 ^ k) ∙ ap (shifts n) (shifts_scaled k r)))

shift-below : (c : ℕ) → c < 2 ^ 32 → shift c < 2 ^ 32
unfolding shift
shift-below c h = go (eqb (c % 2) 1)
  where
    go : (b : Bool) → cond b (bit_xor (c / 2) polynomial) (c / 2) < 2 ^ 32
    go true = xor_lt 32 (c / 2) polynomial (omega arith) polynomial_width
    go false = omega arith

-- the register stays 32 bits wide
pub shifts-below : (n c : ℕ) → c < 2 ^ 32 → shifts n c < 2 ^ 32
unfolding shifts
shifts-below zero c h = h
shifts-below (suc n) c h = shifts-below n (shift c) (shift-below c h)

shift-nothing : (c : ℕ) → c < 2 ^ 32 → shift c ≡ 0 → c ≡ 0
unfolding shift
shift-nothing c h = go (eqb (c % 2) 1) refl
  where
    go : (b : Bool) → eqb (c % 2) 1 ≡ b → cond b (bit_xor (c / 2) polynomial) (c / 2) ≡ 0 → c ≡ 0
    go true e z =
        let p : c / 2 ≡ polynomial = xor_same (c / 2) polynomial z in
        let q : 2 ^ 31 ≤ polynomial = polynomial_highest in
        omega arith
    go false e z =
        let n : c % 2 ≡ 1 → ⊥ = eqb-false (c % 2) 1 e in
        omega arith

-- of 32 bits that are not all zero something is left
pub shifts-nothing : (n c : ℕ) → c < 2 ^ 32 → shifts n c ≡ 0 → c ≡ 0
unfolding shifts
shifts-nothing zero c h z = z
shifts-nothing (suc n) c h z = shift-nothing c h (shifts-nothing n (shift c) (shift-below c h) z)
