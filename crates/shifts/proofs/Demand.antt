-- The claims of `specs/Demand.antt`.
use Prim.Native.Nat.{ℕ, zero, suc, ◌+◌, ◌*◌, ◌-◌, ◌/◌, ◌%◌, ◌^◌, ◌≤◌, ◌<◌}
use mathlib.Core.Path.{◌≡◌, refl, sym, ap, ap₂, ◌∙◌}
use mathlib.Core.Bool.{Bool, true, false, cond}
use mathlib.Core.List.{List, [], ◌∷◌}
use native.Mathlib.Omega.{arith}
use native.Mathlib.Decide.{dec_le}
use native.Mathlib.Nat.{zero-add, mul-one, mul_assoc, pow-suc}
use borrow.Author.Tests.{eqb-true, eqb-false}
use lib.Dec.{eqb, lit<}
use lib.ListN.{length}
use lib.Bits.{bit_xor, xor_zero_l, xor_zero_r, xor_self, xor_lt, xor_block}
use Rattle.shifts.specs.Shifts.{polynomial, shift, shifts}
use Rattle.shifts.specs.Demand.{Castagnoli, divisor, product, Division, Reversible}
use Rattle.shifts.proofs.Xor.{xor_assoc, xor_same}
use Rattle.shifts.proofs.Laws.{polynomial_width, polynomial_highest, shift-xor, shift_double, shift_odd, shift_zero, shift-divisor, shifts-xor, shifts_scaled, shifts-nothing}

pub castagnoli : Castagnoli
unfolding polynomial
castagnoli = refl

-- the bits that leave
quotient_of : ℕ → ℕ → List Bool
quotient_of zero c = []
quotient_of (suc n) c = eqb (c % 2) 1 ∷ quotient_of n (shift c)

length_quotient : (n c : ℕ) → length (quotient_of n c) ≡ n
unfolding quotient_of
length_quotient zero c = refl
length_quotient (suc n) c = ap suc (length_quotient n (shift c))

-- two numbers with one lowest bit
doubled : (r a b : ℕ) → r < 2 → bit_xor (a * 2 + r) (b * 2 + r) ≡ bit_xor a b * 2
doubled r a b h =
    xor_block 1 a b r r h h
    ∙ (ap (λ (x : ℕ). bit_xor a b * 2 + x) (xor_self r) ∙ (let e : bit_xor a b * 2 + 0 ≡ bit_xor a b * 2 = omega arith in e))

even : (a b : ℕ) → bit_xor (a * 2) (b * 2) ≡ bit_xor a b * 2
even a b =
    let e : a * 2 ≡ a * 2 + 0 = omega arith in
    let f : b * 2 ≡ b * 2 + 0 = omega arith in
    ap₂ bit_xor e f ∙ doubled 0 a b (lit< tt)

-- where a bit leaves, all powers of the polynomial are taken off
shift-twice : (c : ℕ) → bit_xor c (cond (eqb (c % 2) 1) divisor 0) ≡ shift c * 2
unfolding shift
shift-twice c = go (eqb (c % 2) 1) refl
  where
    go : (b : Bool) → eqb (c % 2) 1 ≡ b → bit_xor c (cond b divisor 0) ≡ cond b (bit_xor (c / 2) polynomial) (c / 2) * 2
    go true e =
        let o : c % 2 ≡ 1 = eqb-true (c % 2) 1 e in
        let f : c ≡ c / 2 * 2 + 1 = omega arith in
        ap (λ (x : ℕ). bit_xor x divisor) f ∙ doubled 1 (c / 2) polynomial (lit< tt)
    go false e =
        let o : c % 2 ≡ 1 → ⊥ = eqb-false (c % 2) 1 e in
        let f : c ≡ c / 2 * 2 = omega arith in
        xor_zero_r c ∙ f

divides : (n c : ℕ) → bit_xor c (product (quotient_of n c) divisor) ≡ shifts n c * 2 ^ n
unfolding quotient_of shifts
divides zero c = xor_zero_r c ∙ sym (mul-one c)
divides (suc n) c =
    let p : ℕ = product (quotient_of n (shift c)) divisor in
    sym (xor_assoc c (cond (eqb (c % 2) 1) divisor 0) (p * 2))
    ∙ (ap (λ (x : ℕ). bit_xor x (p * 2)) (shift-twice c)
    ∙ (even (shift c) p
    ∙ (ap (λ (x : ℕ). x * 2) (divides n (shift c))
    ∙ (mul_assoc (shifts n (shift c)) (2 ^ n) 2 ∙ ap (λ (x : ℕ). shifts n (shift c) * x) (sym (pow-suc 2 n))))))

-- of a multiple of the polynomial nothing is left
multiple : (q : List Bool) → shifts (length q) (product q divisor) ≡ 0
unfolding shifts
multiple [] = refl
multiple (b ∷ q) =
    let p : ℕ = product q divisor in
    ap (shifts (length q)) (shift-xor (cond b divisor 0) (p * 2) ∙ (ap₂ bit_xor (once b) (shift_double p) ∙ xor_zero_l p))
    ∙ multiple q
  where
    once : (b : Bool) → shift (cond b divisor 0) ≡ 0
    once true = shift-divisor
    once false = shift_zero

pub division : Division
division =
    record {
      some = λ n c.
          record {
            quotient = quotient_of n c;
            divided = record { bits = length_quotient n c; left = divides n c };
          };
      any = λ n c q r d.
          let p : ℕ = product q divisor in
          let z : shifts n p ≡ 0 = ap (λ (k : ℕ). shifts k p) (sym d.bits) ∙ multiple q in
          sym
          (sym (xor_zero_r (shifts n c))
          ∙ (ap (bit_xor (shifts n c)) (sym z) ∙ (sym (shifts-xor n c p) ∙ (ap (shifts n) d.left ∙ shifts_scaled n r))));
    }

-- what n shifts leave r of
record Before (n r : ℕ) : Type 0 where
  from : ℕ
  width : from < 2 ^ 32
  leaves : shifts n from ≡ r

-- two numbers that both have the highest bit
highest : (a b : ℕ) → a < 2 ^ 32 → b < 2 ^ 32 → 2 ^ 31 ≤ a → 2 ^ 31 ≤ b → bit_xor a b < 2 ^ 31
highest a b p q l m =
    let x : ℕ = a - 2147483648 in
    let y : ℕ = b - 2147483648 in
    let e : a ≡ 1 * 2147483648 + x = omega arith in
    let f : b ≡ 1 * 2147483648 + y = omega arith in
    let s : x < 2 ^ 31 = omega arith in
    let t : y < 2 ^ 31 = omega arith in
    rw (ap₂ bit_xor e f ∙ (xor_block 31 1 1 x y s t ∙ zero-add (bit_xor x y))) (xor_lt 31 x y s t)

one-before : (r : ℕ) → r < 2 ^ 32 → Before 1 r
unfolding shifts
one-before r h =
    elim (dec_le (2 ^ 31) r) [
      | yes p ↦
          let w : bit_xor r polynomial < 2 ^ 31 = highest r polynomial h polynomial_width p polynomial_highest in
          record {
            from = bit_xor r polynomial * 2 + 1;
            width = omega arith;
            leaves =
                shift_odd (bit_xor r polynomial)
                ∙ (xor_assoc r polynomial polynomial ∙ (ap (bit_xor r) (xor_self polynomial) ∙ xor_zero_r r));
          }
      | no p ↦ record { from = r * 2; width = omega arith; leaves = shift_double r }
    ]

before : (n r : ℕ) → r < 2 ^ 32 → Before n r
unfolding shifts
before zero r h = record { from = r; width = h; leaves = refl }
before (suc n) r h =
    let s : Before n r = before n r h in
    let b : Before 1 s.from = one-before s.from s.width in
    record { from = b.from; width = b.width; leaves = ap (shifts n) b.leaves ∙ s.leaves }

pub reversible : Reversible
reversible n r h =
    let b : Before n r = before n r h in
    record {
      from = b.from;
      width = b.width;
      leaves = b.leaves;
      alone = λ c w e.
          xor_same c b.from
          (shifts-nothing n (bit_xor c b.from) (xor_lt 32 c b.from w b.width)
          (shifts-xor n c b.from ∙ (ap₂ bit_xor e b.leaves ∙ xor_self r)));
    }
