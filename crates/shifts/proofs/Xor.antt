-- Exclusive or is associative, and works on the lowest bit and the others apart.
use Prim.Native.Nat.{ℕ, zero, suc, ◌+◌, ◌*◌, ◌/◌, ◌%◌, ◌<◌}
use mathlib.Core.Path.{◌≡◌, refl, sym, ap, ap₂, ◌∙◌}
use native.Mathlib.Nat.{mod-lt, not-suc-le-zero, le_of_suc-le-suc}
use native.Mathlib.Omega.{arith}
use lib.Dec.{lit<}
use lib.Arith.{bin_ind}
use lib.Bits.{bit_xor, differ, xor_step, xor_zero_l, xor_zero_r, xor_self, xor_shr}

pub xor_half : (a b : ℕ) → bit_xor a b / 2 ≡ bit_xor (a / 2) (b / 2)
xor_half a b = xor_shr a b 1

differ_bit : (x y : ℕ) → x < 2 → y < 2 → differ x y < 2
differ_bit zero y p q = q
differ_bit (suc zero) zero p q = p
differ_bit (suc zero) (suc zero) p q = lit< tt
differ_bit (suc zero) (suc (suc y)) p q = absurd (not-suc-le-zero (le_of_suc-le-suc (le_of_suc-le-suc q)))
differ_bit (suc (suc x)) y p q = absurd (not-suc-le-zero (le_of_suc-le-suc (le_of_suc-le-suc p)))

differ_assoc : (x y z : ℕ) → x < 2 → y < 2 → z < 2 → differ (differ x y) z ≡ differ x (differ y z)
differ_assoc zero y z p q r = refl
differ_assoc (suc zero) zero z p q r = refl
differ_assoc (suc zero) (suc zero) zero p q r = refl
differ_assoc (suc zero) (suc zero) (suc zero) p q r = refl
differ_assoc (suc zero) (suc zero) (suc (suc z)) p q r = absurd (not-suc-le-zero (le_of_suc-le-suc (le_of_suc-le-suc r)))
differ_assoc (suc zero) (suc (suc y)) z p q r = absurd (not-suc-le-zero (le_of_suc-le-suc (le_of_suc-le-suc q)))
differ_assoc (suc (suc x)) y z p q r = absurd (not-suc-le-zero (le_of_suc-le-suc (le_of_suc-le-suc p)))

bit : (a : ℕ) → a % 2 < 2
bit a = mod-lt a (lit< tt)

low : (q d : ℕ) → d < 2 → (q * 2 + d) % 2 ≡ d
low q d h = omega arith

pub xor_odd : (a b : ℕ) → bit_xor a b % 2 ≡ differ (a % 2) (b % 2)
xor_odd a b =
    ap (λ (x : ℕ). x % 2) (xor_step a b) ∙ low (bit_xor (a / 2) (b / 2)) (differ (a % 2) (b % 2)) (differ_bit (a % 2) (b % 2) (bit a) (bit b))

pub xor_assoc : (a b c : ℕ) → bit_xor (bit_xor a b) c ≡ bit_xor a (bit_xor b c)
xor_assoc =
    bin_ind (λ (a : ℕ). (b c : ℕ) → bit_xor (bit_xor a b) c ≡ bit_xor a (bit_xor b c))
    (λ b c. ap (λ (x : ℕ). bit_xor x c) (xor_zero_l b) ∙ sym (xor_zero_l (bit_xor b c)))
    (λ a ih b c.
    xor_step (bit_xor a b) c
    ∙ (ap₂ (λ (x y : ℕ). bit_xor x (c / 2) * 2 + differ y (c % 2)) (xor_half a b) (xor_odd a b)
    ∙ (ap₂ (λ (x y : ℕ). x * 2 + y) (ih (b / 2) (c / 2)) (differ_assoc (a % 2) (b % 2) (c % 2) (bit a) (bit b) (bit c))
    ∙ (sym (ap₂ (λ (x y : ℕ). bit_xor (a / 2) x * 2 + differ (a % 2) y) (xor_half b c) (xor_odd b c))
    ∙ sym (xor_step a (bit_xor b c))))))

-- two that leave nothing are the same
pub xor_same : (a b : ℕ) → bit_xor a b ≡ 0 → a ≡ b
xor_same a b z =
    sym (xor_zero_r a)
    ∙ (ap (bit_xor a) (sym (xor_self b)) ∙ (sym (xor_assoc a b b) ∙ (ap (λ (x : ℕ). bit_xor x b) z ∙ xor_zero_l b)))
