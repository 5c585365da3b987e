-- What the register is, without its shifts: the polynomial by its powers, and what is left of a number as the remainder of a division by it
-- without carries. `proofs/Demand.antt` proves it.
use Rattle.std.specs.Prelude.{ℕ, ◌+◌, ◌*◌, ◌-◌, ◌^◌, ◌<◌, ◌≡◌, Bool, cond, List, [], ◌∷◌, length}
use Rattle.std.specs.Int.Bits.{bit_xor}
use Rattle.shifts.specs.Shifts.{polynomial, shifts}

-- the sum of x^e for the powers e given, each once and below 32, as a register has it: x^31 in the lowest bit
abbrev pub reflected : List ℕ → ℕ
reflected [] = 0
reflected (e ∷ es) = 2 ^ (31 - e) + reflected es

-- Castagnoli's polynomial. Of its powers the highest, x^32, is not in the register.
abbrev pub Castagnoli : Type 0
Castagnoli =
    polynomial ≡ reflected (28 ∷ 27 ∷ 26 ∷ 25 ∷ 23 ∷ 22 ∷ 20 ∷ 19 ∷ 18 ∷ 14 ∷ 13 ∷ 11 ∷ 10 ∷ 9 ∷ 8 ∷ 6 ∷ 0 ∷ [])

-- the polynomial with all its powers: x^32 in the lowest bit
abbrev pub divisor : ℕ
divisor = polynomial * 2 + 1

-- the exclusive or of g * 2 ^ i, over the places i where q is true
abbrev pub product : List Bool → ℕ → ℕ
product [] g = 0
product (b ∷ q) g = bit_xor (cond b g 0) (product q g * 2)

-- q, of n bits, is the quotient of c by the polynomial, and r the remainder: with that multiple of the polynomial taken off, the n lowest bits of
-- c, which have the highest powers, are zero, and r stands above them
pub record Divided (n c : ℕ) (q : List Bool) (r : ℕ) : Type 0 where
  pub bits : length q ≡ n
  pub left : bit_xor c (product q divisor) ≡ r * 2 ^ n

-- there is a quotient, with that remainder
pub record Quotient (n c r : ℕ) : Type 0 where
  pub quotient : List Bool
  pub divided : Divided n c quotient r

-- What n shifts leave of a number is the remainder of its division, and every quotient of n bits has that remainder. Of a number with more than
-- n + 32 bits those above are part of it.
pub record Division : Type 0 where
  pub some : (n c : ℕ) → Quotient n c (shifts n c)
  pub any : (n c : ℕ) (q : List Bool) (r : ℕ) → Divided n c q r → r ≡ shifts n c

-- n shifts of a number of 32 bits lose nothing: each number of 32 bits is what they leave of exactly one.
pub record Origin (n r : ℕ) : Type 0 where
  pub from : ℕ
  pub width : from < 2 ^ 32
  pub leaves : shifts n from ≡ r
  pub alone : (c : ℕ) → c < 2 ^ 32 → shifts n c ≡ r → c ≡ from

abbrev pub Reversible : Type 0
Reversible = (n r : ℕ) → r < 2 ^ 32 → Origin n r
