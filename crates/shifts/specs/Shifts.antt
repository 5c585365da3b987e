-- The register of the format's CRC32 (docs/FORMAT.md, 'Checksum'): Castagnoli's polynomial in its reflected form, and how bits leave.
use Rattle.std.specs.Prelude.{ℕ, zero, suc, ◌/◌, ◌%◌, cond, eqb}
use Rattle.std.specs.Int.Bits.{bit_xor}

-- the polynomial, but for its highest power, x^32: the lowest bit is that of x^31, the highest that of x^0
unfoldable pub polynomial : ℕ
polynomial = 0x82F63B78

-- one bit leaves the register at its low end; where it was 1, exclusive or with the polynomial
unfoldable pub shift : ℕ → ℕ
shift c = cond (eqb (c % 2) 1) (bit_xor (c / 2) polynomial) (c / 2)

-- n bits leave it
unfoldable pub shifts : ℕ → ℕ → ℕ
shifts zero c = c
shifts (suc n) c = shifts n (shift c)
