-- The format's CRC32 (docs/FORMAT.md, 'Checksum'): the reflected form of Castagnoli's polynomial, its register 32 bits wide, begun with all
-- ones, its result inverted.
-- Bit by bit, as a textbook has it.
use Rattle.std.specs.Prelude.{ℕ, ◌%◌, List, [], ◌∷◌}
use Rattle.std.specs.Int.Bits.{bit_xor}
use Rattle.shifts.specs.Shifts.{shifts}

-- a byte goes in: exclusive or into the lowest 8 bits, then eight bits leave
unfoldable pub absorb : ℕ → ℕ → ℕ
absorb c b = shifts 8 (bit_xor c (b % 256))

-- bytes go in, first to last
unfoldable pub register : ℕ → List ℕ → ℕ
register c [] = c
register c (b ∷ bs) = register (absorb c b) bs

-- the 32 bits inverted
unfoldable pub invert : ℕ → ℕ
invert c = bit_xor c 0xFFFF_FFFF

-- the checksum of bytes
unfoldable pub checksum : List ℕ → ℕ
checksum s = invert (register 0xFFFF_FFFF s)

-- the checksum of bytes whose checksum is c, with these after them; of none c is 0
unfoldable pub continued : ℕ → List ℕ → ℕ
continued c s = invert (register (invert c) s)
