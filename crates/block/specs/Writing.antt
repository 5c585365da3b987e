-- The signature block, written: the table of docs/FORMAT.md, 'Signature block', in its order, and the refusals of a writer.
use Rattle.std.specs.Prelude.{ℕ, cond, ◌&&◌, eqb, length, Option, Some, None}
use mathlib.Core.List.{List, [], ◌∷◌, ◌++◌, flatten}
use Rattle.endian.specs.Bytes.{to_le, window, splice, zeros}
use Rattle.checksum.specs.Crc.{checksum}
use Rattle.refusal.specs.Numbers.{slice_size, device_size}
use Rattle.refusal.specs.Tests.{Test, ◌else_refuse◌, first}
use Rattle.layout.specs.Limits.{size_allowed, sector_bytes}
use Rattle.block.specs.declared.Holding.{Holding}
use Rattle.block.specs.declared.BlockFields.{BlockFields}
use Rattle.block.specs.Block.{signature_bytes, limit_tests}

-- the four numbers of an entry; of an unused one all zero
abbrev pub holding_of : Option Holding → Holding
holding_of None = record { seconds = 0; nanoseconds = 0; bytes = 0; checksum = 0 }
holding_of (Some h) = h

-- bytes 4 to 511, field by field, as the table has them
abbrev pub body_fields : List ℕ → List ℕ → BlockFields → List (List ℕ)
body_fields p u f =
    signature_bytes
    ∷ to_le 8 f.device.sectors
    ∷ zeros 4
    ∷ p
    ∷ u
    ∷ to_le 8 (holding_of f.a).seconds
    ∷ to_le 4 (holding_of f.a).nanoseconds
    ∷ to_le 4 (holding_of f.a).bytes
    ∷ to_le 4 (holding_of f.a).checksum
    ∷ zeros 12
    ∷ to_le 8 (holding_of f.b).seconds
    ∷ to_le 4 (holding_of f.b).nanoseconds
    ∷ to_le 4 (holding_of f.b).bytes
    ∷ to_le 4 (holding_of f.b).checksum
    ∷ zeros 12
    ∷ to_le 4 f.device.metadata
    ∷ to_le 4 f.device.reserved
    ∷ zeros 344
    ∷ []

-- the block: the CRC32 of bytes 4 to 511, then those bytes
unfoldable pub block_of : List ℕ → List ℕ → BlockFields → List ℕ
block_of p u f = to_le 4 (checksum (flatten (body_fields p u f))) ++ flatten (body_fields p u f)

-- a block with its CRC32 anew
unfoldable pub sealed : List ℕ → List ℕ
sealed b = splice b 0 (to_le 4 (checksum (window b 4 508)))

-- the tests of a writer: what a reader would refuse, 1, 4, 6 to 9
abbrev pub write_tests : List ℕ → List ℕ → List ℕ → BlockFields → List Test
write_tests out p u f =
    (eqb (length out) sector_bytes && (eqb (length p) 32 && eqb (length u) 32) else_refuse slice_size)
    ∷ (size_allowed f.device.sectors else_refuse device_size)
    ∷ limit_tests p u f

-- what a writer leaves: the block, or what was there
unfoldable pub written : List ℕ → List ℕ → List ℕ → BlockFields → List ℕ
written out p u f = cond (eqb (first (write_tests out p u f)) 0) (block_of p u f) out
