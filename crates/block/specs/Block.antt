-- The signature block, read: the table of docs/FORMAT.md, 'Signature block', limits and refusals 1 to 9.
use Rattle.std.specs.Prelude.{ℕ, ◌+◌, Bool, ◌&&◌, ◌||◌, List, [], ◌∷◌, leb, eqb, length, Option, Result}
use Rattle.endian.specs.Bytes.{le, window, splice, same, all_pass, zeros}
use Rattle.checksum.specs.Crc.{checksum}
use Rattle.refusal.specs.Numbers.{slice_size, signature, block_checksum, device_size, not_zero, uuid_byte, metadata_size, reserved_size, area_entry}
use Rattle.refusal.specs.declared.Reason.{Reason}
use Rattle.refusal.specs.Reasons.{answer}
use Rattle.refusal.specs.Tests.{Test, ◌else_refuse◌, first}
use Rattle.layout.specs.declared.Device.{Device}
use Rattle.layout.specs.Limits.{size_allowed, metadata_allowed, reserved_allowed, sector_bytes}
use Rattle.block.specs.declared.Holding.{Holding}
use Rattle.block.specs.declared.BlockFields.{BlockFields}
use Rattle.block.specs.declared.Reading.{Reading}
use Rattle.block.specs.Entry.{entry_of, entries_allowed}

-- offset 4, 16 bytes
unfoldable pub signature_bytes : List ℕ
signature_bytes =
    0x21 ∷ 0x53 ∷ 0x74 ∷ 0x72 ∷ 0x61 ∷ 0x30 ∷ 0x74 ∷ 0x69 ∷ 0x73 ∷ 0x86 ∷ 0xff ∷ 0x02 ∷ 0x5e ∷ 0x41 ∷ 0x72 ∷ 0x68 ∷ []

-- the number at an offset, of n bytes
abbrev pub number : List ℕ → ℕ → ℕ → ℕ
number b at n = le (window b at n)

-- offset 20, 8 bytes: S; offset 160, 4 bytes: L; offset 164, 4 bytes: R
abbrev pub device_of : List ℕ → Device
device_of b = record { sectors = number b 20 8; metadata = number b 160 4; reserved = number b 164 4 }

-- offset 32, 32 bytes: pool UUID
abbrev pub pool_of : List ℕ → List ℕ
pool_of b = window b 32 32

-- offset 64, 32 bytes: block device UUID
abbrev pub blockdev_of : List ℕ → List ℕ
blockdev_of b = window b 64 32

-- a UUID of a block: 32 bytes, with zeros where a block is cut short
unfoldable pub uuid_from : List ℕ → List ℕ
uuid_from u = splice (zeros 32) 0 u

-- 8, 4, 4, 4 bytes: seconds, nanoseconds, used bytes, CRC32 of the used bytes
abbrev pub entry_at : List ℕ → ℕ → Option Holding
entry_at b at = entry_of (number b at 8) (number b (at + 8) 4) (number b (at + 12) 4) (number b (at + 16) 4)

-- offset 96: area a; offset 128: area b
abbrev pub fields_of : List ℕ → BlockFields
fields_of b = record { device = device_of b; a = entry_at b 96; b = entry_at b 128 }

-- offset 0, 4 bytes: CRC32 of bytes 4 to 511
abbrev pub checksum_right : List ℕ → Bool
checksum_right b = eqb (number b 0 4) (checksum (window b 4 508))

abbrev pub is_zero : ℕ → Bool
is_zero x = eqb x 0

-- all bytes are zero
unfoldable pub all_zero : List ℕ → Bool
all_zero s = all_pass is_zero s

-- flags, offset 28, 4 bytes; zero fields at 116, 12 bytes, at 148, 12 bytes, and at 168, 344 bytes
abbrev pub zero_fields : List ℕ → Bool
zero_fields b = all_zero (window b 28 4) && (all_zero (window b 116 12) && (all_zero (window b 148 12) && all_zero (window b 168 344)))

-- 0-9 and a-f only
abbrev pub is_hex : ℕ → Bool
is_hex x = (leb 48 x && leb x 57) || (leb 97 x && leb x 102)

-- the tests that a block's fields and UUIDs meet when read and when written, 6 to 9
abbrev pub limit_tests : List ℕ → List ℕ → BlockFields → List Test
limit_tests p u f =
    (all_pass is_hex p && all_pass is_hex u else_refuse uuid_byte)
    ∷ (metadata_allowed f.device.metadata else_refuse metadata_size)
    ∷ (reserved_allowed f.device.reserved else_refuse reserved_size)
    ∷ (entries_allowed f.a f.b else_refuse area_entry)
    ∷ []

-- the tests of a block that is read, 1 to 9
abbrev pub read_tests : List ℕ → List Test
read_tests b =
    (eqb (length b) sector_bytes else_refuse slice_size)
    ∷ (same (window b 4 16) signature_bytes else_refuse signature)
    ∷ (checksum_right b else_refuse block_checksum)
    ∷ (size_allowed (number b 20 8) else_refuse device_size)
    ∷ (zero_fields b else_refuse not_zero)
    ∷ limit_tests (pool_of b) (blockdev_of b) (fields_of b)

-- what reading an accepted block answers
abbrev pub accepted_reading : List ℕ → Reading
accepted_reading b = record { fields = fields_of b; pool = pool_of b; blockdev = blockdev_of b }

-- what `read` answers: the lowest of 1 to 9 that applies, or the block's fields
unfoldable pub reading : List ℕ → Result Reading Reason
reading b = answer (first (read_tests b)) (accepted_reading b)
