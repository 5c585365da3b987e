-- The limits of the device numbers (docs/FORMAT.md, 'Signature block'), and the size of records and copies.
use Rattle.std.specs.Prelude.{ℕ, ◌*◌, ◌%◌, Bool, ◌&&◌, List, [], ◌∷◌, leb, eqb}
use Rattle.refusal.specs.Numbers.{device_size, metadata_size, reserved_size}
use Rattle.refusal.specs.Tests.{Test, ◌else_refuse◌}
use Rattle.layout.specs.declared.Device.{Device}

-- S at least 2,097,152 (1 GiB)
abbrev pub size_allowed : ℕ → Bool
size_allowed s = leb 2097152 s

-- L even, 2,040 to 16,384
abbrev pub metadata_allowed : ℕ → Bool
metadata_allowed l = eqb (l % 2) 0 && (leb 2040 l && leb l 16384)

-- R at most 65,536
abbrev pub reserved_allowed : ℕ → Bool
reserved_allowed r = leb r 65536

-- the tests of the device numbers, in the order in which calls that are handed them test them
abbrev pub device_tests : Device → List Test
device_tests d =
    (size_allowed d.sectors else_refuse device_size)
    ∷ (metadata_allowed d.metadata else_refuse metadata_size)
    ∷ (reserved_allowed d.reserved else_refuse reserved_size)
    ∷ []

-- nanoseconds at most 999,999,999
abbrev pub most_nanoseconds : ℕ
most_nanoseconds = 999999999

abbrev pub nanoseconds_allowed : ℕ → Bool
nanoseconds_allowed n = leb n most_nanoseconds

-- bytes of a sector
abbrev pub sector_bytes : ℕ
sector_bytes = 512

-- sectors of a copy's header
abbrev pub header_sectors : ℕ
header_sectors = 8

abbrev pub header_bytes : ℕ
header_bytes = header_sectors * sector_bytes

-- where the signature block begins in a copy as it is lent, in bytes: in the header's sector 1
abbrev pub block_offset : ℕ
block_offset = sector_bytes

-- the most bytes of a record
unfoldable pub record_limit : ℕ
record_limit = 8192

-- a record's bytes: 1 up to the most
unfoldable pub length_allowed : ℕ → Bool
length_allowed n = leb 1 n && leb n record_limit
