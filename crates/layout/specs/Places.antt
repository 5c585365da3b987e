-- Where things lie: docs/FORMAT.md, 'Where things lie', in its order. Differences of numbers stop at 0; with device numbers
-- that are allowed none does.
use Rattle.std.specs.Prelude.{ℕ, ◌+◌, ◌-◌, ◌/◌, cond, Result, Ok, Err}
use Rattle.refusal.specs.Tests.{first}
use Rattle.layout.specs.declared.Device.{Device}
use Rattle.layout.specs.declared.Side.{Side}
use Rattle.layout.specs.declared.Side.TheVariants.{Front, Back}
use Rattle.layout.specs.declared.Area.{Area}
use Rattle.layout.specs.declared.Area.TheVariants.{A, B}
use Rattle.layout.specs.declared.CopyMap.{CopyMap}
use Rattle.layout.specs.declared.DeviceMap.{DeviceMap}
use Rattle.layout.specs.declared.BlockSectors.{BlockSectors}
use Rattle.refusal.specs.declared.Reason.{Reason}
use Rattle.refusal.specs.Numbers.{device_size}
use Rattle.refusal.specs.Reasons.{reason, answer}
use Rattle.layout.specs.Limits.{size_allowed, device_tests, header_sectors, header_bytes, record_limit}

-- front: header in sectors 0 to 7; back: header in the last 8 sectors
abbrev pub header_sector : Side → Device → ℕ
header_sector Front d = 0
header_sector Back d = d.sectors - header_sectors

-- the signature block in sector 1; in sector S - 7
abbrev pub block_sector : Side → Device → ℕ
block_sector Front d = 1
block_sector Back d = d.sectors - 7

-- area a from 8, area b from 8 + L/2; area a from S - 8 - L, area b from S - 8 - L/2
abbrev pub area_sector : Side → Area → Device → ℕ
area_sector Front A d = header_sectors
area_sector Front B d = header_sectors + d.metadata / 2
area_sector Back A d = d.sectors - header_sectors - d.metadata
area_sector Back B d = d.sectors - header_sectors - d.metadata / 2

-- then R reserved sectors; reserved space just below area a
abbrev pub reserved_sector : Side → Device → ℕ
reserved_sector Front d = header_sectors + d.metadata
reserved_sector Back d = d.sectors - header_sectors - d.metadata - d.reserved

-- the data range runs from 8 + L + R up to, not including, S - 8 - L - R
abbrev pub data_start : Device → ℕ
data_start d = header_sectors + d.metadata + d.reserved

abbrev pub data_end : Device → ℕ
data_end d = d.sectors - header_sectors - d.metadata - d.reserved

-- A copy is lent as the header's 8 sectors, then as much of area a as a record can fill, then as much of area b: where
-- an area begins there, in bytes.
unfoldable pub area_offset : Area → ℕ
area_offset A = header_bytes
area_offset B = header_bytes + record_limit

-- the bytes of a copy as it is lent
unfoldable pub copy_bytes : ℕ
copy_bytes = header_bytes + record_limit + record_limit

-- a copy's places
abbrev pub copy_map_of : Side → Device → CopyMap
copy_map_of s d =
    record {
      header = header_sector s d;
      block = block_sector s d;
      a = area_sector s A d;
      b = area_sector s B d;
      reserved = reserved_sector s d;
    }

abbrev pub map_of : Device → DeviceMap
map_of d = record { front = copy_map_of Front d; back = copy_map_of Back d; start = data_start d; end = data_end d }

-- what `locate` answers: the places, or the reason why the device numbers are refused
abbrev pub located : Device → Result DeviceMap Reason
located d = answer (first (device_tests d)) (map_of d)

-- What `locate_blocks` answers of a device of s sectors: where its signature blocks lie depends on nothing else.
abbrev pub sized_device : ℕ → Device
sized_device s = record { sectors = s; metadata = 0; reserved = 0 }

abbrev pub blocks_located : ℕ → Result BlockSectors Reason
blocks_located s =
    cond (size_allowed s) (Ok (record { front = block_sector Front (sized_device s); back = block_sector Back (sized_device s) })) (Err (reason device_size))
