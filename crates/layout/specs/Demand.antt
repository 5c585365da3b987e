-- The sizes and limits in the format's numbers, where things lie on its example device with 100 reserved sectors at each end, which
-- device numbers are allowed, where things lie on every such device, and where to look first. `proofs/Demand.antt` proves it.
use Rattle.std.specs.Prelude.{ℕ, ◌+◌, ◌/◌, ◌%◌, ◌≤◌, ◌<◌, ◌≡◌, ◌↔◌, [], ◌∷◌, Ok, Err}
use Rattle.refusal.specs.Tests.{first}
use Rattle.layout.specs.declared.Device.{Device}
use Rattle.layout.specs.declared.Side.TheVariants.{Front, Back}
use Rattle.layout.specs.declared.Area.TheVariants.{A, B}
use Rattle.refusal.specs.declared.Reason.TheVariants.{DeviceSize}
use Rattle.layout.specs.Limits.{most_nanoseconds, sector_bytes, record_limit, device_tests}
use Rattle.layout.specs.Places.{header_sector, block_sector, area_sector, data_start, data_end, area_offset, copy_bytes, map_of, located, blocks_located}
use Rattle.layout.specs.Answers.{map_numbers}

pub record Sizes : Type 0 where
  pub nanoseconds : most_nanoseconds ≡ 999999999
  pub sector_bytes_lem : sector_bytes ≡ 512
  pub record_bytes_lem : record_limit ≡ 8192
  pub copy_bytes_lem : copy_bytes ≡ 20480
  pub area_a : area_offset A ≡ 4096
  pub area_b : area_offset B ≡ 12288
  -- header, block, areas a and b and reserved space of the front, of the back, and the data range
  pub places : map_numbers (map_of (record { sectors = 2097152; metadata = 2040; reserved = 100 }))
      ≡ 0 ∷ 1 ∷ 8 ∷ 1028 ∷ 2048 ∷ 2097144 ∷ 2097145 ∷ 2095104 ∷ 2096124 ∷ 2095004 ∷ 2148 ∷ 2095004 ∷ []

-- S, L and R are within the format's limits.
pub record Allowed (d : Device) : Type 0 where
  pub sectors : 2097152 ≤ d.sectors
  pub metadata_even : d.metadata % 2 ≡ 0
  pub metadata_least : 2040 ≤ d.metadata
  pub metadata_most : d.metadata ≤ 16384
  pub reserved : d.reserved ≤ 65536

-- The tests of device numbers give no refusal number exactly when they are within these limits.
abbrev pub Exactly : Type 0
Exactly = (d : Device) → (first (device_tests d) ≡ 0 ↔ Allowed d)

-- From sector 0 up to S, each part begins where the one before it ends.
pub record Tiled (d : Device) : Type 0 where
  -- front: header, 8 sectors, the block in its second; area a, L/2; area b, L/2; reserved space, R
  pub front_header : header_sector Front d ≡ 0
  pub front_block : block_sector Front d ≡ header_sector Front d + 1
  pub front_a : area_sector Front A d ≡ header_sector Front d + 8
  pub front_b : area_sector Front B d ≡ area_sector Front A d + d.metadata / 2
  pub front_reserved : (map_of d).front.reserved ≡ area_sector Front B d + d.metadata / 2
  -- the data range
  pub data_start_lem : data_start d ≡ (map_of d).front.reserved + d.reserved
  pub data_range_lem : data_start d ≤ data_end d
  -- back: reserved space, R; area a, L/2; area b, L/2; header, 8 sectors, the block in its second
  pub back_reserved : (map_of d).back.reserved ≡ data_end d
  pub back_a : area_sector Back A d ≡ (map_of d).back.reserved + d.reserved
  pub back_b : area_sector Back B d ≡ area_sector Back A d + d.metadata / 2
  pub back_header : header_sector Back d ≡ area_sector Back B d + d.metadata / 2
  pub back_block : block_sector Back d ≡ header_sector Back d + 1
  pub all : header_sector Back d + 8 ≡ d.sectors

-- The map has these places, and is what `locate` answers.
pub record Mapped (d : Device) : Type 0 where
  pub front_header : (map_of d).front.header ≡ header_sector Front d
  pub front_block : (map_of d).front.block ≡ block_sector Front d
  pub front_a : (map_of d).front.a ≡ area_sector Front A d
  pub front_b : (map_of d).front.b ≡ area_sector Front B d
  pub back_header : (map_of d).back.header ≡ header_sector Back d
  pub back_block : (map_of d).back.block ≡ block_sector Back d
  pub back_a : (map_of d).back.a ≡ area_sector Back A d
  pub back_b : (map_of d).back.b ≡ area_sector Back B d
  pub data_start_lem : (map_of d).start ≡ data_start d
  pub data_end_lem : (map_of d).end ≡ data_end d
  pub answer : located d ≡ Ok (map_of d)

-- With device numbers that are allowed, the parts tile the device.
abbrev pub Tiling : Type 0
Tiling = (d : Device) → Allowed d → Tiled d × Mapped d

-- Where the two signature blocks lie on a drive, before any was read: those of every allowed device of its size, and 4 for a size that no
-- device has.
pub record Begins (s : ℕ) : Type 0 where
  pub blocks : (d : Device) → Allowed d → d.sectors ≡ s → blocks_located s ≡ Ok (record { front = (map_of d).front.block; back = (map_of d).back.block })
  pub small : s < 2097152 → blocks_located s ≡ Err DeviceSize

abbrev pub Beginning : Type 0
Beginning = (s : ℕ) → Begins s
