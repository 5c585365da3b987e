-- The values of an answer; its refusal number is `number_in` of it (`refusal`, Reasons).
use Rattle.std.specs.Prelude.{ℕ, List, [], ◌∷◌, Result, Ok, Err}
use Rattle.layout.specs.declared.Side.{Side}
use Rattle.layout.specs.declared.Side.TheVariants.{Front, Back}
use Rattle.layout.specs.declared.Area.{Area}
use Rattle.layout.specs.declared.Area.TheVariants.{A, B}
use Rattle.layout.specs.declared.CopyMap.{CopyMap}
use Rattle.layout.specs.declared.DeviceMap.{DeviceMap}
use Rattle.layout.specs.declared.BlockSectors.{BlockSectors}
use Rattle.refusal.specs.declared.Reason.{Reason}

-- a side and an area as numbers
abbrev pub side_number : Side → ℕ
side_number Front = 0
side_number Back = 1

abbrev pub area_number : Area → ℕ
area_number A = 0
area_number B = 1

-- a copy's sectors: header, block, areas a and b, reserved space
abbrev pub copy_map_numbers : CopyMap → List ℕ → List ℕ
copy_map_numbers c rest = c.header ∷ c.block ∷ c.a ∷ c.b ∷ c.reserved ∷ rest

-- the front's, the back's, and the data range
abbrev pub map_numbers : DeviceMap → List ℕ
map_numbers p = copy_map_numbers p.front (copy_map_numbers p.back (p.start ∷ p.end ∷ []))

-- what `locate` answers
abbrev pub located_values : Result DeviceMap Reason → List ℕ
located_values (Ok p) = map_numbers p
located_values (Err r) = []

-- what `locate_blocks` answers
abbrev pub blocks_values : Result BlockSectors Reason → List ℕ
blocks_values (Ok b) = b.front ∷ b.back ∷ []
blocks_values (Err r) = []
