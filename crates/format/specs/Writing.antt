-- Writing two formatted copies to a device: every sector of both, in an order in which no signature block is stored before the areas that it
-- names. docs/FORMAT.md, 'Formatting'.
use Rattle.std.specs.Prelude.{ℕ, suc, ◌+◌, ◌-◌, ◌*◌, Bool, cond, not, List, [], ◌∷◌, ◌++◌, ltb, eqb, Result}
use Rattle.endian.specs.Bytes.{window}
use Rattle.refusal.specs.declared.Reason.{Reason}
use Rattle.refusal.specs.Numbers.{slice_size, no_such_store}
use Rattle.refusal.specs.Reasons.{answer}
use Rattle.refusal.specs.Tests.{Test, ◌else_refuse◌, first}
use Rattle.layout.specs.declared.Device.{Device}
use Rattle.layout.specs.declared.Side.{Side}
use Rattle.layout.specs.declared.Side.TheVariants.{Front, Back}
use Rattle.layout.specs.declared.Area.TheVariants.{A, B}
use Rattle.layout.specs.Limits.{device_tests, sector_bytes, header_sectors}
use Rattle.layout.specs.Places.{header_sector, area_sector, area_offset}
use Rattle.crash.specs.Crash.{Store, Groups, stores_from, area_sectors}
use Rattle.stores.specs.Given.{lent_right}
use Rattle.sectors.specs.Sectors.{copy_sectors, area_start, sector_at}
use Rattle.sectors.specs.Demand.{nth_sector}

-- the stores of a copy's k sectors from byte o on, to the device's sectors from a on
abbrev pub part_stores : ℕ → ℕ → ℕ → List ℕ → List Store
part_stores a o k c = stores_from a (λ (j : ℕ). window c (o + sector_bytes * j) sector_bytes) k

-- of a copy's header, and of as much of its two areas as a record can fill
abbrev pub header_stores : Side → Device → List ℕ → List Store
header_stores s v c = part_stores (header_sector s v) 0 header_sectors c

abbrev pub areas_stores : Side → Device → List ℕ → List Store
areas_stores s v c = part_stores (area_sector s A v) (area_offset A) area_sectors c ++ part_stores (area_sector s B v) (area_offset B) area_sectors c

-- the back's areas, the back's header, the front's areas, the front's header, with a flush after each
unfoldable pub format_groups : Device → List ℕ → List ℕ → Groups
format_groups v f b = areas_stores Back v b ∷ header_stores Back v b ∷ areas_stores Front v f ∷ header_stores Front v f ∷ []

-- what `count` answers: the sectors of both copies
unfoldable pub store_count : ℕ
store_count = 2 * copy_sectors

-- the sectors of a copy that are not the header's
unfoldable pub areas_sectors : ℕ
areas_sectors = copy_sectors - area_start A

-- by the group of store i, in their order; past the last store by none
unfoldable pub by_group : {T : Type 0} → ℕ → T → T → T → T → T → T
by_group i p q r s t =
    cond (ltb i areas_sectors) p
    (cond (ltb i copy_sectors) q (cond (ltb i (copy_sectors + areas_sectors)) r (cond (ltb i store_count) s t)))

-- what `group` answers: 0 to 3; 4 past the last store
abbrev pub group_at : ℕ → ℕ
group_at i = by_group i 0 1 2 3 4

-- what `position` answers: which sector of both copies store i is, the front's sectors counted first, then the back's; past the last
-- store as many as there are
abbrev pub position_of : ℕ → ℕ
position_of i =
    by_group i (copy_sectors + area_start A + i) (copy_sectors + (i - areas_sectors)) (area_start A + (i - copy_sectors)) (i - (copy_sectors + areas_sectors))
    store_count

-- what `flush` answers: the store after it is in another group, or there is none
abbrev pub flush_after : ℕ → Bool
flush_after i = not (eqb (group_at i) (group_at (suc i)))

-- of both copies' sector p: where it lies on the device, and its bytes
abbrev pub sector_on : Device → ℕ → ℕ
sector_on v p = cond (ltb p copy_sectors) (sector_at Front v p) (sector_at Back v (p - copy_sectors))

abbrev pub bytes_on : List ℕ → List ℕ → ℕ → List ℕ
bytes_on f b p = cond (ltb p copy_sectors) (nth_sector f p) (nth_sector b (p - copy_sectors))

-- the tests of a store: the sizes, the device numbers, its number
abbrev pub store_tests : Device → List ℕ → List ℕ → ℕ → List ℕ → List Test
store_tests v f b i out = (lent_right f b out else_refuse slice_size) ∷ (device_tests v ++ ((ltb i store_count else_refuse no_such_store) ∷ []))

-- what `store` answers and leaves
abbrev pub store_answer : Device → List ℕ → List ℕ → ℕ → List ℕ → Result ℕ Reason
store_answer v f b i out = answer (first (store_tests v f b i out)) (sector_on v (position_of i))

abbrev pub store_left : Device → List ℕ → List ℕ → ℕ → List ℕ → List ℕ
store_left v f b i out = cond (eqb (first (store_tests v f b i out)) 0) (bytes_on f b (position_of i)) out
