-- An update: its refusals, its stores and their groups. docs/FORMAT.md, 'Updates'.
use Rattle.std.specs.Prelude.{ℕ, Bool, List, [], ◌∷◌, ◌++◌, Some, Result, Ok, Err}
use Rattle.layout.specs.Limits.{nanoseconds_allowed}
use Rattle.refusal.specs.Numbers.{not_in_step, area_entry, not_later}
use Rattle.refusal.specs.declared.Reason.{Reason}
use Rattle.refusal.specs.Reasons.{refusal_of}
use Rattle.refusal.specs.Tests.{Test, ◌else_refuse◌, first}
use Rattle.layout.specs.declared.Device.{Device}
use Rattle.layout.specs.declared.Side.{Side}
use Rattle.layout.specs.declared.Side.TheVariants.{Front, Back}
use Rattle.layout.specs.declared.Area.{Area}
use Rattle.layout.specs.Places.{area_sector}
use Rattle.block.specs.declared.Time.{Time}
use Rattle.block.specs.Entry.{later_than}
use Rattle.block.specs.Block.{pool_of, blockdev_of, fields_of}
use Rattle.block.specs.Writing.{block_of}
use Rattle.record.specs.Accept.{content_tests}
use Rattle.discovery.specs.declared.Finding.{Finding}
use Rattle.discovery.specs.declared.Found.{Found}
use Rattle.copy.specs.Copy.{device_in, block_in, other_area, newest}
use Rattle.discovery.specs.Discovery.{discovery, is_in_step}
use Rattle.discovery.specs.Newest.{time_at}
use Rattle.crash.specs.Crash.{Groups}
use Rattle.stores.specs.Stores.{holding_for, with_entry, record_stores, block_store}

-- the tests after discovery has found a record of time old on the device v, where `step` says whether the copies are in step: 16, then 9
-- for the nanoseconds of its time, then 14, then those of the record
abbrev pub tests_after : Bool → Device → Time → Time → List ℕ → List Test
tests_after step v old t r =
    (step else_refuse not_in_step) ∷ (nanoseconds_allowed t.nanoseconds else_refuse area_entry) ∷ (later_than t old else_refuse not_later) ∷ content_tests v r

abbrev pub update_tests : List ℕ → List ℕ → Finding → Time → List ℕ → List Test
update_tests f b q t r = tests_after (is_in_step f b) q.fields.device (time_at q) t r

-- discovery's number, or the first of those tests that fails
abbrev pub number_after : Result Found Reason → List ℕ → List ℕ → Time → List ℕ → ℕ
number_after (Err e) f b t r = (refusal_of e).number
number_after (Ok w) f b t r = first (update_tests f b w.finding t r)

-- the refusal number of an update of the copies f and b with a time and a record; 0 where it is not refused
unfoldable pub update_number : List ℕ → List ℕ → Time → List ℕ → ℕ
update_number f b t r = number_after (discovery f b) f b t r

-- in each copy the record goes to the area that is not present there: of copies in step, the one that is not the later entry's
abbrev pub spare : List ℕ → Area
spare c = other_area (newest (fields_of (block_in c)))

-- the block changes only that area's entry and the CRC
unfoldable pub new_block : List ℕ → Time → List ℕ → List ℕ
new_block c t r = block_of (pool_of (block_in c)) (blockdev_of (block_in c)) (with_entry (fields_of (block_in c)) (spare c) (Some (holding_for t r)))

-- one side of an update of its copy: the record to the area that is not present, then the block
abbrev pub side_groups : Side → Device → List ℕ → Time → List ℕ → Groups
side_groups w v c t r = record_stores (area_sector w (spare c) v) r ∷ block_store w v (new_block c t r) ∷ []

-- the four groups of an update: front area, front signature block, back area, back signature block
unfoldable pub update_groups : List ℕ → List ℕ → Time → List ℕ → Groups
update_groups f b t r = side_groups Front (device_in f) f t r ++ side_groups Back (device_in f) b t r
