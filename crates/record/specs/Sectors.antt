-- The parts of a device with a record: the words of the partition.
use Rattle.std.specs.Prelude.{ℕ, ◌+◌, List}
use Rattle.layout.specs.declared.Device.{Device}
use Rattle.layout.specs.Places.{data_start, data_end}
use Rattle.search.specs.Search.{within, one}
use Rattle.segments.specs.declared.Segment.{Segment}
use Rattle.segments.specs.Sectors.{held_by, is_free}
use Rattle.items.specs.Head.{data_range}

-- in how many of these parts the sector x is: the front end, the back end, each segment, the free sectors
unfoldable pub parts : Device → List Segment → ℕ → ℕ
parts d gs x =
    one (within 0 (data_start d) x) + one (within (data_end d) d.sectors x) + held_by gs x + one (is_free (data_range d) gs x)
