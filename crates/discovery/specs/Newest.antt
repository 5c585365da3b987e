-- What a found record is: the present record of an accepted copy, whole, and no whole area of an accepted copy is later.
-- The theorem is `proofs/Latest.antt`, `newest-found`. `Demand.Finds` says it in other words, and says when a record is found.
use Rattle.std.specs.Prelude.{ℕ, ◌≡◌, true, false, List, Ok}
use Rattle.layout.specs.declared.Side.{Side}
use Rattle.layout.specs.declared.Area.{Area}
use Rattle.block.specs.declared.Time.{Time}
use Rattle.block.specs.declared.BlockFields.{BlockFields}
use Rattle.block.specs.declared.Reading.{Reading}
use Rattle.block.specs.Entry.{later_than, time_of}
use Rattle.block.specs.Writing.{holding_of}
use Rattle.discovery.specs.declared.Finding.{Finding}
use Rattle.copy.specs.Copy.{entry_in, whole, record_at, present_at, present, mapped, reading_in}
use Rattle.discovery.specs.Discovery.{finding_of, copy_on}

-- the time of a found record
abbrev pub time_at : Finding → Time
time_at r = record { seconds = r.seconds; nanoseconds = r.nanoseconds }

pub record Newest (f b : List ℕ) (r : Finding) : Type 0 where
  pub accepted : mapped (λ (q : Reading). q.fields) (reading_in (copy_on r.side f b)) ≡ Ok r.fields
  pub its_present : present (copy_on r.side f b) r.fields ≡ present_at r.area (holding_of (entry_in r.fields r.area))
  pub its_area_is_whole : whole (copy_on r.side f b) r.fields r.area ≡ true
  pub is : r ≡ finding_of r.side r.fields (record_at r.area (holding_of (entry_in r.fields r.area)))
  pub none-later : (s : Side) (g : BlockFields) (y : Area) → mapped (λ (q : Reading). q.fields) (reading_in (copy_on s f b)) ≡ Ok g
      → whole (copy_on s f b) g y ≡ true → later_than (time_of (holding_of (entry_in g y))) (time_at r) ≡ false
