-- Allocation and release: what they refuse, answer, and leave in the lent bytes.
use Rattle.std.specs.Prelude.{ℕ, ◌+◌, ◌-◌, List, [], ◌∷◌, ◌++◌, leb, ltb, length, Result, Ok, Err}
use Rattle.refusal.specs.Numbers.{slice_size, record_form, segment_place, no_room, record_full}
use Rattle.refusal.specs.declared.Reason.{Reason}
use Rattle.refusal.specs.Tests.{Test, ◌else_refuse◌, first}
use Rattle.endian.specs.Bytes.{splice}
use Rattle.layout.specs.declared.Device.{Device}
use Rattle.segments.specs.declared.Segment.{Segment}
use Rattle.runs.specs.declared.Run.{Run}
use Rattle.runs.specs.Runs.{fit_of, fitting}
use Rattle.items.specs.Head.{head_of, allows, range_for, item_bytes, most_segments}
use Rattle.items.specs.Items.{segments}
use Rattle.items.specs.Making.{unless, appended, removed}
use Rattle.record.specs.Accept.{record_tests, answered}
use Rattle.record.specs.Answers.{position_tests}
use Rattle.allocation.specs.declared.Allocation.{Allocation}
use Rattle.allocation.specs.Answers.{free_runs}

-- the free runs of the range that a segment of kind k may lie in
abbrev pub runs_for : Device → List ℕ → ℕ → List Run
runs_for d s k = free_runs (range_for d (head_of s) k) (segments s)

-- the tests of an allocation after those of its record: the kind, the number of sectors, whether the record is full, whether a free
-- run is long enough; and, although its number is the lowest, last of all, whether the new record fits the w bytes lent
abbrev pub own_tests : Device → List ℕ → ℕ → ℕ → ℕ → List Test
own_tests d s k m w =
    (allows (head_of s) k else_refuse record_form)
    ∷ (leb 1 m else_refuse segment_place)
    ∷ (ltb (length (segments s)) (most_segments (head_of s)) else_refuse record_full)
    ∷ (fitting m (runs_for d s k) else_refuse no_room)
    ∷ (leb (length s + item_bytes) w else_refuse slice_size)
    ∷ []

abbrev pub allocate_tests : Device → List ℕ → ℕ → ℕ → ℕ → List Test
allocate_tests d s k m w = record_tests d s ++ own_tests d s k m w

-- the segment that is given: m sectors from the start of the free run of lowest start that is long enough
abbrev pub given : Device → List ℕ → ℕ → ℕ → Segment
given d s k m = record { kind = k; start = (fit_of m (runs_for d s k)).start; sectors = m }

abbrev pub allocation : ℕ → List ℕ → ℕ → ℕ → Result Allocation Reason
allocation n s start len = answered n s (record { start = start; length = len })

-- the new segment's first sector, and the new record's length
abbrev pub allocate_answer : Device → List ℕ → ℕ → ℕ → ℕ → Result Allocation Reason
allocate_answer d s k m w = allocation (first (allocate_tests d s k m w)) s (given d s k m).start (length s + item_bytes)

abbrev pub allocate_left : Device → List ℕ → ℕ → ℕ → List ℕ → List ℕ
allocate_left d s k m out = unless (first (allocate_tests d s k m (length out))) (splice out 0 (appended s (given d s k m))) out

abbrev pub allocation_values : Result Allocation Reason → List ℕ
allocation_values (Ok a) = a.start ∷ a.length ∷ []
allocation_values (Err r) = []

-- the last test of a release, after those of its record and of the position: whether the new record fits the w bytes lent
abbrev pub room_tests : List ℕ → ℕ → List Test
room_tests s w = (leb (length s - item_bytes) w else_refuse slice_size) ∷ []

abbrev pub release_tests : Device → List ℕ → ℕ → ℕ → List Test
release_tests d s p w = record_tests d s ++ (position_tests s p ++ room_tests s w)

-- the new record's length
abbrev pub release_answer : Device → List ℕ → ℕ → ℕ → Result ℕ Reason
release_answer d s p w = answered (first (release_tests d s p w)) s (length s - item_bytes)

abbrev pub release_left : Device → List ℕ → ℕ → List ℕ → List ℕ
release_left d s p out = unless (first (release_tests d s p (length out))) (splice out 0 (removed s p)) out

abbrev pub release_values : Result ℕ Reason → List ℕ
release_values (Ok len) = len ∷ []
release_values (Err r) = []
