-- Free runs, allocation and release by meaning, in other words than the definitions that the calls cite. A device's size below 2^64
-- and elements below 256 (`Bytes`) are what the machine's types have. `proofs/Demand.antt` proves all of it.
use Rattle.std.specs.Prelude.{ℕ, suc, ◌+◌, ◌-◌, ◌*◌, ◌/◌, ◌^◌, ◌≤◌, ◌<◌, ◌≡◌, Bool, true, false, not, ◌&&◌, ◌||◌, List, [], ◌∷◌, ◌++◌, length, take, drop, Ok, Err}
use Rattle.endian.specs.Bytes.{Bytes}
use Rattle.refusal.specs.declared.Reason.TheVariants.{SliceSize, SegmentPlace, NoRoom}
use Rattle.refusal.specs.Reasons.{reason_of, refusal_in}
use Rattle.refusal.specs.Tests.{first}
use Rattle.layout.specs.declared.Device.{Device}
use Rattle.layout.specs.Limits.{record_limit}
use Rattle.layout.specs.Places.{data_start, data_end}
use Rattle.segments.specs.Segments.{nth, holds}
use Rattle.segments.specs.Sectors.{is_free, free_sectors}
use Rattle.segments.specs.Order.{picked_at}
use Rattle.runs.specs.declared.Run.{Run}
use Rattle.runs.specs.Runs.{run_at, fit_of}
use Rattle.runs.specs.Gaps.{gaps}
use Rattle.runs.specs.Demand.{FreeRun, InRun, LowestFit}
use Rattle.items.specs.Head.{head_of, head_size, allows, data_range, range_for, item_bytes}
use Rattle.items.specs.Items.{segments}
use Rattle.items.specs.Making.{record_of}
use Rattle.record.specs.Accept.{record_tests, named, checked}
use Rattle.allocation.specs.Answers.{runs_in, runs_answer, run_answer, total_answer, fit_tests, fit_answer, table_tests, table_answer, table_left, numbers_answer, numbers_left}
use Rattle.allocation.specs.Change.{runs_for, allocate_tests, allocate_answer, allocate_left, given, release_tests, release_answer, release_left}

-- a sector of the data range in no segment of a record
abbrev pub free_in : Device → List ℕ → ℕ → Bool
free_in d s x = is_free (data_range d) (segments s) x

-- a sector of the range that a segment of kind k may lie in, in no segment
abbrev pub free_for : Device → List ℕ → ℕ → ℕ → Bool
free_for d s k x = is_free (range_for d (head_of s) k) (segments s) x

-- The free runs of an accepted record: each is free throughout and as long as can be; they ascend; each run that is so is one of
-- them; and every free sector is in one. They are the gaps between the segments in the order that the check gives.
pub record Free (d : Device) (s : List ℕ) : Type 0 where
  pub longest : (k : ℕ) → k < length (runs_in d s) → FreeRun (free_in d s) (data_end d) (run_at (runs_in d s) k)
  pub ascending : (j k : ℕ) → j < k → k < length (runs_in d s)
      → (run_at (runs_in d s) j).start + (run_at (runs_in d s) j).sectors < (run_at (runs_in d s) k).start
  pub every : (r : Run) → FreeRun (free_in d s) (data_end d) r → (k : ℕ) × ((k < length (runs_in d s)) × (run_at (runs_in d s) k ≡ r))
  pub all : (x : ℕ) → free_in d s x ≡ true → InRun (runs_in d s) x
  pub between : (p : List ℕ) × ((checked (first (record_tests d s)) s ≡ Ok p)
      × (runs_in d s ≡ gaps (data_start d) (data_end d) (picked_at (segments s) (take (length (segments s)) p))))

abbrev pub Runs : Type 0
Runs = (d : Device) (s : List ℕ) → first (record_tests d s) ≡ 0 → Free d s

-- The first fit of m sectors in an accepted record: 18 for none asked for; the run of lowest start where one is long enough; otherwise 20.
abbrev pub Fitting : Type 0
Fitting =
    (d : Device) (s : List ℕ) (m : ℕ) → first (record_tests d s) ≡ 0
    → (m < 1 → fit_answer d s m ≡ Err SegmentPlace)
    × (((k : ℕ) → 1 ≤ m → k < length (runs_in d s) → m ≤ (run_at (runs_in d s) k).sectors
    → (r : Run) × ((fit_answer d s m ≡ Ok r) × LowestFit (runs_in d s) m r))
    × (1 ≤ m → ((k : ℕ) → k < length (runs_in d s) → (run_at (runs_in d s) k).sectors < m) → fit_answer d s m ≡ Err NoRoom))

-- A table t with the free runs: every entry is the run of its number, and the entries past the runs stay.
pub record Tabled (d : Device) (s : List ℕ) (t : List Run) : Type 0 where
  pub answer : table_answer d s (length t) ≡ Ok (length (runs_in d s))
  pub each : (k : ℕ) → k < length (runs_in d s) → run_at (table_left d s t) k ≡ run_at (runs_in d s) k
  pub past : drop (length (runs_in d s)) (table_left d s t) ≡ drop (length (runs_in d s)) t

-- The same as numbers, the start and the sectors of each.
pub record Listed (d : Device) (s : List ℕ) (t : List ℕ) : Type 0 where
  pub answer : numbers_answer d s (length t) ≡ Ok (length (runs_in d s))
  pub each : (k : ℕ) → k < length (runs_in d s)
      → take 2 (drop (2 * k) (numbers_left d s t)) ≡ (run_at (runs_in d s) k).start ∷ (run_at (runs_in d s) k).sectors ∷ []
  pub past : drop (2 * length (runs_in d s)) (numbers_left d s t) ≡ drop (2 * length (runs_in d s)) t

-- The tables of an accepted record are filled exactly where they have room; otherwise 1, and every entry as it was.
pub record Filling (d : Device) (s : List ℕ) : Type 0 where
  pub table : (t : List Run) → length (runs_in d s) ≤ length t → Tabled d s t
  pub table-small : (t : List Run) → length t < length (runs_in d s) → (table_answer d s (length t) ≡ Err SliceSize) × (table_left d s t ≡ t)
  pub numbers : (t : List ℕ) → 2 * length (runs_in d s) ≤ length t → Listed d s t
  pub numbers-small : (t : List ℕ) → length t < 2 * length (runs_in d s) → (numbers_answer d s (length t) ≡ Err SliceSize) × (numbers_left d s t ≡ t)

abbrev pub Tables : Type 0
Tables = (d : Device) (s : List ℕ) → first (record_tests d s) ≡ 0 → Filling d s

-- What an allocation of m sectors for kind k in an accepted record needs, with w bytes lent: a kind that the head allows, a sector
-- at least, room for one more segment in the record, a free run that is long enough, room for the new record.
pub record Grantable (d : Device) (s : List ℕ) (k m w : ℕ) : Type 0 where
  pub kind : allows (head_of s) k ≡ true
  pub some : 1 ≤ m
  pub more : head_size (head_of s) + item_bytes * (length (segments s) + 1) ≤ record_limit
  pub run : (r : Run) × (FreeRun (free_for d s k) (range_for d (head_of s) k).end r × (m ≤ r.sectors))
  pub room : length s + item_bytes ≤ w

-- It is not refused exactly when it has that.
abbrev pub Granted : Type 0
Granted =
    (d : Device) (s : List ℕ) (k m w : ℕ) → first (record_tests d s) ≡ 0
    → (first (allocate_tests d s k m w) ≡ 0 → Grantable d s k m w) × (Grantable d s k m w → first (allocate_tests d s k m w) ≡ 0)

-- What an allocation of m sectors for kind k answers and leaves in `out`.
pub record Allocated (d : Device) (s : List ℕ) (k m : ℕ) (out : List ℕ) : Type 0 where
  pub answer : allocate_answer d s k m (length out) ≡ Ok (record { start = (fit_of m (runs_for d s k)).start; length = length s + item_bytes })
  -- it is m sectors from the start of the free run of lowest start that is long enough
  pub lowest : LowestFit (runs_for d s k) m (fit_of m (runs_for d s k))
  pub starts : (given d s k m).start ≡ (fit_of m (runs_for d s k)).start
  -- its sectors were free
  pub free : (x : ℕ) → holds (given d s k m) x ≡ true → free_for d s k x ≡ true
  -- the buffer begins with the record of the same head and segments and, last, the new one; the bytes past it stay
  pub new : take (length s + item_bytes) (allocate_left d s k m out) ≡ record_of (head_of s) (segments s ++ (given d s k m ∷ []))
  pub past : drop (length s + item_bytes) (allocate_left d s k m out) ≡ drop (length s + item_bytes) out
  -- which is accepted, and reads as that
  pub accepted : first (record_tests d (take (length s + item_bytes) (allocate_left d s k m out))) ≡ 0
  pub head : head_of (take (length s + item_bytes) (allocate_left d s k m out)) ≡ head_of s
  pub segments_are : segments (take (length s + item_bytes) (allocate_left d s k m out)) ≡ segments s ++ (given d s k m ∷ [])
  -- nothing else became free or taken
  pub elsewhere : (x : ℕ) → free_in d (take (length s + item_bytes) (allocate_left d s k m out)) x ≡ free_in d s x && not (holds (given d s k m) x)

abbrev pub Allocates : Type 0
Allocates =
    (d : Device) (s : List ℕ) (k m : ℕ) (out : List ℕ) → d.sectors < 2 ^ 64 → Bytes s
    → first (allocate_tests d s k m (length out)) ≡ 0 → Allocated d s k m out

-- A release of the segment at position p of an accepted record is not refused exactly when there is one and the new record has room.
abbrev pub Freeable : Type 0
Freeable =
    (d : Device) (s : List ℕ) (p w : ℕ) → first (record_tests d s) ≡ 0
    → (first (release_tests d s p w) ≡ 0 → (p < length (segments s)) × (length s - item_bytes ≤ w))
    × ((p < length (segments s)) × (length s - item_bytes ≤ w) → first (release_tests d s p w) ≡ 0)

-- What a release of the segment at position p answers and leaves in `out`.
pub record Freed (d : Device) (s : List ℕ) (p : ℕ) (out : List ℕ) : Type 0 where
  pub answer : release_answer d s p (length out) ≡ Ok (length s - item_bytes)
  -- the buffer begins with the record of the same head and the other segments as they stood; the bytes past it stay
  pub new : take (length s - item_bytes) (release_left d s p out) ≡ record_of (head_of s) (take p (segments s) ++ drop (suc p) (segments s))
  pub past : drop (length s - item_bytes) (release_left d s p out) ≡ drop (length s - item_bytes) out
  -- which is accepted, and reads as that
  pub accepted : first (record_tests d (take (length s - item_bytes) (release_left d s p out))) ≡ 0
  pub head : head_of (take (length s - item_bytes) (release_left d s p out)) ≡ head_of s
  pub segments_are : segments (take (length s - item_bytes) (release_left d s p out)) ≡ take p (segments s) ++ drop (suc p) (segments s)
  -- its sectors are free, and nothing else became free or taken
  pub elsewhere : (x : ℕ) → free_in d (take (length s - item_bytes) (release_left d s p out)) x ≡ free_in d s x || holds (nth (segments s) p) x
  -- its room can be given again: an allocation of its kind and length is not refused
  pub again : (w : ℕ) → length s ≤ w
      → first (allocate_tests d (take (length s - item_bytes) (release_left d s p out)) (nth (segments s) p).kind (nth (segments s) p).sectors w) ≡ 0

abbrev pub Releases : Type 0
Releases =
    (d : Device) (s : List ℕ) (p : ℕ) (out : List ℕ) → d.sectors < 2 ^ 64 → Bytes s
    → first (release_tests d s p (length out)) ≡ 0 → Freed d s p out

-- The record comes first: one that is refused is refused by every call, with its own number and what stands beside it, whatever else is asked.
pub record Refused (d : Device) (s : List ℕ) (k m w : ℕ) : Type 0 where
  pub runs : runs_answer d s ≡ Err (reason_of (named (first (record_tests d s)) s))
  pub run : run_answer d s k ≡ Err (reason_of (named (first (record_tests d s)) s))
  pub free : total_answer d s ≡ Err (reason_of (named (first (record_tests d s)) s))
  pub fit : fit_answer d s m ≡ Err (reason_of (named (first (record_tests d s)) s))
  pub table : table_answer d s w ≡ Err (reason_of (named (first (record_tests d s)) s))
  pub numbers : numbers_answer d s w ≡ Err (reason_of (named (first (record_tests d s)) s))
  pub allocation : allocate_answer d s k m w ≡ Err (reason_of (named (first (record_tests d s)) s))
  pub release : release_answer d s k w ≡ Err (reason_of (named (first (record_tests d s)) s))

abbrev pub RecordFirst : Type 0
RecordFirst = (d : Device) (s : List ℕ) (k m w : ℕ) → 0 < first (record_tests d s) → Refused d s k m w

-- Then, in an accepted record, the tests of an allocation's own in the format's order: 17 for its kind, 18 for no sectors, 21, 20, and 1 last; and those
-- of a release of the segment at position p: 22, and 1 last.
pub record OwnNumbers (d : Device) (s : List ℕ) (k m p w : ℕ) : Type 0 where
  pub kind : allows (head_of s) k ≡ false → first (allocate_tests d s k m w) ≡ 17
  pub zero : allows (head_of s) k ≡ true → m < 1 → first (allocate_tests d s k m w) ≡ 18
  pub full : allows (head_of s) k ≡ true → 1 ≤ m → record_limit < head_size (head_of s) + item_bytes * (length (segments s) + 1)
      → first (allocate_tests d s k m w) ≡ 21
  pub none : allows (head_of s) k ≡ true → 1 ≤ m → head_size (head_of s) + item_bytes * (length (segments s) + 1) ≤ record_limit
      → ((r : Run) → FreeRun (free_for d s k) (range_for d (head_of s) k).end r → r.sectors < m) → first (allocate_tests d s k m w) ≡ 20
  pub short : (v : ℕ) → Grantable d s k m v → w < length s + item_bytes → first (allocate_tests d s k m w) ≡ 1
  pub past : length (segments s) ≤ p → first (release_tests d s p w) ≡ 22
  pub small : p < length (segments s) → w < length s - item_bytes → first (release_tests d s p w) ≡ 1

abbrev pub Owned : Type 0
Owned = (d : Device) (s : List ℕ) (k m p w : ℕ) → first (record_tests d s) ≡ 0 → OwnNumbers d s k m p w

-- A call whose tests give a number that is not 0 answers that number with what stands beside it and leaves what it was lent as it was.
pub record Unchanged (d : Device) (s : List ℕ) (n : ℕ) : Type 0 where
  pub allocation : (k m : ℕ) (out : List ℕ) → first (allocate_tests d s k m (length out)) ≡ n
      → (allocate_answer d s k m (length out) ≡ Err (reason_of (named n s))) × (allocate_left d s k m out ≡ out)
  pub release : (p : ℕ) (out : List ℕ) → first (release_tests d s p (length out)) ≡ n
      → (release_answer d s p (length out) ≡ Err (reason_of (named n s))) × (release_left d s p out ≡ out)
  pub table : (t : List Run) → first (table_tests d s (length t)) ≡ n → (table_answer d s (length t) ≡ Err (reason_of (named n s))) × (table_left d s t ≡ t)
  pub numbers : (t : List ℕ) → first (table_tests d s (length t / 2)) ≡ n
      → (numbers_answer d s (length t) ≡ Err (reason_of (named n s))) × (numbers_left d s t ≡ t)

abbrev pub Refusing : Type 0
Refusing = (d : Device) (s : List ℕ) (n : ℕ) → 0 < n → Unchanged d s n

-- What a call answers has the number that its tests give, with what stands beside it, for every input.
pub record Numbers (d : Device) (s : List ℕ) (k m w : ℕ) : Type 0 where
  pub runs : refusal_in (runs_answer d s) ≡ named (first (record_tests d s)) s
  pub run : refusal_in (run_answer d s k) ≡ named (first (record_tests d s)) s
  pub free : refusal_in (total_answer d s) ≡ named (first (record_tests d s)) s
  pub fit : refusal_in (fit_answer d s m) ≡ named (first (record_tests d s ++ fit_tests (runs_in d s) m)) s
  pub table : refusal_in (table_answer d s w) ≡ named (first (table_tests d s w)) s
  pub numbers : refusal_in (numbers_answer d s w) ≡ named (first (table_tests d s (w / 2))) s
  pub allocation : refusal_in (allocate_answer d s k m w) ≡ named (first (allocate_tests d s k m w)) s
  pub release : refusal_in (release_answer d s k w) ≡ named (first (release_tests d s k w)) s

abbrev pub Numbered : Type 0
Numbered = (d : Device) (s : List ℕ) (k m w : ℕ) → Numbers d s k m w

-- What a call answers that is not refused; of the others it is `Fitting`, `Tables`, `Allocates` and `Releases`.
pub record Values (d : Device) (s : List ℕ) (k : ℕ) : Type 0 where
  pub runs : runs_answer d s ≡ Ok (length (runs_in d s))
  pub run : run_answer d s k ≡ Ok (run_at (runs_in d s) k)
  pub free : total_answer d s ≡ Ok (free_sectors (data_range d) (segments s))

abbrev pub Valued : Type 0
Valued = (d : Device) (s : List ℕ) (k : ℕ) → first (record_tests d s) ≡ 0 → Values d s k
