-- What the calls on free runs answer, and the values in an answer; its refusal is `refusal_in` of it (`refusal`, Reasons).
use Rattle.std.specs.Prelude.{ℕ, ◌*◌, ◌/◌, cond, List, [], ◌∷◌, ◌++◌, leb, eqb, length, drop, Result, Ok, Err}
use Rattle.refusal.specs.Numbers.{slice_size, segment_place, no_room}
use Rattle.refusal.specs.declared.Reason.{Reason}
use Rattle.refusal.specs.Tests.{Test, ◌else_refuse◌, first}
use Rattle.layout.specs.declared.Device.{Device}
use Rattle.segments.specs.declared.Segment.{Segment}
use Rattle.segments.specs.declared.Range.{Range}
use Rattle.segments.specs.Sectors.{is_free, free_sectors}
use Rattle.runs.specs.declared.Run.{Run}
use Rattle.runs.specs.Runs.{runs_of, run_at, fit_of, fitting}
use Rattle.items.specs.Head.{data_range}
use Rattle.items.specs.Items.{segments}
use Rattle.record.specs.Accept.{record_tests, answered}
use Rattle.allocation.specs.Tables.{numbers_of}

-- document 01's 'free runs': the longest runs of unallocated sectors in a range, ascending
abbrev pub free_runs : Range → List Segment → List Run
free_runs r gs = runs_of (is_free r gs) r.end

-- those of a device with a record
abbrev pub runs_in : Device → List ℕ → List Run
runs_in d s = free_runs (data_range d) (segments s)

-- how many there are
abbrev pub runs_answer : Device → List ℕ → Result ℕ Reason
runs_answer d s = answered (first (record_tests d s)) s (length (runs_in d s))

abbrev pub runs_values : Result ℕ Reason → List ℕ
runs_values (Ok k) = k ∷ []
runs_values (Err r) = []

-- run k, counted from 0: its start and length; where there is none, zero in both
abbrev pub run_answer : Device → List ℕ → ℕ → Result Run Reason
run_answer d s k = answered (first (record_tests d s)) s (run_at (runs_in d s) k)

abbrev pub run_values : Result Run Reason → List ℕ
run_values (Ok r) = r.start ∷ r.sectors ∷ []
run_values (Err r) = []

-- free sectors, counted as data sectors in no segment
abbrev pub total_answer : Device → List ℕ → Result ℕ Reason
total_answer d s = answered (first (record_tests d s)) s (free_sectors (data_range d) (segments s))

abbrev pub total_values : Result ℕ Reason → List ℕ
total_values (Ok k) = k ∷ []
total_values (Err r) = []

-- the tests of a search for m sectors: 0 sectors asked for; no free run is long enough
abbrev pub fit_tests : List Run → ℕ → List Test
fit_tests rs m = (leb 1 m else_refuse segment_place) ∷ (fitting m rs else_refuse no_room) ∷ []

-- the free run of lowest start that is long enough
abbrev pub fit_answer : Device → List ℕ → ℕ → Result Run Reason
fit_answer d s m = answered (first (record_tests d s ++ fit_tests (runs_in d s) m)) s (fit_of m (runs_in d s))

-- the tests of a table with room for w runs: the device numbers and the record, then 1 for too little room, last
abbrev pub table_tests : Device → List ℕ → ℕ → List Test
table_tests d s w = record_tests d s ++ ((leb (length (runs_in d s)) w else_refuse slice_size) ∷ [])

-- how many free runs there are, where the table has room for them
abbrev pub table_answer : Device → List ℕ → ℕ → Result ℕ Reason
table_answer d s w = answered (first (table_tests d s w)) s (length (runs_in d s))

-- the whole table afterwards: every free run and the entries past them, or every entry as it was
abbrev pub table_left : Device → List ℕ → List Run → List Run
table_left d s t = cond (eqb (first (table_tests d s (length t))) 0) (runs_in d s ++ drop (length (runs_in d s)) t) t

-- the same two for a table of numbers, a start and a length for each run, which has room for half as many
abbrev pub numbers_answer : Device → List ℕ → ℕ → Result ℕ Reason
numbers_answer d s w = table_answer d s (w / 2)

abbrev pub numbers_left : Device → List ℕ → List ℕ → List ℕ
numbers_left d s t =
    cond (eqb (first (table_tests d s (length t / 2))) 0) (numbers_of (runs_in d s) ++ drop (2 * length (runs_in d s)) t) t
