-- The format's twelve marked examples (docs/FORMAT.md, 'Examples'), as two tables with a row for each: what the format says, and what the definitions
-- give that the contracts cite. The theorem `Examples.twelve` says that the tables are the same.
use Rattle.std.specs.Prelude.{ℕ, zero, suc, ◌+◌, ◌-◌, ◌≡◌, Bool, true, false, List, [], ◌∷◌, length, replicate, Some, None, Result, Ok, Err}
use Rattle.endian.specs.Bytes.{zeros}
use Rattle.refusal.specs.declared.Reason.{Reason}
use Rattle.refusal.specs.declared.Refusal.{Refusal}
use Rattle.refusal.specs.Tests.{first}
use Rattle.layout.specs.declared.Device.{Device}
use Rattle.layout.specs.declared.Side.TheVariants.{Back}
use Rattle.layout.specs.declared.Area.TheVariants.{A, B}
use Rattle.layout.specs.Limits.{metadata_allowed, reserved_allowed, device_tests}
use Rattle.layout.specs.Places.{block_sector, area_sector, data_start, data_end}
use Rattle.block.specs.declared.Time.{Time}
use Rattle.block.specs.declared.BlockFields.{BlockFields}
use Rattle.block.specs.Entry.{later_than}
use Rattle.block.specs.Writing.{write_tests}
use Rattle.segments.specs.declared.Segment.{Segment}
use Rattle.runs.specs.declared.Run.{Run}
use Rattle.items.specs.declared.Head.TheVariants.{Plain}
use Rattle.items.specs.Items.{segments}
use Rattle.items.specs.Making.{record_of}
use Rattle.record.specs.Accept.{record_tests, named}
use Rattle.allocation.specs.declared.Allocation.{Allocation}
use Rattle.allocation.specs.Answers.{runs_answer, run_answer, total_answer}
use Rattle.allocation.specs.Change.{allocate_answer}
use Rattle.update.specs.declared.Plan.{Plan}
use Rattle.update.specs.Plan.{planned, stores_in}
use Rattle.format.specs.Format.{formatted_copy}

-- Device: S = 2,097,152, L = 2,040, R = 0 unless said.
abbrev pub device : Device
device = record { sectors = 2097152; metadata = 2040; reserved = 0 }

abbrev pub time : ℕ → ℕ → Time
time s n = record { seconds = s; nanoseconds = n }

-- a block's numbers with an entry of n nanoseconds, and a UUID of zeros
abbrev pub with_nanoseconds : ℕ → BlockFields
with_nanoseconds n = record { device = device; a = Some (record { seconds = 10; nanoseconds = n; bytes = 28; checksum = 0 }); b = None }

abbrev pub zero_uuid : List ℕ
zero_uuid = replicate 32 48

-- a data segment; a record with block size 128 and two of them
abbrev pub segment : ℕ → ℕ → Segment
segment s n = record { kind = 2; start = s; sectors = n }

unfoldable pub pair : ℕ → ℕ → ℕ → ℕ → List ℕ
pair a m b n = record_of (Plain 128) (segment a m ∷ segment b n ∷ [])

-- n segments of 100 sectors, one after the other from sector s on; a record with n of them from 2,048 on
unfoldable pub in_row : ℕ → ℕ → List Segment
in_row s zero = []
in_row s (suc n) = segment s 100 ∷ in_row (s + 100) n

unfoldable pub row_of : ℕ → List ℕ
row_of n = record_of (Plain 128) (in_row 2048 n)

-- the record of examples 9 and 10
abbrev pub nine : List ℕ
nine = pair 2048 100 3000 50

-- yes is 1, no is 0
abbrev pub yes : Bool → ℕ
yes true = 1
yes false = 0

-- what the calls on free runs answer: how many there are, a run, the free sectors; 0 where they refuse
abbrev pub value_in : Result ℕ Reason → ℕ
value_in (Ok n) = n
value_in (Err e) = 0

abbrev pub run_in : Result Run Reason → Run
run_in (Ok r) = r
run_in (Err e) = record { start = 0; sectors = 0 }

abbrev pub run_of : ℕ → Run
run_of k = run_in (run_answer device nine k)

-- where the sectors begin that an allocation of thin data gives; 0 where it is refused
abbrev pub start_in : Result Allocation Reason → ℕ
start_in (Ok a) = a.start
start_in (Err e) = 0

abbrev pub asking : ℕ → ℕ
asking m = start_in (allocate_answer device nine 2 m 8192)

-- the number of stores of an update; 0 where it is refused
abbrev pub count_in : Result Plan Reason → ℕ
count_in (Ok p) = stores_in p
count_in (Err e) = 0

-- a copy as formatting leaves both with the record of examples 9 and 10; the stores of an update of them with another record
abbrev pub copy : List ℕ
copy = formatted_copy device zero_uuid zero_uuid (time 10 5) nine

abbrev pub stores_of : List ℕ → ℕ
stores_of r = count_in (planned copy copy (time 11 0) r)

-- what the format says
abbrev pub said : List (List ℕ)
said =
    (2097145 ∷ [])
    ∷ (2095104 ∷ 2096124 ∷ [])
    ∷ (2048 ∷ 2095104 ∷ 2093056 ∷ [])
    ∷ (4 ∷ [])
    ∷ (7 ∷ 7 ∷ [])
    ∷ (1 ∷ 1 ∷ 0 ∷ [])
    ∷ (1 ∷ [])
    ∷ (9 ∷ [])
    ∷ (2 ∷ 2148 ∷ 852 ∷ 3050 ∷ 2092054 ∷ 2092906 ∷ [])
    ∷ (2148 ∷ 3050 ∷ [])
    ∷ (19 ∷ 0 ∷ [])
    ∷ (508 ∷ 25 ∷ 0 ∷ 4 ∷ 528 ∷ 26 ∷ 0 ∷ 6 ∷ [])
    ∷ []

-- what the definitions give
abbrev pub given : List (List ℕ)
given =
    (block_sector Back device ∷ [])
    ∷ (area_sector Back A device ∷ area_sector Back B device ∷ [])
    ∷ (data_start device ∷ data_end device ∷ (data_end device - data_start device) ∷ [])
    ∷ (first (device_tests (record { sectors = 2097151; metadata = 2040; reserved = 0 })) ∷ [])
    ∷ (first (device_tests (record { sectors = 2097152; metadata = 2041; reserved = 0 }))
    ∷ first (device_tests (record { sectors = 2097152; metadata = 2038; reserved = 0 }))
    ∷ [])
    ∷ (yes (metadata_allowed 16384)
    ∷ yes (reserved_allowed 65536)
    ∷ first (device_tests (record { sectors = 2097152; metadata = 16384; reserved = 65536 }))
    ∷ [])
    ∷ (yes (later_than (time 10 5) (time 10 4)) ∷ [])
    ∷ (first (write_tests (zeros 512) zero_uuid zero_uuid (with_nanoseconds 1000000000)) ∷ [])
    ∷ (value_in (runs_answer device nine)
    ∷ (run_of 0).start
    ∷ (run_of 0).sectors
    ∷ (run_of 1).start
    ∷ (run_of 1).sectors
    ∷ value_in (total_answer device nine)
    ∷ [])
    ∷ (asking 852 ∷ asking 853 ∷ [])
    ∷ (first (record_tests device (pair 2048 100 2147 1)) ∷ first (record_tests device (pair 2048 100 2148 1)) ∷ [])
    ∷ (length (row_of 25)
    ∷ length (segments (row_of 25))
    ∷ first (record_tests device (row_of 25))
    ∷ stores_of (row_of 25)
    ∷ length (row_of 26)
    ∷ length (segments (row_of 26))
    ∷ first (record_tests device (row_of 26))
    ∷ stores_of (row_of 26)
    ∷ [])
    ∷ []

-- All twelve.
abbrev pub Twelve : Type 0
Twelve = given ≡ said

-- Change request [2] on example 11: beside 19 stand positions 0 and 1. And of the four segments (5,000, 10), (3,000, 50), (3,049, 10) and (3,010, 1), of which
-- 1 and 2, and 1 and 3 share a sector: 1 and 2.
unfoldable pub four_segments : List ℕ
four_segments = record_of (Plain 128) (segment 5000 10 ∷ segment 3000 50 ∷ segment 3049 10 ∷ segment 3010 1 ∷ [])

abbrev pub check_of : List ℕ → Refusal
check_of s = named (first (record_tests device s)) s

-- positions are those of the items in the record's bytes, after the head
abbrev pub Pairs : Type 0
Pairs =
    (pair 2048 100 2147 1
    ≡ 8 ∷ 0 ∷ 16 ∷ 0 ∷ 128 ∷ 0 ∷ 0 ∷ 0
    ∷ 20 ∷ 0 ∷ 2 ∷ 0 ∷ 0 ∷ 8 ∷ 0 ∷ 0 ∷ 0 ∷ 0 ∷ 0 ∷ 0 ∷ 100 ∷ 0 ∷ 0 ∷ 0 ∷ 0 ∷ 0 ∷ 0 ∷ 0
    ∷ 20 ∷ 0 ∷ 2 ∷ 0 ∷ 99 ∷ 8 ∷ 0 ∷ 0 ∷ 0 ∷ 0 ∷ 0 ∷ 0 ∷ 1 ∷ 0 ∷ 0 ∷ 0 ∷ 0 ∷ 0 ∷ 0 ∷ 0 ∷ [])
    × (segments (pair 2048 100 2147 1) ≡ segment 2048 100 ∷ segment 2147 1 ∷ [])
    × (check_of (pair 2048 100 2147 1) ≡ record { number = 19; first = 0; second = 1 })
    × (check_of four_segments ≡ record { number = 19; first = 1; second = 2 })
