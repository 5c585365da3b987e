-- The twelve examples, as one equation of two tables.
use Prim.Native.Nat.{ℕ, ◌+◌, ◌*◌}
use mathlib.Core.Path.{◌≡◌, refl, ap, ◌∙◌}
use mathlib.Core.Bool.{true, ◌&&◌}
use mathlib.Core.List.{List, [], ◌∷◌}
use lib.Dec.{leb, lit<, lit≤}
use lib.ListN.{length}
use Rattle.endian.specs.Bytes.{all_pass, zeros}
use Rattle.endian.proofs.Tests.{length-zeros}
use Rattle.refusal.specs.Tests.{first, AllHold}
use Rattle.refusal.proofs.Order.{first-zero, first_all, first-after}
use Rattle.layout.specs.Limits.{device_tests, record_limit, length_allowed}
use Rattle.layout.specs.Places.{copy_bytes}
use Rattle.block.specs.Entry.{later_than}
use Rattle.block.specs.Block.{is_hex}
use Rattle.block.specs.Writing.{write_tests}
use Rattle.layout.specs.declared.Device.{Device}
use Rattle.layout.specs.declared.Side.TheVariants.{Front}
use Rattle.runs.specs.Runs.{run_at, fit_of, fitting}
use Rattle.items.specs.Head.{head_of, head_size, most_segments}
use Rattle.record.specs.Accept.{content_tests, record_tests}
use Rattle.record.proofs.Testing.{record_ascending}
use Rattle.record.proofs.Accepted.{accepted}
use Rattle.record.proofs.Right.{accepted_content}
use Rattle.allocation.specs.Answers.{runs_answer, total_answer}
use Rattle.allocation.specs.Change.{runs_for, own_tests, allocate_tests}
use Rattle.allocation.proofs.Finding.{for_runs}
use Rattle.update.specs.Update.{update_number}
use Rattle.stores.specs.Stores.{sectors_of}
use Rattle.format.proofs.Checking.{Taken}
use Rattle.update.proofs.Allowing.{ordered}
use Rattle.format.proofs.Demand.{format_in_step, format_device}
use Rattle.examples.specs.Examples.{device, time, with_nanoseconds, zero_uuid, nine, row_of, yes, value_in, run_of, asking, copy, stores_of, Twelve}
use Rattle.examples.proofs.Room.{known, free, nine-length, nine-head, nine-segments, nine-accepted, nine-runs, nine-total, example_11, example_12}

-- examples 4 to 6: the device numbers
sizes : first (device_tests (record { sectors = 2097151; metadata = 2040; reserved = 0 })) ≡ 4
unfolding first
sizes = refl

odd : first (device_tests (record { sectors = 2097152; metadata = 2041; reserved = 0 })) ≡ 7
unfolding first
odd = refl

short : first (device_tests (record { sectors = 2097152; metadata = 2038; reserved = 0 })) ≡ 7
unfolding first
short = refl

largest : first (device_tests (record { sectors = 2097152; metadata = 16384; reserved = 65536 })) ≡ 0
unfolding first
largest = refl

-- examples 7 and 8: times
later : yes (later_than (time 10 5) (time 10 4)) ≡ 1
unfolding later_than
later = refl

nanoseconds : first (write_tests (zeros 512) zero_uuid zero_uuid (with_nanoseconds 1000000000)) ≡ 9
unfolding first all_pass zeros length_allowed record_limit
nanoseconds = refl

-- example 9: what the calls answer of the record's free runs
runs : value_in (runs_answer device nine) ≡ 2
runs = rw (nine-accepted, nine-runs)

run : (k : ℕ) → run_of k ≡ run_at free k
run k = rw (nine-accepted, nine-runs)

total : value_in (total_answer device nine) ≡ 2092906
total = rw (nine-accepted, nine-total)

-- example 10: an allocation of m sectors, where a free run fits
runs_data : runs_for device nine 2 ≡ free
runs_data = for_runs device nine (accepted device nine nine-accepted) 2 ∙ nine-runs

most : most_segments (head_of nine) ≡ 409
unfolding most_segments head_size record_limit
most = rw nine-head

asked : (m : ℕ) → leb 1 m ≡ true → fitting m free ≡ true → asking m ≡ (fit_of m free).start
asked m l f = rw (none, runs_data)
  where
    own : AllHold (own_tests device nine 2 m 8192)
    own = (rw nine-head known, (l, (rw (nine-segments, most), (rw runs_data f, (rw nine-length, tt)))))

    none : first (allocate_tests device nine 2 m 8192) ≡ 0
    none =
        first-after (record_tests device nine) (own_tests device nine 2 m 8192) (first-zero 0 (record_tests device nine) (record_ascending device nine) nine-accepted)
        ∙ first_all (own_tests device nine 2 m 8192) own

asked_852 : asking 852 ≡ 2148
unfolding fit_of
asked_852 = asked 852 refl refl

asked_853 : asking 853 ≡ 3050
unfolding fit_of
asked_853 = asked 853 refl refl

-- example 12: formatting takes the record of examples 9 and 10
hex : all_pass is_hex zero_uuid && all_pass is_hex zero_uuid ≡ true
unfolding all_pass
hex = refl

formatted : Taken (zeros copy_bytes) (zeros copy_bytes) device zero_uuid zero_uuid (time 10 5) nine
formatted =
    record {
      front = length-zeros copy_bytes;
      back = length-zeros copy_bytes;
      pool = refl;
      device = refl;
      size = refl;
      hex = hex;
      metadata = refl;
      reserved = refl;
      ns = refl;
      content = accepted_content device nine nine-accepted;
    }

-- the stores of an update of the formatted copies
later-time : later_than (time 11 0) (time 10 5) ≡ true
unfolding later_than
later-time = refl

not_refused : (r : List ℕ) → first (record_tests device r) ≡ 0 → update_number copy copy (time 11 0) r ≡ 0
not_refused r a =
    (ordered copy copy (time 11 0) r).content (format_in_step formatted (lit< tt) (lit< tt)).0 (lit≤ tt) (time 10 5) nine
    ((format_in_step formatted (lit< tt) (lit< tt)).1 Front) later-time
    ∙ (ap (λ (v : Device). first (content_tests v r)) (format_device formatted (lit< tt) (lit< tt)) ∙ first_all (content_tests device r) (accepted_content device r a))

stores : (r : List ℕ) (n k : ℕ) → first (record_tests device r) ≡ 0 → length r ≡ n → 2 * sectors_of n + 2 ≡ k → stores_of r ≡ k
stores r n k a l e = rw (not_refused r a, l, e)

four : stores_of (row_of 25) ≡ 4
unfolding sectors_of
four = stores (row_of 25) 508 4 example_12.0.2 example_12.0.0 refl

six : stores_of (row_of 26) ≡ 6
unfolding sectors_of
six = stores (row_of 26) 528 6 example_12.1.2 example_12.1.0 refl

pub twelve : Twelve
twelve i =
    (2097145 ∷ [])
    ∷ (2095104 ∷ 2096124 ∷ [])
    ∷ (2048 ∷ 2095104 ∷ 2093056 ∷ [])
    ∷ (sizes i ∷ [])
    ∷ (odd i ∷ short i ∷ [])
    ∷ (1 ∷ 1 ∷ largest i ∷ [])
    ∷ (later i ∷ [])
    ∷ (nanoseconds i ∷ [])
    ∷ (runs i ∷ (run 0 i).start ∷ (run 0 i).sectors ∷ (run 1 i).start ∷ (run 1 i).sectors ∷ total i ∷ [])
    ∷ (asked_852 i ∷ asked_853 i ∷ [])
    ∷ (example_11.0 i ∷ example_11.1 i ∷ [])
    ∷ (example_12.0.0 i
    ∷ example_12.0.1 i
    ∷ example_12.0.2 i
    ∷ four i
    ∷ example_12.1.0 i
    ∷ example_12.1.1 i
    ∷ example_12.1.2 i
    ∷ six i
    ∷ [])
    ∷ []
