-- The two segments that clash, in every answer that C gets: beside 19 they stand, and beside every other number nothing does. `Bare` has the calls that
-- never give 19. `proofs/Pairs.antt` proves it.
use Rattle.std.specs.Prelude.{ℕ, ◌≡◌, List}
use Rattle.refusal.specs.declared.Refusal.{Refusal}
use Rattle.refusal.specs.Tests.{first}
use Rattle.layout.specs.declared.Device.{Device}
use Rattle.block.specs.declared.Time.{Time}
use Rattle.segments.specs.Demand.{FirstPair}
use Rattle.items.specs.Items as Items
use Rattle.record.specs.Accept.{record_tests, named}
use Rattle.record.specs.Answers as Record
use Rattle.allocation.specs.Answers as Runs
use Rattle.allocation.specs.Change as Allocation
use Rattle.heads.specs.declared.Change.{Change}
use Rattle.heads.specs.Changing.{change_answer}
use Rattle.update.specs.Update.{update_number}
use Rattle.update.specs.Plan as Update
use Rattle.format.specs.Format.{format_number}
use Rattle.amseokbin.specs.Records as Records
use Rattle.amseokbin.specs.Room as Room
use Rattle.amseokbin.specs.Plans.{update_answer}

-- a refusal q of the record s: with number 19 the two segments that clash, with any other zeros
pub record PairOf (q : Refusal) (s : List ℕ) : Type 0 where
  pub pair : q.number ≡ 19 → FirstPair (Items.segments s) q.first q.second
  pub nothing : (q.number ≡ 19 → ⊥) → (q.first ≡ 0) × (q.second ≡ 0)

-- Call by call, each answer as the call's contract has it; whatever the call is handed beside the record s.
pub record Pairs (d : Device) (s : List ℕ) : Type 0 where
  pub record_check : PairOf (named (first (record_tests d s)) s) s
  pub record_head : PairOf (Records.head_answer d s).refusal s
  pub record_segment : (p : ℕ) → PairOf (Records.segment_answer (Record.segment_answer d s p)).refusal s
  pub record_segments : (p w : ℕ) → PairOf (Records.counted_answer (Record.segments_answer d s p w)).refusal s
  pub free_total : PairOf (Room.total_answer (Runs.total_answer d s)).refusal s
  pub free_runs : (w : ℕ) → PairOf (Records.counted_answer (Runs.table_answer d s w)).refusal s
  pub run_count : PairOf (Records.counted_answer (Runs.runs_answer d s)).refusal s
  pub run_at : (k : ℕ) → PairOf (Room.run_answer (Runs.run_answer d s k)).refusal s
  pub first_fit : (m : ℕ) → PairOf (Room.run_answer (Runs.fit_answer d s m)).refusal s
  pub allocate : (k m w : ℕ) → PairOf (Room.allocation_answer (Allocation.allocate_answer d s k m w)).refusal s
  pub release : (p w : ℕ) → PairOf (Records.length_answer (Allocation.release_answer d s p w)).refusal s
  pub head-change : (c : Change) (w : ℕ) → PairOf (Records.length_answer (change_answer d s c w)).refusal s
  pub update_check : (f b : List ℕ) (t : Time) → PairOf (named (update_number f b t s) s) s
  pub update_plan : (f b : List ℕ) (t : Time) → PairOf (update_answer (Update.planned f b t s)).refusal s
  pub format : (f b p u : List ℕ) (t : Time) → PairOf (named (format_number f b d p u t s) s) s

abbrev pub Naming : Type 0
Naming = (d : Device) (s : List ℕ) → Pairs d s
