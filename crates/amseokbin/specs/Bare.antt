-- No 19 without its pair. A call that takes a record to check answers `named n s`, which has the pair of positions beside 19. Every other
-- call of the header that can refuse answers a bare number; `proofs/Bare.antt` proves that of those calls none ever gives 19, and that
-- nothing stands beside the number of any.
use Rattle.std.specs.Prelude.{ℕ, ◌≡◌, List, length}
use Rattle.refusal.specs.Numbers.{segment_clash}
use Rattle.refusal.specs.declared.Refusal.{Refusal}
use Rattle.refusal.specs.Tests.{first}
use Rattle.refusal.specs.Refusals.{plain}
use Rattle.layout.specs.declared.Device.{Device}
use Rattle.layout.specs.Places.{located, blocks_located}
use Rattle.block.specs.Block.{reading}
use Rattle.block.specs.Writing.{write_tests}
use Rattle.copy.specs.Copy.{copy_reading}
use Rattle.receive.specs.declared.Received.{Received}
use Rattle.receive.specs.Receive.{taking, ending}
use Rattle.discovery.specs.Discovery.{discovery, read_answer}
use Rattle.items.specs.declared.Head.TheVariants.{Plain, Marked}
use Rattle.items.specs.Making as Making
use Rattle.items.specs.Making.{begin_tests}
use Rattle.sectors.specs.Apply.{apply_tests}
use Rattle.stores.specs.Given.{lay_tests}
use Rattle.update.specs.Plan as Update
use Rattle.mend.specs.Plan as Mend
use Rattle.format.specs.Writing as Format
use Rattle.amseokbin.specs.declared.Block.{Block}
use Rattle.amseokbin.specs.declared.UpdatePlan.{UpdatePlan}
use Rattle.amseokbin.specs.declared.MendPlan.{MendPlan}
use Rattle.amseokbin.specs.Answers.{blocks_answer, places_answer, block_answer, fields_from}
use Rattle.amseokbin.specs.Copies.{copy_answer, receive_answer, found_answer, step_answer}
use Rattle.amseokbin.specs.Records.{length_answer}
use Rattle.amseokbin.specs.Plans.{store_answer, update_from, mend_from, mend_answer}

-- a number that is not 19
abbrev pub Other19 : ℕ → Type 0
Other19 n = n ≡ segment_clash → ⊥

-- a refusal whose number is not 19, with nothing beside it
abbrev pub NoClash : Refusal → Type 0
NoClash r = Other19 r.number × (r ≡ plain r.number)

-- Whatever a call is handed, slices of any size, numbers that no device has, plans that a caller made up: the number of its refusal is not 19.
-- Call by call, each answer as the call's contract has it. What discovery says of the other copy, 0 or its refusal number, is not 19 either.
pub record Bare : Type 0 where
  pub locate_blocks : (s : ℕ) → NoClash (blocks_answer (blocks_located s)).refusal
  pub places : (d : Device) → NoClash (places_answer (located d)).refusal
  pub block_read : (s : List ℕ) → NoClash (block_answer (reading s)).refusal
  pub block_write : (k : Block) (out : List ℕ) → NoClash (plain (first (write_tests out k.pool k.blockdev (fields_from k))))
  pub copy_read : (c : List ℕ) → NoClash (copy_answer (copy_reading c)).refusal
  pub receive_piece : (s : Received) (p : List ℕ) → NoClash (receive_answer s (taking s p)).refusal
  pub receive_end : (s : Received) → NoClash (copy_answer (ending s)).refusal
  pub discover : (f b : List ℕ) → NoClash (found_answer (discovery f b) f b).refusal
  pub discover_other : (f b : List ℕ) → Other19 (found_answer (discovery f b) f b).other
  pub read_found : (f b out : List ℕ) → NoClash (found_answer (read_answer (discovery f b) (length out)) f b).refusal
  pub read_found_other : (f b out : List ℕ) → Other19 (found_answer (read_answer (discovery f b) (length out)) f b).other
  pub in_step : (f b : List ℕ) → NoClash (step_answer f b).refusal
  pub apply : (d : Device) (content f b : List ℕ) → NoClash (plain (first (apply_tests d content f b)))
  pub lay : (c r : List ℕ) → NoClash (plain (first (lay_tests c r)))
  pub record_begin : (out : List ℕ) (size : ℕ) → NoClash (plain (first (begin_tests out (Plain size))))
  pub record_begin_marked : (out : List ℕ) (size mark : ℕ) → NoClash (plain (first (begin_tests out (Marked size mark))))
  pub record_put : (out : List ℕ) (i : ℕ) → NoClash (length_answer (Making.put_answer out i)).refusal
  pub update_store : (p : UpdatePlan) (f b r : List ℕ) (i : ℕ) (out : List ℕ)
      → NoClash (store_answer (Update.store_answer (update_from p) f b r i out) (Update.flush_after (update_from p) i)).refusal
  pub mend_plan : (f b : List ℕ) → NoClash (mend_answer (Mend.mending f b)).refusal
  pub mend_store : (p : MendPlan) (f b : List ℕ) (i : ℕ) (out : List ℕ)
      → NoClash (store_answer (Mend.store_answer (mend_from p) f b i out) (Mend.flush_after (mend_from p) i)).refusal
  pub format_store : (d : Device) (f b : List ℕ) (i : ℕ) (out : List ℕ)
      → NoClash (store_answer (Format.store_answer d f b i out) (Format.flush_after i)).refusal
