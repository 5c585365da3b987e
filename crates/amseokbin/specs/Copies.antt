-- What the calls on copies answer: one copy, also in pieces, discovery, in step.
use Rattle.std.specs.Prelude.{ℕ, ◌+◌, Bool, true, false, cond, List, eqb, Option, None, Some, Result, Ok, Err}
use Rattle.refusal.specs.Numbers.{slice_size}
use Rattle.refusal.specs.Refusals.{plain}
use Rattle.refusal.specs.declared.Reason.{Reason}
use Rattle.refusal.specs.Reasons.{refusal_of, number_in}
use Rattle.layout.specs.declared.Area.{Area}
use Rattle.layout.specs.declared.Area.TheVariants.{A, B}
use Rattle.layout.specs.Answers.{side_number, area_number}
use Rattle.block.specs.declared.BlockFields.{BlockFields}
use Rattle.block.specs.Block.{uuid_from, pool_of, blockdev_of}
use Rattle.copy.specs.declared.Present.{Present}
use Rattle.copy.specs.declared.CopyReading.{CopyReading}
use Rattle.copy.specs.Copy as Copy
use Rattle.receive.specs.declared.Received.{Received}
use Rattle.discovery.specs.declared.Found.{Found}
use Rattle.discovery.specs.Discovery.{sized, is_in_step, copy_on}
use Rattle.discovery.specs.Newest.{time_at}
use Rattle.amseokbin.specs.declared.Block.{Block}
use Rattle.amseokbin.specs.declared.CopyAnswer.{CopyAnswer}
use Rattle.amseokbin.specs.declared.ReceiveAnswer.{ReceiveAnswer}
use Rattle.amseokbin.specs.declared.FoundAnswer.{FoundAnswer}
use Rattle.amseokbin.specs.declared.StepAnswer.{StepAnswer}
use Rattle.amseokbin.specs.Answers.{no_block, block_of}

-- a present record: 0 for none, 1 for area a, 2 for area b
abbrev pub present_number : Option Present → ℕ
present_number None = 0
present_number (Some p) = 1 + area_number p.area

-- one copy
abbrev pub copy_answer : Result CopyReading Reason → CopyAnswer
copy_answer (Ok c) =
    record { refusal = plain 0; block = block_of c.block.fields c.block.pool c.block.blockdev; a = c.a; b = c.b; present = present_number c.present }
copy_answer (Err r) = record { refusal = refusal_of r; block = no_block; a = false; b = false; present = 0 }

-- a copy in pieces, from the state s on: the next state stands beside 0, and s beside a refusal
abbrev pub receive_answer : Received → Result Received Reason → ReceiveAnswer
receive_answer s (Ok t) = record { refusal = plain 0; received = t }
receive_answer s (Err r) = record { refusal = refusal_of r; received = s }

-- an area from C's number: 0 is a, anything else b
abbrev pub area_from : ℕ → Area
area_from n = cond (eqb n 0) A B

-- the block of a copy c, whose numbers are x
abbrev pub block_in : BlockFields → List ℕ → Block
block_in x c = block_of x (uuid_from (pool_of (Copy.block_in c))) (uuid_from (blockdev_of (Copy.block_in c)))

-- a found record, in a copy with the block k
abbrev pub found_of : Found → Block → FoundAnswer
found_of a k =
    record {
      refusal = plain 0;
      side = side_number a.finding.side;
      area = area_number a.finding.area;
      other = number_in a.other;
      bytes = a.finding.bytes;
      time = time_at a.finding;
      block = k;
    }

-- discovery's answer of the copies f and b
abbrev pub found_answer : Result Found Reason → List ℕ → List ℕ → FoundAnswer
found_answer (Ok a) f b = found_of a (block_in a.finding.fields (copy_on a.finding.side f b))
found_answer (Err r) f b =
    record { refusal = refusal_of r; side = 0; area = 0; other = 0; bytes = 0; time = record { seconds = 0; nanoseconds = 0 }; block = no_block }

-- whether two copies are in step: 1 for a slice that is no copy by its size
abbrev pub step_of : Bool → Bool → StepAnswer
step_of true step = record { refusal = plain 0; step = step }
step_of false step = record { refusal = plain slice_size; step = false }

abbrev pub step_answer : List ℕ → List ℕ → StepAnswer
step_answer f b = step_of (sized f b) (is_in_step f b)
