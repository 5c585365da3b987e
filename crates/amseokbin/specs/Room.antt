-- What the calls on free room answer.
use Rattle.std.specs.Prelude.{ℕ, Result, Ok, Err}
use Rattle.refusal.specs.declared.Reason.{Reason}
use Rattle.refusal.specs.Refusals.{plain}
use Rattle.refusal.specs.Reasons.{refusal_of}
use Rattle.runs.specs.declared.Run.{Run}
use Rattle.allocation.specs.declared.Allocation.{Allocation}
use Rattle.amseokbin.specs.declared.TotalAnswer.{TotalAnswer}
use Rattle.amseokbin.specs.declared.RunAnswer.{RunAnswer}
use Rattle.amseokbin.specs.declared.AllocationAnswer.{AllocationAnswer}

abbrev pub total_answer : Result ℕ Reason → TotalAnswer
total_answer (Ok k) = record { refusal = plain 0; sectors = k }
total_answer (Err r) = record { refusal = refusal_of r; sectors = 0 }

abbrev pub run_answer : Result Run Reason → RunAnswer
run_answer (Ok x) = record { refusal = plain 0; run = x }
run_answer (Err r) = record { refusal = refusal_of r; run = record { start = 0; sectors = 0 } }

abbrev pub allocation_answer : Result Allocation Reason → AllocationAnswer
allocation_answer (Ok p) = record { refusal = plain 0; start = p.start; length = p.length }
allocation_answer (Err r) = record { refusal = refusal_of r; start = 0; length = 0 }
