-- Plans of updates and mends as C keeps them between its calls, and stores. Every value of C's structs is a plan.
use Rattle.std.specs.Prelude.{ℕ, Bool, false, not, cond, eqb, Option, None, Some, Result, Ok, Err}
use Rattle.search.specs.Search.{one}
use Rattle.refusal.specs.Refusals.{plain}
use Rattle.refusal.specs.declared.Reason.{Reason}
use Rattle.refusal.specs.Reasons.{refusal_of}
use Rattle.layout.specs.declared.Side.{Side}
use Rattle.layout.specs.declared.Side.TheVariants.{Front, Back}
use Rattle.layout.specs.Answers.{side_number, area_number}
use Rattle.update.specs.declared.Plan.{Plan}
use Rattle.mend.specs.declared.Rewrite.{Rewrite}
use Rattle.amseokbin.specs.declared.StoreAnswer.{StoreAnswer}
use Rattle.amseokbin.specs.declared.UpdatePlan.{UpdatePlan}
use Rattle.amseokbin.specs.declared.UpdateAnswer.{UpdateAnswer}
use Rattle.amseokbin.specs.declared.MendPlan.{MendPlan}
use Rattle.amseokbin.specs.declared.MendAnswer.{MendAnswer}
use Rattle.amseokbin.specs.Answers.{no_entry}
use Rattle.amseokbin.specs.Copies.{area_from}

-- a store, and whether a flush belongs after it
abbrev pub store_answer : Result ℕ Reason → Bool → StoreAnswer
store_answer (Ok s) flush = record { refusal = plain 0; sector = s; flush = flush }
store_answer (Err r) flush = record { refusal = refusal_of r; sector = 0; flush = false }

-- an update's plan, to C and from C
abbrev pub update_of : Plan → UpdatePlan
update_of p = record { entry = p.entry; front = area_number p.front; back = area_number p.back }

abbrev pub update_from : UpdatePlan → Plan
update_from p = record { entry = p.entry; front = area_from p.front; back = area_from p.back }

abbrev pub no_update : UpdatePlan
no_update = record { entry = no_entry; front = 0; back = 0 }

abbrev pub update_answer : Result Plan Reason → UpdateAnswer
update_answer (Ok p) = record { refusal = plain 0; plan = update_of p }
update_answer (Err r) = record { refusal = refusal_of r; plan = no_update }

-- a mend's plan, to C and from C: all zero where there is nothing to store
abbrev pub side_from : ℕ → Side
side_from n = cond (eqb n 0) Front Back

abbrev pub rewrite_told : Rewrite → MendPlan
rewrite_told p = record { bytes = p.bytes; needed = 1; kept = side_number p.kept; area = area_number p.area; last = one p.last }

abbrev pub rewrite_from : MendPlan → Rewrite
rewrite_from p = record { kept = side_from p.kept; area = area_from p.area; bytes = p.bytes; last = not (eqb p.last 0) }

abbrev pub mend_from : MendPlan → Result (Option Rewrite) Reason
mend_from p = cond (eqb p.needed 0) (Ok None) (Ok (Some (rewrite_from p)))

abbrev pub no_mend : MendPlan
no_mend = record { bytes = 0; needed = 0; kept = 0; area = 0; last = 0 }

abbrev pub mend_answer : Result (Option Rewrite) Reason → MendAnswer
mend_answer (Ok None) = record { refusal = plain 0; plan = no_mend }
mend_answer (Ok (Some p)) = record { refusal = plain 0; plan = rewrite_told p }
mend_answer (Err r) = record { refusal = refusal_of r; plan = no_mend }
