-- The values of an answer; its refusal number is `number_in` of it (`refusal`, Reasons).
use Rattle.std.specs.Prelude.{ℕ, List, [], ◌∷◌, Option, Some, None, Result, Ok, Err}
use Rattle.refusal.specs.declared.Reason.{Reason}
use Rattle.mend.specs.declared.Rewrite.{Rewrite}
use Rattle.mend.specs.Plan.{stores_in}

-- a mend worked out: how many stores it has, none where the copies are in step
abbrev pub mending_values : Result (Option Rewrite) Reason → List ℕ
mending_values (Ok None) = 0 ∷ []
mending_values (Ok (Some p)) = stores_in (Ok (Some p)) ∷ []
mending_values (Err r) = []
