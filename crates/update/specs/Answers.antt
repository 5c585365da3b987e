-- The values of an answer; its refusal is that of `refusal.specs.Reasons`.
use Rattle.std.specs.Prelude.{ℕ, List, [], ◌∷◌, Result, Ok, Err}
use Rattle.refusal.specs.declared.Reason.{Reason}
use Rattle.update.specs.declared.Plan.{Plan}
use Rattle.update.specs.Plan.{stores_in}

-- an update worked out: how many stores it has
abbrev pub planned_values : Result Plan Reason → List ℕ
planned_values (Ok p) = stores_in p ∷ []
planned_values (Err e) = []
