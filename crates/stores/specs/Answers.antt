-- The values of an answer that gives one number; its refusal is that of `refusal.specs.Reasons`.
use Rattle.std.specs.Prelude.{ℕ, List, [], ◌∷◌, Result, Ok, Err}
use Rattle.refusal.specs.declared.Reason.{Reason}

-- a store: its sector
abbrev pub given_values : Result ℕ Reason → List ℕ
given_values (Ok n) = n ∷ []
given_values (Err e) = []
