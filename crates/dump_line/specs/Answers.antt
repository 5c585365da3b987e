-- The numbers of an answer: the refusal number, 0 for none, and the values of each case.
use Rattle.std.specs.Prelude.{ℕ, List, [], ◌∷◌, Result, Ok, Err}
use Rattle.refusal.specs.declared.Reason.{Reason}

-- a line that was written: its length
abbrev pub written_values : Result ℕ Reason → List ℕ
written_values (Ok k) = k ∷ []
written_values (Err r) = []
