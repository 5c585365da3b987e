-- The numbers of an answer: the refusal number, 0 for none, and the values of each case.
use Rattle.std.specs.Prelude.{ℕ, List, [], ◌∷◌, Option, Some, None, Result}
use Rattle.refusal.specs.declared.Reason.{Reason}
use Rattle.refusal.specs.Reasons.{number_in}
use Rattle.layout.specs.Answers.{area_number}
use Rattle.copy.specs.declared.Present.{Present}
use Rattle.copy.specs.declared.CopyReading.{CopyReading}

-- a present record: its area, and what its entry says
abbrev pub present_values : Option Present → List ℕ
present_values None = []
present_values (Some p) =
    area_number p.area ∷ p.holding.seconds ∷ p.holding.nanoseconds ∷ p.holding.bytes ∷ p.holding.checksum ∷ []

-- what reading a copy answers
abbrev pub copy_number : Result CopyReading Reason → ℕ
copy_number a = number_in a
