-- The values of an answer; its refusal number is `number_in` of it (`refusal`, Reasons).
use Rattle.std.specs.Prelude.{ℕ, List, [], ◌∷◌, Result, Ok, Err}
use Rattle.refusal.specs.declared.Reason.{Reason}
use Rattle.refusal.specs.Reasons.{number_in}
use Rattle.layout.specs.Answers.{side_number, area_number}
use Rattle.discovery.specs.declared.Found.{Found}

-- what was found: side, area, bytes, seconds, nanoseconds, and the other copy: 0 where both were accepted, else its refusal number
abbrev pub found_numbers : Found → List ℕ
found_numbers r =
    side_number r.finding.side
    ∷ area_number r.finding.area
    ∷ r.finding.bytes
    ∷ r.finding.seconds
    ∷ r.finding.nanoseconds
    ∷ number_in r.other
    ∷ []

-- what discovery answers
abbrev pub answer_values : Result Found Reason → List ℕ
answer_values (Ok r) = found_numbers r
answer_values (Err e) = []
