-- The line that the dump program prints: docs/FORMAT.md, "The dump's line". Words are ASCII bytes.
use Rattle.std.specs.Prelude.{ℕ, Result, Ok, Err, cond, length, take, drop}
use mathlib.Core.List.{List, [], ◌∷◌, flatten}
use Rattle.endian.specs.Bytes.{fits}
use Rattle.layout.specs.Places.{copy_bytes}
use Rattle.layout.specs.declared.Side.{Side}
use Rattle.layout.specs.declared.Side.TheVariants.{Front, Back}
use Rattle.layout.specs.declared.Area.{Area}
use Rattle.layout.specs.declared.Area.TheVariants.{A, B}
use Rattle.block.specs.declared.BlockFields.{BlockFields}
use Rattle.refusal.specs.declared.Reason.{Reason}
use Rattle.refusal.specs.Numbers.{slice_size}
use Rattle.refusal.specs.Reasons.{refusal_of, reason}
use Rattle.discovery.specs.declared.Found.{Found}
use Rattle.discovery.specs.Discovery.{discovery}
use Rattle.text.specs.Decimal.{decimal}

-- "front " or "back "
abbrev pub side_word : Side → List ℕ
side_word Front = 102 ∷ 114 ∷ 111 ∷ 110 ∷ 116 ∷ 32 ∷ []
side_word Back = 98 ∷ 97 ∷ 99 ∷ 107 ∷ 32 ∷ []

-- "a " or "b "
abbrev pub area_word : Area → List ℕ
area_word A = 97 ∷ 32 ∷ []
area_word B = 98 ∷ 32 ∷ []

-- "both", or the other copy's refusal number
abbrev pub other_word : Result BlockFields Reason → List ℕ
other_word (Ok g) = 98 ∷ 111 ∷ 116 ∷ 104 ∷ []
other_word (Err e) = decimal (refusal_of e).number

-- "found ", "refused ", a space, and the line's end
abbrev pub found_word : List ℕ
found_word = 102 ∷ 111 ∷ 117 ∷ 110 ∷ 100 ∷ 32 ∷ []

abbrev pub refused_word : List ℕ
refused_word = 114 ∷ 101 ∷ 102 ∷ 117 ∷ 115 ∷ 101 ∷ 100 ∷ 32 ∷ []

abbrev pub space : List ℕ
space = 32 ∷ []

abbrev pub newline : List ℕ
newline = 10 ∷ []

-- the line's pieces: the refusal's number; or copy, area, length, seconds, nanoseconds, and the other copy
abbrev pub pieces : Result Found Reason → List (List ℕ)
pieces (Err e) = refused_word ∷ decimal (refusal_of e).number ∷ newline ∷ []
pieces (Ok a) =
    found_word ∷ side_word a.finding.side ∷ area_word a.finding.area ∷ decimal a.finding.bytes ∷ space ∷ decimal a.finding.seconds ∷ space
    ∷ decimal a.finding.nanoseconds ∷ space ∷ other_word a.other ∷ newline ∷ []

-- the line for an answer of discovery
unfoldable pub line_of : Result Found Reason → List ℕ
line_of a = flatten (pieces a)

-- the line for a dump: the front copy's bytes, and the rest as the back's
abbrev pub dump_line : List ℕ → List ℕ
dump_line d = line_of (discovery (take copy_bytes d) (drop copy_bytes d))

-- room for every line
abbrev pub line_bytes : ℕ
line_bytes = 128

-- what a call that writes the line v to the start of out answers: its length, or none where it does not fit
unfoldable pub written_of : List ℕ → List ℕ → Result ℕ Reason
written_of out v = cond (fits out 0 (length v)) (Ok (length v)) (Err (reason slice_size))
