-- Pieces of the lines that the sample programs print, in ASCII.
use Rattle.std.specs.Prelude.{ℕ, ◌≡◌, cond, ◌&&◌, ◌⊎◌, List, [], ◌∷◌, ◌++◌, eqb, length}
use Rattle.io.specs.Digits.{last_digits}
use Rattle.refusal.specs.declared.Refusal.{Refusal}
use Rattle.text.specs.Decimal.{decimal}
use Rattle.text.specs.Text.{added}

-- a space and a number
unfoldable pub spaced_number : ℕ → List ℕ
spaced_number n = 32 ∷ decimal n

-- the last w hexadecimal digits of a number
unfoldable pub hex : ℕ → ℕ → List ℕ
hex w n = last_digits 16 w n

-- a space and a checksum
unfoldable pub spaced_sum : ℕ → List ℕ
spaced_sum c = 32 ∷ hex 8 c

-- what stands beside a refusal's number: nothing, or both numbers
unfoldable pub beside_piece : Refusal → List ℕ
beside_piece r = cond (eqb r.first 0 && eqb r.second 0) [] (spaced_number r.first ++ spaced_number r.second)

-- a text with a space and a number, and with what stands beside a refusal's number
unfoldable pub added_number : List ℕ → ℕ → List ℕ
added_number t n = added (added t (32 ∷ [])) (decimal n)

unfoldable pub added_beside : List ℕ → Refusal → List ℕ
added_beside t r = cond (eqb r.first 0 && eqb r.second 0) t (added_number (added_number t r.first) r.second)

-- the word, the number, and what stands beside it
abbrev pub refused_word : List ℕ
refused_word = 114 ∷ 101 ∷ 102 ∷ 117 ∷ 115 ∷ 101 ∷ 100 ∷ []

unfoldable pub refusal_piece : Refusal → List ℕ
refusal_piece r = refused_word ++ (spaced_number r.number ++ beside_piece r)

-- what printing answers: the length of what was to be printed, or 0
unfoldable pub Printed : List ℕ → ℕ → Type 0
Printed s r = (r ≡ length s) ⊎ (r ≡ 0)
