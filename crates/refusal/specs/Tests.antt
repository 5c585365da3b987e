-- A call's tests in order, each with the number that is given where it fails.
use Rattle.std.specs.Prelude.{ℕ, ◌<◌, ◌≡◌, ◌⊎◌, Bool, true, false, cond, List, [], ◌∷◌}

pub record Test : Type 0 where
  pub holds : Bool
  pub otherwise : ℕ

-- a test and its number
abbrev pub ◌else_refuse◌ : Bool → ℕ → Test
b else_refuse n = record { holds = b; otherwise = n }

infix 4 ◌else_refuse◌
-- the number of the first test that fails; 0 where all hold
unfoldable pub first : List Test → ℕ
first [] = 0
first (t ∷ ts) = cond t.holds (first ts) t.otherwise

-- all tests hold
abbrev pub AllHold : List Test → Type 0
AllHold [] = Unit {0}
AllHold (t ∷ ts) = (t.holds ≡ true) × AllHold ts

-- a test with number n fails
abbrev pub Fails : List Test → ℕ → Type 0
Fails [] n = ⊥
Fails (t ∷ ts) n = ((t.holds ≡ false) × (t.otherwise ≡ n)) ⊎ Fails ts n

-- the numbers are above m and ascend
abbrev pub Ascending : ℕ → List Test → Type 0
Ascending m [] = Unit {0}
Ascending m (t ∷ ts) = (m < t.otherwise) × Ascending t.otherwise ts
