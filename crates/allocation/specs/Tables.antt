-- Tables of runs.
use Rattle.std.specs.Prelude.{ℕ, List, [], ◌∷◌}
use Rattle.runs.specs.declared.Run.{Run}

-- runs as plain numbers: a start and a length for each
unfoldable pub numbers_of : List Run → List ℕ
numbers_of [] = []
numbers_of (r ∷ rs) = r.start ∷ r.sectors ∷ numbers_of rs
