-- The gaps of segments that follow one another in a range.
use Rattle.std.specs.Prelude.{ℕ, cond, List, [], ◌∷◌, ltb}
use Rattle.segments.specs.declared.Segment.{Segment}
use Rattle.segments.specs.Segments.{end_of}
use Rattle.runs.specs.declared.Run.{Run}
use Rattle.runs.specs.Runs.{run_to}

-- the sectors from a up to b as a run, where there are any, before other runs
unfoldable pub gap : ℕ → ℕ → List Run → List Run
gap a b rs = cond (ltb a b) (run_to a b ∷ rs) rs

-- what a list of segments leaves of the sectors from a up to e
unfoldable pub gaps : ℕ → ℕ → List Segment → List Run
gaps a e [] = gap a e []
gaps a e (g ∷ gs) = gap a g.start (gaps (end_of g) e gs)
