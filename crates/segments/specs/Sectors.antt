-- Which sectors a list of segments holds, and which of a range are free.
use Rattle.std.specs.Prelude.{ℕ, ◌+◌, ◌<◌, ◌≡◌, Bool, true, ◌&&◌, List, [], ◌∷◌, eqb, length}
use Rattle.search.specs.Search.{total, within, one}
use Rattle.segments.specs.declared.Segment.{Segment}
use Rattle.segments.specs.declared.Range.{Range}
use Rattle.segments.specs.Segments.{nth, holds}

-- in how many of the segments the sector x is
unfoldable pub held_by : List Segment → ℕ → ℕ
held_by [] x = 0
held_by (g ∷ gs) x = one (holds g x) + held_by gs x

-- x is a sector of the range in no segment
unfoldable pub is_free : Range → List Segment → ℕ → Bool
is_free r gs x = within r.start r.end x && eqb (held_by gs x) 0

-- allocated sectors
unfoldable pub allocated : List Segment → ℕ
allocated [] = 0
allocated (g ∷ gs) = g.sectors + allocated gs

-- free sectors, counted as sectors of the range in no segment
unfoldable pub free_sectors : Range → List Segment → ℕ
free_sectors r gs = total (λ x. one (is_free r gs x)) r.end

-- the one segment that holds x
pub record Holder (gs : List Segment) (x : ℕ) : Type 0 where
  pub at : ℕ
  pub there : at < length gs
  pub has : holds (nth gs at) x ≡ true
  pub only : (j : ℕ) → j < length gs → holds (nth gs j) x ≡ true → j ≡ at
