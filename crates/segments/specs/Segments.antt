-- A segment, alone and beside another.
use Rattle.std.specs.Prelude.{ℕ, ◌+◌, ◌≤◌, max, Bool, ◌&&◌, List, leb, get_or}
use Rattle.search.specs.Search.{within}
use Rattle.segments.specs.declared.Segment.{Segment}
use Rattle.segments.specs.declared.Range.{Range}

-- what stands for no segment
abbrev pub none : Segment
none = record { kind = 0; start = 0; sectors = 0 }

-- the segment at position i of a list, counted from 0
abbrev pub nth : List Segment → ℕ → Segment
nth gs i = get_or gs i none

-- the sector after its last
abbrev pub end_of : Segment → ℕ
end_of g = g.start + g.sectors

-- the sector x is one of g's
unfoldable pub holds : Segment → ℕ → Bool
holds g x = within g.start (end_of g) x

-- two segments share a sector: the later of their starts is in both
unfoldable pub meets : Segment → Segment → Bool
meets a b = holds a (max a.start b.start) && holds b (max a.start b.start)

-- a segment is not empty and lies wholly in a range
unfoldable pub in_range : Range → Segment → Bool
in_range r g = leb r.start g.start && (leb 1 g.sectors && leb (end_of g) r.end)

-- the same in words of numbers
pub record InRange (r : Range) (g : Segment) : Type 0 where
  pub low : r.start ≤ g.start
  pub some : 1 ≤ g.sectors
  pub high : end_of g ≤ r.end
