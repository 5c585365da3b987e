-- Two segments of a list that share a sector.
use Rattle.std.specs.Prelude.{ℕ, Bool, ◌&&◌, List, leb, ltb, length}
use Rattle.search.specs.Search.{least}
use Rattle.segments.specs.declared.Segment.{Segment}
use Rattle.segments.specs.Segments.{nth, meets}

-- the segment at j comes after the one at i and shares a sector with it
unfoldable pub clashes_at : List Segment → ℕ → ℕ → Bool
clashes_at gs i j = ltb i j && meets (nth gs i) (nth gs j)

-- the lowest position after i that clashes with i; the number of segments where none does
unfoldable pub later_of : List Segment → ℕ → ℕ
later_of gs i = least (clashes_at gs i) (length gs)

-- the segment at i clashes with a later one
abbrev pub clashes_later : List Segment → ℕ → Bool
clashes_later gs i = ltb (later_of gs i) (length gs)

-- the lowest position that clashes with a later one; the number of segments where none does
unfoldable pub earlier_of : List Segment → ℕ
earlier_of gs = least (clashes_later gs) (length gs)

-- no two segments share a sector
unfoldable pub apart : List Segment → Bool
apart gs = leb (length gs) (earlier_of gs)
