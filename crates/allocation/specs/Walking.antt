-- How the free runs are found: the gaps between the segments at positions p, in their order. Private contracts cite this; nothing
-- public does.
use Rattle.std.specs.Prelude.{ℕ, List, cond, ltb, length, take, Option, Some, None}
use Rattle.segments.specs.declared.Segment.{Segment}
use Rattle.segments.specs.declared.Range.{Range}
use Rattle.segments.specs.Segments.{end_of}
use Rattle.segments.specs.Order.{picked_at}
use Rattle.items.specs.Items.{segments_in, segments}
use Rattle.runs.specs.declared.Run.{Run}
use Rattle.runs.specs.Runs.{run_to, fit_of, fitting}
use Rattle.runs.specs.Gaps.{gaps}
use Rattle.allocation.specs.declared.walk.Gaps.{Gaps}

-- the gaps that the segments at positions p leave in a range
abbrev pub walked : Range → List Segment → List ℕ → List Run
walked r gs p = gaps r.start r.end (picked_at gs p)

-- of positions p the first, as many as a record has segments
abbrev pub meant : List ℕ → List ℕ → List ℕ
meant s p = take (length (segments s)) p

-- the gap from sector a up to sector b
abbrev pub gap_to : ℕ → ℕ → Option Run
gap_to a b = cond (ltb a b) (Some (run_to a b)) None

-- what is left of them
abbrev pub left : Gaps → List Run
left g = gaps (end_of g.last) g.end (picked_at (segments_in g.t.now) g.at.now)

-- the first of them that has m sectors or more
abbrev pub fit_in : ℕ → List Run → Option Run
fit_in m rs = cond (fitting m rs) (Some (fit_of m rs)) None
