-- `record::all_in_range` meets its contract: what was passed lies in its range.
use Rattle.std.proofs.Common.{◌≡◌, ℕ, not, ap, length, List}
use Rattle.search.proofs.Search.{every-zero, every-step, every_stop}
use Rattle.segments.specs.declared.Segment.{Segment}
use Rattle.items.specs.Items.{segments_in}
use Rattle.record.specs.Accept.{range_at, all_in_range}
use Rattle.record.proofs.all_in_range.Goals as goal

pub loop-i-init : goal.loop-i-init
loop-i-init c = every-zero (range_at c.args.d c.args.h (segments_in c.args.t.now))

pub returns-then-not-in_range : goal.returns-then-not-in_range
unfolding all_in_range
returns-then-not-in_range c =
    let gs : List Segment = segments_in c.args.t.now in
    let i : ℕ = c.loop-i.i in
    let e : c.in_range.result ≡ range_at c.args.d c.args.h gs i = rw (← c.segment_in-g.ensures, ← c.range_for.ensures) c.in_range.ensures in
    every_stop (range_at c.args.d c.args.h gs) i c.count_in-i-end.result (length gs) c.in_range.result c.loop-i-test.true c.count_in-i-end.ensures e (ap not c.if-not-in_range.true)

pub loop-i-preserved : goal.loop-i-preserved
loop-i-preserved c =
    let gs : List Segment = segments_in c.args.t.now in
    let i : ℕ = c.loop-i.i in
    let e : c.in_range.result ≡ range_at c.args.d c.args.h gs i = rw (← c.segment_in-g.ensures, ← c.range_for.ensures) c.in_range.ensures in
    every-step (range_at c.args.d c.args.h gs) i c.in_range.result c.loop-i.invariant e (ap not c.if-not-in_range.false)
