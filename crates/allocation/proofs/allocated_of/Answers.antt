-- `allocation::allocated_of` meets its contract: what is passed and what is left is the whole.
use Rattle.std.proofs.Common.{ap, arith}
use Rattle.segments.specs.declared.Segment.{Segment}
use Rattle.items.specs.Items.{segments_in}
use Rattle.allocation.proofs.Calls.{allocated-drop, allocated-end}
use Rattle.allocation.proofs.allocated_of.Goals as goal

pub overflow_add-sum : goal.overflow_add-sum
overflow_add-sum c =
    record { fits = omega (arith, c.requires, c.loop-i.invariant, ap (λ (g : Segment). g.sectors) c.segment_in-sum.ensures, allocated-drop (segments_in c.args.t.now) c.loop-i.i (omega arith)) }

pub loop-i-preserved : goal.loop-i-preserved
loop-i-preserved c = omega (arith, c.loop-i.invariant, ap (λ (g : Segment). g.sectors) c.segment_in-sum.ensures, allocated-drop (segments_in c.args.t.now) c.loop-i.i (omega arith))

pub returns : goal.returns
returns c = omega (arith, c.loop-i.invariant, allocated-end (segments_in c.args.t.now) c.loop-i.i (omega arith))
