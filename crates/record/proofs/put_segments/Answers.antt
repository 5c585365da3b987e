-- `record::put_segments` meets its contract.
use Rattle.std.proofs.Common.{arith, sym, drop}
use Rattle.items.specs.Items.{segments_in}
use Rattle.items.proofs.Items.{length-segments}
use Rattle.record.proofs.Handing.{laid_none, handing-next}
use Rattle.record.proofs.put_segments.Goals as goal

pub loop-i-init : goal.loop-i-init
loop-i-init c = sym (laid_none (drop c.args.position (segments_in c.args.t.now)) c.args.table.now)

pub loop-i-preserved : goal.loop-i-preserved
loop-i-preserved c =
    rw c.segment_in-g.ensures
    (handing-next (segments_in c.args.t.now) c.args.position c.loop-i.i c.args.table.now c.loop-i.table (omega (arith, c.requires.0)) (omega (arith, c.requires.1)) c.loop-i.invariant)

pub overflow_add-position : goal.overflow_add-position
overflow_add-position c = omega (arith, c.requires.0, length-segments c.args.t.now)
