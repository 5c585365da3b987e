-- `calendar::walk` meets its contract: the days left, from the place that is reached on, fall where all do.
use Rattle.std.proofs.Common.{arith}
use Rattle.calendar.proofs.Walks.{turn, stop, end}
use Rattle.calendar.proofs.walk.Goals as goal

pub returns-then-rest-n : goal.returns-then-rest-n
returns-then-rest-n g c = stop g.f c.args.end c.loop-at.at c.loop-at.rest _ _ c.loop-at.invariant (c.requires.1.1.1 _ _ c.length-n.ensures) c.if-rest-n.true

pub loop-at-preserved : goal.loop-at-preserved
loop-at-preserved g c = turn g.f c.args.end c.loop-at.at c.loop-at.rest _ _ c.loop-at-test.true c.loop-at.invariant (c.requires.1.1.1 _ _ c.length-n.ensures) c.if-rest-n.false

pub returns : goal.returns
returns g c = end g.f c.args.end c.loop-at.at c.loop-at.rest _ (omega arith) c.loop-at.invariant
