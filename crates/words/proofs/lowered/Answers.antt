-- `words::lowered` meets its contract: what is passed is small, and the rest as it was.
use Rattle.std.proofs.Common.{arith}
use Rattle.words.proofs.Words.{lower_next, lower-done}
use Rattle.words.proofs.lowered.Goals as goal

pub loop-c-preserved : goal.loop-c-preserved
loop-c-preserved c = lower_next c.args.d c.loop-c.c-items c.loop-c.c-index _ (omega arith) c.lower.ensures c.loop-c.invariant

pub returns : goal.returns
returns c = lower-done c.args.d _ c.loop-c.c-index (omega arith) c.loop-c.invariant
