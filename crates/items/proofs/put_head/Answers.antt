-- `items::put_head` meets its contract.
use Rattle.std.proofs.Common.{sym, arith}
use Rattle.items.proofs.Making.{head-short}
use Rattle.items.proofs.put_head.Goals as goal

pub returns-then-out-head_size-clause-out_after : goal.returns-then-out-head_size-clause-out_after
returns-then-out-head_size-clause-out_after c = sym (head-short c.args.out.now c.args.h (omega (arith, c.head_size.ensures)))
