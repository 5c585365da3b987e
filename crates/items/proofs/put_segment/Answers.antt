-- `items::put_segment` meets its contract.
use Rattle.std.proofs.Common.{sym, arith}
use Rattle.items.proofs.Making.{put-short, segment-written}
use Rattle.items.proofs.put_segment.Goals as goal

pub returns-then-out-at-clause-out_after : goal.returns-then-out-at-clause-out_after
returns-then-out-at-clause-out_after c = sym (put-short c.args.out.now c.args.at c.args.g (omega arith))

pub returns-clause-out_after : goal.returns-clause-out_after
returns-clause-out_after c =
    rw (c.write_u64-2.ensures.s_after, c.write_u64.ensures.s_after, c.write_u16-2.ensures.s_after, c.write_u16.ensures.s_after)
    (segment-written c.args.out.now c.args.at c.args.g (omega arith))
