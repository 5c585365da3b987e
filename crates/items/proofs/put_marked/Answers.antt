-- `items::put_marked` meets its contract.
use Rattle.items.proofs.Making.{marked_written}
use Rattle.items.proofs.put_marked.Goals as goal

pub returns : goal.returns
returns c =
    rw (c.write_u32-2.ensures.s_after, c.write_u32.ensures.s_after, c.write_u16-2.ensures.s_after, c.write_u16.ensures.s_after)
    (marked_written c.args.out.now c.args.size c.args.mark c.requires)
