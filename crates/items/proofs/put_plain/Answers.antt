-- `items::put_plain` meets its contract.
use Rattle.items.proofs.Making.{plain-written}
use Rattle.items.proofs.put_plain.Goals as goal

pub returns : goal.returns
returns c = rw (c.write_u32.ensures.s_after, c.write_u16-2.ensures.s_after, c.write_u16.ensures.s_after) (plain-written c.args.out.now c.args.size c.requires)
