-- `format::fill` meets its contract.
use Rattle.format.proofs.Filling.{copy-filled}
use Rattle.format.proofs.fill.Goals as goal

pub returns : goal.returns
returns c = copy-filled c.args.c.now c.requires _ c.clear.ensures c.args.pool.now c.args.blockdev.now c.args.x c.args.r.now _ _ c.write.ensures.out_after c.lay.ensures.c_after
