-- `items::count_in` meets its contract.
use Rattle.std.proofs.Common.{sym}
use Rattle.items.proofs.Items.{length-segments}
use Rattle.items.proofs.count_in.Goals as goal

pub returns : goal.returns
returns c = sym (length-segments c.args.t.now)
