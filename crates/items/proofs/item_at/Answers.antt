-- `items::item_at` meets its contract.
use Rattle.std.proofs.Common.{◌*◌}
use Rattle.endian.proofs.Parts.{window-part}
use Rattle.items.specs.Head.{item_bytes}
use Rattle.items.proofs.item_at.Goals as goal

pub returns : goal.returns
returns c = window-part c.args.t.now (item_bytes * c.args.i) item_bytes
