-- `items::items_right` meets its contract: what was passed is right.
use Rattle.std.proofs.Common.{◌≡◌, true}
use Rattle.search.specs.Search.{every}
use Rattle.items.specs.Items.{item_right}
use Rattle.items.proofs.items_right.Given as goal

abbrev pub invariant-loop-i : goal.invariant-loop-i
invariant-loop-i l = every (item_right l.h l.t) l.i ≡ true
