-- `items::items_right` meets its contract: what was passed is right.
use Rattle.std.proofs.Common.{ℕ, List, length, not, ap, arith}
use Rattle.search.proofs.Search.{every-zero, every-step, every_stop}
use Rattle.items.specs.Items.{segments_in, item_right}
use Rattle.items.proofs.Items.{length-segments}
use Rattle.items.proofs.items_right.Goals as goal

pub loop-i-init : goal.loop-i-init
loop-i-init c = every-zero (item_right c.args.h c.args.t.now)

pub item_right-requires : goal.item_right-requires
item_right-requires c = omega (arith, length-segments c.args.t.now)

pub returns-then-not-item_right : goal.returns-then-not-item_right
returns-then-not-item_right c =
    let t : List ℕ = c.args.t.now in
    every_stop (item_right c.args.h t) c.loop-i.i c.count_in-i-end.result (length (segments_in t))
    c.item_right.result c.loop-i-test.true c.count_in-i-end.ensures c.item_right.ensures (ap not c.if-not-item_right.true)

pub loop-i-preserved : goal.loop-i-preserved
loop-i-preserved c = every-step (item_right c.args.h c.args.t.now) c.loop-i.i c.item_right.result c.loop-i.invariant c.item_right.ensures (ap not c.if-not-item_right.false)
