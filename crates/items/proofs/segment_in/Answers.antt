-- `items::segment_in` meets its contract.
use Rattle.std.proofs.Common.{arith, ap, sym, ◌∙◌, ◌<◌, ◌/◌, length}
use Rattle.items.proofs.Items.{length-segments, nth-segments}
use Rattle.items.specs.Head.{item_bytes}
use Rattle.items.specs.Items.{segment_of}
use Rattle.items.proofs.segment_in.Goals as goal

pub item_at-requires : goal.item_at-requires
item_at-requires c = omega (arith, length-segments c.args.t.now)

pub returns-then-i-count_in : goal.returns-then-i-count_in
returns-then-i-count_in c =
    let l : c.args.i < length c.args.t.now / item_bytes = omega (arith, length-segments c.args.t.now) in
    c.segment_of.ensures ∙ (ap segment_of c.item_at.ensures ∙ sym (nth-segments c.args.t.now c.args.i l))
