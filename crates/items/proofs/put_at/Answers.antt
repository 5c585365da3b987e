-- `items::put_at` meets its contract.
use Rattle.std.proofs.Common.{◌∙◌, sym}
use Rattle.items.specs.Head.{item_bytes}
use Rattle.items.proofs.Making.{no_room, put_kept}
use Rattle.items.proofs.put_at.Goals as goal

pub returns-in_err-put_segment-clause-out_after : goal.returns-in_err-put_segment-clause-out_after
returns-in_err-put_segment-clause-out_after c =
    c.put_segment.ensures.out_after
    ∙ put_kept c.args.out.now c.args.i c.args.g (sym c.begins.ensures ∙ c.if-not-begins.false) c.place_in-at.result c.place_in-at.ensures
    (no_room c.args.out.now c.place_in-at.result item_bytes _ (sym c.put_segment.ensures.value ∙ c.in_err-put_segment.was))
