-- `receive::sum_with` meets its contract.
use mathlib.Core.Path.{◌≡◌, sym, refl, ap, ◌∙◌}
use lib.ListN.{length}
use Rattle.std.proofs.Common.{rules}
use Rattle.layout.specs.Limits.{record_limit}
use Rattle.receive.proofs.Calls.{sum-none}
use Rattle.receive.proofs.sum_with.Goals as goal

pub returns-then-is_empty : goal.returns-then-is_empty
unfolding record_limit
returns-then-is_empty c =
    let z : length c.part-all.result.now ≡ 0 = search rules in
    sum-none c.args.sum c.args.block.now c.args.at c.args.piece.now c.args.x _ _ c.area_offset-from.ensures refl (sym (ap length c.part-all.ensures) ∙ z)
