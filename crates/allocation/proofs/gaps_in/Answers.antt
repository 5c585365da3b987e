-- `allocation::gaps_in` meets its contract: there is at most one gap more than segments.
use Rattle.std.proofs.Common.{ap, arith, length, take, length-take}
use Rattle.items.specs.Items.{segments_in}
use Rattle.allocation.proofs.Walking.{walked-few}
use Rattle.allocation.proofs.gaps_in.Goals as goal

pub returns-clause-few : goal.returns-clause-few
returns-clause-few c =
    omega (arith, ap length c.new.ensures, walked-few c.args.r (segments_in c.items_of-t.result.now) (take c.min.result c.args.at.now), length-take c.min.result c.args.at.now, c.min.ensures)
