-- `allocation::count_runs` meets its contract.
use Rattle.std.proofs.Common.{length, sym, ◌∙◌}
use Rattle.allocation.specs.Walking.{left}
use Rattle.allocation.proofs.Calls.{free_value}
use Rattle.allocation.proofs.count_runs.Goals as goal

pub returns : goal.returns
returns c =
    free_value c.args.d c.args.s.now c.in_ok-at.at c.data_range.result (left c.gaps_in.result) length c.number.result
    (sym c.check_in_order.ensures ∙ c.in_ok-at.was) c.data_range.ensures c.gaps_in.ensures.all c.number.ensures
