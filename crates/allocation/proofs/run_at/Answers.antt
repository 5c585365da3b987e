-- `allocation::run_at` meets its contract.
use Rattle.std.proofs.Common.{List, sym, ◌∙◌}
use Rattle.runs.specs.declared.Run.{Run}
use Rattle.runs.specs.Runs.{run_at}
use Rattle.allocation.specs.Walking.{left}
use Rattle.allocation.proofs.Calls.{free_value}
use Rattle.allocation.proofs.run_at.Goals as goal

pub returns : goal.returns
returns c =
    free_value c.args.d c.args.s.now c.in_ok-at.at c.data_range.result (left c.gaps_in.result) (λ (xs : List Run). run_at xs c.args.k) c.run.result
    (sym c.check_in_order.ensures ∙ c.in_ok-at.was) c.data_range.ensures c.gaps_in.ensures.all c.run.ensures
