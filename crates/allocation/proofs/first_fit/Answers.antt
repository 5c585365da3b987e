-- `allocation::first_fit` meets its contract.
use Rattle.std.proofs.Common.{sym, ◌∙◌, arith}
use Rattle.std.proofs.lemmas.Result.{err_from_is_err_and}
use Rattle.runs.specs.Runs.{fit_of}
use Rattle.allocation.specs.Walking.{left}
use Rattle.allocation.specs.Answers.{runs_in, fit_tests}
use Rattle.allocation.proofs.Calls.{ordered_refused, Ordered, ordered_on, fit_is, fit_answered}
use Rattle.allocation.proofs.first_fit.Goals as goal

pub returns-in_err-at : goal.returns-in_err-at
returns-in_err-at c =
    let p = err_from_is_err_and c.from_residual.result c.from_residual.ensures.1 in
    rw (p.1, p.2)
    (ordered_refused c.args.d c.args.s.now (fit_tests (runs_in c.args.d c.args.s.now) c.args.m) (fit_of c.args.m (runs_in c.args.d c.args.s.now)) _
    (sym c.check_in_order.ensures ∙ c.in_err-at.was))

pub returns : goal.returns
returns c =
    let rs = runs_in c.args.d c.args.s.now in
    let o : Ordered c.args.d c.args.s.now c.in_ok-at.at (fit_tests rs c.args.m) = ordered_on c.args.d c.args.s.now c.in_ok-at.at (fit_tests rs c.args.m) (sym c.check_in_order.ensures ∙ c.in_ok-at.was) in
    c.ok_or.ensures.value
    ∙ fit_answered c.args.d c.args.s.now rs c.args.m o.after (omega arith) c.fit.result
    (fit_is c.args.d c.args.s.now c.in_ok-at.at (fit_tests rs c.args.m) c.data_range.result (left c.gaps_in.result) c.args.m c.fit.result o c.data_range.ensures c.gaps_in.ensures.all (omega arith) c.fit.ensures)
