-- `allocation::released_of` meets its contract.
use Rattle.std.proofs.Common.{◌-◌, ◌++◌, length, sym, ◌∙◌, arith}
use Rattle.std.proofs.lemmas.Result.{err_from_is_err_and}
use Rattle.items.specs.Head.{item_bytes}
use Rattle.items.proofs.Making.{place_inside}
use Rattle.record.specs.Answers.{position_tests}
use Rattle.record.proofs.Accepted.{accepted}
use Rattle.allocation.specs.Change.{room_tests}
use Rattle.allocation.proofs.Calls.{refused_on, accepted_on}
use Rattle.allocation.proofs.released_of.Goals as goal

pub returns-in_err-check : goal.returns-in_err-check
returns-in_err-check c =
    let p = err_from_is_err_and c.from_residual.result c.from_residual.ensures.1 in
    rw (p.1, p.2)
    (refused_on c.args.d c.args.s.now (position_tests c.args.s.now c.args.position ++ room_tests c.args.s.now c.args.w) tt (length c.args.s.now - item_bytes) _
    (sym c.check.ensures ∙ c.in_err-check.was))

pub overflow_sub-s : goal.overflow_sub-s
overflow_sub-s c =
    let z = (accepted_on c.args.d c.args.s.now (position_tests c.args.s.now c.args.position) tt _ (sym c.check.ensures ∙ c.in_ok-check.was)).0 in
    omega (arith, place_inside c.args.d c.args.s.now c.args.position (accepted c.args.d c.args.s.now z).form (omega (arith, c.count_of.ensures)))

pub overflow_sub-result : goal.overflow_sub-result
overflow_sub-result c =
    let z = (accepted_on c.args.d c.args.s.now (position_tests c.args.s.now c.args.position) tt _ (sym c.check.ensures ∙ c.in_ok-check.was)).0 in
    omega (arith, place_inside c.args.d c.args.s.now c.args.position (accepted c.args.d c.args.s.now z).form (omega (arith, c.count_of.ensures)))
