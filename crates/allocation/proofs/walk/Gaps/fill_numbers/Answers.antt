-- `allocation::walk::Gaps::fill_numbers` meets its contract: the numbers of the first gaps are stored.
use Rattle.std.proofs.Common.{sym, ◌∙◌, arith}
use Rattle.allocation.specs.Walking.{left}
use Rattle.allocation.proofs.Tables.{drop_none, numbers_stored, all_numbers}
use Rattle.allocation.proofs.walk.Gaps.fill_numbers.Goals as goal

pub loop-i-preserved : goal.loop-i-preserved
loop-i-preserved c =
    let h = c.in-Some.ensures.steps in
    let s = numbers_stored (left c.args.self) _ c.args.table.now c.loop-i.table c.loop-i.i c.in-Some.gap (sym c.loop-i.invariant.1 ∙ h) (omega arith) c.loop-i.invariant.2 in
    (s.0, s.1.0, s.1.1)

pub returns-in_default : goal.returns-in_default
returns-in_default c =
    all_numbers (left c.args.self) c.args.table.now c.loop-i.table c.loop-i.i
    (drop_none (left c.args.self) c.loop-i.i (sym c.loop-i.invariant.1 ∙ c.in_default.ensures.steps.0)) c.loop-i.invariant.0 c.loop-i.invariant.2

pub returns : goal.returns
returns c = all_numbers (left c.args.self) c.args.table.now c.loop-i.table c.loop-i.i (omega (arith, c.requires)) c.loop-i.invariant.0 c.loop-i.invariant.2
