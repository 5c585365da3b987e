-- `allocation::walk::Gaps::fill` meets its contract: the first gaps are stored.
use Rattle.std.proofs.Common.{sym, ◌∙◌, arith}
use Rattle.allocation.specs.Walking.{left}
use Rattle.allocation.proofs.Tables.{run_stored}
use Rattle.allocation.proofs.walk.Gaps.fill.Goals as goal

pub loop-entry-preserved : goal.loop-entry-preserved
loop-entry-preserved c =
    let h = c.in-Some.ensures.steps in
    let s = run_stored (left c.args.self) _ c.args.table.now c.loop-entry.table c.loop-entry.entry-index c.in-Some.gap (sym c.loop-entry.invariant.1 ∙ h) (omega arith) c.loop-entry.invariant.2 in
    (s.0, s.1.0, s.1.1)
