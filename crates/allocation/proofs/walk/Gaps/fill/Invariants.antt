-- `allocation::walk::Gaps::fill` meets its contract: the first gaps are stored.
use Rattle.std.proofs.Common.{◌≡◌, ◌≤◌, length, drop}
use Rattle.allocation.specs.Walking.{left}
use Rattle.allocation.proofs.Tables.{laid}
use Rattle.allocation.proofs.walk.Gaps.fill.Given as goal

abbrev pub invariant-loop-entry : goal.invariant-loop-entry
invariant-loop-entry l =
    (l.entry-index ≤ length (left l.initial.self)) × (left l.self ≡ drop l.entry-index (left l.initial.self))
    × (l.table ≡ laid l.entry-index (left l.initial.self) l.initial.table)
