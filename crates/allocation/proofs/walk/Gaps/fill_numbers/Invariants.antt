-- `allocation::walk::Gaps::fill_numbers` meets its contract: the numbers of the first gaps are stored.
use Rattle.std.proofs.Common.{◌≡◌, ◌*◌, ◌≤◌, length, drop}
use Rattle.allocation.specs.Tables.{numbers_of}
use Rattle.allocation.specs.Walking.{left}
use Rattle.allocation.proofs.Tables.{laid}
use Rattle.allocation.proofs.walk.Gaps.fill_numbers.Given as goal

abbrev pub invariant-loop-i : goal.invariant-loop-i
invariant-loop-i l =
    (l.i ≤ length (left l.initial.self)) × (left l.self ≡ drop l.i (left l.initial.self))
    × (l.table ≡ laid (2 * l.i) (numbers_of (left l.initial.self)) l.initial.table)
