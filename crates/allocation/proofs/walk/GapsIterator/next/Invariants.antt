-- `allocation::walk::GapsIterator::next` meets its contract: no gap was passed.
use Rattle.std.proofs.Common.{◌≡◌, length}
use Rattle.allocation.specs.Walking.{left}
use Rattle.allocation.proofs.walk.GapsIterator.next.Given as goal

abbrev pub invariant-loop-i : goal.invariant-loop-i
invariant-loop-i l = left l.w ≡ left l.initial.w

abbrev pub decreases-loop-i : goal.decreases-loop-i
decreases-loop-i l = length l.w.at.now
