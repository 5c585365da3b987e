-- `allocation::allocated_of` meets its contract: what is passed and what is left is the whole.
use Rattle.std.proofs.Common.{◌≡◌, ◌+◌, drop}
use Rattle.segments.specs.Sectors.{allocated}
use Rattle.items.specs.Items.{segments_in}
use Rattle.allocation.proofs.allocated_of.Given as goal

abbrev pub invariant-loop-i : goal.invariant-loop-i
invariant-loop-i l = l.sum + allocated (drop l.i (segments_in l.t)) ≡ allocated (segments_in l.t)
