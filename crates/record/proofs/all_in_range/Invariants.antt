-- `record::all_in_range` meets its contract: what was passed lies in its range.
use Rattle.std.proofs.Common.{◌≡◌, true}
use Rattle.search.specs.Search.{every}
use Rattle.items.specs.Items.{segments_in}
use Rattle.record.specs.Accept.{range_at}
use Rattle.record.proofs.all_in_range.Given as goal

abbrev pub invariant-loop-i : goal.invariant-loop-i
invariant-loop-i l = every (range_at l.d l.h (segments_in l.t)) l.i ≡ true
