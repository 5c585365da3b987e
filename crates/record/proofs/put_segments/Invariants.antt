-- `record::put_segments` meets its contract.
use Rattle.std.proofs.Common.{◌≡◌, drop}
use Rattle.items.specs.Items.{segments_in}
use Rattle.record.proofs.Handing.{laid}
use Rattle.record.proofs.put_segments.Given as goal

abbrev pub invariant-loop-i : goal.invariant-loop-i
invariant-loop-i l = l.table ≡ laid (drop l.position (segments_in l.t)) l.i l.initial.table
