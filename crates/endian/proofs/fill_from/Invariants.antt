-- `endian::fill_from` meets its contract: the bytes written and those left are the source's.
use Rattle.std.proofs.Common.{◌≡◌, ◌++◌, length, take, drop}
use Rattle.endian.proofs.fill_from.Given as goal

abbrev pub invariant-loop-i : goal.invariant-loop-i
invariant-loop-i l = (length l.s ≡ length l.initial.s) × (take l.i l.s ++ drop l.i l.v ≡ l.v)
