-- `endian::number` meets its contract: the number so far is that of the bytes passed, which are the last ones.
use Rattle.std.proofs.Common.{◌≡◌, ℕ, List, ◌++◌}
use Rattle.std.specs.Slice.Iter.{iter_rest}
use Rattle.endian.specs.Bytes.{le}
use Rattle.endian.proofs.number.Given as goal

abbrev pub invariant-loop-b : goal.invariant-loop-b
invariant-loop-b l = (passed : List ℕ) × ((l.s ≡ iter_rest l.b-iterator.iter ++ passed) × (l.r ≡ le passed))
