-- `endian::fill` meets its contract: the bytes written and those left are the number's.
use Rattle.std.proofs.Common.{◌≡◌, ◌-◌, ◌++◌, length, take}
use Rattle.endian.specs.Bytes.{to_le}
use Rattle.endian.proofs.fill.Given as goal

abbrev pub invariant-loop-b : goal.invariant-loop-b
invariant-loop-b l = take l.b-index l.b-items ++ to_le (length l.initial.b-items - l.b-index) l.x ≡ to_le (length l.initial.b-items) l.v
