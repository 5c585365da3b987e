-- `text::digits` meets its contract: the digits left to write, then those written, are the number's.
use Prim.Native.Nat.{◌+◌, ◌^◌, ◌≤◌, ◌<◌}
use mathlib.Core.Path.{◌≡◌}
use mathlib.Core.List.{◌++◌}
use lib.ListN.{length, drop}
use Rattle.text.specs.Decimal.{digits}
use Rattle.text.proofs.digits.Given as goal

abbrev pub invariant-loop-x : goal.invariant-loop-x
invariant-loop-x l =
    (l.i ≤ 19) × (l.x < 10 ^ (l.i + 1)) × (length l.d ≡ 20) × (digits (l.i + 1) l.x ++ drop (l.i + 1) l.d ≡ digits 20 l.v)

abbrev pub decreases-loop-x : goal.decreases-loop-x
decreases-loop-x l = l.i
