-- `block::all_zero` meets its contract: the bytes passed, and those left.
use Prim.Native.Nat.{◌-◌}
use mathlib.Core.Path.{◌≡◌}
use mathlib.Core.Bool.{◌&&◌}
use lib.ListN.{length, drop}
use Rattle.endian.specs.Bytes.{all_pass}
use Rattle.block.specs.Block.{is_zero}
use Rattle.block.proofs.all_zero.Given as goal

abbrev pub invariant-loop-i : goal.invariant-loop-i
invariant-loop-i l = (l.zero && all_pass is_zero (drop l.i l.s)) ≡ all_pass is_zero l.s

abbrev pub decreases-loop-i : goal.decreases-loop-i
decreases-loop-i l = length l.s - l.i
