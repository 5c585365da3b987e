-- `block::all_hex` meets its contract: the bytes passed, and those left.
use mathlib.Core.Path.{◌≡◌}
use mathlib.Core.Bool.{◌&&◌}
use lib.ListN.{drop}
use Rattle.endian.specs.Bytes.{all_pass}
use Rattle.block.specs.Block.{is_hex}
use Rattle.block.proofs.all_hex.Given as goal

abbrev pub invariant-loop-x : goal.invariant-loop-x
invariant-loop-x l = (l.hex && all_pass is_hex (drop l.x-index l.s)) ≡ all_pass is_hex l.s
