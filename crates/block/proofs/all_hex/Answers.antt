-- `block::all_hex` meets its contract: the bytes passed, and those left.
use Prim.Native.Nat.{ℕ, ◌+◌}
use mathlib.Core.Path.{sym, ap, ◌∙◌}
use mathlib.Core.Bool.{Bool, ◌&&◌}
use mathlib.Core.List.{List}
use native.Mathlib.Omega.{arith}
use lib.ListN.{drop}
use Rattle.endian.specs.Bytes.{all_pass}
use Rattle.endian.proofs.Tests.{all_next, all_done}
use Rattle.block.specs.Block.{is_hex}
use Rattle.block.proofs.all_hex.Goals as goal

pub loop-x-preserved : goal.loop-x-preserved
loop-x-preserved c =
    let s : List ℕ = c.args.s.now in
    let i : ℕ = c.loop-x.x-index in
    ap (λ (z : Bool). (c.loop-x.hex && z) && all_pass is_hex (drop (i + 1) s)) c.is_hex-hex.ensures ∙ (all_next is_hex s i c.loop-x.hex (omega arith) ∙ c.loop-x.invariant)

pub returns : goal.returns
returns c =
    sym (all_done is_hex c.args.s.now c.loop-x.x-index c.loop-x.hex c.loop-x-test.false) ∙ c.loop-x.invariant
