-- `block::all_zero` meets its contract: the bytes passed, and those left.
use Prim.Native.Nat.{ℕ, ◌+◌}
use mathlib.Core.Path.{sym, ap, ◌∙◌}
use mathlib.Core.Bool.{Bool, ◌&&◌}
use mathlib.Core.List.{List}
use native.Mathlib.Omega.{arith}
use lib.Dec.{eqb}
use lib.ListN.{drop}
use Rattle.endian.specs.Bytes.{all_pass, Bytes}
use Rattle.endian.proofs.Tests.{all_done}
use Rattle.endian.proofs.Zero.{zero_next}
use Rattle.block.specs.Block.{is_zero, all_zero}
use Rattle.block.proofs.all_zero.Goals as goal

pub loop-i-preserved : goal.loop-i-preserved
loop-i-preserved c =
    let s : List ℕ = c.args.s.now in
    let i : ℕ = c.loop-i.i in
    let zero : Bool = c.loop-i.zero in
    let b : Bytes s = λ j. omega (arith, c.type_inv.s j) in
    ap (λ (x : ℕ). (zero && eqb x 0) && all_pass is_zero (drop (i + 8) s)) c.read_u64.ensures ∙ (zero_next s i 8 zero b ∙ c.loop-i.invariant)

pub returns : goal.returns
unfolding all_zero
returns c =
    sym (all_done is_zero c.args.s.now c.loop-i.i c.loop-i.zero c.loop-i-test.false) ∙ c.loop-i.invariant
