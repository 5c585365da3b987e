-- `sampling::patch` meets its contract: the patches that are left give the whole.
use Prim.Native.Nat.{ℕ, ◌+◌, ◌-◌, ◌≤◌, ◌<◌}
use mathlib.Core.List.{List}
use native.Mathlib.Nat.{le_trans, sub-zero, le_refl}
use mathlib.Core.Path.{◌≡◌, sym, ◌∙◌}
use native.Mathlib.Omega.{arith}
use Rattle.sampling.specs.Laying.{patches_end, patched}
use Rattle.sampling.proofs.Patches.{past-on, turn, end_none, laid_none}
use Rattle.sampling.proofs.patch.Goals as goal

pub loop-init : goal.loop-init
loop-init c = (le_refl _, rw sub-zero, rw sub-zero)

pub loop-preserved : goal.loop-preserved
loop-preserved c =
    let s : List ℕ = c.args.s.now in
    let at : ℕ = c.loop.at in
    let left : ℕ = c.args.count - c.loop.counter in
    let l : 0 < left = omega arith in
    let e : c.args.count - (c.loop.counter + 1) ≡ left - 1 = omega arith in
    let on : at ≤ c.past-at.result = rw c.past-at.ensures (past-on s at (4 + c.read_u16-n.result)) in
    let t : (patches_end s c.past-at.result (left - 1) ≡ patches_end s at left) × (patched s c.past-at.result (left - 1) c.put.new.s ≡ patched s at left c.loop.d) =
    turn s at c.window-p.result.now c.window.result.now c.loop.d c.put.new.s c.read_u16-n.result c.read_u16-offset.result c.past-at.result left l
    c.window-p.ensures c.read_u16-n.ensures c.read_u16-offset.ensures c.window.ensures c.put.ensures.s_after c.past-at.ensures in (
      le_trans c.loop.invariant.0 on,
      rw e t.0 ∙ c.loop.invariant.1,
      rw e t.1 ∙ c.loop.invariant.2,
    )

pub returns-clause-value : goal.returns-clause-value
returns-clause-value c = let z : c.args.count - c.loop.counter ≡ 0 = omega arith in
    sym (end_none c.args.s.now c.loop.at) ∙ rw z at c.loop.invariant.1

pub returns-clause-lower_bound : goal.returns-clause-lower_bound
returns-clause-lower_bound c = c.loop.invariant.0

pub returns-clause-d_after : goal.returns-clause-d_after
returns-clause-d_after c = let z : c.args.count - c.loop.counter ≡ 0 = omega arith in
    sym (laid_none c.args.s.now c.loop.at c.loop.d) ∙ rw z at c.loop.invariant.2
