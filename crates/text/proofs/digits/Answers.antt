-- `text::digits` meets its contract: the digits left to write, then those written, are the number's.
use Prim.Native.Nat.{ℕ, ◌+◌, ◌-◌, ◌/◌, ◌^◌, ◌<◌}
use mathlib.Core.Path.{refl, ap, ◌∙◌}
use mathlib.Core.List.{List, append-nil}
use native.Mathlib.Omega.{arith}
use lib.ListN.{drop, set, length-set}
use Rattle.text.proofs.Decimals.{digit-written, digits-written, digit-less}
use Rattle.text.proofs.digits.Goals as goal

pub loop-x-init : goal.loop-x-init
loop-x-init c = (omega arith, omega arith, refl, append-nil _)

pub loop-x-smaller : goal.loop-x-smaller
loop-x-smaller c = omega (arith, (digit-less c.loop-x.i c.loop-x.x c.loop-x-test.true c.loop-x.invariant.1).0)

pub loop-x-preserved : goal.loop-x-preserved
loop-x-preserved c =
    let i : ℕ = c.loop-x.i in
    let x : ℕ = c.loop-x.x in
    let d : List ℕ = c.loop-x.d in
    let s : (0 < i) × (x / 10 < 10 ^ (i - 1 + 1)) = digit-less i x c.loop-x-test.true c.loop-x.invariant.1 in (
      omega arith,
      s.1,
      rw length-set c.loop-x.invariant.2,
      rw c.digit.ensures (digit-written d i x c.args.v (omega arith) c.loop-x-test.true s.0 c.loop-x.invariant.3),
    )

pub returns : goal.returns
returns c =
    let i : ℕ = c.loop-x.i in
    let x : ℕ = c.loop-x.x in
    let d : List ℕ = c.loop-x.d in
    let v : ℕ = c.args.v in
    (omega arith, rw length-set c.loop-x.invariant.2, ap (λ (w : ℕ). drop i (set d i w)) c.digit-2.ensures ∙ digits-written d i x v (omega arith) (omega arith) c.loop-x.invariant.3)
