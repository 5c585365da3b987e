-- `endian::fill` meets its contract: the bytes written and those left are the number's.
use Prim.Native.Nat.{ℕ, suc, ◌+◌, ◌-◌, ◌%◌, ◌<◌}
use mathlib.Core.Path.{◌≡◌}
use mathlib.Core.List.{List, append_assoc, append-nil}
use native.Mathlib.Nat.{sub-zero}
use native.Mathlib.Omega.{arith}
use native.Mathlib.Numerals.{add-one}
use lib.Seq.{take-length, take-suc-set}
use Rattle.endian.proofs.Numbers.{to_le-zero, to_le-suc}
use lib.ListN.{length}
use Rattle.endian.proofs.fill.Goals as goal

pub loop-b-init : goal.loop-b-init
loop-b-init c = rw sub-zero

pub loop-b-preserved : goal.loop-b-preserved
loop-b-preserved c =
    let i : ℕ = c.loop-b.b-index in
    let s : List ℕ = c.loop-b.b-items in
    let x : ℕ = c.loop-b.x in
    let n : ℕ = length c.args.s.now in
    let e : n - i ≡ suc (n - (i + 1)) = omega arith in
    let l : i < length s = omega arith in
    rw (add-one i, take-suc-set s i (x % 256) l, append_assoc, ← add-one i)
    (rw (e, to_le-suc) at c.loop-b.invariant)

pub returns : goal.returns
returns c =
    let s : List ℕ = c.loop-b.b-items in
    let i : ℕ = c.loop-b.b-index in
    let n : ℕ = length c.args.s.now in
    let e : i ≡ length s = omega arith in
    let z : n - i ≡ 0 = omega arith in
    rw (z, e, take-length, to_le-zero, append-nil) at c.loop-b.invariant
