-- `sampling::add_hex` meets its contract.
use Prim.Native.Nat.{ℕ, ◌^◌, ◌≤◌, ◌<◌, min, max}
use mathlib.Core.Path.{◌≡◌, ap, ◌∙◌}
use native.Mathlib.Omega.{arith}
use Rattle.text.specs.Text.{text, added}
use Rattle.sampling.proofs.Pieces.{hex_is}
use Rattle.sampling.proofs.lines.add_hex.Goals as goal

pub returns : goal.returns
returns c =
    let n : ℕ = c.args.n in
    let w : ℕ = c.args.w in
    let p : (1 ≤ w) × (w ≤ 16) × (n < 16 ^ w) = c.requires in
    let l : 1 ≤ w = p.0 in
    let h : w ≤ 16 = p.1 in
    let e : min (max w 1) 16 ≡ w = omega arith in
    c.add.ensures
    ∙ ap (added (text c.args.t))
    (hex_is w n _ _ p.2 (rw e at c.hex-k.ensures.len) c.hex-k.ensures.digits)
