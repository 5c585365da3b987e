-- `endian::write` meets its contract.
use Prim.Native.Nat.{ℕ, ◌+◌, ◌-◌}
use mathlib.Core.Path.{◌≡◌, ap, sym, ◌∙◌}
use native.Mathlib.Omega.{arith}
use lib.ListN.{length, take, drop, length-take, length-drop}
use Rattle.endian.specs.Bytes.{to_le}
use Rattle.endian.proofs.Numbers.{length-to_le}
use Rattle.endian.proofs.Parts.{unstored, stored}
use Rattle.endian.proofs.write.Goals as goal

pub returns-then-room-clause-s_after : goal.returns-then-room-clause-s_after
returns-then-room-clause-s_after c =
    let l : length (take (c.args.at + c.args.n - c.args.at) (drop c.args.at c.args.s.now)) ≡ c.args.n = rw (length-take, length-drop) (omega arith) in
    stored c.args.s.now c.args.at c.args.n (to_le c.args.n c.args.v) _ (length-to_le _ _)
    (c.fill.ensures ∙ ap (λ (m : ℕ). to_le m c.args.v) l) (omega arith)

pub returns-else-room-clause-s_after : goal.returns-else-room-clause-s_after
returns-else-room-clause-s_after c = unstored c.args.s.now c.args.at c.args.n _ (length-to_le _ _) (sym c.fits-room.ensures.value ∙ c.if-room.false)
