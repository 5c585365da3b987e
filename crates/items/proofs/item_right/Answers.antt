-- `items::item_right` meets its contract.
use mathlib.Core.List.{List}
use Prim.Native.Nat.{ℕ}
use Rattle.items.proofs.Items.{size-item, kind-item}
use Rattle.items.specs.Items.{item_right}
use Rattle.items.proofs.item_right.Goals as goal

pub returns : goal.returns
unfolding item_right
returns c =
    let t : List ℕ = c.args.t.now in
    let i : ℕ = c.args.i in
    rw (
      ← size-item t c.item_at-u.result.now i c.read_u16.result c.item_at-u.ensures c.read_u16.ensures,
      ← kind-item t c.item_at-u.result.now i c.read_u16-2.result c.requires c.item_at-u.ensures c.read_u16-2.ensures,
      c.allowed.ensures,
    )
