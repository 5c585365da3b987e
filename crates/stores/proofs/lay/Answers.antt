-- `stores::lay` meets its contract.
use Prim.Native.Nat.{◌+◌, ◌*◌, ◌≤◌}
use mathlib.Core.Path.{sym, ◌∙◌}
use borrow.Author.Rules.{rules}
use lib.ListN.{length}
use Rattle.stores.proofs.Padding.{sectors_rounded}
use Rattle.stores.proofs.Laying.{lay-fits, lay_stored}
use Rattle.stores.proofs.lay.Goals as goal

pub overflow_add-at : goal.overflow_add-at
overflow_add-at c =
    let a : c.area_offset-at.result + c.div_ceil-n.result * 512 ≤ length c.args.c.now =
    lay-fits c.args.c.now c.args.x c.args.r.now (c.if-c-copy_bytes.false ∙ c.copy_bytes.ensures) (sym c.length_allowed.ensures ∙ c.if-not-length_allowed.false)
    _ c.area_offset-at.ensures _ (c.div_ceil-n.ensures ∙ sectors_rounded (length c.args.r.now)) in
    search rules

pub slice_bounds-fill-end : goal.slice_bounds-fill-end
slice_bounds-fill-end c =
    lay-fits c.args.c.now c.args.x c.args.r.now (c.if-c-copy_bytes.false ∙ c.copy_bytes.ensures) (sym c.length_allowed.ensures ∙ c.if-not-length_allowed.false)
    _ c.area_offset-at.ensures _ (c.div_ceil-n.ensures ∙ sectors_rounded (length c.args.r.now))

pub returns-clause-c_after : goal.returns-clause-c_after
returns-clause-c_after c =
    lay_stored c.args.c.now c.args.x c.args.r.now (c.if-c-copy_bytes.false ∙ c.copy_bytes.ensures) (sym c.length_allowed.ensures ∙ c.if-not-length_allowed.false)
    _ c.area_offset-at.ensures _ (c.div_ceil-n.ensures ∙ sectors_rounded (length c.args.r.now)) _ c.fill.ensures
