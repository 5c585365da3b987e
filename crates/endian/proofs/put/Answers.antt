-- `endian::put` meets its contract.
use mathlib.Core.Path.{refl, sym, ◌∙◌}
use native.Mathlib.Omega.{arith}
use Rattle.endian.proofs.Parts.{unstored, stored}
use Rattle.endian.proofs.put.Goals as goal

pub returns-then-room-clause-s_after : goal.returns-then-room-clause-s_after
returns-then-room-clause-s_after c = stored c.args.s.now c.args.at _ c.args.v.now _ refl c.fill_from.ensures (omega arith)

pub returns-else-room-clause-s_after : goal.returns-else-room-clause-s_after
returns-else-room-clause-s_after c = unstored c.args.s.now c.args.at _ c.args.v.now refl (sym c.fits-room.ensures.value ∙ c.if-room.false)
