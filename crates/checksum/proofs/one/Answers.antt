-- `checksum::one` meets its contract.
use mathlib.Core.Path.{refl}
use Rattle.checksum.proofs.Lookup.{one_law}
use Rattle.checksum.proofs.one.Goals as goal

pub returns : goal.returns
returns c =
    one_law c.args.c c.args.b _ _ _
    c.ranges.b.fits refl c.half_8.ensures c.half_4.ensures
