-- `checksum::checksum` meets its contract.
use mathlib.Core.Path.{ap}
use Rattle.checksum.specs.Crc.{checksum, invert}
use Rattle.checksum.proofs.checksum.Goals as goal

pub returns : goal.returns
unfolding checksum invert
returns c = ap invert c.run.ensures
