-- `checksum::continued` meets its contract.
use mathlib.Core.Path.{ap}
use Rattle.checksum.specs.Crc.{continued, invert}
use Rattle.checksum.proofs.continued.Goals as goal

pub returns : goal.returns
unfolding continued invert
returns c = ap invert c.run.ensures
