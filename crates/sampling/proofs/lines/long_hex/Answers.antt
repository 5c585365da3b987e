-- `sampling::long_hex` meets its contract.
use mathlib.Core.List.{[]}
use lib.Dec.{lit≤}
use Rattle.sampling.proofs.Pieces.{hex-fits}
use Rattle.sampling.proofs.lines.long_hex.Goals as goal

pub returns : goal.returns
returns c = rw (c.add_hex.ensures, c.new.ensures) (hex-fits [] 16 _ (lit≤ tt))
