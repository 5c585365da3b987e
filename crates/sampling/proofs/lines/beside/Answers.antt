-- `sampling::beside` meets its contract.
use mathlib.Core.List.{[]}
use lib.Dec.{lit≤}
use Rattle.sampling.proofs.Pieces.{beside-fits}
use Rattle.sampling.proofs.lines.beside.Goals as goal

pub returns : goal.returns
returns c = rw (c.add_beside.ensures, c.new.ensures) (beside-fits [] _ (lit≤ tt))
