-- `sampling::sum` meets its contract.
use Rattle.sampling.proofs.Pieces.{sum_fits}
use Rattle.sampling.proofs.lines.sum.Goals as goal

pub returns : goal.returns
returns c =
    rw (c.add_hex.ensures, c.add.ensures, c.new.ensures, c.checksum-c.ensures)
    (sum_fits _)
