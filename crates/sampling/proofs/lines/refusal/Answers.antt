-- `sampling::refusal` meets its contract.
use Rattle.refusal.specs.declared.Refusal.{Refusal}
use Rattle.sampling.proofs.Pieces.{refused-fits}
use Rattle.sampling.proofs.lines.refusal.Goals as goal

pub returns : goal.returns
returns c =
    let r : Refusal = c.args.r in
    rw (c.add_beside.ensures, c.add_number.ensures, c.add.ensures, c.new.ensures)
    (refused-fits r)
