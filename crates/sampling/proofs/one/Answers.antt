-- `sampling::one` meets its contract.
use mathlib.Core.Path.{refl}
use Rattle.sampling.proofs.Records.{one_made}
use Rattle.sampling.proofs.one.Goals as goal

pub returns : goal.returns
returns c =
    one_made _ (record { kind = c.args.kind; start = c.args.start; sectors = c.args.sectors }) refl
    c.begin.new.out c.put_segment.new.s c.begin.ensures.out_after c.put_segment.ensures
