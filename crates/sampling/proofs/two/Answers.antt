-- `sampling::two` meets its contract.
use mathlib.Core.Path.{refl}
use Rattle.sampling.proofs.Records.{two_made}
use Rattle.sampling.proofs.two.Goals as goal

pub returns : goal.returns
returns c =
    two_made _ (record { kind = 2; start = c.args.start; sectors = c.args.sectors })
    (record { kind = 2; start = c.args.start2; sectors = c.args.sectors2 }) refl
    c.begin.new.out c.put_segment.new.s c.put_segment-2.new.s c.begin.ensures.out_after c.put_segment.ensures
    c.put_segment-2.ensures
