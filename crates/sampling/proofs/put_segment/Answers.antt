-- `sampling::put_segment` meets its contract.
use Rattle.sampling.proofs.Records.{put_is}
use Rattle.sampling.proofs.put_segment.Goals as goal

pub returns : goal.returns
returns c =
    put_is c.args.s.now c.put_segment.new.out c.place_in-at.result c.args.position
    (record { kind = c.args.kind; start = c.args.start; sectors = c.args.sectors })
    c.place_in-at.ensures c.put_segment.ensures.out_after
