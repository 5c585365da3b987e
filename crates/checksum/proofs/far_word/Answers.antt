-- `checksum::far_word` meets its contract.
use Rattle.checksum.proofs.Lookup.{word_law}
use Rattle.checksum.proofs.far_word.Goals as goal

pub returns : goal.returns
returns c =
    word_law 32 c.args.x c.ranges.x.fits _ _ _ _
    c.byte_64.ensures c.byte_56.ensures c.byte_48.ensures c.byte_40.ensures
