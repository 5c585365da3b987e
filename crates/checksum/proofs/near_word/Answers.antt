-- `checksum::near_word` meets its contract.
use Rattle.checksum.proofs.Lookup.{word_law}
use Rattle.checksum.proofs.near_word.Goals as goal

pub returns : goal.returns
returns c =
    word_law 0 c.args.x c.ranges.x.fits _ _ _ _
    c.byte_32.ensures c.byte_24.ensures c.byte_16.ensures c.byte_8.ensures
