-- `dump_line::found` meets its contract.
use Rattle.text.proofs.Texts.{added_all}
use Rattle.dump_line.proofs.Lengths.{line-text}
use Rattle.std.proofs.Common.{Ok}
use Rattle.dump_line.proofs.found.Goals as goal

pub returns : goal.returns
unfolding added_all
returns c = line-text (Ok c.args.a) _ (rw (c.add-2.ensures, c.add_other.ensures, c.add-time.ensures, c.decimal-3.ensures, c.add-seconds.ensures, c.decimal-2.ensures, c.add-length.ensures, c.decimal.ensures, c.add_area-place.ensures, c.add_side.ensures, c.add.ensures, c.new.ensures))
