-- `dump_line::refused` meets its contract.
use Rattle.text.proofs.Texts.{added_all}
use Rattle.dump_line.proofs.Lengths.{line-text}
use Rattle.std.proofs.Common.{Err}
use Rattle.dump_line.proofs.refused.Goals as goal

pub returns : goal.returns
unfolding added_all
returns c = line-text (Err c.args.e) _ (rw (c.add-2.ensures, c.add_reason.ensures, c.add.ensures, c.new.ensures))
