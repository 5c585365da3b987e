-- `receive::take` meets its contract.
use mathlib.Core.Path.{ap}
use mathlib.Core.Bool.{not}
use borrow.Author.Tests.{not-false}
use Rattle.receive.proofs.Calls.{piece-below}
use Rattle.receive.proofs.take.Goals as goal

pub overflow_add-taken : goal.overflow_add-taken
overflow_add-taken c = record {
  fits = piece-below c.args.s.now c.args.piece.now _ c.fits_in.ensures (not-false _ (ap not c.if-not-fits_in.false));
}
