-- The lengths that `calendar::month_of` walks over.
use Rattle.calendar.specs.Calendar.{month_length}
use Rattle.calendar.proofs.month_of.Given as goal

abbrev pub ghost-walk : goal.ghost-walk
ghost-walk a = month_length a.length.0
