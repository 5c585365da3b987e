-- The lengths that `calendar::year_of` walks over.
use Rattle.calendar.specs.Calendar.{year_length}
use Rattle.calendar.proofs.year_of.Given as goal

abbrev pub ghost-walk : goal.ghost-walk
ghost-walk a = year_length
