-- `calendar::walk` meets its contract: the days left, from the place that is reached on, fall where all do.
use Rattle.std.proofs.Common.{◌≡◌, ◌-◌}
use Rattle.calendar.specs.Calendar.{walk}
use Rattle.calendar.proofs.walk.Given as goal

abbrev pub invariant-loop-at : goal.invariant-loop-at
invariant-loop-at g l = walk g.f (l.end - l.at) l.at l.rest ≡ walk g.f (l.end - l.first) l.first l.day
