-- `words::lowered` meets its contract: what is passed is small, and the rest as it was.
use Rattle.std.proofs.Common.{◌≡◌, ◌++◌, map, take, drop}
use Rattle.words.specs.Words.{lower}
use Rattle.words.proofs.lowered.Given as goal

abbrev pub invariant-loop-c : goal.invariant-loop-c
invariant-loop-c l = l.c-items ≡ map lower (take l.c-index l.initial.c-items) ++ drop l.c-index l.initial.c-items
