-- `words::number` meets its contract: the digits left give what the whole word says.
use Rattle.std.proofs.Common.{◌≡◌, ◌<◌, ◌^◌, drop}
use Rattle.words.specs.Words.{number_after, number_of}
use Rattle.words.proofs.number.Given as goal

abbrev pub invariant-loop-c : goal.invariant-loop-c
invariant-loop-c l = (l.v < 2 ^ 64) × (number_after l.v (drop l.c-index l.s) ≡ number_of l.s)
