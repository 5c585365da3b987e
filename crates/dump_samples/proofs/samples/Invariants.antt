-- `dump_samples::samples` ends: each sample ends after it begins.
use Rattle.std.proofs.Common.{◌-◌, length}
use Rattle.dump_samples.proofs.samples.Given as goal

abbrev pub decreases-loop-at : goal.decreases-loop-at
decreases-loop-at l = length l.s - l.at
