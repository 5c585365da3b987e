-- `update_samples::samples` meets its contract: each update ends after it begins, and the last one begins within the input.
use Rattle.std.proofs.Common.{◌-◌, ◌≤◌, length}
use Rattle.sampling.specs.Laying.{input_bytes}
use Rattle.update_samples.proofs.samples.Given as goal

abbrev pub invariant-loop-at : goal.invariant-loop-at
invariant-loop-at l = l.last ≤ input_bytes

abbrev pub decreases-loop-at : goal.decreases-loop-at
decreases-loop-at l = length l.s - l.at
