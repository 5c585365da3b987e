-- `sampling::patch` meets its contract: the patches that are left give the whole.
use Rattle.std.proofs.Common.{◌≡◌, ◌≤◌, ◌-◌}
use Rattle.sampling.specs.Laying.{patches_end, patched}
use Rattle.sampling.proofs.patch.Given as goal

abbrev pub invariant-loop : goal.invariant-loop
invariant-loop l =
    (l.from ≤ l.at) × (patches_end l.s l.at (l.count - l.counter) ≡ patches_end l.s l.from l.count) × (patched l.s l.at (l.count - l.counter) l.d ≡ patched l.s l.from l.count l.initial.d)
