-- `checksum::run` meets its contract: from where it stands, the bytes left bring the register where all of them do.
use Rattle.std.proofs.Common.{◌≡◌, ◌++◌, drop}
use mathlib.Core.List.{flatten}
use Rattle.checksum.specs.Crc.{register}
use Rattle.checksum.proofs.run.Given as goal

abbrev pub invariant-loop-e : goal.invariant-loop-e
invariant-loop-e l = register l.r (flatten (drop l.e-index l.eights) ++ l.ones) ≡ register l.c l.s

abbrev pub invariant-loop-b : goal.invariant-loop-b
invariant-loop-b l = register l.r (drop l.b-index l.ones) ≡ register l.c l.s
