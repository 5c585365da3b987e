-- `shifts::byte_64` meets its contract: each listed arm computes, and the last has the one number that they leave.
-- Made by samples/table.py.
use Rattle.std.proofs.Common.{◌≤◌, ◌%◌, refl, arith}
use Rattle.shifts.specs.Shifts.{polynomial, shift, shifts}
use Rattle.shifts.proofs.Arms.{last_arm}
use Rattle.shifts.proofs.byte_64.Goals as goal

pub returns-in_default : goal.returns-in_default
unfolding polynomial shift shifts
returns-in_default c = last_arm 64 _ 255 _ (let l : 255 ≤ c.args.x % 256 = omega arith in l) refl
