-- The arms of a row of the table, a `match` that lists 0, 1, 2 and so on.
use Prim.Native.Nat.{ℕ, suc, ◌%◌, ◌≤◌, ◌<◌}
use mathlib.Core.Path.{◌≡◌, sym, ap, ◌∙◌}
use native.Mathlib.Nat.{mod-lt}
use native.Mathlib.Omega.{arith}
use Rattle.shifts.specs.Shifts.{shifts}

-- the arm of k, whose entry is v
pub arm : (n x k v : ℕ) → x ≡ k → shifts n k ≡ v → v ≡ shifts n x
arm n x k v e f = sym f ∙ ap (shifts n) (sym e)

-- the arm after those, of a number that is at most k
pub last_arm : (n x k v : ℕ) → k ≤ x % suc k → shifts n k ≡ v → v ≡ shifts n (x % suc k)
last_arm n x k v l f =
    let u : x % suc k < suc k = mod-lt x (omega arith) in
    arm n (x % suc k) k v (omega arith) f
