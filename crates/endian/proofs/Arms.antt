-- The arms of a `match` that lists 0, 1, 2 and so on. The last: the number is past them all.
use Prim.Native.Nat.{ℕ, zero, suc, ◌≤◌}
use mathlib.Core.Path.{◌≡◌}
use native.Mathlib.Omega.{arith}
use Rattle.std.proofs.Common.{zero-le}

-- n is none of 0 to k - 1, as the arm knows it
abbrev pub Past : ℕ → ℕ → Type 0
Past zero n = Unit {0}
Past (suc k) n = Past k n × (n ≡ k → ⊥)

pub past : (k n : ℕ) → Past k n → k ≤ n
past zero n h = zero-le
past (suc k) n h =
    let l : k ≤ n = past k n h.0 in
    let d : n ≡ k → ⊥ = h.1 in
    omega arith
