-- Which number bytes make, which bytes a number has, and when it is 0, proved.
use Prim.Native.Nat.{ℕ}
use mathlib.Core.Path.{◌≡◌, sym, ap, ◌∙◌}
use borrow.Author.Tests.{eqb-true, eq-eqb}
use lib.Dec.{eqb}
use lib.ListN.{length}
use Rattle.endian.specs.Bytes.{le, all_pass, zeros}
use Rattle.endian.specs.Demand.{LittleEndian, Zero}
use Rattle.endian.proofs.Numbers.{le-digit, to_le-digit, length-to_le}
use Rattle.endian.proofs.Tests.{all_zeros, zeros_all}
use Rattle.endian.proofs.Zero.{le-zero}

pub little_endian : LittleEndian
little_endian = record { reads = le-digit; writes = to_le-digit; width = length-to_le }

pub zero : Zero
zero s b = (
  (λ (e : le s ≡ 0). all_zeros s (sym (le-zero s b) ∙ eq-eqb (le s) 0 e)),
  (λ (e : s ≡ zeros (length s)). eqb-true (le s) 0 (le-zero s b ∙ (ap (all_pass (λ (x : ℕ). eqb x 0)) e ∙ zeros_all (length s)))),
)
