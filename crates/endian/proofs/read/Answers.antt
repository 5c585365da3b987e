-- `endian::read` meets its contract.
use Prim.Native.Nat.{ℕ, ◌^◌, ◌<◌}
use mathlib.Core.Path.{◌≡◌, ap, ◌∙◌}
use mathlib.Core.List.{List}
use native.Mathlib.Nat.{le_trans}
use native.Mathlib.Omega.{arith}
use Rattle.endian.specs.Bytes.{le, window}
use Rattle.endian.proofs.Numbers.{le_bound}
use Rattle.endian.proofs.Parts.{length-window, window-part}
use Rattle.endian.proofs.read.Goals as goal

bound : (s : List ℕ) (at n r : ℕ) (w : List ℕ) → w ≡ window s at n → r ≡ le w → r < 256 ^ n
bound s at n r w h d = rw (d, h) (le_bound (window s at n) n (length-window s at n))

pub returns-then-fits-clause-value : goal.returns-then-fits-clause-value
returns-then-fits-clause-value c = c.number.ensures ∙ ap le (window-part c.args.s.now c.args.at c.args.n)

pub returns-then-fits-clause-upper_bound : goal.returns-then-fits-clause-upper_bound
returns-then-fits-clause-upper_bound c = bound _ _ _ _ _ (window-part c.args.s.now c.args.at c.args.n) c.number.ensures

pub number-requires-2 : goal.number-requires-2
number-requires-2 c = rw c.window.ensures (le_trans (length-window _ _ _) (omega arith))

pub returns-clause-upper_bound : goal.returns-clause-upper_bound
returns-clause-upper_bound c = bound _ _ _ _ _ c.window.ensures c.number-2.ensures
