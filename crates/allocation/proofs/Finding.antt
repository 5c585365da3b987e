-- The free runs of an accepted record are the gaps between its segments in their order.
use Prim.Native.Nat.{ℕ, ◌≤◌, ◌<◌}
use mathlib.Core.Path.{◌≡◌, sym, ap, ◌∙◌}
use mathlib.Core.List.{List}
use native.Mathlib.Omega.{arith}
use Rattle.layout.specs.declared.Device.{Device}
use Rattle.layout.specs.Places.{data_start, data_end}
use Rattle.segments.specs.declared.Range.{Range}
use Rattle.segments.specs.Sectors.{is_free}
use Rattle.segments.specs.Order.{order_of, picked_at, Chain}
use Rattle.segments.proofs.Order.{picked_free, picked_chain}
use Rattle.runs.proofs.Runs.{runs_same}
use Rattle.runs.proofs.Gaps.{between}
use Rattle.items.specs.Head.{head_of, data_range, range_for}
use Rattle.items.specs.Items.{segments}
use Rattle.items.proofs.Heads.{one_range}
use Rattle.items.proofs.Items.{formed}
use Rattle.record.proofs.Accepted.{Accepted, ends, in_data, ordered}
use Rattle.allocation.specs.Walking.{walked}
use Rattle.allocation.specs.Answers.{free_runs, runs_in}
use Rattle.allocation.specs.Change.{runs_for}

module _ (d : Device) (s : List ℕ) (a : Accepted d s) where
  -- the segments follow one another in the data range
  pub chain_of : Chain (data_start d) (data_end d) (picked_at (segments s) (order_of (segments s)))
  chain_of =
      let e : (data_start d < data_end d) × _ = ends d a.size a.metadata a.reserved in
      picked_chain (data_range d) (segments s) (let l : data_start d ≤ data_end d = omega arith in l) (ordered d s a) (in_data d s a)

  -- FOUND
  pub runs-walked : runs_in d s ≡ walked (data_range d) (segments s) (order_of (segments s))
  runs-walked =
      runs_same (is_free (data_range d) (segments s)) (is_free (data_range d) (picked_at (segments s) (order_of (segments s)))) (data_end d)
      (λ x l. sym (picked_free (segments s) (ordered d s a) (data_range d) x))
      ∙ between (data_range d) (picked_at (segments s) (order_of (segments s))) chain_of

  -- whatever the kind
  pub for_any : (k : ℕ) → range_for d (head_of s) k ≡ data_range d
  for_any k = one_range d (head_of s) k (formed d s a.form).head

  pub for_runs : (k : ℕ) → runs_for d s k ≡ runs_in d s
  for_runs k = ap (λ (r : Range). free_runs r (segments s)) (for_any k)
