-- The two segments that clash, as the search answers them, in other words. `proofs/Demand.antt` proves it.
use Rattle.std.specs.Prelude.{◌≡◌, Option, Some, None, Ok, Err, ℕ, List}
use Rattle.segments.specs.declared.Segment.{Segment}
use Rattle.segments.specs.Demand.{Share, FirstPair}
use Rattle.order.specs.declared.Clash.{Clash}
use Rattle.order.specs.Ordering.{first_clash, order}

-- The search answers two positions exactly when they are those of the two segments that clash, and nothing exactly when no two share a sector.
-- Segments that have an order share none; with segments that have none comes what the search answers, which is nothing too where one is empty
-- or there are too many.
pub record Finds (gs : List Segment) : Type 0 where
  pub pair : (i j : ℕ) → first_clash gs ≡ Some (record { first = i; second = j }) → FirstPair gs i j
  pub found : (i j : ℕ) → FirstPair gs i j → first_clash gs ≡ Some (record { first = i; second = j })
  pub nothing : first_clash gs ≡ None → (i j x : ℕ) → Share gs i j x → ⊥
  pub none : ((i j x : ℕ) → Share gs i j x → ⊥) → first_clash gs ≡ None
  pub ordered : (p : List ℕ) → order gs ≡ Ok p → (first_clash gs ≡ None) × ((i j x : ℕ) → Share gs i j x → ⊥)
  pub not_ordered : (c : Option Clash) → order gs ≡ Err c → c ≡ first_clash gs

abbrev pub Finding : Type 0
Finding = (gs : List Segment) → Finds gs
