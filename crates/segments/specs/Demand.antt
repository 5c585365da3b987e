-- Two segments that clash, in other words than the search. `order` and `record` prove what they find by these.
use Rattle.std.specs.Prelude.{ℕ, ◌≤◌, ◌<◌, ◌≡◌, true, List, length}
use Rattle.segments.specs.declared.Segment.{Segment}
use Rattle.segments.specs.Segments.{nth, holds}

-- two positions whose segments share the sector x
pub record Share (gs : List Segment) (i j x : ℕ) : Type 0 where
  pub later : i < j
  pub there : j < length gs
  pub one : holds (nth gs i) x ≡ true
  pub other : holds (nth gs j) x ≡ true

-- The two segments that clash: they share a sector; no lower position clashes with a later one; and with that one no lower later position does.
pub record FirstPair (gs : List Segment) (i j : ℕ) : Type 0 where
  pub shared : (x : ℕ) × Share gs i j x
  pub lowest : (k l x : ℕ) → Share gs k l x → i ≤ k
  pub next : (l x : ℕ) → Share gs i l x → j ≤ l
