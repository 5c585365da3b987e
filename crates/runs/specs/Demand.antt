-- Free runs by meaning: what `runs_of` gives, without how it is found. `proofs/Demand.antt` proves them.
use Rattle.std.specs.Prelude.{ℕ, suc, ◌+◌, ◌≤◌, ◌<◌, ◌≡◌, Bool, true, false, List, length}
use Rattle.segments.specs.declared.Segment.{Segment}
use Rattle.segments.specs.declared.Range.{Range}
use Rattle.segments.specs.Sectors.{is_free}
use Rattle.segments.specs.Order.{Chain}
use Rattle.runs.specs.declared.Run.{Run}
use Rattle.runs.specs.Runs.{runs_of, run_at, fit_of, fitting}
use Rattle.runs.specs.Gaps.{gaps}

-- a longest run of free sectors below e: free throughout, and no longer at either end
pub record FreeRun (p : ℕ → Bool) (e : ℕ) (r : Run) : Type 0 where
  pub some : 1 ≤ r.sectors
  pub inside : r.start + r.sectors ≤ e
  pub free : (x : ℕ) → r.start ≤ x → x < r.start + r.sectors → p x ≡ true
  pub before : (x : ℕ) → suc x ≡ r.start → p x ≡ false
  pub after : r.start + r.sectors < e → p (r.start + r.sectors) ≡ false

-- the sector x is in one of the runs
pub record InRun (rs : List Run) (x : ℕ) : Type 0 where
  pub at : ℕ
  pub there : at < length rs
  pub low : (run_at rs at).start ≤ x
  pub high : x < (run_at rs at).start + (run_at rs at).sectors

-- Each run is a longest run of free sectors.
abbrev pub Longest : Type 0
Longest = (p : ℕ → Bool) (e k : ℕ) → k < length (runs_of p e) → FreeRun p e (run_at (runs_of p e) k)

-- Each longest run of free sectors is one of them.
abbrev pub Every : Type 0
Every = (p : ℕ → Bool) (e : ℕ) (r : Run) → FreeRun p e r → (k : ℕ) × ((k < length (runs_of p e)) × (run_at (runs_of p e) k ≡ r))

-- Ascending: each ends before the next begins.
abbrev pub Ascending : Type 0
Ascending =
    (p : ℕ → Bool) (e j k : ℕ) → j < k → k < length (runs_of p e)
    → (run_at (runs_of p e) j).start + (run_at (runs_of p e) j).sectors < (run_at (runs_of p e) k).start

-- Every free sector below the end is in one.
abbrev pub All : Type 0
All = (p : ℕ → Bool) (e x : ℕ) → x < e → p x ≡ true → InRun (runs_of p e) x

-- the run of lowest start of those that have m sectors or more
pub record LowestFit (rs : List Run) (m : ℕ) (r : Run) : Type 0 where
  pub at : ℕ
  pub there : at < length rs
  pub same : run_at rs at ≡ r
  pub long : m ≤ r.sectors
  pub lowest : (j : ℕ) → j < length rs → m ≤ (run_at rs j).sectors → r.start ≤ (run_at rs j).start

-- The fit is the run of lowest start that is long enough; there is none exactly where no run is.
abbrev pub Fit : Type 0
Fit =
    (p : ℕ → Bool) (e m : ℕ) → 1 ≤ m
    → (fitting m (runs_of p e) ≡ true → LowestFit (runs_of p e) m (fit_of m (runs_of p e)))
    × ((fitting m (runs_of p e) ≡ false → (j : ℕ) → j < length (runs_of p e) → (run_at (runs_of p e) j).sectors < m)
    × (((j : ℕ) → j < length (runs_of p e) → (run_at (runs_of p e) j).sectors < m) → fitting m (runs_of p e) ≡ false))

-- The free runs of a range with segments that follow one another in it are the gaps between them.
abbrev pub Between : Type 0
Between =
    (r : Range) (gs : List Segment) → Chain r.start r.end gs
    → runs_of (is_free r gs) r.end ≡ gaps r.start r.end gs
