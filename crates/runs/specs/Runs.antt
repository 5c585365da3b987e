-- Document 01's 'free runs', the longest runs of free sectors, ascending: of any test p of sectors, below an end e.
use Rattle.std.specs.Prelude.{ℕ, zero, suc, ◌-◌, Bool, cond, not, ◌&&◌, List, [], ◌∷◌, leb, ltb, get_or}
use Rattle.search.specs.Search.{least}
use Rattle.runs.specs.declared.Run.{Run}

-- y passes the test, from x on
abbrev pub passes_from : (ℕ → Bool) → ℕ → ℕ → Bool
passes_from p x y = leb x y && p y

-- the lowest free sector from x on; e where there is none below it
unfoldable pub next_free : (ℕ → Bool) → ℕ → ℕ → ℕ
next_free p e x = least (passes_from p x) e

-- the lowest sector from x on that is not free; e where there is none below it
unfoldable pub next_taken : (ℕ → Bool) → ℕ → ℕ → ℕ
next_taken p e x = next_free (λ y. not (p y)) e x

-- from a up to, not including, b
abbrev pub run_to : ℕ → ℕ → Run
run_to a b = record { start = a; sectors = b - a }

-- the runs from x on, n at most: the one that begins at the next free sector and ends at the next that is not, then those from its end on
unfoldable pub runs_from : (ℕ → Bool) → ℕ → ℕ → ℕ → List Run
runs_from p e zero x = []
runs_from p e (suc n) x =
    cond (ltb (next_free p e x) e)
    (run_to (next_free p e x) (next_taken p e (next_free p e x)) ∷ runs_from p e n (next_taken p e (next_free p e x)))
    []

-- all of them; there are no more than sectors
unfoldable pub runs_of : (ℕ → Bool) → ℕ → List Run
runs_of p e = runs_from p e (suc e) 0

-- what stands for no run
abbrev pub no_run : Run
no_run = record { start = 0; sectors = 0 }

-- the run at position k of a list, counted from 0; no run past the last
abbrev pub run_at : List Run → ℕ → Run
run_at rs k = get_or rs k no_run

-- the first run of a list that has m sectors or more; no run where none has
unfoldable pub fit_of : ℕ → List Run → Run
fit_of m [] = no_run
fit_of m (r ∷ rs) = cond (leb m r.sectors) r (fit_of m rs)

-- one has
abbrev pub fitting : ℕ → List Run → Bool
fitting m rs = leb m (fit_of m rs).sectors
