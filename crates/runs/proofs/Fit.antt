-- Laws of the first run that is long enough: for a loop that walks the runs, or the gaps.
use Prim.Native.Nat.{ℕ, zero, suc, ◌-◌, ◌≤◌, ◌<◌}
use mathlib.Core.Path.{◌≡◌, refl, sym, ap, ◌∙◌}
use mathlib.Core.Bool.{true, false}
use mathlib.Core.List.{List, [], ◌∷◌}
use mathlib.Core.Logic.{◌⊎◌, inl, inr, ⊎_elim}
use native.Mathlib.Decide.{dec_le, dec_lt}
use native.Mathlib.Nat.{le_of_suc-le-suc, not-suc-le-zero}
use native.Mathlib.Omega.{arith}
use borrow.Author.Tests.{le-leb, lt-leb, leb-false}
use lib.Dec.{leb}
use lib.ListN.{length}
use Rattle.search.proofs.Search.{both}
use Rattle.runs.specs.declared.Run.{Run}
use Rattle.runs.specs.Runs.{run_to, no_run, run_at, fit_of, fitting}
use Rattle.runs.specs.Gaps.{gap}
use Rattle.runs.proofs.Gaps.{gap-some, gap-none}

pub fit-nil : (m : ℕ) → fit_of m [] ≡ no_run
unfolding fit_of
fit-nil m = refl

pub fit_long : (m : ℕ) (r : Run) (rs : List Run) → m ≤ r.sectors → fit_of m (r ∷ rs) ≡ r
unfolding fit_of
fit_long m r rs h = rw (le-leb m r.sectors h)

pub fit-short : (m : ℕ) (r : Run) (rs : List Run) → r.sectors < m → fit_of m (r ∷ rs) ≡ fit_of m rs
unfolding fit_of
fit-short m r rs h = rw (lt-leb m r.sectors h)

-- The first that is long enough is so, or stands for no run.
fit_cases : (m : ℕ) (rs : List Run) → (m ≤ (fit_of m rs).sectors) ⊎ (fit_of m rs ≡ no_run)
fit_cases m [] = inr (fit-nil m)
fit_cases m (r ∷ rs) =
    elim (dec_le m r.sectors) [
      | yes l ↦ inl (rw (fit_long m r rs l) l)
      | no l ↦ rw (fit-short m r rs (omega arith)) (fit_cases m rs)
    ]

-- none where it has no sectors
pub fitting_no : (m : ℕ) (rs : List Run) → 1 ≤ m → (fit_of m rs).sectors ≡ 0 → fitting m rs ≡ false
fitting_no m rs o h = lt-leb m (fit_of m rs).sectors (omega arith)

pub fit_none : (m : ℕ) (rs : List Run) → fitting m rs ≡ false → fit_of m rs ≡ no_run
fit_none m rs h =
    let k : (fit_of m rs).sectors < m = leb-false m (fit_of m rs).sectors h in
    ⊎_elim (λ (l : m ≤ (fit_of m rs).sectors). absurd (omega arith)) (λ (e : fit_of m rs ≡ no_run). e) (fit_cases m rs)

pub fitting_long : (m : ℕ) (r : Run) (rs : List Run) → m ≤ r.sectors → fitting m (r ∷ rs) ≡ true
fitting_long m r rs h = ap (λ (z : Run). leb m z.sectors) (fit_long m r rs h) ∙ le-leb m r.sectors h

pub fitting-short : (m : ℕ) (r : Run) (rs : List Run) → r.sectors < m → fitting m (r ∷ rs) ≡ fitting m rs
fitting-short m r rs h = ap (λ (z : Run). leb m z.sectors) (fit-short m r rs h)

-- where the fit is: all before it are too short
pub record FirstFit (rs : List Run) (m : ℕ) : Type 0 where
  pub at : ℕ
  pub there : at < length rs
  pub same : run_at rs at ≡ fit_of m rs
  pub before : (j : ℕ) → j < at → (run_at rs j).sectors < m

pub first_fit : (m : ℕ) (rs : List Run) → 1 ≤ m → fitting m rs ≡ true → FirstFit rs m
first_fit m [] o h = absurd (both (fitting m []) h (fitting_no m [] o (ap (λ (r : Run). r.sectors) (fit-nil m))))
first_fit m (r ∷ rs) o h =
    elim (dec_le m r.sectors) [
      | yes l ↦ record { at = 0; there = omega arith; same = sym (fit_long m r rs l); before = λ j k. absurd (not-suc-le-zero k) }
      | no l ↦ later (omega arith) (first_fit m rs o (sym (fitting-short m r rs (omega arith)) ∙ h))
    ]
  where
    before-later : r.sectors < m → (f : FirstFit rs m) → (j : ℕ) → j < suc f.at → (run_at (r ∷ rs) j).sectors < m
    before-later l f zero k = l
    before-later l f (suc j) k = f.before j (le_of_suc-le-suc k)

    later : r.sectors < m → FirstFit rs m → FirstFit (r ∷ rs) m
    later l f =
        let k : f.at < length rs = f.there in
        record { at = suc f.at; there = omega arith; same = f.same ∙ sym (fit-short m r rs l); before = before-later l f }

-- there is none exactly where all are too short
head-short : (m : ℕ) (r : Run) (rs : List Run) → fitting m (r ∷ rs) ≡ false → r.sectors < m
head-short m r rs h =
    elim (dec_lt r.sectors m) [
      | yes l ↦ l
      | no l ↦ absurd (both (fitting m (r ∷ rs)) (fitting_long m r rs (omega arith)) h)
    ]

pub none-fits : (m : ℕ) (rs : List Run) → fitting m rs ≡ false → (j : ℕ) → j < length rs → (run_at rs j).sectors < m
none-fits m [] h j l = absurd (not-suc-le-zero l)
none-fits m (r ∷ rs) h zero l = head-short m r rs h
none-fits m (r ∷ rs) h (suc j) l = none-fits m rs (sym (fitting-short m r rs (head-short m r rs h)) ∙ h) j (le_of_suc-le-suc l)

pub short_none : (m : ℕ) (rs : List Run) → 1 ≤ m → ((j : ℕ) → j < length rs → (run_at rs j).sectors < m) → fitting m rs ≡ false
short_none m [] o h = fitting_no m [] o (ap (λ (r : Run). r.sectors) (fit-nil m))
short_none m (r ∷ rs) o h =
    fitting-short m r rs (h 0 (omega arith)) ∙ short_none m rs o (λ j l. h (suc j) (omega arith))
