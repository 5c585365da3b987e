-- What the free runs are, by meaning: the claims of `specs/Demand.antt`.
use Prim.Native.Nat.{ℕ, zero, suc, ◌+◌, ◌-◌, ◌≤◌, ◌<◌, min}
use mathlib.Core.Path.{◌≡◌, refl, sym, ap, ap₂, subst, ◌∙◌}
use mathlib.Core.Bool.{Bool, true, false}
use mathlib.Core.List.{List, [], ◌∷◌}
use mathlib.Core.Logic.{⊎_elim}
use native.Mathlib.Decide.{dec_lt}
use native.Mathlib.Nat.{le_refl, le_of_suc-le-suc, not-suc-le-zero, eq-or-lt_of_le}
use native.Mathlib.Omega.{arith}
use lib.ListN.{length}
use borrow.Author.Tests.{leb-true}
use Rattle.search.proofs.Search.{both}
use Rattle.runs.specs.declared.Run.{Run}
use Rattle.runs.specs.Runs.{next_free, next_taken, run_to, runs_from, runs_of, run_at, fit_of, fitting}
use Rattle.runs.specs.Demand.{FreeRun, InRun, LowestFit, Longest, Every, Ascending, All, Fit, Between}
use Rattle.runs.proofs.Runs.{next_free-le, next_free_from, next_free-before, next_free-free, next_taken-le, next_taken-before, next_taken-taken, next_taken_more, runs_none, runs-first}
use Rattle.runs.proofs.Gaps
use Rattle.runs.proofs.Fit.{FirstFit, first_fit, none-fits, short_none}

-- the sector after its last
abbrev pub ended : Run → ℕ
ended r = r.start + r.sectors

-- r is the first run from x on
pub record FirstRun (p : ℕ → Bool) (e x : ℕ) (r : Run) : Type 0 where
  pub from : x ≤ r.start
  pub some : 1 ≤ r.sectors
  pub inside : ended r ≤ e
  pub before : (z : ℕ) → x ≤ z → z < r.start → p z ≡ false
  pub free : (z : ℕ) → r.start ≤ z → z < ended r → p z ≡ true
  pub after : ended r < e → p (ended r) ≡ false

-- rs are the runs from x on: each the first from the end of the one before it on, and past the last nothing is free
abbrev pub Runs : (ℕ → Bool) → ℕ → ℕ → List Run → Type 0
Runs p e x [] = (z : ℕ) → x ≤ z → z < e → p z ≡ false
Runs p e x (r ∷ rs) = FirstRun p e x r × Runs p e (ended r) rs

module _ (p : ℕ → Bool) (e : ℕ) where
  first_run : (x : ℕ) → next_free p e x < e → FirstRun p e x (run_to (next_free p e x) (next_taken p e (next_free p e x)))
  first_run x l =
      let a : ℕ = next_free p e x in
      let b : ℕ = next_taken p e a in
      let f : min x e ≤ a = next_free_from p e x in
      let m : a < b = next_taken_more p e a l (next_free-free p e x l) in
      let n : b ≤ e = next_taken-le p e a in
      let t : a + (b - a) ≡ b = omega arith in
      record {
        from = omega arith;
        some = omega arith;
        inside = omega arith;
        before = next_free-before p e x;
        free = λ z h k. next_taken-before p e a z h (omega arith);
        after = λ k. ap p t ∙ next_taken-taken p e a (omega arith);
      }

  pub runs_are : (n x : ℕ) → e - x < n → Runs p e x (runs_from p e n x)
  runs_are zero x h = absurd (not-suc-le-zero h)
  runs_are (suc n) x h =
      let a : ℕ = next_free p e x in
      let b : ℕ = next_taken p e a in
      let g : a ≤ e = next_free-le p e x in
      elim (dec_lt a e) [
        | yes l ↦
            let f : min x e ≤ a = next_free_from p e x in
            let m : a < b = next_taken_more p e a l (next_free-free p e x l) in
            let t : b ≡ a + (b - a) = omega arith in
            rw (runs-first p e n x a b refl l refl) (first_run x l, subst (λ (y : ℕ). Runs p e y (runs_from p e n b)) t (runs_are n b (omega arith)))
        | no l ↦ rw (runs_none p e (suc n) x (omega arith)) (λ z k m. next_free-before p e x z k (omega arith))
      ]

  pub runs_all : Runs p e 0 (runs_of p e)
  unfolding runs_of
  runs_all = runs_are (suc e) 0 (omega arith)

  -- where runs are looked for is free only at the beginning of all
  abbrev Edge : ℕ → Type 0
  Edge x = x < e → p x ≡ true → x ≡ 0

  edge_after : (x : ℕ) (r : Run) → FirstRun p e x r → Edge (ended r)
  edge_after x r f l h = absurd (both (p (ended r)) h (f.after l))

  longest_in : (x : ℕ) (rs : List Run) → Runs p e x rs → Edge x → (k : ℕ) → k < length rs → FreeRun p e (run_at rs k)
  longest_in x [] w d k l = absurd (not-suc-le-zero l)
  longest_in x (r ∷ rs) w d (suc k) l = longest_in (ended r) rs w.1 (edge_after x r w.0) k (le_of_suc-le-suc l)
  longest_in x (r ∷ rs) w d zero l =
      let f : FirstRun p e x r = w.0 in
      let o : 1 ≤ r.sectors = f.some in
      let i : ended r ≤ e = f.inside in
      let g : x ≤ r.start = f.from in
      record {
        some = o;
        inside = i;
        free = f.free;
        before = λ y h.
            elim (dec_lt y x) [
              | yes k ↦
                  let q : r.start ≡ x = omega arith in
                  let z : x ≡ 0 = d (omega arith) (ap p (sym q) ∙ f.free r.start (le_refl r.start) (omega arith)) in
                  absurd (omega arith)
              | no k ↦ f.before y (omega arith) (omega arith)
            ];
        after = f.after;
      }

  -- all runs are past where they are looked for, where that is not free
  past : (x : ℕ) (rs : List Run) → Runs p e x rs → (x < e → p x ≡ false) → (k : ℕ) → k < length rs → x < (run_at rs k).start
  past x [] w d k l = absurd (not-suc-le-zero l)
  past x (r ∷ rs) w d (suc k) l =
      let g : x ≤ r.start = w.0.from in
      let q : ended r < (run_at rs k).start = past (ended r) rs w.1 w.0.after k (le_of_suc-le-suc l) in
      omega arith
  past x (r ∷ rs) w d zero l =
      let f : FirstRun p e x r = w.0 in
      let o : 1 ≤ r.sectors = f.some in
      let i : ended r ≤ e = f.inside in
      let g : x ≤ r.start = f.from in
      elim (dec_lt x r.start) [
        | yes k ↦ k
        | no k ↦
            let q : r.start ≡ x = omega arith in
            absurd (both (p x) (ap p (sym q) ∙ f.free r.start (le_refl r.start) (omega arith)) (d (omega arith)))
      ]

  ascending_in : (x : ℕ) (rs : List Run) → Runs p e x rs → (j k : ℕ) → j < k → k < length rs → ended (run_at rs j) < (run_at rs k).start
  ascending_in x [] w j k l m = absurd (not-suc-le-zero m)
  ascending_in x (r ∷ rs) w j zero l m = absurd (not-suc-le-zero l)
  ascending_in x (r ∷ rs) w zero (suc k) l m = past (ended r) rs w.1 w.0.after k (le_of_suc-le-suc m)
  ascending_in x (r ∷ rs) w (suc j) (suc k) l m = ascending_in (ended r) rs w.1 j k (le_of_suc-le-suc l) (le_of_suc-le-suc m)

  all_in : (x : ℕ) (rs : List Run) → Runs p e x rs → (y : ℕ) → x ≤ y → y < e → p y ≡ true → InRun rs y
  all_in x [] w y g l h = absurd (both (p y) h (w y g l))
  all_in x (r ∷ rs) w y g l h =
      elim (dec_lt y r.start) [
        | yes k ↦ absurd (both (p y) h (w.0.before y g k))
        | no k ↦
            elim (dec_lt y (ended r)) [
              | yes m ↦ record { at = 0; there = omega arith; low = omega arith; high = m }
              | no m ↦ later (all_in (ended r) rs w.1 y (omega arith) l h)
            ]
      ]
    where
      later : InRun rs y → InRun (r ∷ rs) y
      later i =
          let k : i.at < length rs = i.there in
          record { at = suc i.at; there = omega arith; low = i.low; high = i.high }

  -- two longest runs with a sector in common are one
  start_le : (a b : Run) (x : ℕ) → FreeRun p e a → FreeRun p e b → a.start ≤ x → x < ended b → a.start ≤ b.start
  start_le a b x f g l h =
      elim (dec_lt b.start a.start) [
        | yes k ↦
            let y : ℕ = a.start - 1 in
            absurd (both (p y) (g.free y (omega arith) (omega arith)) (f.before y (omega arith)))
        | no k ↦ omega arith
      ]

  end-le : (a b : Run) (x : ℕ) → FreeRun p e a → FreeRun p e b → a.start ≤ x → x < ended b → ended a ≤ ended b
  end-le a b x f g l h =
      elim (dec_lt (ended b) (ended a)) [
        | yes k ↦
            let i : ended a ≤ e = f.inside in
            absurd (both (p (ended b)) (f.free (ended b) (omega arith) k) (g.after (omega arith)))
        | no k ↦ omega arith
      ]

  one-run : (a b : Run) (x : ℕ) → FreeRun p e a → FreeRun p e b → a.start ≤ x → x < ended a → b.start ≤ x → x < ended b → a ≡ b
  one-run a b x f g al ah bl bh =
      let s : a.start ≤ b.start = start_le a b x f g al bh in
      let t : b.start ≤ a.start = start_le b a x g f bl ah in
      let u : ended a ≤ ended b = end-le a b x f g al bh in
      let v : ended b ≤ ended a = end-le b a x g f bl ah in
      ap₂ (λ (m n : ℕ). record { start = m; sectors = n }) (omega arith) (omega arith)

-- EACH IS A LONGEST RUN OF FREE SECTORS
pub longest : Longest
longest p e k l = longest_in p e 0 (runs_of p e) (runs_all p e) (λ m h. refl) k l

-- ASCENDING
pub ascending : Ascending
ascending p e j k l m = ascending_in p e 0 (runs_of p e) (runs_all p e) j k l m

-- ALL THAT IS FREE
pub all_free : All
all_free p e x l h = all_in p e 0 (runs_of p e) (runs_all p e) x (omega arith) l h

-- EACH LONGEST RUN IS ONE OF THEM
pub every-run : Every
every-run p e r f =
    let o : 1 ≤ r.sectors = f.some in
    let i : ended r ≤ e = f.inside in
    let q : InRun (runs_of p e) r.start = all_free p e r.start (omega arith) (f.free r.start (le_refl r.start) (omega arith)) in
    (q.at, (q.there, one-run p e (run_at (runs_of p e) q.at) r r.start (longest p e q.at q.there) f q.low q.high (le_refl r.start) (omega arith)))

-- THE LOWEST THAT IS LONG ENOUGH
lowest-fit : (p : ℕ → Bool) (e m : ℕ) → fitting m (runs_of p e) ≡ true → FirstFit (runs_of p e) m → LowestFit (runs_of p e) m (fit_of m (runs_of p e))
lowest-fit p e m h f = record { at = f.at; there = f.there; same = f.same; long = leb-true m (fit_of m (runs_of p e)).sectors h; lowest = low }
  where
    low : (j : ℕ) → j < length (runs_of p e) → m ≤ (run_at (runs_of p e) j).sectors → (fit_of m (runs_of p e)).start ≤ (run_at (runs_of p e) j).start
    low j l n =
        let s : (run_at (runs_of p e) f.at).start ≡ (fit_of m (runs_of p e)).start = ap (λ (r : Run). r.start) f.same in
        elim (dec_lt j f.at) [
          | yes k ↦ let q : (run_at (runs_of p e) j).sectors < m = f.before j k in absurd (omega arith)
          | no k ↦
              ⊎_elim (λ (t : f.at ≡ j). let q : (run_at (runs_of p e) f.at).start ≡ (run_at (runs_of p e) j).start = ap (λ (i : ℕ). (run_at (runs_of p e) i).start) t in omega arith)
              (λ (t : f.at < j). let q : ended (run_at (runs_of p e) f.at) < (run_at (runs_of p e) j).start = ascending p e f.at j t l in omega arith)
              (eq-or-lt_of_le (let q : f.at ≤ j = omega arith in q))
        ]

pub fit : Fit
fit p e m o =
    (λ h. lowest-fit p e m h (first_fit m (runs_of p e) o h), (none-fits m (runs_of p e), short_none m (runs_of p e) o))

-- THE GAPS
pub between : Between
between = Gaps.between
