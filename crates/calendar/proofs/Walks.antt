-- Laws of the walk over years or months.
use Prim.Native.Nat.{ℕ, zero, suc, ◌+◌, ◌-◌, ◌≤◌, ◌<◌}
use mathlib.Core.Path.{◌≡◌, refl, sym, ap, ap₂, ◌∙◌}
use mathlib.Core.Bool.{Bool, true, false, cond}
use native.Mathlib.Decide.{dec_le}
use native.Mathlib.Omega.{arith}
use borrow.Author.Tests.{lt-ltb, le-ltb}
use Rattle.calendar.specs.declared.Place.{Place}
use Rattle.calendar.specs.Calendar.{all_days, leap, year_length, month_in, month_length, sum, walk}

-- the days of all years, and of the months of a year
pub all_years : sum year_length 1970 8030 ≡ all_days
unfolding sum year_length leap
all_years = refl

in_months : (b : Bool) → sum (month_in b) 1 12 ≡ cond b 366 365
unfolding sum month_in
in_months true = refl
in_months false = refl

pub all_months : (y : ℕ) → sum (month_length y) 1 12 ≡ year_length y
unfolding year_length
all_months y = in_months (leap y)

module _ (f : ℕ → ℕ) where
  sum_more : (i k : ℕ) → sum f i (suc k) ≡ f i + sum f (i + 1) k
  unfolding sum
  sum_more i k = refl

  sum-none : (i : ℕ) → sum f i 0 ≡ 0
  unfolding sum
  sum-none i = refl

  walk_more : (k i n : ℕ) → f i ≤ n → walk f (suc k) i n ≡ walk f k (i + 1) (n - f i)
  unfolding walk
  walk_more k i n h = rw (le-ltb n (f i) h)

  walk_stop : (k i n : ℕ) → n < f i → walk f k i n ≡ record { at = i; rest = n }
  unfolding walk
  walk_stop zero i n h = refl
  walk_stop (suc k) i n h = rw (lt-ltb n (f i) h)

  -- As a loop has it at place i of those before e, whose length is t: one place more, a place that stops it, and the end.
  pub turn : (e i n t : ℕ) (w : Place) → i < e → walk f (e - i) i n ≡ w → t ≡ f i → t ≤ n → walk f (e - (i + 1)) (i + 1) (n - t) ≡ w
  turn e i n t w h q x m =
      let k : e - i ≡ suc (e - (i + 1)) = omega arith in
      ap (λ (z : ℕ). walk f (e - (i + 1)) (i + 1) (n - z)) x
      ∙ (sym (ap (λ (z : ℕ). walk f z i n) k ∙ walk_more (e - (i + 1)) i n (omega arith)) ∙ q)

  pub stop : (e i n t : ℕ) (w : Place) → walk f (e - i) i n ≡ w → t ≡ f i → n < t → record { at = i; rest = n } ≡ w
  stop e i n t w q x h = sym (walk_stop (e - i) i n (omega arith)) ∙ q

  pub end : (e i n : ℕ) (w : Place) → i ≡ e → walk f (e - i) i n ≡ w → record { at = e; rest = n } ≡ w
  unfolding walk
  end e i n w h q = let z : e - i ≡ 0 = omega arith in ap (λ (a : ℕ). record { at = a; rest = n }) (sym h) ∙ (sym (ap (λ (k : ℕ). walk f k i n) z) ∙ q)

  -- day n falls in w, one of the k places from i on
  pub record Falls (i k n : ℕ) (w : Place) : Type 0 where
    pub low : i ≤ w.at
    pub high : w.at < i + k
    pub inside : w.rest < f w.at
    pub whole : sum f i (w.at - i) + w.rest ≡ n

  -- the walk finds where a day falls
  pub falls : (k i n : ℕ) → n < sum f i k → Falls i k n (walk f k i n)
  falls zero i n h = absurd (let z : sum f i 0 ≡ 0 = sum-none i in omega arith)
  falls (suc k) i n h =
      elim (dec_le (f i) n) [
        | yes l ↦
            let s : sum f i (suc k) ≡ f i + sum f (i + 1) k = sum_more i k in
            let w : Place = walk f k (i + 1) (n - f i) in
            let r : Falls (i + 1) k (n - f i) w = falls k (i + 1) (n - f i) (omega arith) in
            let lo : i + 1 ≤ w.at = r.low in
            let hi : w.at < i + 1 + k = r.high in
            let m : w.at - i ≡ suc (w.at - (i + 1)) = omega arith in
            let t : sum f i (w.at - i) ≡ f i + sum f (i + 1) (w.at - (i + 1)) = ap (sum f i) m ∙ sum_more i (w.at - (i + 1)) in
            let q : sum f (i + 1) (w.at - (i + 1)) + w.rest ≡ n - f i = r.whole in
            rw (walk_more k i n l) (record { low = omega arith; high = omega arith; inside = r.inside; whole = omega arith })
        | no l ↦
            let z : i - i ≡ 0 = omega arith in
            let t : sum f i (i - i) ≡ 0 = ap (sum f i) z ∙ sum-none i in
            rw (walk_stop (suc k) i n (let m : n < f i = omega arith in m)) (record { low = omega arith; high = omega arith; inside = omega arith; whole = omega arith })
      ]

  -- it falls in the first place, or in one of the others
  here : (i k n : ℕ) (w : Place) → Falls i (suc k) n w → w.at ≤ i → (w.at ≡ i) × (w.rest ≡ n) × (n < f i)
  here i k n w r l =
      let e : w.at ≡ i = (let lo : i ≤ w.at = r.low in omega arith) in
      let z : w.at - i ≡ 0 = omega arith in
      let t : sum f i (w.at - i) ≡ 0 = ap (sum f i) z ∙ sum-none i in
      let q : w.rest ≡ n = (let h : sum f i (w.at - i) + w.rest ≡ n = r.whole in omega arith) in
      (e, q, (let h : w.rest < f w.at = r.inside in let g : f w.at ≡ f i = ap f e in omega arith))

  later : (i k n : ℕ) (w : Place) → Falls i (suc k) n w → i < w.at → (f i ≤ n) × Falls (i + 1) k (n - f i) w
  later i k n w r l =
      let m : w.at - i ≡ suc (w.at - (i + 1)) = omega arith in
      let t : sum f i (w.at - i) ≡ f i + sum f (i + 1) (w.at - (i + 1)) = ap (sum f i) m ∙ sum_more i (w.at - (i + 1)) in
      let hi : w.at < i + suc k = r.high in
      let q : sum f i (w.at - i) + w.rest ≡ n = r.whole in
      (omega arith, record { low = omega arith; high = omega arith; inside = r.inside; whole = omega arith })

  nowhere : (i n : ℕ) (w : Place) → Falls i 0 n w → ⊥
  nowhere i n w r = let lo : i ≤ w.at = r.low in let hi : w.at < i + 0 = r.high in omega arith

  -- and nowhere else
  pub found : (k i n : ℕ) (w : Place) → Falls i k n w → walk f k i n ≡ w
  found zero i n w r = absurd (nowhere i n w r)
  found (suc k) i n w r =
      elim (dec_le w.at i) [
        | yes l ↦
            let h : (w.at ≡ i) × (w.rest ≡ n) × (n < f i) = here i k n w r l in
            walk_stop (suc k) i n h.2 ∙ ap₂ (λ (a b : ℕ). record { at = a; rest = b }) (sym h.0) (sym h.1)
        | no l ↦
            let g : (f i ≤ n) × Falls (i + 1) k (n - f i) w = later i k n w r (omega arith) in
            walk_more k i n g.0 ∙ found k (i + 1) (n - f i) w g.1
      ]

  -- a day that falls in one of the places is before their end
  pub falls_below : (k i n : ℕ) (w : Place) → Falls i k n w → n < sum f i k
  falls_below zero i n w r = absurd (nowhere i n w r)
  falls_below (suc k) i n w r =
      let s : sum f i (suc k) ≡ f i + sum f (i + 1) k = sum_more i k in
      elim (dec_le w.at i) [
        | yes l ↦ let h : n < f i = (here i k n w r l).2 in omega arith
        | no l ↦
            let g : (f i ≤ n) × Falls (i + 1) k (n - f i) w = later i k n w r (omega arith) in
            let b : n - f i < sum f (i + 1) k = falls_below k (i + 1) (n - f i) w g.1 in
            let m : f i ≤ n = g.0 in
            omega arith
      ]
