-- Laws of the search for free sectors, and of the runs from a sector on.
use Prim.Native.Nat.{ℕ, zero, suc, ◌-◌, ◌≤◌, ◌<◌, min}
use mathlib.Core.Path.{◌≡◌, refl, sym, ap, ◌∙◌}
use mathlib.Core.Bool.{Bool, true, false, not, ◌&&◌}
use mathlib.Core.List.{List, [], ◌∷◌}
use native.Mathlib.Decide.{dec_lt}
use native.Mathlib.Nat.{le_refl, not-suc-le-zero}
use native.Mathlib.Omega.{arith}
use borrow.Author.Tests.{lt-ltb, le-ltb, le-leb, leb-true, not-true, not-false}
use lib.Dec.{leb}
use Rattle.endian.proofs.Tests.{and_left, and_right, and_both}
use Rattle.search.proofs.Search.{not_true-false, both, least-le, least-holds, least-below, least-same}
use Rattle.runs.specs.declared.Run.{Run}
use Rattle.runs.specs.Runs.{passes_from, next_free, next_taken, run_to, runs_from, runs_of}

-- The next free sector.
module _ (p : ℕ → Bool) (e : ℕ) where
  pub next_free-le : (x : ℕ) → next_free p e x ≤ e
  unfolding next_free
  next_free-le x = least-le (passes_from p x) e

  -- what is before it, from x on, is not free
  pub next_free-before : (x z : ℕ) → x ≤ z → z < next_free p e x → p z ≡ false
  unfolding next_free
  next_free-before x z l h =
      not_true-false (p z) (λ f. both (passes_from p x z) (and_both (leb x z) (p z) (le-leb x z l) f) (least-below (passes_from p x) e z h))

  passes : (x : ℕ) → next_free p e x < e → passes_from p x (next_free p e x) ≡ true
  unfolding next_free
  passes x h = least-holds (passes_from p x) e h

  -- it is free, where there is one
  pub next_free-free : (x : ℕ) → next_free p e x < e → p (next_free p e x) ≡ true
  next_free-free x h = and_right (leb x (next_free p e x)) (p (next_free p e x)) (passes x h)

  -- it is from x on, unless x is past the end
  pub next_free_from : (x : ℕ) → min x e ≤ next_free p e x
  next_free_from x =
      elim (dec_lt (next_free p e x) e) [
        | yes l ↦
            let q : x ≤ next_free p e x = leb-true x (next_free p e x) (and_left (leb x (next_free p e x)) (p (next_free p e x)) (passes x l)) in
            omega arith
        | no l ↦ omega arith
      ]

  -- none from x on
  pub next_free-none : (x : ℕ) → ((z : ℕ) → x ≤ z → z < e → p z ≡ false) → next_free p e x ≡ e
  next_free-none x h =
      let m : next_free p e x ≤ e = next_free-le x in
      let f : min x e ≤ next_free p e x = next_free_from x in
      elim (dec_lt (next_free p e x) e) [
        | yes l ↦ absurd (both (p (next_free p e x)) (next_free-free x l) (h (next_free p e x) (omega arith) l))
        | no l ↦ omega arith
      ]

  -- sectors that are not free may be skipped
  pub next_free_skip : (x y : ℕ) → x ≤ y → ((z : ℕ) → x ≤ z → z < y → p z ≡ false) → next_free p e x ≡ next_free p e y
  next_free_skip x y l h =
      let a : ℕ = next_free p e x in
      let b : ℕ = next_free p e y in
      let k : a ≤ e = next_free-le x in
      let m : b ≤ e = next_free-le y in
      let f : min x e ≤ a = next_free_from x in
      let g : min y e ≤ b = next_free_from y in
      elim (dec_lt a b) [
        | yes t ↦
            absurd (both (p a) (next_free-free x (omega arith)) (elim (dec_lt a y) [
              | yes u ↦ h a (omega arith) u
              | no u ↦ next_free-before y a (omega arith) t
            ]))
        | no t ↦
            elim (dec_lt b a) [
              | yes u ↦ absurd (both (p b) (next_free-free y (omega arith)) (next_free-before x b (omega arith) u))
              | no u ↦ omega arith
            ]
      ]

  -- it is x, where x is free
  pub next_free_here : (x : ℕ) → x < e → p x ≡ true → next_free p e x ≡ x
  next_free_here x l h =
      let f : min x e ≤ next_free p e x = next_free_from x in
      elim (dec_lt x (next_free p e x)) [
        | yes t ↦ absurd (both (p x) h (next_free-before x x (le_refl x) t))
        | no t ↦ omega arith
      ]

-- the same free sectors below the end
pub next_free-same : (p q : ℕ → Bool) (e x : ℕ) → ((y : ℕ) → y < e → p y ≡ q y) → next_free p e x ≡ next_free q e x
unfolding next_free
next_free-same p q e x h = least-same (passes_from p x) (passes_from q x) e (λ y l. ap (λ (b : Bool). leb x y && b) (h y l))

pub next_taken-same : (p q : ℕ → Bool) (e x : ℕ) → ((y : ℕ) → y < e → p y ≡ q y) → next_taken p e x ≡ next_taken q e x
unfolding next_taken
next_taken-same p q e x h = next_free-same (λ y. not (p y)) (λ y. not (q y)) e x (λ y l. ap not (h y l))

-- The next sector that is not free: the next free one of the opposite test.
module _ (p : ℕ → Bool) (e : ℕ) where
  pub next_taken-le : (x : ℕ) → next_taken p e x ≤ e
  unfolding next_taken
  next_taken-le x = next_free-le (λ y. not (p y)) e x

  pub next_taken-before : (x z : ℕ) → x ≤ z → z < next_taken p e x → p z ≡ true
  unfolding next_taken
  next_taken-before x z l h = not-false (p z) (next_free-before (λ y. not (p y)) e x z l h)

  pub next_taken-taken : (x : ℕ) → next_taken p e x < e → p (next_taken p e x) ≡ false
  unfolding next_taken
  next_taken-taken x h = not-true (p (next_taken p e x)) (next_free-free (λ y. not (p y)) e x h)

  pub next_taken_from : (x : ℕ) → min x e ≤ next_taken p e x
  unfolding next_taken
  next_taken_from x = next_free_from (λ y. not (p y)) e x

  -- from a free sector on there is a free sector
  pub next_taken_more : (x : ℕ) → x < e → p x ≡ true → x < next_taken p e x
  next_taken_more x l h =
      let f : min x e ≤ next_taken p e x = next_taken_from x in
      elim (dec_lt x (next_taken p e x)) [
        | yes t ↦ t
        | no t ↦
            let q : next_taken p e x ≡ x = omega arith in
            absurd (both (p x) h (ap p (sym q) ∙ next_taken-taken x (omega arith)))
      ]

  -- it is y, where all sectors up to y are free, and y is not
  pub next_taken_is : (x y : ℕ) → x ≤ y → y ≤ e → ((z : ℕ) → x ≤ z → z < y → p z ≡ true) → (y < e → p y ≡ false) → next_taken p e x ≡ y
  next_taken_is x y l m h k =
      let a : next_taken p e x ≤ e = next_taken-le x in
      let f : min x e ≤ next_taken p e x = next_taken_from x in
      elim (dec_lt (next_taken p e x) y) [
        | yes t ↦ absurd (both (p (next_taken p e x)) (h (next_taken p e x) (omega arith) t) (next_taken-taken x (omega arith)))
        | no t ↦
            elim (dec_lt y (next_taken p e x)) [
              | yes u ↦ absurd (both (p y) (next_taken-before x y l u) (k (omega arith)))
              | no u ↦ omega arith
            ]
      ]

-- The runs from a sector on, n at most.
module _ (p : ℕ → Bool) (e : ℕ) where
  -- there is none
  pub runs_none : (n x : ℕ) → next_free p e x ≡ e → runs_from p e n x ≡ []
  unfolding runs_from
  runs_none zero x h = refl
  runs_none (suc n) x h = rw (h, le-ltb e e (le_refl e))

  -- the first is from a up to b
  pub runs-first : (n x a b : ℕ) → next_free p e x ≡ a → a < e → next_taken p e a ≡ b → runs_from p e (suc n) x ≡ run_to a b ∷ runs_from p e n b
  unfolding runs_from
  runs-first n x a b h l k = rw (h, lt-ltb a e l, k)

  -- sectors that are not free may be skipped
  pub runs_skip : (n x y : ℕ) → x ≤ y → ((z : ℕ) → x ≤ z → z < y → p z ≡ false) → runs_from p e n x ≡ runs_from p e n y
  unfolding runs_from
  runs_skip zero x y l h = refl
  runs_skip (suc n) x y l h = rw (next_free_skip p e x y l h)

  -- more than there are sectors is enough
  pub runs-enough : (n m x : ℕ) → e - x < n → e - x < m → runs_from p e n x ≡ runs_from p e m x
  runs-enough zero m x h k = absurd (not-suc-le-zero h)
  runs-enough (suc n) zero x h k = absurd (not-suc-le-zero k)
  runs-enough (suc n) (suc m) x h k =
      let a : ℕ = next_free p e x in
      let b : ℕ = next_taken p e a in
      let f : min x e ≤ a = next_free_from p e x in
      let g : a ≤ e = next_free-le p e x in
      elim (dec_lt a e) [
        | yes l ↦
            let q : a < b = next_taken_more p e a l (next_free-free p e x l) in
            runs-first n x a b refl l refl
            ∙ (ap (λ (rs : List Run). run_to a b ∷ rs) (runs-enough n m b (omega arith) (omega arith)) ∙ sym (runs-first m x a b refl l refl))
        | no l ↦
            let q : a ≡ e = omega arith in
            runs_none (suc n) x q ∙ sym (runs_none (suc m) x q)
      ]

-- the same free sectors below the end
pub runs_from-same : (p q : ℕ → Bool) (e n x : ℕ) → ((y : ℕ) → y < e → p y ≡ q y) → runs_from p e n x ≡ runs_from q e n x
unfolding runs_from
runs_from-same p q e zero x h = refl
runs_from-same p q e (suc n) x h =
    rw (next_free-same p q e x h, next_taken-same p q e (next_free q e x) h, runs_from-same p q e n (next_taken q e (next_free q e x)) h)

pub runs_same : (p q : ℕ → Bool) (e : ℕ) → ((x : ℕ) → x < e → p x ≡ q x) → runs_of p e ≡ runs_of q e
unfolding runs_of
runs_same p q e h = runs_from-same p q e (suc e) 0 h
