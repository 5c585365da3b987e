-- What stores leave on a sector.
use Prim.Native.Nat.{ℕ, zero, suc, ◌<◌}
use mathlib.Core.Path.{◌≡◌, refl, sym, ap, ◌∙◌}
use mathlib.Core.Bool.{Bool, cond}
use mathlib.Core.List.{List}
use native.Mathlib.Decide.{ℕ_discrete}
use native.Mathlib.Nat.{not-suc-le-zero}
use native.Mathlib.Omega.{arith}
use borrow.Author.Tests.{eq-eqb, ne_eqb}
use lib.Dec.{eqb}
use lib.ListN.{length}
use Rattle.crash.specs.Crash.{Sectors, Store, put, landed}

module _ (st : ℕ → Store) (d : Sectors) where
  step_hit : (i n : ℕ) → n ≡ (st i).sector → landed st (suc i) d n ≡ (st i).content
  unfolding landed
  step_hit i n e = ap (λ (b : Bool). cond b (st i).content (landed st i d n)) (eq-eqb n (st i).sector e)

  step_miss : (i n : ℕ) → (n ≡ (st i).sector → ⊥) → landed st (suc i) d n ≡ landed st i d n
  unfolding landed
  step_miss i n h = ap (λ (b : Bool). cond b (st i).content (landed st i d n)) (ne_eqb n (st i).sector h)

  pub landed_none : (n : ℕ) → landed st 0 d n ≡ d n
  unfolding landed
  landed_none n = refl

  -- a sector that no store goes to is as it was
  pub landed_old : (j n : ℕ) → ((i : ℕ) → i < j → n ≡ (st i).sector → ⊥) → landed st j d n ≡ d n
  landed_old zero n h = landed_none n
  landed_old (suc j) n h = step_miss j n (h j (omega arith)) ∙ landed_old j n (λ i k. h i (omega arith))

  -- a sector is as the last store to it left it
  pub landed-last : (j i n : ℕ) → i < j → n ≡ (st i).sector → ((k : ℕ) → i < k → k < j → n ≡ (st k).sector → ⊥) → landed st j d n ≡ (st i).content
  landed-last zero i n l e h = absurd (not-suc-le-zero l)
  landed-last (suc j) i n l e h =
      elim (ℕ_discrete i j) [
        | yes p ↦ ap (λ (k : ℕ). landed st (suc k) d n) (sym p) ∙ step_hit i n e
        | no p ↦ step_miss j n (h j (omega arith) (omega arith)) ∙ landed-last j i n (omega arith) e (λ k a b. h k a (omega arith))
      ]

  -- a sector that one store alone goes to is as stored
  pub landed-new : (j i n : ℕ) → i < j → n ≡ (st i).sector → ((k : ℕ) → k < j → n ≡ (st k).sector → k ≡ i) → landed st j d n ≡ (st i).content
  landed-new j i n l e h = landed-last j i n l e (λ k a b q. let z : k ≡ i = h k b q in omega arith)

  -- sectors keep their size where every store has it
  pub landed-size : ((n : ℕ) → length (d n) ≡ 512) → (j : ℕ) → ((i : ℕ) → i < j → length (st i).content ≡ 512) → (n : ℕ) → length (landed st j d n) ≡ 512
  landed-size h zero c n = ap length (landed_none n) ∙ h n
  landed-size h (suc j) c n =
      elim (ℕ_discrete n (st j).sector) [
        | yes e ↦ ap length (step_hit j n e) ∙ c j (omega arith)
        | no e ↦ ap length (step_miss j n e) ∙ landed-size h j (λ i l. c i (omega arith)) n
      ]

-- the first store, then the others
pub landed-first : (st : ℕ → Store) (d : Sectors) (j n : ℕ) → landed st (suc j) d n ≡ landed (λ i. st (suc i)) j (put d (st 0)) n
unfolding landed
landed-first st d zero n = refl
landed-first st d (suc j) n = ap (λ (v : List ℕ). cond (eqb n (st (suc j)).sector) (st (suc j)).content v) (landed-first st d j n)
