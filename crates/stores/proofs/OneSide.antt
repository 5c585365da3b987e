-- What stores and cuts leave of one side's sectors: its present area, the area that the record goes to, its block.
-- The other side's stores do not come near.
use Prim.Native.Nat.{ℕ, ◌+◌, ◌≤◌, ◌<◌}
use mathlib.Core.Path.{◌≡◌, sym, ap, ◌∙◌}
use mathlib.Core.Logic.{◌⊎◌, inl, inr}
use mathlib.Core.List.{List}
use native.Mathlib.Decide.{ℕ_discrete}
use native.Mathlib.Omega.{arith}
use Rattle.crash.specs.Crash.{Sectors, Store, landed, Stored, Cut}
use Rattle.crash.proofs.Landing.{landed_old, landed-new}
use Rattle.stores.specs.Stores.{sector_of}

-- The stores of a side: k into an area from sector a on, from number o on, then the block's. Of all stores below `all` only
-- these go to sectors that are near.
pub record Side (st : ℕ → Store) (all o k a m : ℕ) (r n : List ℕ) (near : ℕ → Type 0) : Type 0 where
  pub within : o + k < all
  pub area : (i : ℕ) → i < k → st (o + i) ≡ record { sector = a + i; content = sector_of r i }
  pub block : st (o + k) ≡ record { sector = m; content = n }
  pub own : (j : ℕ) → j < all → near (st j).sector → (o ≤ j) × (j ≤ o + k)
  pub near_area : (i : ℕ) → i < k → near (a + i)
  pub near_block : near m
  pub block_apart : (i : ℕ) → i < k → a + i ≡ m → ⊥

module _ {st : ℕ → Store} {all o k a m : ℕ} {r n : List ℕ} {near : ℕ → Type 0} (h : Side st all o k a m r n near) where
  -- a near sector that a store goes to is one of the area, or the block
  hit : (j q : ℕ) → j < all → near q → q ≡ (st j).sector → ((i : ℕ) × (i < k) × (j ≡ o + i) × (q ≡ a + i)) ⊎ ((j ≡ o + k) × (q ≡ m))
  hit j q l w e =
      let b : (o ≤ j) × (j ≤ o + k) = h.own j l (mathlib.Core.Path.subst near e w) in
      let b0 : o ≤ j = b.0 in
      let b1 : j ≤ o + k = b.1 in
      elim (ℕ_discrete j (o + k)) [
        | yes p ↦ inr (p, e ∙ ap (λ (s : Store). s.sector) (ap st p ∙ h.block))
        | no p ↦
            let i : ℕ = Prim.Native.Nat.◌-◌ j o in
            let x : j ≡ o + i = omega arith in
            let y : i < k = omega arith in
            inl (i, y, x, e ∙ ap (λ (s : Store). s.sector) (ap st x ∙ h.area i y))
      ]

  -- a near sector of neither is never stored to
  pub untouched : (q : ℕ) → near q → ((i : ℕ) → i < k → q ≡ a + i → ⊥) → (q ≡ m → ⊥) → (j : ℕ) → j < all → q ≡ (st j).sector → ⊥
  untouched q w x y j l e = go (hit j q l w e)
    where
      go : ((i : ℕ) × (i < k) × (j ≡ o + i) × (q ≡ a + i)) ⊎ ((j ≡ o + k) × (q ≡ m)) → ⊥
      go (inl z) = x z.0 z.1 z.3
      go (inr z) = y z.1

  -- the area's sector i is stored to by number o + i alone
  pub area_by : (i : ℕ) → i < k → (j : ℕ) → j < all → a + i ≡ (st j).sector → j ≡ o + i
  area_by i y j l e = go (hit j (a + i) l (h.near_area i y) e)
    where
      go : ((x : ℕ) × (x < k) × (j ≡ o + x) × (a + i ≡ a + x)) ⊎ ((j ≡ o + k) × (a + i ≡ m)) → j ≡ o + i
      go (inl z) =
          let p : j ≡ o + z.0 = z.2 in
          let q : a + i ≡ a + z.0 = z.3 in
          omega arith
      go (inr z) = absurd (h.block_apart i y z.1)

  -- the block by number o + k alone
  pub block_by : (j : ℕ) → j < all → m ≡ (st j).sector → j ≡ o + k
  block_by j l e = go (hit j m l h.near_block e)
    where
      go : ((x : ℕ) × (x < k) × (j ≡ o + x) × (m ≡ a + x)) ⊎ ((j ≡ o + k) × (m ≡ m)) → j ≡ o + k
      go (inl z) = absurd (h.block_apart z.0 z.1 (sym z.3))
      go (inr z) = z.0

  module _ (d : Sectors) where
    pub area-landed : (i j : ℕ) → i < k → o + i < j → j ≤ all → landed st j d (a + i) ≡ sector_of r i
    area-landed i j y x l =
        landed-new st d j (o + i) (a + i) x (sym (ap (λ (s : Store). s.sector) (h.area i y)))
        (λ q w e. area_by i y q (omega arith) e)
        ∙ ap (λ (s : Store). s.content) (h.area i y)

    pub block-landed : (j : ℕ) → o + k < j → j ≤ all → landed st j d m ≡ n
    block-landed j x l =
        landed-new st d j (o + k) m x (sym (ap (λ (s : Store). s.sector) h.block)) (λ q w e. block_by q (omega arith) e)
        ∙ ap (λ (s : Store). s.content) h.block

    pub block-kept : (j : ℕ) → j ≤ o + k → landed st j d m ≡ d m
    block-kept j x =
        landed_old st d j m (λ q w e.
        let z : q ≡ o + k = block_by q (let b : o + k < all = h.within in omega arith) e in
        omega arith)

    pub kept : (q : ℕ) → near q → ((i : ℕ) → i < k → q ≡ a + i → ⊥) → (q ≡ m → ⊥) → (j : ℕ) → j ≤ all → landed st j d q ≡ d q
    kept q w x y j l = landed_old st d j q (λ p u e. untouched q w x y p (omega arith) e)

  module _ (d e : Sectors) (i j : ℕ) (l : i ≤ j) (b : j ≤ all) (c : Cut st i j d e) where
    -- a sector that the running group does not store to, and that is the same before and after it
    settled : (q : ℕ) (v : List ℕ) → landed st i d q ≡ v → landed st j d q ≡ v → (Stored st i j q → ⊥) → e q ≡ v
    settled q v x y s = go (c.each q)
      where
        go : (e q ≡ landed st i d q) ⊎ ((e q ≡ landed st j d q) ⊎ ((q ≡ c.wild) × Stored st i j q)) → e q ≡ v
        go (inl z) = z ∙ x
        go (inr (inl z)) = z ∙ y
        go (inr (inr z)) = absurd (s z.1)

    -- the present area's sectors are as they were
    pub cut-kept : (q : ℕ) → near q → ((x : ℕ) → x < k → q ≡ a + x → ⊥) → (q ≡ m → ⊥) → e q ≡ d q
    cut-kept q w x y =
        settled q (d q) (kept d q w x y i (omega arith)) (kept d q w x y j b)
        (λ s. let g : s.0 < j = s.2 in untouched q w x y s.0 (omega arith) (sym s.3))

    -- an area whose stores have all landed holds the record's sectors
    pub cut-area : o + k ≤ i → (x : ℕ) → x < k → e (a + x) ≡ sector_of r x
    cut-area w x y =
        settled (a + x) (sector_of r x) (area-landed d x i y (omega arith) (omega arith)) (area-landed d x j y (omega arith) b)
        (λ s.
        let g : i ≤ s.0 = s.1 in
        let g2 : s.0 < j = s.2 in
        let z : s.0 ≡ o + x = area_by x y s.0 (omega arith) (sym s.3) in
        omega arith)

    -- a block that the running group does not store to: as it was, or as stored
    pub cut-old : j ≤ o + k → e m ≡ d m
    cut-old w =
        settled m (d m) (block-kept d i (omega arith)) (block-kept d j w)
        (λ s.
        let g2 : s.0 < j = s.2 in
        let z : s.0 ≡ o + k = block_by s.0 (omega arith) (sym s.3) in
        omega arith)

    pub cut-new : o + k < i → e m ≡ n
    cut-new w =
        settled m n (block-landed d i w (omega arith)) (block-landed d j (omega arith) b)
        (λ s.
        let g : i ≤ s.0 = s.1 in
        let g2 : s.0 < j = s.2 in
        let z : s.0 ≡ o + k = block_by s.0 (omega arith) (sym s.3) in
        omega arith)
