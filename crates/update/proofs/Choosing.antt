-- The group of a store of a plan, the flush after it and what it gives, case by case.
use Prim.Native.Nat.{ℕ, suc, ◌+◌, ◌-◌, ◌*◌, ◌≤◌, ◌<◌}
use mathlib.Core.Path.{◌≡◌, ap₂}
use mathlib.Core.Bool.{Bool, false, not, ◌&&◌}
use mathlib.Core.List.{List}
use native.Mathlib.Omega.{arith}
use borrow.Author.Tests.{lt-ltb, le-ltb, le-leb, lt-leb, ne_eqb}
use lib.Dec.{eqb}
use Rattle.std.specs.Prelude.{Err}
use Rattle.refusal.specs.Reasons.{reason}
use Rattle.refusal.specs.Tests.{first}
use Rattle.layout.specs.declared.Side.TheVariants.{Front, Back}
use Rattle.stores.specs.Given.{part_given, part_left}
use Rattle.update.specs.declared.Plan.{Plan}
use Rattle.update.specs.Plan.{sectors_in, stores_in, group_of, flush_after, part_on, store_tests, store_answer, store_bytes}

-- the group of store i of a plan, and the flush after it
module _ (p : Plan) (i : ℕ) where
  abbrev k : ℕ
  k = sectors_in p

  pub in_front_area : i < k → group_of p i ≡ 0
  in_front_area h = rw (lt-ltb i k h)

  pub in_front_block : i ≡ k → group_of p i ≡ 1
  in_front_block h = let a : k ≤ i = omega arith in let c : i ≤ k = omega arith in rw (le-ltb i k a, le-leb i k c)

  pub in_back_area : k < i → i ≤ 2 * k → group_of p i ≡ 2
  in_back_area h c = let a : k ≤ i = omega arith in rw (le-ltb i k a, lt-leb i k h, le-leb i (2 * k) c)

  module _ (h : 2 * k < i) where
    pub in_back_block : i < stores_in p → group_of p i ≡ 3
    in_back_block c =
        let a : k ≤ i = omega arith in
        let b : k < i = omega arith in
        rw (le-ltb i k a, lt-leb i k b, lt-leb i (2 * k) h, lt-ltb i (stores_in p) c)

    pub in_none : stores_in p ≤ i → group_of p i ≡ 4
    in_none c =
        let a : k ≤ i = omega arith in
        let b : k < i = omega arith in
        rw (le-ltb i k a, lt-leb i k b, lt-leb i (2 * k) h, le-ltb i (stores_in p) c)

  pub flush_past : stores_in p ≤ i → flush_after p i ≡ false
  flush_past h = rw (le-ltb i (stores_in p) h)

  pub flush_at : i < stores_in p → (g m : ℕ) → group_of p i ≡ g → group_of p (suc i) ≡ m → flush_after p i ≡ not (eqb g m)
  flush_at h g m eg em = ap₂ (λ (a b : Bool). a && b) (lt-ltb i (stores_in p) h) (ap₂ (λ (x y : ℕ). not (eqb x y)) eg em)

-- a store of which a test fails, and one whose tests hold: that of its side
module _ (p : Plan) (f b r : List ℕ) (i : ℕ) (out : List ℕ) where
  pub none_store : (n : ℕ) → first (store_tests p f b r i out) ≡ n → (n ≡ 0 → ⊥) → (store_answer p f b r i out ≡ Err (reason n)) × (store_bytes p f b r i out ≡ out)
  none_store n e z = (rw (e, ne_eqb n 0 z), rw (e, ne_eqb n 0 z))

  module _ (z : first (store_tests p f b r i out) ≡ 0) where
    pub front_store : i ≤ sectors_in p
        → (store_answer p f b r i out ≡ part_given (part_on Front p.front p.entry f) (sectors_in p) f r i out)
        × (store_bytes p f b r i out ≡ part_left (part_on Front p.front p.entry f) (sectors_in p) f r i out)
    front_store h = (rw (z, le-leb i (sectors_in p) h), rw (z, le-leb i (sectors_in p) h))

    pub back_store : sectors_in p < i
        → (store_answer p f b r i out ≡ part_given (part_on Back p.back p.entry b) (sectors_in p) b r (i - (sectors_in p + 1)) out)
        × (store_bytes p f b r i out ≡ part_left (part_on Back p.back p.entry b) (sectors_in p) b r (i - (sectors_in p + 1)) out)
    back_store h = (rw (z, lt-leb i (sectors_in p) h), rw (z, lt-leb i (sectors_in p) h))
