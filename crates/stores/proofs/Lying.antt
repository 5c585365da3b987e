-- Where a store lies that is given: on the device that the tests of its plan have passed.
use Prim.Native.Nat.{ℕ, ◌+◌, ◌≤◌, ◌<◌}
use mathlib.Core.Path.{◌≡◌, refl, sym, subst}
use mathlib.Core.Logic.{◌⊎◌, inl, inr}
use mathlib.Core.Bool.{Bool, true, false, cond}
use mathlib.Core.List.{List}
use native.Mathlib.Omega.{arith}
use borrow.Author.Tests.{eqb-true, ltb-true}
use lib.Dec.{eqb, ltb, lit<}
use Rattle.refusal.specs.Numbers.{slice_size, no_such_store}
use Rattle.std.specs.Prelude.{Result, Ok, Err}
use Rattle.refusal.specs.declared.Reason.{Reason}
use Rattle.refusal.specs.Reasons.{reason}
use Rattle.refusal.specs.Tests.{first, AllHold}
use Rattle.refusal.proofs.Order.{first_holds}
use Rattle.layout.specs.declared.Device.{Device}
use Rattle.layout.specs.declared.Side.{Side}
use Rattle.layout.specs.declared.Area.{Area}
use Rattle.layout.specs.Places.{block_sector, area_sector}
use Rattle.layout.proofs.Laws.{length_facts}
use Rattle.block.specs.declared.BlockFields.{BlockFields}
use Rattle.block.specs.Block.{pool_of, blockdev_of}
use Rattle.block.specs.Writing.{write_tests}
use Rattle.copy.specs.Copy.{is_copy, block_in}
use Rattle.crash.specs.Crash.{area_sectors}
use Rattle.crash.proofs.Copies.{limit_small}
use Rattle.stores.specs.declared.Part.{Part}
use Rattle.stores.specs.Stores.{sectors_of}
use Rattle.stores.specs.Given.{within, block_answer, block_given, part_answer, part_tests, part_given, plan_tests}
use Rattle.stores.specs.States.{Lies}
use Rattle.stores.proofs.Padding.{sectors-within}
use Rattle.stores.proofs.Places.{Sizes, sizes_tested, block_below, area_below}
use Rattle.stores.proofs.Refusing.{at-refused}

-- a test chooses the answer
pub by_test : {P : Type 0} (t : Bool) (a b : Result ℕ Reason) (n : ℕ) → (t ≡ true → a ≡ Ok n → P) → (t ≡ false → b ≡ Ok n → P) → cond t a b ≡ Ok n → P
by_test true a b n f g h = f refl h
by_test false a b n f g h = g refl h

-- a refusal is no store
pub no_place : {P : Type 0} (m : Reason) (n : ℕ) → Err m ≡ Ok n → P
no_place m n e = absurd (at-refused n m (sym e))

same_place : (m n : ℕ) → ◌≡◌ {A = Result ℕ Reason} (Ok m) (Ok n) → n ≡ m
same_place m n e = cc

block_inner : (s : ℕ) (g : BlockFields) (c out : List ℕ) (n : ℕ) → block_answer s g c out ≡ Ok n → n ≡ s
block_inner s g c out n =
    by_test (eqb (first (write_tests out (pool_of (block_in c)) (blockdev_of (block_in c)) g)) 0) (Ok s) (Err _) n (λ t e. same_place s n e) (λ t e. no_place _ n e)

pub block_place_lem : (s : ℕ) (g : BlockFields) (c out : List ℕ) (n : ℕ) → block_given s g c out ≡ Ok n → n ≡ s
block_place_lem s g c out n =
    by_test (is_copy c) (block_answer s g c out) (Err (reason slice_size)) n (λ t e. block_inner s g c out n e) (λ t e. no_place (reason slice_size) n e)

-- a part's sector, or its block
pub part-place : (p : Part) (k : ℕ) (c r : List ℕ) (j : ℕ) (out : List ℕ) (n : ℕ) → part_given p k c r j out ≡ Ok n
    → (n ≡ p.block) ⊎ ((j < k) × (n ≡ p.area + j))
part-place p k c r j out n =
    by_test (eqb (first (part_tests k c r j out)) 0) (part_answer p k c j out) (Err (reason (first (part_tests k c r j out)))) n
    (λ t.
    by_test (ltb j k) (cond (within p.area j) (Ok (p.area + j)) (Err (reason no_such_store))) (block_answer p.block p.fields c out) n
    (λ l. by_test (within p.area j) (Ok (p.area + j)) (Err (reason no_such_store)) n
    (λ u e. inr (ltb-true j k l, same_place (p.area + j) n e)) (λ u e. no_place (reason no_such_store) n e))
    (λ l e. inl (block_inner p.block p.fields c out n e)))
    (λ t e. no_place (reason (first (part_tests k c r j out))) n e)

-- the tests of a plan's store, all passed
module _ (f b : List ℕ) (room m n i k : ℕ) (v : Device) (z : first (plan_tests f b room m n i k v) ≡ 0) where
  holds : AllHold (plan_tests f b room m n i k v)
  holds = first_holds (plan_tests f b room m n i k v) (lit< tt, (lit< tt, (lit< tt, (lit< tt, (lit< tt, (lit< tt, (lit< tt, tt))))))) z

  sizes : Sizes v
  sizes = sizes_tested v holds.1.1.1.1

  most : sectors_of n ≤ area_sectors
  most = let e : m ≡ n = eqb-true m n holds.1.1.0 in sectors-within n (length_facts n (rw e at holds.1.0)).1

  pub block_lies : (w : Side) (s : ℕ) → s ≡ block_sector w v → Lies w v s
  block_lies w s e = record { place = inl e; below = subst (λ (q : ℕ). q < v.sectors) (sym e) (block_below v sizes w) }

  pub part_lies : (w : Side) (x : Area) (j s : ℕ) → (s ≡ block_sector w v) ⊎ ((j < sectors_of n) × (s ≡ area_sector w x v + j)) → Lies w v s
  part_lies w x j s (inl e) = block_lies w s e
  part_lies w x j s (inr q) =
      let l : j < sectors_of n = q.0 in
      let a : sectors_of n ≤ area_sectors = most in
      let b : area_sectors ≤ 1020 = limit_small in
      record {
        place = inr (x, (j, (omega arith, q.1)));
        below = subst (λ (y : ℕ). y < v.sectors) (sym q.1) (area_below v sizes w x j (omega arith));
      }
