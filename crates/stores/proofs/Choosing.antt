-- What the calls give where their tests hold.
use Prim.Native.Nat.{ℕ, ◌+◌, ◌-◌, ◌≤◌, ◌<◌}
use mathlib.Core.Path.{◌≡◌, sym, ap, ◌∙◌}
use mathlib.Core.Bool.{true, false, not, ◌&&◌}
use mathlib.Core.List.{List}
use borrow.Author.Tests.{lt-ltb, le-ltb, le-leb, eq-eqb, not-true, not-false}
use lib.Dec.{eqb}
use lib.ListN.{length}
use Rattle.endian.proofs.Tests.{and_both}
use Rattle.std.specs.Prelude.{Ok}
use Rattle.refusal.specs.Tests.{first}
use Rattle.refusal.proofs.Order.{first_all}
use Rattle.layout.specs.Limits.{length_allowed}
use Rattle.layout.specs.Places.{copy_bytes}
use Rattle.block.specs.declared.BlockFields.{BlockFields}
use Rattle.block.specs.Block.{pool_of, blockdev_of}
use Rattle.block.specs.Writing.{write_tests, written}
use Rattle.copy.specs.Copy.{is_copy, block_in}
use Rattle.discovery.specs.Discovery.{sized}
use Rattle.stores.specs.declared.Part.{Part}
use Rattle.stores.specs.Stores.{sector_of}
use Rattle.stores.specs.Given.{block_given, block_left, part_tests, part_given, part_left, lent_right}
use Rattle.stores.proofs.Padding.{sector_laid}

-- copies of the right size, and a sector's bytes
pub lent_right_lem : (f b out : List ℕ) → sized f b ≡ true → length out ≡ 512 → lent_right f b out ≡ true
lent_right_lem f b out z room = and_both (sized f b) (eqb (length out) 512) z (eq-eqb (length out) 512 room)

-- what is given: a block that the writer takes
pub block_given_lem : (s : ℕ) (g : BlockFields) (c out b : List ℕ) → is_copy c ≡ true → first (write_tests out (pool_of (block_in c)) (blockdev_of (block_in c)) g) ≡ 0
    → written out (pool_of (block_in c)) (blockdev_of (block_in c)) g ≡ b → (block_given s g c out ≡ Ok s) × (block_left g c out ≡ b)
block_given_lem s g c out b h z e = (rw (h, z), rw h e)

-- and a part's sectors and block
module _ (p : Part) (k : ℕ) (c r : List ℕ) (j : ℕ) (out : List ℕ) (copy : is_copy c ≡ true) (room : length out ≡ 512) (len : length_allowed (length r) ≡ true)
    (here : j ≤ k) where
  tested : first (part_tests k c r j out) ≡ 0
  tested = first_all (part_tests k c r j out) (and_both (is_copy c) (eqb (length out) 512) copy (eq-eqb (length out) 512 room), (len, (le-leb j k here, tt)))

  pub area_given : j < k → p.area ≤ 18446744073709551615 - j
      → (part_given p k c r j out ≡ Ok (p.area + j)) × (part_left p k c r j out ≡ sector_of r j)
  area_given h l =
      (rw (tested, lt-ltb j k h, le-leb p.area (18446744073709551615 - j) l), rw (tested, lt-ltb j k h, le-leb p.area (18446744073709551615 - j) l) (sector_laid r j out room))

  pub part_given_lem : k ≤ j → (s : ℕ) (b : List ℕ) → (block_given p.block p.fields c out ≡ Ok s) × (block_left p.fields c out ≡ b)
      → (part_given p k c r j out ≡ Ok s) × (part_left p k c r j out ≡ b)
  part_given_lem h s b x = (rw (tested, le-ltb j k h) (rw copy at x.0), rw (tested, le-ltb j k h) (rw copy at x.1))

-- the sizes of the slices, as the code tests them with the size m of a copy
module _ (f b out : List ℕ) (m : ℕ) (e : m ≡ copy_bytes) where
  sizes : ((eqb (length f) m && eqb (length b) m) && eqb (length out) 512) ≡ lent_right f b out
  sizes = ap (λ (n : ℕ). (eqb (length f) n && eqb (length b) n) && eqb (length out) 512) e

  pub sizes_wrong : not ((eqb (length f) m && eqb (length b) m) && eqb (length out) 512) ≡ true → lent_right f b out ≡ false
  sizes_wrong h = sym sizes ∙ not-true _ h

  pub sizes_right : not ((eqb (length f) m && eqb (length b) m) && eqb (length out) 512) ≡ false → lent_right f b out ≡ true
  sizes_right h = sym sizes ∙ not-false _ h
