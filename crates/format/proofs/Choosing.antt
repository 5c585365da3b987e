-- The groups of the stores, and the number of a store's tests.
use Prim.Native.Nat.{ℕ, ◌+◌, ◌≤◌, ◌<◌}
use mathlib.Core.Path.{◌≡◌, refl, ◌∙◌}
use mathlib.Core.Bool.{true, false}
use mathlib.Core.List.{List, [], ◌∷◌, ◌++◌}
use native.Mathlib.Omega.{arith}
use Rattle.std.proofs.lemmas.Bool.Decides.{nat_tests}
use borrow.Author.Tests.{lt-ltb, le-ltb}
use lib.Dec.{ltb, lit<}
use Rattle.refusal.specs.Tests.{Test, ◌else_refuse◌, first, Ascending}
use Rattle.refusal.proofs.Order.{first-pass, first_fail, first-nil, first-zero, first-after}
use Rattle.layout.specs.declared.Device.{Device}
use Rattle.layout.specs.declared.Area.TheVariants.{A}
use Rattle.layout.specs.Limits.{device_tests, record_limit}
use Rattle.layout.specs.Places.{copy_bytes, area_offset}
use Rattle.stores.specs.Given.{lent_right}
use Rattle.sectors.specs.Sectors.{copy_sectors, area_start}
use Rattle.format.specs.Writing.{store_count, areas_sectors, by_group, flush_after, store_tests}

-- the stores are the sectors of both copies
pub both_copies : store_count ≡ copy_sectors + copy_sectors
unfolding store_count
both_copies = omega arith

-- past the last store there is no group, and no flush
pub past_last : {T : Type 0} (i : ℕ) (p q r s t : T) → store_count ≤ i → by_group i p q r s t ≡ t
unfolding by_group areas_sectors store_count
past_last i p q r s t l = grind (arith, nat_tests)

pub no_flush : (i : ℕ) → store_count ≤ i → flush_after i ≡ false
unfolding by_group areas_sectors store_count
no_flush i l = grind (arith, nat_tests)

-- a copy's sectors are those before the areas and those of the areas, of which there are some
pub areas_split : copy_sectors ≡ area_start A + areas_sectors
unfolding areas_sectors copy_sectors copy_bytes area_start area_offset record_limit
areas_split = refl

pub some_areas : 0 < areas_sectors
unfolding areas_sectors copy_sectors copy_bytes area_start area_offset record_limit
some_areas = lit< tt

pub device-ascending : (v : Device) → Ascending 0 (device_tests v)
device-ascending v = (lit< tt, (lit< tt, (lit< tt, tt)))

-- the number of the tests of a store whose slices and device numbers are right
module _ (v : Device) (f b : List ℕ) (i : ℕ) (out : List ℕ) (h : lent_right f b out ≡ true) (z : first (device_tests v) ≡ 0) where
  abbrev last : List Test
  last = (ltb i store_count else_refuse 23) ∷ []

  by_number : first (store_tests v f b i out) ≡ first last
  by_number =
      first-pass (lent_right f b out) 1 (device_tests v ++ last) h
      ∙ first-after (device_tests v) last (first-zero 0 (device_tests v) (device-ascending v) z)

  pub store_there : i < store_count → first (store_tests v f b i out) ≡ 0
  store_there l = by_number ∙ (first-pass (ltb i store_count) 23 [] (lt-ltb i store_count l) ∙ first-nil)

  pub store_past : store_count ≤ i → first (store_tests v f b i out) ≡ 23
  store_past l = by_number ∙ first_fail (ltb i store_count) 23 [] (le-ltb i store_count l)
