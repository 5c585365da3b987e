-- Where the sectors of allowed device numbers lie: each side's areas and block are apart, and so are the sides.
use Prim.Native.Nat.{ℕ, ◌+◌, ◌%◌, ◌≤◌, ◌<◌}
use mathlib.Core.Path.{◌≡◌, refl}
use mathlib.Core.Bool.{true}
use mathlib.Core.List.{List}
use native.Mathlib.Omega.{arith}
use borrow.Author.Tests.{leb-true}
use Rattle.refusal.specs.Tests.{first, AllHold}
use Rattle.refusal.proofs.Order.{first-zero}
use Rattle.layout.specs.declared.Device.{Device}
use Rattle.layout.specs.declared.Side.{Side}
use Rattle.layout.specs.declared.Side.TheVariants.{Front, Back}
use Rattle.layout.specs.declared.Area.{Area}
use Rattle.layout.specs.declared.Area.TheVariants.{A, B}
use Rattle.layout.specs.Places.{block_sector, area_sector}
use Rattle.layout.specs.Limits.{size_allowed, metadata_allowed, device_tests}
use Rattle.layout.proofs.Laws.{metadata_facts}
use Rattle.block.specs.Block.{device_of, read_tests}
use Rattle.block.proofs.Readings.{ascending}
use Rattle.copy.specs.Copy.{other_area, other_side}

-- allowed device numbers
pub record Sizes (v : Device) : Type 0 where
  pub sectors : 2097152 ≤ v.sectors
  pub even : v.metadata % 2 ≡ 0
  pub least : 2040 ≤ v.metadata
  pub most : v.metadata ≤ 16384

pub sizes_allowed : (v : Device) → size_allowed v.sectors ≡ true → metadata_allowed v.metadata ≡ true → Sizes v
sizes_allowed v s m =
    record {
      sectors = leb-true 2097152 v.sectors s;
      even = (metadata_facts v.metadata m).0;
      least = (metadata_facts v.metadata m).1;
      most = (metadata_facts v.metadata m).2;
    }

-- those of an accepted block
pub sizes_accepted : (b : List ℕ) → first (read_tests b) ≡ 0 → Sizes (device_of b)
sizes_accepted b ok =
    let a : AllHold (read_tests b) = first-zero 0 (read_tests b) (ascending b) ok in
    sizes_allowed (device_of b) a.1.1.1.0 a.1.1.1.1.1.1.0

-- those of an accepted block pass their tests, and tests that hold say so
pub device-accepted : (b : List ℕ) → first (read_tests b) ≡ 0 → AllHold (device_tests (device_of b))
device-accepted b ok =
    let a : AllHold (read_tests b) = first-zero 0 (read_tests b) (ascending b) ok in
    (a.1.1.1.0, (a.1.1.1.1.1.1.0, (a.1.1.1.1.1.1.1.0, tt)))

pub sizes_tested : (v : Device) → AllHold (device_tests v) → Sizes v
sizes_tested v h = sizes_allowed v h.0 h.1.0

-- the sectors of a side
abbrev pub near : Side → Device → ℕ → Type 0
near Front v n = n < 8 + v.metadata
near Back v n = v.sectors ≤ n + 8 + v.metadata

module _ (v : Device) (z : Sizes v) where
  pub area_near : (s : Side) (x : Area) (i : ℕ) → i < 1020 → near s v (area_sector s x v + i)
  area_near Front A i l = let a : 2040 ≤ v.metadata = z.least in omega arith
  area_near Front B i l =
      let a : 2040 ≤ v.metadata = z.least in
      let e : v.metadata % 2 ≡ 0 = z.even in
      omega arith
  area_near Back A i l = omega arith
  area_near Back B i l = omega arith

  pub block_near : (s : Side) → near s v (block_sector s v)
  block_near Front = omega arith
  block_near Back = let a : 2040 ≤ v.metadata = z.least in omega arith

  -- a side's areas and its block are apart
  pub block_apart : (s : Side) (x : Area) (i : ℕ) → i < 1020 → area_sector s x v + i ≡ block_sector s v → ⊥
  block_apart Front A i l e = omega arith
  block_apart Front B i l e = omega arith
  block_apart Back A i l e =
      let a : 2040 ≤ v.metadata = z.least in
      let b : v.metadata ≤ 16384 = z.most in
      let c : 2097152 ≤ v.sectors = z.sectors in
      omega arith
  block_apart Back B i l e =
      let a : 2040 ≤ v.metadata = z.least in
      let b : v.metadata ≤ 16384 = z.most in
      let c : 2097152 ≤ v.sectors = z.sectors in
      omega arith

  pub areas_apart : (s : Side) (x : Area) (i j : ℕ) → i < 1020 → j < 1020 → area_sector s x v + i ≡ area_sector s (other_area x) v + j → ⊥
  areas_apart Front A i j l m e = let a : 2040 ≤ v.metadata = z.least in omega arith
  areas_apart Front B i j l m e = let a : 2040 ≤ v.metadata = z.least in omega arith
  areas_apart Back A i j l m e =
      let a : 2040 ≤ v.metadata = z.least in
      let b : v.metadata ≤ 16384 = z.most in
      let c : 2097152 ≤ v.sectors = z.sectors in
      let f : v.metadata % 2 ≡ 0 = z.even in
      omega arith
  areas_apart Back B i j l m e =
      let a : 2040 ≤ v.metadata = z.least in
      let b : v.metadata ≤ 16384 = z.most in
      let c : 2097152 ≤ v.sectors = z.sectors in
      let f : v.metadata % 2 ≡ 0 = z.even in
      omega arith

  -- a side's block and its areas' sectors are below the device's end
  pub block_below : (s : Side) → block_sector s v < v.sectors
  block_below Front = let c : 2097152 ≤ v.sectors = z.sectors in omega arith
  block_below Back = let c : 2097152 ≤ v.sectors = z.sectors in omega arith

  pub area_below : (s : Side) (x : Area) (i : ℕ) → i < 1020 → area_sector s x v + i < v.sectors
  area_below Front A i l = let c : 2097152 ≤ v.sectors = z.sectors in omega arith
  area_below Front B i l =
      let b : v.metadata ≤ 16384 = z.most in
      let c : 2097152 ≤ v.sectors = z.sectors in
      omega arith
  area_below Back A i l =
      let a : 2040 ≤ v.metadata = z.least in
      let b : v.metadata ≤ 16384 = z.most in
      let c : 2097152 ≤ v.sectors = z.sectors in
      omega arith
  area_below Back B i l =
      let a : 2040 ≤ v.metadata = z.least in
      let b : v.metadata ≤ 16384 = z.most in
      let c : 2097152 ≤ v.sectors = z.sectors in
      omega arith

  -- a sector is not on both sides
  pub one_side : (n : ℕ) → near Front v n → near Back v n → ⊥
  one_side n p q =
      let b : v.metadata ≤ 16384 = z.most in
      let c : 2097152 ≤ v.sectors = z.sectors in
      omega arith

  -- sides that a sector is on are the same
  pub same_side : (s u : Side) (n : ℕ) → near s v n → near u v n → s ≡ u
  same_side Front Front n p q = refl
  same_side Front Back n p q = absurd (one_side n p q)
  same_side Back Front n p q = absurd (one_side n q p)
  same_side Back Back n p q = refl

  pub other_side_lem : (s : Side) (n : ℕ) → near s v n → near (other_side s) v n → ⊥
  other_side_lem Front n p q = one_side n p q
  other_side_lem Back n p q = one_side n q p
