-- Where a device sector lies in a copy.
use Prim.Native.Nat.{ℕ, ◌+◌, ◌-◌, ◌*◌, ◌≤◌, ◌<◌}
use mathlib.Core.Path.{◌≡◌}
use mathlib.Core.Bool.{true, false}
use borrow.Author.Tests.{le-leb, leb-true, lt-ltb, ltb-true}
use lib.Dec.{leb, ltb}
use Rattle.endian.proofs.Tests.{and_left, and_right, and_both}
use Rattle.layout.specs.declared.Device.{Device}
use Rattle.layout.specs.declared.Side.{Side}
use Rattle.layout.specs.declared.Area.TheVariants.{A, B}
use Rattle.layout.specs.Places.{header_sector, area_sector, area_offset, copy_bytes}
use Rattle.crash.specs.Crash.{area_sectors}
use Rattle.sectors.specs.Apply.{among, offset_of}

-- what the test says
pub among_facts : (a k n : ℕ) → among a k n ≡ true → (a ≤ n) × (n - a < k)
unfolding among
among_facts a k n h =
    (leb-true a n (and_left (leb a n) (ltb (n - a) k) h), ltb-true (n - a) k (and_right (leb a n) (ltb (n - a) k) h))

pub among_there : (a k n : ℕ) → a ≤ n → n - a < k → among a k n ≡ true
unfolding among
among_there a k n l m = and_both (leb a n) (ltb (n - a) k) (le-leb a n l) (lt-ltb (n - a) k m)

-- which of the three parts of a copy a device sector is in: the header, area a, area b; or none
module _ (s : Side) (d : Device) (n : ℕ) where
  pub offset_header : among (header_sector s d) 8 n ≡ true → offset_of s d n ≡ 512 * (n - header_sector s d)
  unfolding offset_of
  offset_header h = rw h

  module _ (h : among (header_sector s d) 8 n ≡ false) where
    pub offset_a : among (area_sector s A d) area_sectors n ≡ true → offset_of s d n ≡ area_offset A + 512 * (n - area_sector s A d)
    unfolding offset_of
    offset_a a = rw (h, a)

    module _ (a : among (area_sector s A d) area_sectors n ≡ false) where
      pub offset_b : among (area_sector s B d) area_sectors n ≡ true → offset_of s d n ≡ area_offset B + 512 * (n - area_sector s B d)
      unfolding offset_of
      offset_b b = rw (h, a, b)

      pub offset_none : among (area_sector s B d) area_sectors n ≡ false → offset_of s d n ≡ copy_bytes
      unfolding offset_of
      offset_none b = rw (h, a, b)
