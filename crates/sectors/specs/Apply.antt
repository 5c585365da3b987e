-- A store applied to two copies in memory: where its sector lies in each, and what they hold afterwards.
use Rattle.std.specs.Prelude.{ℕ, zero, suc, ◌+◌, ◌-◌, ◌*◌, Bool, cond, ◌&&◌, List, ◌∷◌, leb, ltb, eqb, length}
use Rattle.endian.specs.Bytes.{splice}
use Rattle.refusal.specs.Numbers.{slice_size}
use Rattle.refusal.specs.Tests.{Test, ◌else_refuse◌, first}
use Rattle.layout.specs.declared.Device.{Device}
use Rattle.layout.specs.declared.Side.{Side}
use Rattle.layout.specs.declared.Side.TheVariants.{Front, Back}
use Rattle.layout.specs.declared.Area.TheVariants.{A, B}
use Rattle.layout.specs.Limits.{device_tests, sector_bytes, header_sectors}
use Rattle.layout.specs.Places.{header_sector, area_sector, area_offset, copy_bytes}
use Rattle.discovery.specs.Discovery.{sized, copy_on}
use Rattle.crash.specs.Crash.{Store, area_sectors}

-- n is one of the k sectors from a on
unfoldable pub among : ℕ → ℕ → ℕ → Bool
among a k n = leb a n && ltb (n - a) k

-- the byte of a side's copy at which device sector n begins: in the header, in area a, in area b; the copy's end, where no sector
-- fits, if it lies in none of them
unfoldable pub offset_of : Side → Device → ℕ → ℕ
offset_of s d n =
    cond (among (header_sector s d) header_sectors n) (sector_bytes * (n - header_sector s d))
    (cond (among (area_sector s A d) area_sectors n) (area_offset A + sector_bytes * (n - area_sector s A d))
    (cond (among (area_sector s B d) area_sectors n) (area_offset B + sector_bytes * (n - area_sector s B d)) copy_bytes))

-- a side's copy with a sector's bytes laid where device sector n lies in it
abbrev pub applied_to : Side → Device → ℕ → List ℕ → List ℕ → List ℕ
applied_to s d n content c = splice c (offset_of s d n) content

-- 1, then 4, 7, 8: two copies by their size and a sector's bytes, and device numbers that are allowed
abbrev pub apply_tests : Device → List ℕ → List ℕ → List ℕ → List Test
apply_tests d content f b = (sized f b && eqb (length content) sector_bytes else_refuse slice_size) ∷ device_tests d

-- what a side's lent copy holds after a store was applied to f and b: that, or what was there
unfoldable pub applied : Side → Device → ℕ → List ℕ → List ℕ → List ℕ → List ℕ
applied s d n content f b = cond (eqb (first (apply_tests d content f b)) 0) (applied_to s d n content (copy_on s f b)) (copy_on s f b)

-- what a side's copy holds after the stores with numbers below i were applied to f and b, one after the other
unfoldable pub applied_first : Device → (ℕ → Store) → ℕ → List ℕ → List ℕ → Side → List ℕ
applied_first v st zero f b s = copy_on s f b
applied_first v st (suc i) f b s = applied s v (st i).sector (st i).content (applied_first v st i f b Front) (applied_first v st i f b Back)
