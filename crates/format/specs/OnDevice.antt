-- A device that has two given copies in their places, and zeros elsewhere. `Demand.Starting` needs one: no function answers
-- it.
use Rattle.std.specs.Prelude.{ℕ, ◌+◌, ◌-◌, ◌*◌, Bool, cond, ◌&&◌, List, [], ◌∷◌, leb, ltb}
use Rattle.endian.specs.Bytes.{window, zeros}
use Rattle.layout.specs.declared.Device.{Device}
use Rattle.layout.specs.declared.Side.{Side}
use Rattle.layout.specs.declared.Side.TheVariants.{Front, Back}
use Rattle.layout.specs.declared.Area.{Area}
use Rattle.layout.specs.declared.Area.TheVariants.{A, B}
use Rattle.layout.specs.Limits.{sector_bytes, header_sectors, header_bytes, record_limit}
use Rattle.layout.specs.Places.{header_sector, area_sector}
use Rattle.copy.specs.Copy.{area_bytes}
use Rattle.crash.specs.Crash.{Sectors, area_sectors}

-- sectors from one on, and the bytes that they hold
pub record Run : Type 0 where
  pub start : ℕ
  pub sectors : ℕ
  pub content : List ℕ

-- sector n is one of them
abbrev pub has : Run → ℕ → Bool
has q n = ltb n (q.start + q.sectors) && leb q.start n

-- the device that holds these runs
unfoldable pub holding : List Run → Sectors
holding [] n = zeros sector_bytes
holding (q ∷ qs) n = cond (has q n) (window q.content (sector_bytes * (n - q.start)) sector_bytes) (holding qs n)

-- a copy's header, and as much of an area as a record can fill
abbrev pub header_run : Side → Device → List ℕ → Run
header_run s v c = record { start = header_sector s v; sectors = header_sectors; content = window c 0 header_bytes }

abbrev pub area_run : Side → Area → Device → List ℕ → Run
area_run s x v c = record { start = area_sector s x v; sectors = area_sectors; content = area_bytes c x record_limit }

-- both copies, in the order of their sectors
abbrev pub runs_of : Device → List ℕ → List ℕ → List Run
runs_of v f b =
    header_run Front v f ∷ area_run Front A v f ∷ area_run Front B v f ∷ area_run Back A v b ∷ area_run Back B v b ∷ header_run Back v b ∷ []

unfoldable pub on_device : Device → List ℕ → List ℕ → Sectors
on_device v f b = holding (runs_of v f b)
