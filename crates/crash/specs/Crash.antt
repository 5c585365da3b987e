-- A device, stores, groups of stores and cuts: docs/FORMAT.md, 'Updates' and 'Cuts'.
use Rattle.std.specs.Prelude.{ℕ, zero, suc, ◌+◌, ◌/◌, ◌≤◌, ◌<◌, ◌≡◌, ◌⊎◌, cond, eqb, length, take, get_or}
use mathlib.Core.List.{List, [], ◌∷◌, ◌++◌, flatten}
use Rattle.layout.specs.declared.Device.{Device}
use Rattle.layout.specs.declared.Side.{Side}
use Rattle.layout.specs.declared.Area.TheVariants.{A, B}
use Rattle.layout.specs.Limits.{sector_bytes, header_sectors, record_limit}
use Rattle.layout.specs.Places.{header_sector, area_sector}

-- what each sector holds
abbrev pub Sectors : Type 0
Sectors = ℕ → List ℕ

-- each sector holds 512 bytes
pub record Sound (d : Sectors) : Type 0 where
  pub size : (n : ℕ) → length (d n) ≡ sector_bytes

-- document 01's 'store': a device sector number and bytes, of which there are 512 where it fits a device (`stores`, `Fits`)
pub record Store : Type 0 where
  pub sector : ℕ
  pub content : List ℕ

-- the device after one store
abbrev pub put : Sectors → Store → Sectors
put d s n = cond (eqb n s.sector) s.content (d n)

-- the device after the stores with numbers below i
unfoldable pub landed : (ℕ → Store) → ℕ → Sectors → Sectors
landed st zero d = d
landed st (suc i) d = put (landed st i d) (st i)

-- one of the stores from number i up to, not including, j goes to sector n
abbrev pub Stored : (ℕ → Store) → ℕ → ℕ → ℕ → Type 0
Stored st i j n = (k : ℕ) × (i ≤ k) × (k < j) × ((st k).sector ≡ n)

-- Document 01's 'cut' in the group of the stores from number i up to, not including, j, its 'running' group. Earlier groups
-- have landed whole, later ones have not begun. Each sector is 'old' (as before that group) or 'new' (as stored), each for
-- itself; at most one that the group stores to, the 'wild' one, holds any 512 bytes.
pub record Cut (st : ℕ → Store) (i j : ℕ) (d e : Sectors) : Type 0 where
  pub wild : ℕ
  pub sound : Sound e
  pub each : (n : ℕ) → (e n ≡ landed st i d n) ⊎ ((e n ≡ landed st j d n) ⊎ ((n ≡ wild) × Stored st i j n))

-- stores in groups, with a flush after each group
abbrev pub Groups : Type 0
Groups = List (List Store)

-- all stores, in their order
abbrev pub stores : Groups → List Store
stores gs = flatten gs

-- the store with number i, counted from 0; past the last there is none, and an empty one stands for it
unfoldable pub store_in : Groups → ℕ → Store
store_in gs i = get_or (stores gs) i (record { sector = 0; content = [] })

-- the number of the first store of group g, which is where the group before it ends
unfoldable pub group_start : Groups → ℕ → ℕ
group_start gs g = length (stores (take g gs))

-- a cut in group g
abbrev pub CutIn : Groups → ℕ → Sectors → Sectors → Type 0
CutIn gs g d e = Cut (store_in gs) (group_start gs g) (group_start gs (suc g)) d e

-- the device after all stores
abbrev pub all_landed : Groups → Sectors → Sectors
all_landed gs d = landed (store_in gs) (length (stores gs)) d

-- k stores, to the sectors from a on
unfoldable pub stores_from : ℕ → (ℕ → List ℕ) → ℕ → List Store
stores_from a c zero = []
stores_from a c (suc k) = stores_from a c k ++ (record { sector = a + k; content = c k } ∷ [])

-- n sectors from sector s on, one after the other
unfoldable pub gather : Sectors → ℕ → ℕ → List ℕ
gather d s zero = []
gather d s (suc n) = d s ++ gather d (suc s) n

-- sectors of an area that a record can fill
unfoldable pub area_sectors : ℕ
area_sectors = record_limit / sector_bytes

-- a copy as it is lent: the header's 8 sectors, then the first sectors of area a, then of area b
unfoldable pub copy_from : Side → Device → Sectors → List ℕ
copy_from s v d = gather d (header_sector s v) header_sectors ++ (gather d (area_sector s A v) area_sectors ++ gather d (area_sector s B v) area_sectors)
