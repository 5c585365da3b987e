-- What sectors that could not be read can change, and what a store does to copies in memory. `proofs/Alone.antt` proves `Alone`, `Steady` and
-- `Meaning`, `proofs/Least.antt` `Bounded`, `proofs/Placed.antt` `Placed`, `proofs/Applying.antt` `Applying`, `Following` and `Refusing`,
-- `proofs/Demand.antt` the rest. That what is stored is the same too is `claims`' `StoredAlike`.
use Rattle.std.specs.Prelude.{ℕ, ◌+◌, ◌*◌, ◌≤◌, ◌<◌, ◌≡◌, true, false, List, length, Result, Ok, Err}
use Rattle.endian.specs.Bytes.{window, zeros}
use Rattle.refusal.specs.declared.Reason.{Reason}
use Rattle.refusal.specs.Tests.{first}
use Rattle.layout.specs.declared.Device.{Device}
use Rattle.layout.specs.declared.Side.{Side}
use Rattle.layout.specs.declared.Side.TheVariants.{Front, Back}
use Rattle.layout.specs.declared.Area.{Area}
use Rattle.layout.specs.declared.Area.TheVariants.{A}
use Rattle.layout.specs.Limits.{device_tests, sector_bytes}
use Rattle.layout.specs.Places.{copy_bytes}
use Rattle.block.specs.declared.Holding.{Holding}
use Rattle.block.specs.declared.BlockFields.{BlockFields}
use Rattle.block.specs.declared.Reading.{Reading}
use Rattle.block.specs.Writing.{holding_of}
use Rattle.discovery.specs.declared.Finding.{Finding}
use Rattle.copy.specs.Copy.{area_bytes, entry_in, other_area, whole, newest, present_at, present, reading_in, sized_reading}
use Rattle.discovery.specs.Discovery.{found_with, discovery, is_in_step, copy_on, record_bytes}
use Rattle.crash.specs.Crash.{Sectors, Sound, Store, put, landed, area_sectors, copy_from}
use Rattle.sectors.specs.Sectors.{copy_sectors, area_start, sector_at, matters, is_read, known, settled}
use Rattle.sectors.specs.Apply.{applied_to, apply_tests, applied, applied_first}

-- sector i of a copy
abbrev pub nth_sector : List ℕ → ℕ → List ℕ
nth_sector c i = window c (sector_bytes * i) sector_bytes

-- c and e are copies by their size, and each sector that is not marked is the same in both
pub record Agree (m c e : List ℕ) : Type 0 where
  pub size : length c ≡ copy_bytes
  pub size_too : length e ≡ copy_bytes
  pub unmarked : (i : ℕ) → i < copy_sectors → is_read m i ≡ true → nth_sector e i ≡ nth_sector c i

-- an area has the same bytes in both as far as its entry names them
abbrev pub SameArea : List ℕ → List ℕ → BlockFields → Area → Type 0
SameArea c e x y = area_bytes e y (holding_of (entry_in x y)).bytes ≡ area_bytes c y (holding_of (entry_in x y)).bytes

-- one copy: its block is read the same, and where it is accepted the area of the entry with the later time, and where that is not
-- whole the other area too, has the same bytes as far as its entry names them, and the present record is the same, with the
-- same bytes
pub record SameCopy (c e : List ℕ) : Type 0 where
  pub reads : reading_in e ≡ reading_in c
  pub newest_area : (r : Reading) → reading_in c ≡ Ok r → SameArea c e r.fields (newest r.fields)
  pub other_area_lem : (r : Reading) → reading_in c ≡ Ok r → whole c r.fields (newest r.fields) ≡ false
      → SameArea c e r.fields (other_area (newest r.fields))
  pub its_present : (r : Reading) → reading_in c ≡ Ok r → present e r.fields ≡ present c r.fields
  pub bytes : (r : Reading) (y : Area) (h : Holding) → reading_in c ≡ Ok r → present c r.fields ≡ present_at y h
      → area_bytes e y h.bytes ≡ area_bytes c y h.bytes

-- Whatever the marked sectors of one copy hold, it says the same.
abbrev pub Alone : Type 0
Alone = (m c e : List ℕ) → Agree m c e → known c m ≡ true → SameCopy c e

-- two copies: discovery answers the same, they are in step or not the same, and a found record has the same bytes
pub record SameBoth (f b g k : List ℕ) : Type 0 where
  pub answers : discovery g k ≡ discovery f b
  pub step : is_in_step g k ≡ is_in_step f b
  pub bytes : (r : Finding) (o : Result BlockFields Reason) → discovery f b ≡ found_with r o → record_bytes r g k ≡ record_bytes r f b

-- Whatever the marked sectors of two copies hold, discovery says the same.
abbrev pub Settled : Type 0
Settled =
    (f b g k fm bm : List ℕ) → Agree fm f g → Agree bm b k → settled f b fm bm ≡ true
    → SameBoth f b g k

-- Nor does the test itself depend on what the marked sectors hold.
abbrev pub Steady : Type 0
Steady = (m c e : List ℕ) → Agree m c e → known e m ≡ known c m

-- a copy is known exactly where each sector that matters was read
pub record Known (c m : List ℕ) : Type 0 where
  pub known_read : known c m ≡ true → (i : ℕ) → i < copy_sectors → matters c i ≡ true → is_read m i ≡ true
  pub read_known : ((i : ℕ) → i < copy_sectors → matters c i ≡ true → is_read m i ≡ true) → known c m ≡ true

-- Of every copy and all marks that holds.
abbrev pub Meaning : Type 0
Meaning = (c m : List ℕ) → Known c m

-- What matters at most: of the header only the block's sector; nothing past the copy; where the block is refused nothing but the
-- block's sector; of an area nothing past the bytes that its entry names, so nothing where the entry is unused; and where the
-- area of the entry with the later time is whole, nothing of the other area.
pub record Least (c : List ℕ) : Type 0 where
  pub header : (i : ℕ) → i < area_start A → (i ≡ 1 → ⊥) → matters c i ≡ false
  pub past : (i : ℕ) → copy_sectors ≤ i → matters c i ≡ false
  pub refused : (e : Reason) → sized_reading c ≡ Err e → (i : ℕ) → (i ≡ 1 → ⊥) → matters c i ≡ false
  pub unnamed : (r : Reading) → sized_reading c ≡ Ok r → (y : Area) (j : ℕ) → j < area_sectors
      → (holding_of (entry_in r.fields y)).bytes ≤ sector_bytes * j → matters c (area_start y + j) ≡ false
  pub older : (r : Reading) → sized_reading c ≡ Ok r → whole c r.fields (newest r.fields) ≡ true → (j : ℕ) → j < area_sectors
      → matters c (area_start (other_area (newest r.fields)) + j) ≡ false

-- Of every copy that holds.
abbrev pub Bounded : Type 0
Bounded = (c : List ℕ) → Least c

-- no sector is marked
abbrev pub NoneMarked : List ℕ → Type 0
NoneMarked m = (i : ℕ) → i < copy_sectors → is_read m i ≡ true

-- With no mark set every two copies are settled; a copy whose block was not read is not known.
pub record AllRead : Type 0 where
  pub none_marked : (f b fm bm : List ℕ) → NoneMarked fm → NoneMarked bm → settled f b fm bm ≡ true
  pub zero_marks : NoneMarked (zeros copy_sectors)
  pub block_none : (c m : List ℕ) → is_read m 1 ≡ false → known c m ≡ false

-- c was read from a side of the device: each sector that is not marked is the device's at `sector_at`
pub record ReadFrom (s : Side) (v : Device) (d : Sectors) (m c : List ℕ) : Type 0 where
  pub size : length c ≡ copy_bytes
  pub unmarked : (i : ℕ) → i < copy_sectors → is_read m i ≡ true → nth_sector c i ≡ d (sector_at s v i)

-- each sector of a side's copy, as a cut speaks of it, is the device's at `sector_at`, which the device has; past the copy it is S,
-- which the device does not have; what was read agrees with that copy, and is that copy where no sector is marked
pub record PlacedOn (s : Side) (v : Device) (d : Sectors) : Type 0 where
  pub sector : (i : ℕ) → i < copy_sectors → nth_sector (copy_from s v d) i ≡ d (sector_at s v i)
  pub there : (i : ℕ) → i < copy_sectors → sector_at s v i < v.sectors
  pub past : (i : ℕ) → copy_sectors ≤ i → sector_at s v i ≡ v.sectors
  pub agrees : (m c : List ℕ) → ReadFrom s v d m c → Agree m c (copy_from s v d)
  pub is : (m c : List ℕ) → ReadFrom s v d m c → NoneMarked m → c ≡ copy_from s v d

-- On allowed device numbers and any device that holds for both sides.
abbrev pub Placed : Type 0
Placed = (s : Side) (v : Device) (d : Sectors) → first (device_tests v) ≡ 0 → Sound d → PlacedOn s v d

-- So what was read from a device, where it is settled, says what the device's own copies say.
abbrev pub Sure : Type 0
Sure =
    (v : Device) (d : Sectors) (f b fm bm : List ℕ) → first (device_tests v) ≡ 0 → Sound d
    → ReadFrom Front v d fm f → ReadFrom Back v d bm b → settled f b fm bm ≡ true
    → SameBoth f b (copy_from Front v d) (copy_from Back v d)

-- a store applied to the copies that were read from a device: it is not refused, and each copy is what reading the device after that store gives
pub record Applies (v : Device) (d : Sectors) (s : Store) : Type 0 where
  pub taken : first (apply_tests v s.content (copy_from Front v d) (copy_from Back v d)) ≡ 0
  pub leaves : (w : Side) → applied w v s.sector s.content (copy_from Front v d) (copy_from Back v d) ≡ copy_from w v (put d s)
  pub each : (w : Side) → applied_to w v s.sector s.content (copy_from w v d) ≡ copy_from w v (put d s)

-- On allowed device numbers and any device that holds of every store of 512 bytes, to whatever sector it goes.
abbrev pub Applying : Type 0
Applying = (v : Device) (d : Sectors) (s : Store) → first (device_tests v) ≡ 0 → Sound d → length s.content ≡ sector_bytes → Applies v d s

-- the first i of stores, applied to those copies one after the other: none is refused, and each copy is what reading the device gives on which
-- those stores have landed
pub record Follows (v : Device) (d : Sectors) (st : ℕ → Store) (i : ℕ) : Type 0 where
  pub taken : (j : ℕ) → j < i
      → first
      (apply_tests v (st j).content (applied_first v st j (copy_from Front v d) (copy_from Back v d) Front)
      (applied_first v st j (copy_from Front v d) (copy_from Back v d) Back))
      ≡ 0
  pub leaves : (w : Side) → applied_first v st i (copy_from Front v d) (copy_from Back v d) w ≡ copy_from w v (landed st i d)

-- So the copies in memory follow the device, store by store.
abbrev pub Following : Type 0
Following =
    (v : Device) (d : Sectors) (st : ℕ → Store) (i : ℕ) → first (device_tests v) ≡ 0 → Sound d → ((j : ℕ) → j < i → length (st j).content ≡ sector_bytes)
    → Follows v d st i

-- A store that is refused changes no copy.
abbrev pub Refusing : Type 0
Refusing =
    (w : Side) (v : Device) (n : ℕ) (content f b : List ℕ) → (first (apply_tests v content f b) ≡ 0 → ⊥) → applied w v n content f b ≡ copy_on w f b
