-- The states of a device that the claims about updates, cuts, formatting and mending speak of: the conclusion of one claim is the
-- hypothesis of the next. docs/FORMAT.md, 'Discovery', 'Updates' and 'Cuts'.
use Rattle.std.specs.Prelude.{ℕ, suc, ◌+◌, ◌≤◌, ◌<◌, ◌≡◌, ◌⊎◌, true, List, length, take, Result}
use Rattle.refusal.specs.declared.Reason.{Reason}
use Rattle.layout.specs.declared.Device.{Device}
use Rattle.layout.specs.declared.Side.{Side}
use Rattle.layout.specs.declared.Side.TheVariants.{Front, Back}
use Rattle.layout.specs.declared.Area.{Area}
use Rattle.layout.specs.Limits.{sector_bytes}
use Rattle.layout.specs.Places.{block_sector, area_sector}
use Rattle.block.specs.declared.Time.{Time}
use Rattle.block.specs.declared.Holding.{Holding}
use Rattle.block.specs.declared.BlockFields.{BlockFields}
use Rattle.block.specs.Entry.{time_of}
use Rattle.block.specs.Accepted.{Accepted}
use Rattle.copy.specs.Copy.{device_in, area_bytes, present_at, copy_reading}
use Rattle.copy.specs.Demand.{present_in}
use Rattle.discovery.specs.declared.Finding.{Finding}
use Rattle.discovery.specs.Discovery.{found_with, discovery, is_in_step, copy_on, record_bytes, read_answer, read_bytes}
use Rattle.crash.specs.Crash.{Sectors, Sound, Store, Groups, stores, store_in, group_start, landed, area_sectors, copy_from}

-- a copy's present record is r, with time t
pub record Presents (c : List ℕ) (t : Time) (r : List ℕ) : Type 0 where
  pub area : Area
  pub held : Holding
  pub is : present_in (copy_reading c) ≡ present_at area held
  pub bytes : area_bytes c area held.bytes ≡ r
  pub long : held.bytes ≡ length r
  pub time : time_of held ≡ t

-- Document 01's 'discovery gives a record': it answers that length and time, the area it names starts with those bytes, and
-- reading what it found into a buffer with room copies them to the buffer's start.
pub record Gives (f b : List ℕ) (t : Time) (r : List ℕ) : Type 0 where
  pub found : Finding
  pub other : Result BlockFields Reason
  pub answers : discovery f b ≡ found_with found other
  pub long : found.bytes ≡ length r
  pub seconds : found.seconds ≡ t.seconds
  pub nanoseconds : found.nanoseconds ≡ t.nanoseconds
  pub starts : record_bytes found f b ≡ r
  pub reads : (out : List ℕ) → length r ≤ length out → read_answer (discovery f b) (length out) ≡ found_with found other
  pub copies : (out : List ℕ) → length r ≤ length out → take (length r) (read_bytes (discovery f b) f b out) ≡ r

-- Document 01's 'in step on a record': in step, and it is the present record of both.
abbrev pub InStepOn : List ℕ → List ℕ → Time → List ℕ → Type 0
InStepOn f b t r = (is_in_step f b ≡ true) × ((s : Side) → Presents (copy_on s f b) t r)

-- two copies in step on a record r with its time t, read from the device where their own S and L place them
pub record Ready (v : Device) (d : Sectors) (t : Time) (r : List ℕ) : Type 0 where
  pub sound : Sound d
  pub says : (s : Side) → device_in (copy_from s v d) ≡ v
  pub in_step : InStepOn (copy_from Front v d) (copy_from Back v d) t r

-- any state in which discovery gives a record r with its time t, from a copy that is where its own S and L place it
pub record Answered (v : Device) (d : Sectors) (t : Time) (r : List ℕ) : Type 0 where
  pub sound : Sound d
  pub gives : Gives (copy_from Front v d) (copy_from Back v d) t r
  pub says : device_in (copy_from gives.found.side v d) ≡ v

-- the device as before group g of stores; past the last group, as after all of them
abbrev pub before : Groups → ℕ → Sectors → Sectors
before gs g d = landed (store_in gs) (group_start gs g) d

-- The exception of a cut in group g: a signature block equals neither of its versions, document 01's word, and is still accepted. Its
-- versions are what it was before the running group and what it is after that group.
abbrev pub Excused : Device → Groups → ℕ → Sectors → Sectors → Type 0
Excused v gs g d e =
    (s : Side)
    × (e (block_sector s v) ≡ before gs g d (block_sector s v) → ⊥)
    × (e (block_sector s v) ≡ before gs (suc g) d (block_sector s v) → ⊥)
    × Accepted (e (block_sector s v))

-- sector n of a device v that is of side w: its signature block's, or one of those of an area that a record can fill
pub record Lies (w : Side) (v : Device) (n : ℕ) : Type 0 where
  pub place : (n ≡ block_sector w v) ⊎ ((x : Area) × ((j : ℕ) × ((j < area_sectors) × (n ≡ area_sector w x v + j))))
  pub below : n < v.sectors

-- a store of 512 bytes to a sector that the device has: a signature block's, or one of those of an area that a record can fill
pub record Fits (v : Device) (s : Store) : Type 0 where
  pub side : Side
  pub place : (s.sector ≡ block_sector side v) ⊎ ((x : Area) × ((j : ℕ) × ((j < area_sectors) × (s.sector ≡ area_sector side x v + j))))
  pub below : s.sector < v.sectors
  pub size : length s.content ≡ sector_bytes

abbrev pub AllFit : Device → Groups → Type 0
AllFit v gs = (i : ℕ) → i < length (stores gs) → Fits v (store_in gs i)
