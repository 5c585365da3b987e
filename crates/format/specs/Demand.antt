-- What holds of formatted copies, and of the stores that write two copies. `proofs/Exactly.antt` proves `Exactly`, `Content` and `Leaving`,
-- `proofs/Demand.antt` `Lowest`, `Naming`, `Formatting` and `Zero`, `proofs/Starting.antt` `Placing`, `Starting` and `Possible`, `proofs/Writing.antt` the rest.
use Rattle.std.specs.Prelude.{ℕ, suc, ◌+◌, ◌^◌, ◌≤◌, ◌<◌, ◌≡◌, ◌⊎◌, ◌↔◌, true, false, List, ◌++◌, length, get_or, Ok, Err}
use Rattle.endian.specs.Bytes.{Bytes}
use Rattle.refusal.specs.declared.Reason.{Reason}
use Rattle.refusal.specs.Tests.{first, Fails}
use Rattle.layout.specs.declared.Device.{Device}
use Rattle.layout.specs.declared.Side.{Side}
use Rattle.layout.specs.declared.Side.TheVariants.{Front, Back}
use Rattle.layout.specs.declared.Area.{Area}
use Rattle.layout.specs.declared.Area.TheVariants.{A}
use Rattle.layout.specs.Limits.{device_tests, most_nanoseconds, sector_bytes, header_sectors, block_offset}
use Rattle.layout.specs.Places.{header_sector, area_sector, reserved_sector, area_offset, copy_bytes}
use Rattle.layout.specs.Demand.{Allowed}
use Rattle.block.specs.declared.Time.{Time}
use Rattle.block.specs.Accepted.{HexBytes}
use Rattle.items.specs.Items.{segments}
use Rattle.record.specs.Accept.{content_tests, named}
use Rattle.segments.specs.Demand.{FirstPair}
use Rattle.record.specs.Demand.{RightBytes}
use Rattle.copy.specs.Copy.{reading_in, device_in}
use Rattle.discovery.specs.Discovery.{copy_on}
use Rattle.crash.specs.Crash.{Sectors, Sound, Store, stores, store_in, group_start, landed, all_landed, CutIn, area_sectors, copy_from}
use Rattle.stores.specs.States.{Gives, InStepOn, Ready}
use Rattle.sectors.specs.Sectors.{copy_sectors}
use Rattle.sectors.specs.Demand.{nth_sector}
use Rattle.format.specs.Format.{format_tests, format_number, first_fields, formatted_copy, formatted}
use Rattle.format.specs.OnDevice.{on_device}
use Rattle.format.specs.Writing.{format_groups, store_count, position_of, group_at, flush_after, store_answer, store_left}

-- What formatting asks for beside the record: two copies by their size, UUIDs of 32 digits, device numbers and nanoseconds within their limits.
pub record Asked (f b : List ℕ) (v : Device) (p u : List ℕ) (t : Time) : Type 0 where
  pub front : length f ≡ copy_bytes
  pub back : length b ≡ copy_bytes
  pub pool : length p ≡ 32
  pub blockdev : length u ≡ 32
  pub pool_hex : HexBytes p
  pub blockdev_hex : HexBytes u
  pub device : Allowed v
  pub nanoseconds : t.nanoseconds ≤ 999999999

-- What it asks for: that, and a record that is right on that device.
pub record Formattable (f b : List ℕ) (v : Device) (p u : List ℕ) (t : Time) (r : List ℕ) : Type 0 where
  pub asked : Asked f b v p u t
  pub right : RightBytes v r

-- It is not refused exactly when all of that holds.
abbrev pub Exactly : Type 0
Exactly =
    (f b : List ℕ) (v : Device) (p u : List ℕ) (t : Time) (r : List ℕ) → v.sectors < 2 ^ 64 → Bytes r
    → (format_number f b v p u t r ≡ 0 ↔ Formattable f b v p u t r)

-- What a lent copy c holds afterwards: the formatted copy where it is not refused, otherwise what was there.
pub record Leaves (c f b : List ℕ) (v : Device) (p u : List ℕ) (t : Time) (r : List ℕ) : Type 0 where
  pub done : format_number f b v p u t r ≡ 0 → formatted c f b v p u t r ≡ formatted_copy v p u t r
  pub refused : (format_number f b v p u t r ≡ 0 → ⊥) → formatted c f b v p u t r ≡ c

abbrev pub Leaving : Type 0
Leaving = (c f b : List ℕ) (v : Device) (p u : List ℕ) (t : Time) (r : List ℕ) → Leaves c f b v p u t r

-- A refusal is the lowest number that applies.
abbrev pub Lowest : Type 0
Lowest =
    (f b : List ℕ) (v : Device) (p u : List ℕ) (t : Time) (r : List ℕ) → 0 < format_number f b v p u t r
    → Fails (format_tests f b v p u t r) (format_number f b v p u t r)
    × ((k : ℕ) → Fails (format_tests f b v p u t r) k → format_number f b v p u t r ≤ k)

-- Where what it asks for beside the record is right, its number is that of the record's content; and only then is it one of those, 15 and 17 to 19.
abbrev pub Content : Type 0
Content =
    (f b : List ℕ) (v : Device) (p u : List ℕ) (t : Time) (r : List ℕ)
    → (Asked f b v p u t → format_number f b v p u t r ≡ first (content_tests v r)) × (15 ≤ format_number f b v p u t r → Asked f b v p u t)

-- 19 is of the first record: two of its segments share a sector, and the two that clash stand beside it.
abbrev pub Naming : Type 0
Naming =
    (f b : List ℕ) (v : Device) (p u : List ℕ) (t : Time) (r : List ℕ) → format_number f b v p u t r ≡ 19
    → FirstPair (segments r) (named (format_number f b v p u t r) r).first (named (format_number f b v p u t r) r).second

-- Area a holds a first record: discovery of the two copies gives it with its time, they are in step on it, and both blocks
-- are accepted with the device's numbers and UUIDs, area b unused.
abbrev pub Formatting : Type 0
Formatting =
    (f b : List ℕ) (v : Device) (p u : List ℕ) (t : Time) (r : List ℕ) → t.seconds < 2 ^ 64 → v.sectors < 2 ^ 64
    → format_number f b v p u t r ≡ 0
    → Gives (formatted_copy v p u t r) (formatted_copy v p u t r) t r
    × (InStepOn (formatted_copy v p u t r) (formatted_copy v p u t r) t r
    × ((device_in (formatted_copy v p u t r) ≡ v)
    × (reading_in (formatted_copy v p u t r) ≡ Ok (record { fields = first_fields v t r; pool = p; blockdev = u }))))

-- Everything not named is zero: each byte outside the signature block and outside the record.
abbrev pub Zero : Type 0
Zero =
    (f b : List ℕ) (v : Device) (p u : List ℕ) (t : Time) (r : List ℕ) (i : ℕ) → format_number f b v p u t r ≡ 0
    → (block_offset ≤ i → i < block_offset + sector_bytes → ⊥) → (area_offset A ≤ i → i < area_offset A + length r → ⊥)
    → get_or (formatted_copy v p u t r) i 0 ≡ 0

-- On any allowed device numbers a device has any two copies: each is read from it where S and L place it.
abbrev pub Placing : Type 0
Placing =
    (v : Device) (f b : List ℕ) → first (device_tests v) ≡ 0 → length f ≡ copy_bytes → length b ≡ copy_bytes
    → Sound (on_device v f b) × ((s : Side) → copy_from s v (on_device v f b) ≡ copy_on s f b)

-- Demand 3 speaks of something: a device that has the formatted copies where S and L place them is one that every update may start from.
abbrev pub Starting : Type 0
Starting =
    (f b : List ℕ) (v : Device) (p u : List ℕ) (t : Time) (r : List ℕ) → t.seconds < 2 ^ 64 → v.sectors < 2 ^ 64
    → format_number f b v p u t r ≡ 0
    → (d : Sectors) → Sound d → ((s : Side) → copy_from s v d ≡ formatted_copy v p u t r) → Ready v d t r

-- And there is such a device for any allowed device numbers, with any time and any record that is right there.
abbrev pub Possible : Type 0
Possible =
    (v : Device) (t : Time) (r : List ℕ) → first (device_tests v) ≡ 0 → v.sectors < 2 ^ 64 → t.seconds < 2 ^ 64 → t.nanoseconds ≤ most_nanoseconds → RightBytes v r
    → (d : Sectors) × Ready v d t r

-- What the calls give is `format_groups`: as many stores, in its four groups; each with its sector and its 512 bytes, those of the sector of both
-- copies that `position` says, and each sector of both copies is one of them; a flush after the last store of each group and after no other. Past the
-- last store there is none, no group and no flush.
pub record Writes (v : Device) (f b : List ℕ) : Type 0 where
  pub count : store_count ≡ length (stores (format_groups v f b))
  pub four : length (format_groups v f b) ≡ 4
  pub grouped : (g i : ℕ) → g < 4 → group_start (format_groups v f b) g ≤ i → i < group_start (format_groups v f b) (suc g) → group_at i ≡ g
  pub flushed : (g i : ℕ) → g < 4 → group_start (format_groups v f b) g ≤ i → i < group_start (format_groups v f b) (suc g)
      → (flush_after i ≡ true ↔ suc i ≡ group_start (format_groups v f b) (suc g))
  pub store : (i : ℕ) (out : List ℕ) → i < store_count → length out ≡ sector_bytes
      → (store_answer v f b i out ≡ Ok (store_in (format_groups v f b) i).sector) × (store_left v f b i out ≡ (store_in (format_groups v f b) i).content)
  pub position : (i : ℕ) → i < store_count → (store_in (format_groups v f b) i).content ≡ nth_sector (f ++ b) (position_of i)
  pub each : (p : ℕ) → p < store_count → (i : ℕ) × ((i < store_count) × (position_of i ≡ p))
  pub no_group : (i : ℕ) → store_count ≤ i → group_at i ≡ 4
  pub no_flush : (i : ℕ) → store_count ≤ i → flush_after i ≡ false
  pub no_position : (i : ℕ) → store_count ≤ i → position_of i ≡ store_count
  pub no_store : (i : ℕ) (out : List ℕ) → store_count ≤ i → length out ≡ sector_bytes
      → (store_answer v f b i out ≡ Err Reason.NoStore) × (store_left v f b i out ≡ out)

-- On allowed device numbers that holds of any two slices of a copy's size.
abbrev pub Storing : Type 0
Storing = (v : Device) (f b : List ℕ) → first (device_tests v) ≡ 0 → length f ≡ copy_bytes → length b ≡ copy_bytes → Writes v f b

-- a store of 512 bytes to a sector that the device has: one of a header, or one of those of an area that a record can fill
pub record InCopy (v : Device) (s : Store) : Type 0 where
  pub side : Side
  pub place : ((j : ℕ) × ((j < header_sectors) × (s.sector ≡ header_sector side v + j)))
      ⊎ ((x : Area) × ((j : ℕ) × ((j < area_sectors) × (s.sector ≡ area_sector side x v + j))))
  pub below : s.sector < v.sectors
  pub size : length s.content ≡ sector_bytes

-- What the stores leave: each goes to a sector of a copy; however many have landed, nothing from the front's reserved space up to the back's areas
-- has changed; and once all have, the device has the two copies in their places.
pub record Lands (v : Device) (f b : List ℕ) : Type 0 where
  pub places : (i : ℕ) → i < store_count → InCopy v (store_in (format_groups v f b) i)
  pub between : (d : Sectors) (i n : ℕ) → i ≤ store_count → reserved_sector Front v ≤ n → n < area_sector Back A v → landed (store_in (format_groups v f b)) i d n ≡ d n
  pub sound : (d : Sectors) → Sound d → Sound (all_landed (format_groups v f b) d)
  pub copies : (d : Sectors) → Sound d → (s : Side) → copy_from s v (all_landed (format_groups v f b) d) ≡ copy_on s f b

abbrev pub Landing : Type 0
Landing = (v : Device) (f b : List ℕ) → first (device_tests v) ≡ 0 → length f ≡ copy_bytes → length b ≡ copy_bytes → Lands v f b

-- The order, by what a cut in the writing leaves: of each copy, the header as it was or the areas as they are to be; and the front copy as it was or
-- the back copy as it is to be. So no new block stands above areas that are not written, and the copies are never both half written.
pub record CutLeaves (v : Device) (f b : List ℕ) (d e : Sectors) : Type 0 where
  pub areas_first : (s : Side)
      → ((k : ℕ) → k < header_sectors → nth_sector (copy_from s v e) k ≡ nth_sector (copy_from s v d) k)
      ⊎ ((k : ℕ) → header_sectors ≤ k → k < copy_sectors → nth_sector (copy_from s v e) k ≡ nth_sector (copy_on s f b) k)
  pub back-first : (copy_from Front v e ≡ copy_from Front v d) ⊎ (copy_from Back v e ≡ b)

abbrev pub Cutting : Type 0
Cutting =
    (v : Device) (f b : List ℕ) → first (device_tests v) ≡ 0 → length f ≡ copy_bytes → length b ≡ copy_bytes
    → (g : ℕ) (d e : Sectors) → g < 4 → Sound d → CutIn (format_groups v f b) g d e → CutLeaves v f b d e

-- So a device on which the stores of two formatted copies have landed is one that every update may start from, whatever it held before.
abbrev pub Becoming : Type 0
Becoming =
    (f b : List ℕ) (v : Device) (p u : List ℕ) (t : Time) (r : List ℕ) → t.seconds < 2 ^ 64 → v.sectors < 2 ^ 64
    → format_number f b v p u t r ≡ 0
    → (d : Sectors) → Sound d → Ready v (all_landed (format_groups v (formatted f f b v p u t r) (formatted b f b v p u t r)) d) t r

-- A refused store changes no lent byte.
abbrev pub Refusing : Type 0
Refusing = (v : Device) (f b : List ℕ) (i : ℕ) (out : List ℕ) (e : Reason) → store_answer v f b i out ≡ Err e → store_left v f b i out ≡ out
