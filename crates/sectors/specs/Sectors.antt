-- A copy sector by sector: where each lies on the device, which of them discovery looks at, and whether those were read.
use Rattle.std.specs.Prelude.{ℕ, ◌+◌, ◌-◌, ◌*◌, ◌/◌, Bool, false, not, cond, ◌&&◌, ◌||◌, List, leb, ltb, eqb, get_or, Option, Some, None, Result, Ok, Err}
use Rattle.refusal.specs.declared.Reason.{Reason}
use Rattle.layout.specs.declared.Device.{Device}
use Rattle.layout.specs.declared.Side.{Side}
use Rattle.layout.specs.declared.Area.{Area}
use Rattle.layout.specs.declared.Area.TheVariants.{A, B}
use Rattle.layout.specs.Limits.{sector_bytes}
use Rattle.layout.specs.Places.{header_sector, area_sector, area_offset, copy_bytes}
use Rattle.block.specs.declared.Holding.{Holding}
use Rattle.block.specs.declared.BlockFields.{BlockFields}
use Rattle.block.specs.declared.Reading.{Reading}
use Rattle.search.specs.Search.{every}
use Rattle.copy.specs.declared.PresentReading.{PresentReading}
use Rattle.copy.specs.Copy.{entry_in, other_area, whole, newest, mapped, sized_reading, current}
use Rattle.crash.specs.Crash.{area_sectors}

-- sectors of a copy as it is lent
unfoldable pub copy_sectors : ℕ
copy_sectors = copy_bytes / sector_bytes

-- the sector of a copy where an area begins; the header's sectors are those before area a
unfoldable pub area_start : Area → ℕ
area_start x = area_offset x / sector_bytes

-- by the part of a copy that sector i is in: the header, area a, area b
unfoldable pub by_part : {T : Type 0} → ℕ → T → T → T → T
by_part i h a b = cond (ltb i (area_start A)) h (cond (ltb i (area_start B)) a b)

-- n where it is below S; else S, the first sector that a device does not have
unfoldable pub below : ℕ → ℕ → ℕ
below s n = cond (ltb n s) n s

-- where sector i of a side's copy lies: in the header, in area a, in area b
abbrev pub place_of : Side → Device → ℕ → ℕ
place_of s d i = by_part i (header_sector s d + i) (area_sector s A d + (i - area_start A)) (area_sector s B d + (i - area_start B))

-- the device sector that is sector i of a side's copy; S, which no device has, where the copy has no sector i
unfoldable pub sector_at : Side → Device → ℕ → ℕ
sector_at s d i = cond (ltb i copy_sectors) (below d.sectors (place_of s d i)) d.sectors

-- an entry names sector j of its area: a used one those that its bytes lie in, the first ceiling(bytes / 512)
abbrev pub named : Option Holding → ℕ → Bool
named None j = false
named (Some h) j = ltb (sector_bytes * j) h.bytes

-- sector i of a copy is one of an area's
abbrev pub in_area : Area → ℕ → Bool
in_area x i = leb (area_start x) i && ltb (i - area_start x) area_sectors

-- an area's entry names sector i of the copy
unfoldable pub named_in : BlockFields → Area → ℕ → Bool
named_in f x i = in_area x i && named (entry_in f x) (i - area_start x)

-- by what reading the block answered, and whether the area of the entry with the later time is whole: sector 1, the block's own;
-- where the block is accepted those that this entry names; and, only where its area is not whole, those that the other entry names
abbrev pub matters_for : Result Reading Reason → Bool → ℕ → Bool
matters_for (Ok r) w i = eqb i 1 || (named_in r.fields (newest r.fields) i || (not w && named_in r.fields (other_area (newest r.fields)) i))
matters_for (Err e) w i = eqb i 1

-- by what reading a copy's block answered: it is accepted, and the area of the entry with the later time is whole
abbrev pub newest_whole : List ℕ → Result Reading Reason → Bool
newest_whole c (Ok r) = whole c r.fields (newest r.fields)
newest_whole c (Err e) = false

-- what reading the block answered, by what reading the copy answered
abbrev pub block_read : Result PresentReading Reason → Result Reading Reason
block_read = mapped (λ (q : PresentReading). q.block)

-- the newest area is whole by the present record: it is that of the entry with the later time
abbrev pub current_for : Result PresentReading Reason → Bool
current_for (Ok q) = current q.block.fields q.present
current_for (Err e) = false

-- sector i of a copy matters to discovery
unfoldable pub matters : List ℕ → ℕ → Bool
matters c i = matters_for (sized_reading c) (newest_whole c (sized_reading c)) i

-- sector i was read: it has a mark, and the mark is 0
unfoldable pub is_read : List ℕ → ℕ → Bool
is_read m i = eqb (get_or m i 1) 0

-- sector i does not matter, or was read
abbrev pub passes : Result Reading Reason → Bool → List ℕ → ℕ → Bool
passes v w m i = not (matters_for v w i) || is_read m i

-- no sector of a copy that matters is marked
unfoldable pub known : List ℕ → List ℕ → Bool
known c m = every (passes (sized_reading c) (newest_whole c (sized_reading c)) m) copy_sectors

-- what discovery answers for two copies is sure
unfoldable pub settled : List ℕ → List ℕ → List ℕ → List ℕ → Bool
settled f b fm bm = known f fm && known b bm
