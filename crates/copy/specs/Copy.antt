-- One copy as it is lent: what reading it answers, its whole areas and its present record. docs/FORMAT.md, 'Where things lie' and
-- 'Discovery'.
use Rattle.std.specs.Prelude.{ℕ, ◌≡◌, Bool, true, false, cond, List, eqb, length, Option, Some, None, Result, Ok, Err}
use Rattle.endian.specs.Bytes.{window}
use Rattle.checksum.specs.Crc.{checksum}
use Rattle.refusal.specs.declared.Reason.{Reason}
use Rattle.refusal.specs.Numbers.{slice_size}
use Rattle.refusal.specs.Reasons.{reason}
use Rattle.layout.specs.Limits.{sector_bytes, block_offset}
use Rattle.layout.specs.Places.{area_offset, copy_bytes}
use Rattle.layout.specs.declared.Device.{Device}
use Rattle.layout.specs.declared.Side.{Side}
use Rattle.layout.specs.declared.Side.TheVariants.{Front, Back}
use Rattle.layout.specs.declared.Area.{Area}
use Rattle.layout.specs.declared.Area.TheVariants.{A, B}
use Rattle.block.specs.declared.Holding.{Holding}
use Rattle.block.specs.declared.BlockFields.{BlockFields}
use Rattle.block.specs.declared.Reading.{Reading}
use Rattle.block.specs.Entry.{later_than, time_of}
use Rattle.block.specs.Block.{device_of, reading}
use Rattle.block.specs.Writing.{holding_of}
use Rattle.copy.specs.declared.Present.{Present}
use Rattle.copy.specs.declared.CopyReading.{CopyReading}
use Rattle.copy.specs.declared.PresentReading.{PresentReading}

-- a slice is a copy by its size: the header, with the signature block in its sector 1, then as much of each area as a record
-- can fill
abbrev pub is_copy : List ℕ → Bool
is_copy c = eqb (length c) copy_bytes

abbrev pub block_in : List ℕ → List ℕ
block_in c = window c block_offset sector_bytes

-- the device that a copy's block says it is of
abbrev pub device_in : List ℕ → Device
device_in c = device_of (block_in c)

-- the first n bytes of an area
abbrev pub area_bytes : List ℕ → Area → ℕ → List ℕ
area_bytes c x n = window c (area_offset x) n

abbrev pub entry_in : BlockFields → Area → Option Holding
entry_in f A = f.a
entry_in f B = f.b

abbrev pub other_area : Area → Area
other_area A = B
other_area B = A

-- one of two by the area
abbrev pub by_area : {T : Type 0} → Area → T → T → T
by_area A p q = p
by_area B p q = q

abbrev pub other_side : Side → Side
other_side Front = Back
other_side Back = Front

-- document 01's 'whole': an area's entry is used, and its first used bytes match the entry's CRC
abbrev pub whole_entry : List ℕ → Area → Option Holding → Bool
whole_entry c x None = false
whole_entry c x (Some h) = eqb (checksum (area_bytes c x h.bytes)) h.checksum

abbrev pub whole : List ℕ → BlockFields → Area → Bool
whole c f x = whole_entry c x (entry_in f x)

-- e is used, and d is unused or of an earlier time
abbrev pub newer : Option Holding → Option Holding → Bool
newer None d = false
newer (Some h) None = true
newer (Some h) (Some k) = later_than (time_of h) (time_of k)

-- the area of the used entry with the later time; a where none is used
unfoldable pub newest : BlockFields → Area
newest f = cond (newer f.b f.a) B A

-- the record in an area, whose entry says h; and that it is present
abbrev pub record_at : Area → Holding → Present
record_at x h = record { area = x; holding = h }

abbrev pub present_at : Area → Holding → Option Present
present_at x h = Some (record_at x h)

-- document 01's 'present record' of a copy: its whole area with the later time, where x is the area of the later entry, by whether x
-- and the other area are whole
abbrev pub choose : BlockFields → Bool → Bool → Area → Option Present
choose f s t x = cond s (present_at x (holding_of (entry_in f x))) (cond t (present_at (other_area x) (holding_of (entry_in f (other_area x)))) None)

-- the same by a test, of which `whole x s` says that it answers s of the area x; the older area is not tested where the newer one is whole
abbrev pub Chosen : (Area → Bool → Type 0) → BlockFields → Option Present → Type 0
Chosen whole f p =
    (s : Bool) × (t : Bool) × whole (newest f) s × (s ≡ false → whole (other_area (newest f)) t) × (p ≡ choose f s t (newest f))

abbrev pub present_from : List ℕ → BlockFields → Area → Option Present
present_from c f x = choose f (whole c f x) (whole c f (other_area x)) x

unfoldable pub present : List ℕ → BlockFields → Option Present
present c f = present_from c f (newest f)

-- the same by which of the areas a and b are whole
abbrev pub present_by : BlockFields → Bool → Bool → Option Present
present_by f a b = choose f (by_area (newest f) a b) (by_area (other_area (newest f)) a b) (newest f)

-- what reading a copy's block answers
abbrev pub reading_in : List ℕ → Result Reading Reason
reading_in c = reading (block_in c)

-- the same of a slice that may have another size: 1 then
unfoldable pub sized_reading : List ℕ → Result Reading Reason
sized_reading c = cond (is_copy c) (reading_in c) (Err (reason slice_size))

-- two areas are the same
abbrev pub same_area : Area → Area → Bool
same_area A A = true
same_area A B = false
same_area B A = false
same_area B B = true

-- the present record is that of the entry with the later time, which is then whole
abbrev pub current : BlockFields → Option Present → Bool
current f None = false
current f (Some p) = same_area p.area (newest f)

-- the same answer with f of its value
abbrev pub mapped : {X Y : Type 0} → (X → Y) → Result X Reason → Result Y Reason
mapped f (Ok v) = Ok (f v)
mapped f (Err e) = Err e

-- what `read` answers: the block's fields or the reason, the wholeness of each area, the present record
abbrev pub copy_reading_of : List ℕ → Reading → CopyReading
copy_reading_of c r = record { block = r; a = whole c r.fields A; b = whole c r.fields B; present = present c r.fields }

unfoldable pub copy_reading : List ℕ → Result CopyReading Reason
copy_reading c = mapped (copy_reading_of c) (sized_reading c)

-- what `read_present` answers: of the same, the block and the present record
abbrev pub present_reading_of : CopyReading → PresentReading
present_reading_of r = record { block = r.block; present = r.present }
