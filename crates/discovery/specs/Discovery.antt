-- Discovery over two copies, in step, and reading the found record: docs/FORMAT.md, 'Discovery'.
use Rattle.std.specs.Prelude.{ℕ, Bool, false, cond, ◌&&◌, List, eqb, leb, Option, Some, None, Result, Ok, Err}
use Rattle.endian.specs.Bytes.{same, splice}
use Rattle.refusal.specs.declared.Reason.{Reason}
use Rattle.refusal.specs.Numbers.{slice_size, no_block, identity, no_record, two_records}
use Rattle.refusal.specs.Reasons.{reason}
use Rattle.layout.specs.declared.Side.{Side}
use Rattle.layout.specs.declared.Side.TheVariants.{Front, Back}
use Rattle.block.specs.declared.BlockFields.{BlockFields}
use Rattle.block.specs.declared.Reading.{Reading}
use Rattle.block.specs.Entry.{later_than, same_time, time_of}
use Rattle.block.specs.Writing.{holding_of}
use Rattle.copy.specs.declared.Present.{Present}
use Rattle.copy.specs.declared.CopyReading.{CopyReading}
use Rattle.copy.specs.declared.PresentReading.{PresentReading}
use Rattle.discovery.specs.declared.Finding.{Finding}
use Rattle.discovery.specs.declared.Found.{Found}
use Rattle.discovery.specs.declared.Examined.{Examined}
use Rattle.copy.specs.Copy.{is_copy, area_bytes, entry_in, whole, newest, record_at, mapped, reading_in, copy_reading, present_reading_of}

-- which copy and area, the length and time, and the fields of that copy's block
abbrev pub finding_of : Side → BlockFields → Present → Finding
finding_of s g p =
    record { side = s; area = p.area; bytes = p.holding.bytes; seconds = p.holding.seconds; nanoseconds = p.holding.nanoseconds; fields = g }

-- a record that is found, and the other copy: accepted too, with its fields, or refused
abbrev pub found_with : Finding → Result BlockFields Reason → Result Found Reason
found_with q o = Ok (record { finding = q; other = o })

-- one copy read alone, where the other is refused
abbrev pub alone_of : Side → BlockFields → Option Present → Reason → Result Found Reason
alone_of s g None e = Err (reason no_record)
alone_of s g (Some p) e = found_with (finding_of s g p) (Err e)

-- both present records: the newest; on the same time and bytes, the front
abbrev pub newest_of : List ℕ → List ℕ → BlockFields → BlockFields → Present → Present → Result Found Reason
newest_of f b i j p q =
    cond (same_time (time_of p.holding) (time_of q.holding))
    (cond (same (area_bytes f p.area p.holding.bytes) (area_bytes b q.area q.holding.bytes)) (found_with (finding_of Front i p) (Ok j)) (Err (reason two_records)))
    (cond (later_than (time_of q.holding) (time_of p.holding)) (found_with (finding_of Back j q) (Ok i)) (found_with (finding_of Front i p) (Ok j)))

-- two accepted copies of one identity, whose blocks have the fields i and j
abbrev pub together_of : List ℕ → List ℕ → BlockFields → BlockFields → Option Present → Option Present → Result Found Reason
together_of f b i j None None = Err (reason no_record)
together_of f b i j None (Some q) = found_with (finding_of Back j q) (Ok i)
together_of f b i j (Some p) None = found_with (finding_of Front i p) (Ok j)
together_of f b i j (Some p) (Some q) = newest_of f b i j p q

-- S, L, R and both UUIDs are the same
abbrev pub same_device : BlockFields → BlockFields → Bool
same_device f g =
    eqb f.device.sectors g.device.sectors
    && (eqb f.device.metadata g.device.metadata && eqb f.device.reserved g.device.reserved)

abbrev pub same_uuids : Reading → Reading → Bool
same_uuids r q = same r.pool q.pool && same r.blockdev q.blockdev

-- by what reading the two copies answered: a refused block in one copy is set aside at once and the other copy is read alone
abbrev pub decide : Result PresentReading Reason → Result PresentReading Reason → List ℕ → List ℕ → Result Found Reason
decide (Err m) (Err n) f b = Err (reason no_block)
decide (Err m) (Ok s) f b = alone_of Back s.block.fields s.present m
decide (Ok r) (Err n) f b = alone_of Front r.block.fields r.present n
decide (Ok r) (Ok s) f b =
    cond (same_device r.block.fields s.block.fields && same_uuids r.block s.block)
    (together_of f b r.block.fields s.block.fields r.present s.present)
    (Err (reason identity))

-- the same, where it was answered which areas are whole too
abbrev pub decide_of : Result CopyReading Reason → Result CopyReading Reason → List ℕ → List ℕ → Result Found Reason
decide_of r s f b = decide (mapped present_reading_of r) (mapped present_reading_of s) f b

-- both lent slices are copies by their size
abbrev pub sized : List ℕ → List ℕ → Bool
sized f b = is_copy f && is_copy b

-- what `discover` answers for a front and a back copy
unfoldable pub discovery : List ℕ → List ℕ → Result Found Reason
discovery f b = cond (sized f b) (decide_of (copy_reading f) (copy_reading b) f b) (Err (reason slice_size))

-- both records have the same time and bytes
abbrev pub agree : List ℕ → List ℕ → Present → Present → Bool
agree f b p q =
    same_time (time_of p.holding) (time_of q.holding)
    && same (area_bytes f p.area p.holding.bytes) (area_bytes b q.area q.holding.bytes)

-- in each copy the used entry with the later time is whole, and both present records have the same time and bytes
abbrev pub stepped : List ℕ → BlockFields → List ℕ → BlockFields → Bool
stepped f x b y =
    whole f x (newest x)
    && (whole b y (newest y)
    && agree f b (record_at (newest x) (holding_of (entry_in x (newest x)))) (record_at (newest y) (holding_of (entry_in y (newest y)))))

-- both blocks accepted, identity equal, and that
abbrev pub in_step_of : Result Reading Reason → Result Reading Reason → List ℕ → List ℕ → Bool
in_step_of (Err m) w f b = false
in_step_of (Ok r) (Err n) f b = false
in_step_of (Ok r) (Ok s) f b = (same_device r.fields s.fields && same_uuids r s) && stepped f r.fields b s.fields

-- document 01's 'in step'
unfoldable pub is_in_step : List ℕ → List ℕ → Bool
is_in_step f b = sized f b && in_step_of (reading_in f) (reading_in b) f b

-- what `examine` answers: both at once
abbrev pub examined : List ℕ → List ℕ → Examined
examined f b = record { answer = discovery f b; step = is_in_step f b }

-- the copy on a side
abbrev pub copy_on : Side → List ℕ → List ℕ → List ℕ
copy_on Front f b = f
copy_on Back f b = b

-- the bytes of a found record
abbrev pub record_bytes : Finding → List ℕ → List ℕ → List ℕ
record_bytes r f b = area_bytes (copy_on r.side f b) r.area r.bytes

-- what `read_found` answers: discovery's answer, or 1 where the record has no room, tested last
abbrev pub read_answer : Result Found Reason → ℕ → Result Found Reason
read_answer (Err e) room = Err e
read_answer (Ok r) room = cond (leb r.finding.bytes room) (Ok r) (Err (reason slice_size))

-- what it leaves in the lent buffer: the record at its start, or what was there
abbrev pub read_bytes : Result Found Reason → List ℕ → List ℕ → List ℕ → List ℕ
read_bytes (Err e) f b out = out
read_bytes (Ok r) f b out = splice out 0 (record_bytes r.finding f b)
