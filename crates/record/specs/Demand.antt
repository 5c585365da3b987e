-- Demand 2, second half, and what a record is, in other words than the tests. A device's size below 2^64 and elements below 256
-- (`Bytes`) are what the machine's types have. `proofs/Demand.antt` proves all of it.
use Rattle.std.specs.Prelude.{ℕ, ◌+◌, ◌*◌, ◌/◌, ◌%◌, ◌^◌, ◌≤◌, ◌<◌, ◌≡◌, true, false, ◌⊎◌, List, [], ◌∷◌, ◌++◌, length, take, drop, Ok, Err}
use Rattle.endian.specs.Bytes.{Bytes}
use Rattle.refusal.specs.Reasons.{reason_of, refusal_in}
use Rattle.refusal.specs.Tests.{Test, first, Fails}
use Rattle.layout.specs.declared.Device.{Device}
use Rattle.layout.specs.Limits.{size_allowed, metadata_allowed, reserved_allowed, device_tests, record_limit}
use Rattle.layout.specs.Places.{data_start, data_end}
use Rattle.segments.specs.declared.Segment.{Segment}
use Rattle.segments.specs.Segments.{nth, InRange}
use Rattle.segments.specs.Sectors.{is_free, allocated, free_sectors, Holder}
use Rattle.segments.specs.Order.{Placed}
use Rattle.segments.specs.Demand.{Share, FirstPair}
use Rattle.items.specs.declared.Head.{Head}
use Rattle.items.specs.declared.Head.TheVariants.{Plain, Marked, Unknown}
use Rattle.items.specs.Head.{head_of, head_kind, head_size, block_size, low_water, head_allowed, head_right, allows, data_range, range_for, item_bytes, most_segments}
use Rattle.items.specs.Items.{segments}
use Rattle.items.specs.Making.{record_of}
use Rattle.record.specs.Accept.{content_tests, record_tests, named, checked}
use Rattle.record.specs.Sectors.{parts}
use Rattle.record.specs.Answers.{position_tests, segment_answer, count_answer, head_answer, some_room, segments_answer, segments_left}

-- A head and segments that are each right on a device, whether any share a sector or not: all of this, in no order.
pub record EachRight (d : Device) (h : Head) (gs : List Segment) : Type 0 where
  pub size : size_allowed d.sectors ≡ true
  pub metadata : metadata_allowed d.metadata ≡ true
  pub reserved : reserved_allowed d.reserved ≡ true
  -- the head is one that is known, within its limits
  pub head : head_right d h ≡ true
  -- they fit into a record
  pub bytes : head_size h + item_bytes * length gs ≤ record_limit
  -- each segment has a kind that the head allows
  pub kinds : (i : ℕ) → i < length gs → allows h (nth gs i).kind ≡ true
  -- each is not empty and lies in the range that its kind may lie in
  pub ranges : (i : ℕ) → i < length gs → InRange (range_for d h (nth gs i).kind) (nth gs i)

-- A head and segments that are right on a device: each is, and no two share a sector.
pub record Right (d : Device) (h : Head) (gs : List Segment) : Type 0 where
  pub each : EachRight d h gs
  pub apart : (i j x : ℕ) → Share gs i j x → ⊥

-- the bytes of a head and segments that are right on a device
pub record RightBytes (d : Device) (s : List ℕ) : Type 0 where
  pub head : Head
  pub list : List Segment
  pub right : Right d head list
  pub is : record_of head list ≡ s

-- A record is accepted exactly when its bytes are those of a head and segments that are right.
abbrev pub Exactly : Type 0
Exactly =
    (d : Device) (s : List ℕ) → d.sectors < 2 ^ 64 → Bytes s
    → (first (record_tests d s) ≡ 0 → (record_of (head_of s) (segments s) ≡ s) × Right d (head_of s) (segments s))
    × ((h : Head) (gs : List Segment) → Right d h gs → record_of h gs ≡ s → first (record_tests d s) ≡ 0)

-- Reading what was made gives the same head and segments, and it is accepted.
abbrev pub ReadAfterMake : Type 0
ReadAfterMake =
    (d : Device) (h : Head) (gs : List Segment) → d.sectors < 2 ^ 64 → Right d h gs
    → (head_of (record_of h gs) ≡ h) × ((segments (record_of h gs) ≡ gs) × (first (record_tests d (record_of h gs)) ≡ 0))

-- A block size that the format allows, in its numbers: from 128 to 2,097,152 and a multiple of 128.
abbrev pub BlockSize : ℕ → Type 0
BlockSize b = (128 ≤ b) × ((b ≤ 2097152) × (b % 128 ≡ 0))

-- The heads and kinds that are allowed, in the format's numbers. A head of kind 16, or of kind 17 with any mark of four bytes, is right on a
-- device exactly when its block size is allowed; both allow the kinds 1 to 4 of segments and no others, so that there is no second head; one
-- that is not known is never right.
pub record RightHeads (d : Device) : Type 0 where
  pub plain : (b : ℕ) → (head_right d (Plain b) ≡ true → BlockSize b) × (BlockSize b → head_right d (Plain b) ≡ true)
  pub marked : (b m : ℕ) → (head_right d (Marked b m) ≡ true → BlockSize b × (m < 2 ^ 32)) × (BlockSize b × (m < 2 ^ 32) → head_right d (Marked b m) ≡ true)
  pub kinds : (h : Head) (k : ℕ) → head_right d h ≡ true
      → (allows h k ≡ true → (1 ≤ k) × (k ≤ 4)) × ((1 ≤ k) × (k ≤ 4) → allows h k ≡ true)
  -- each kind may lie in the whole data range
  pub ranges : (h : Head) (k : ℕ) → head_right d h ≡ true → range_for d h k ≡ data_range d
  -- a record may be begun with just these
  pub begun : (h : Head) → (head_allowed h ≡ true → head_right d h ≡ true) × (head_right d h ≡ true → head_allowed h ≡ true)
  pub unknown : head_right d Unknown ≡ false

abbrev pub Heads : Type 0
Heads = (d : Device) → RightHeads d

-- What a head says: its kind, length, block size and mark, 0 where it has none.
abbrev pub HeadSays : Type 0
HeadSays =
    (b m : ℕ)
    → ((head_kind (Plain b) ≡ 16) × ((head_size (Plain b) ≡ 8) × ((block_size (Plain b) ≡ b) × (low_water (Plain b) ≡ 0))))
    × ((head_kind (Marked b m) ≡ 17) × ((head_size (Marked b m) ≡ 12) × ((block_size (Marked b m) ≡ b) × (low_water (Marked b m) ≡ m))))

-- the four bytes of a number, the lowest first; the two, and the eight
abbrev pub four_bytes : ℕ → List ℕ
four_bytes v = v % 256 ∷ v / 256 % 256 ∷ v / 65536 % 256 ∷ v / 16777216 % 256 ∷ []

abbrev pub two_bytes : ℕ → List ℕ
two_bytes v = v % 256 ∷ v / 256 % 256 ∷ []

abbrev pub eight_bytes : ℕ → List ℕ
eight_bytes v = four_bytes v ++ four_bytes (v / 4294967296)

-- The bytes of a record with one segment more: those that it had, then length 20, the kind, the first sector and the length in sectors.
abbrev pub ItemBytes : Type 0
ItemBytes =
    (h : Head) (gs : List Segment) (g : Segment)
    → record_of h (gs ++ (g ∷ []))
    ≡ record_of h gs ++ ((20 ∷ 0 ∷ two_bytes g.kind) ++ (eight_bytes g.start ++ eight_bytes g.sectors))

-- The bytes of both heads, which a record with no segments has: length, kind and block size, and with kind 17 the mark.
abbrev pub HeadBytes : Type 0
HeadBytes =
    (b m : ℕ)
    → (record_of (Plain b) [] ≡ (8 ∷ 0 ∷ 16 ∷ 0 ∷ []) ++ four_bytes b)
    × (record_of (Marked b m) [] ≡ (12 ∷ 0 ∷ 17 ∷ 0 ∷ []) ++ (four_bytes b ++ four_bytes m))

-- A record has room for one more segment exactly when it would not be longer than the limit.
abbrev pub Full : Type 0
Full =
    (h : Head) (n : ℕ)
    → (n < most_segments h → head_size h + item_bytes * (n + 1) ≤ record_limit)
    × (head_size h + item_bytes * (n + 1) ≤ record_limit → n < most_segments h)

-- The most segments by number: 409 with either head, the record of kind 17 then having exactly as many bytes as the limit.
abbrev pub Most : Type 0
Most = (b m : ℕ) → (most_segments (Plain b) ≡ 409) × ((most_segments (Marked b m) ≡ 409) × (head_size (Marked b m) + item_bytes * 409 ≡ record_limit))

-- A data segment of 100 sectors at 2,048, and the examples' device.
abbrev pub printed_segment : Segment
printed_segment = record { kind = 2; start = 2048; sectors = 100 }

abbrev pub printed_device : Device
printed_device = record { sectors = 2097152; metadata = 2040; reserved = 0 }

-- its bytes
abbrev pub printed_item : List ℕ
printed_item = 20 ∷ 0 ∷ 2 ∷ 0 ∷ 0 ∷ 8 ∷ 0 ∷ 0 ∷ 0 ∷ 0 ∷ 0 ∷ 0 ∷ 100 ∷ 0 ∷ 0 ∷ 0 ∷ 0 ∷ 0 ∷ 0 ∷ 0 ∷ []

-- The format's printed record, block size 128 and that segment, byte for byte; and the same with a head of kind 17 and the mark 1,000. Both are
-- accepted on that device.
abbrev pub Printed : Type 0
Printed =
    (record_of (Plain 128) (printed_segment ∷ []) ≡ 8 ∷ 0 ∷ 16 ∷ 0 ∷ 128 ∷ 0 ∷ 0 ∷ 0 ∷ printed_item)
    × ((first (record_tests printed_device (record_of (Plain 128) (printed_segment ∷ []))) ≡ 0)
    × ((record_of (Marked 128 1000) (printed_segment ∷ []) ≡ 12 ∷ 0 ∷ 17 ∷ 0 ∷ 128 ∷ 0 ∷ 0 ∷ 0 ∷ 232 ∷ 3 ∷ 0 ∷ 0 ∷ printed_item)
    × (first (record_tests printed_device (record_of (Marked 128 1000) (printed_segment ∷ []))) ≡ 0)))

-- What each refusal number says of the device numbers d and the record s.
pub record Means (d : Device) (s : List ℕ) : Type 0 where
  pub four : first (record_tests d s) ≡ 4 → size_allowed d.sectors ≡ false
  pub seven : first (record_tests d s) ≡ 7 → metadata_allowed d.metadata ≡ false
  pub eight : first (record_tests d s) ≡ 8 → reserved_allowed d.reserved ≡ false
  -- length 0 or over the limit
  pub fifteen : first (record_tests d s) ≡ 15 → (length s ≡ 0) ⊎ (record_limit < length s)
  -- malformed, or a kind not known: not the bytes of a right head and of segments of its kinds
  pub seventeen : first (record_tests d s) ≡ 17 → (h : Head) (gs : List Segment) → head_right d h ≡ true
      → ((i : ℕ) → i < length gs → (allows h (nth gs i).kind ≡ true) × (((nth gs i).start < 2 ^ 64) × ((nth gs i).sectors < 2 ^ 64)))
      → record_of h gs ≡ s → ⊥
  -- a segment empty or not wholly in its range
  pub eighteen : first (record_tests d s) ≡ 18
      → (i : ℕ) × ((i < length (segments s)) × (InRange (range_for d (head_of s) (nth (segments s) i).kind) (nth (segments s) i) → ⊥))
  -- two segments share a sector
  pub nineteen : first (record_tests d s) ≡ 19 → (i : ℕ) × ((j : ℕ) × ((x : ℕ) × Share (segments s) i j x))

abbrev pub Meaning : Type 0
Meaning = (d : Device) (s : List ℕ) → Means d s

-- Malformed is 17, and nothing else: bytes of an allowed length that are not those of a right head and of segments of its kinds, so with no head or a
-- second one, on a device whose numbers are allowed.
abbrev pub Malformed : Type 0
Malformed =
    (d : Device) (s : List ℕ) → Bytes s → first (device_tests d) ≡ 0 → 1 ≤ length s → length s ≤ record_limit
    → ((h : Head) (gs : List Segment) → head_right d h ≡ true
    → ((i : ℕ) → i < length gs → (allows h (nth gs i).kind ≡ true) × (((nth gs i).start < 2 ^ 64) × ((nth gs i).sectors < 2 ^ 64)))
    → record_of h gs ≡ s → ⊥)
    → first (record_tests d s) ≡ 17

-- A refusal is the lowest number whose condition holds.
abbrev pub Lowest : Type 0
Lowest =
    (d : Device) (s : List ℕ) → 0 < first (record_tests d s)
    → Fails (record_tests d s) (first (record_tests d s)) × ((k : ℕ) → Fails (record_tests d s) k → first (record_tests d s) ≤ k)

-- In an accepted record each sector of the device is in exactly one place: a reserved end, one segment, or free room.
abbrev pub Partition : Type 0
Partition = (d : Device) (s : List ℕ) → first (record_tests d s) ≡ 0 → (x : ℕ) → x < d.sectors → parts d (segments s) x ≡ 1

-- By cases: the sector is in the front end, in the back end, in one segment, or free; by `Partition` in one of them only.
abbrev pub Cases : Type 0
Cases =
    (d : Device) (s : List ℕ) → first (record_tests d s) ≡ 0 → (x : ℕ) → x < d.sectors
    → (x < data_start d) ⊎ ((data_end d ≤ x) ⊎ (Holder (segments s) x ⊎ (is_free (data_range d) (segments s) x ≡ true)))

-- Allocated sectors, free sectors and 2 x (8 + L + R) add up to S.
abbrev pub Sums : Type 0
Sums =
    (d : Device) (s : List ℕ) → first (record_tests d s) ≡ 0
    → allocated (segments s) + free_sectors (data_range d) (segments s) + 2 * (8 + d.metadata + d.reserved) ≡ d.sectors

-- By tests on the record s, 19 is given exactly when none with a lower number fails and two segments share a sector; and then the two that clash
-- stand beside it.
abbrev pub ClashBy : List Test → List ℕ → Type 0
ClashBy ts s =
    (first ts ≡ 19
    → ((k : ℕ) → k < 19 → Fails ts k → ⊥) × FirstPair (segments s) (named (first ts) s).first (named (first ts) s).second)
    × (((k : ℕ) → k < 19 → Fails ts k → ⊥) → (i j x : ℕ) → Share (segments s) i j x → first ts ≡ 19)

-- By meaning: a record is refused with 19 exactly when its bytes are those of a head and segments that are each right and of which two share a sector;
-- and the two that clash stand beside it.
abbrev pub ClashExactly : Type 0
ClashExactly =
    (d : Device) (s : List ℕ) → d.sectors < 2 ^ 64 → Bytes s
    → (first (record_tests d s) ≡ 19
    → (record_of (head_of s) (segments s) ≡ s) × (EachRight d (head_of s) (segments s) × FirstPair (segments s) (named 19 s).first (named 19 s).second))
    × ((h : Head) (gs : List Segment) (i j : ℕ) → EachRight d h gs → record_of h gs ≡ s → FirstPair gs i j
    → named (first (record_tests d s)) s ≡ record { number = 19; first = i; second = j })

-- So by a record's check, and by that of its content alone, whatever the device numbers are.
abbrev pub Clashing : Type 0
Clashing = (d : Device) (s : List ℕ) → ClashBy (record_tests d s) s × ClashBy (content_tests d s) s

-- Where the device numbers are allowed the two checks are one.
abbrev pub Content : Type 0
Content = (d : Device) (s : List ℕ) → first (device_tests d) ≡ 0 → first (content_tests d s) ≡ first (record_tests d s)

-- What stands beside the number of a call that takes the record s. Beside 19, where two segments share a sector (19 is not given otherwise: `Clashing`),
-- the two that clash, which are that pair and no other; zero beside every other number.
pub record Beside (s : List ℕ) : Type 0 where
  pub number : (n : ℕ) → (named n s).number ≡ n
  pub pair : (i j x : ℕ) → Share (segments s) i j x → FirstPair (segments s) (named 19 s).first (named 19 s).second
  pub only : (i j : ℕ) → FirstPair (segments s) i j → ((named 19 s).first ≡ i) × ((named 19 s).second ≡ j)
  pub nothing : (n : ℕ) → (n ≡ 19 → ⊥) → ((named n s).first ≡ 0) × ((named n s).second ≡ 0)

abbrev pub Naming : Type 0
Naming = (s : List ℕ) → Beside s

-- The check of every accepted record gives the order of its segments: each is at one place, not empty, and ends where a later one
-- begins, or before.
abbrev pub Ordered : Type 0
Ordered =
    (d : Device) (s : List ℕ) → first (record_tests d s) ≡ 0
    → (p : List ℕ) × ((checked (first (record_tests d s)) s ≡ Ok p) × Placed (segments s) (take (length (segments s)) p))

-- The n segments from position p on that are handed on to the table t.
pub record Handed (d : Device) (s : List ℕ) (p : ℕ) (t : List ℕ) (n : ℕ) : Type 0 where
  pub answer : segments_answer d s p (length t) ≡ Ok n
  -- they are there and have room, and none is left or the table has no room for one more
  pub there : (i : ℕ) → i < n → p + i < length (segments s)
  pub room : 3 * n ≤ length t
  pub most : (length (segments s) ≤ p + n) ⊎ (length t < 3 * (n + 1))
  -- the table begins with the kind, the start and the sectors of each; the numbers past them stay
  pub each : (i : ℕ) → i < n
      → take 3 (drop (3 * i) (segments_left d s p t))
      ≡ (nth (segments s) (p + i)).kind ∷ (nth (segments s) (p + i)).start ∷ (nth (segments s) (p + i)).sectors ∷ []
  pub past : drop (3 * n) (segments_left d s p t) ≡ drop (3 * n) t

-- a refusal: the number with what stands beside it, and the table as it was
abbrev pub NotHanded : Device → List ℕ → ℕ → List ℕ → ℕ → Type 0
NotHanded d s p t n = (segments_answer d s p (length t) ≡ Err (reason_of (named n s))) × (segments_left d s p t ≡ t)

-- Segments of an accepted record are handed on, but where some are left and the table has no room for one: 1.
abbrev pub Handing : Type 0
Handing =
    (d : Device) (s : List ℕ) (p : ℕ) (t : List ℕ)
    → (first (record_tests d s) ≡ 0 → (length (segments s) ≤ p) ⊎ (3 ≤ length t) → (n : ℕ) × Handed d s p t n)
    × ((first (record_tests d s) ≡ 0 → p < length (segments s) → length t < 3 → NotHanded d s p t 1)
    × ((n : ℕ) → 0 < n → first (record_tests d s) ≡ n → NotHanded d s p t n))

-- What a call answers has the number that its tests give, with what stands beside it, for every input; and a check that refuses has no order.
pub record Numbers (d : Device) (s : List ℕ) (p w : ℕ) : Type 0 where
  pub check : refusal_in (checked (first (record_tests d s)) s) ≡ named (first (record_tests d s)) s
  pub order_none : (first (record_tests d s) ≡ 0 → ⊥) → checked (first (record_tests d s)) s ≡ Err (reason_of (named (first (record_tests d s)) s))
  pub segment : refusal_in (segment_answer d s p) ≡ named (first (record_tests d s ++ position_tests s p)) s
  pub many : refusal_in (count_answer d s) ≡ named (first (record_tests d s)) s
  pub head : refusal_in (head_answer d s) ≡ named (first (record_tests d s)) s
  pub handed : refusal_in (segments_answer d s p w) ≡ named (first (record_tests d s ++ some_room s p w)) s

abbrev pub Numbered : Type 0
Numbered = (d : Device) (s : List ℕ) (p w : ℕ) → Numbers d s p w

-- What a call answers that is not refused; for segments in a table it is `Handing`.
pub record Values (d : Device) (s : List ℕ) (p : ℕ) : Type 0 where
  pub segment : first (record_tests d s ++ position_tests s p) ≡ 0 → segment_answer d s p ≡ Ok (nth (segments s) p)
  pub many : first (record_tests d s) ≡ 0 → count_answer d s ≡ Ok (length (segments s))
  pub head : first (record_tests d s) ≡ 0 → head_answer d s ≡ Ok (head_of s)

abbrev pub Valued : Type 0
Valued = (d : Device) (s : List ℕ) (p : ℕ) → Values d s p
