-- The kinds of items, and the head of a record as a value: what reading, making and accepting a record ask of it, by cases over its kind. What changes one
-- is in `heads`.
use Rattle.std.specs.Prelude.{ℕ, ◌-◌, ◌/◌, ◌%◌, ◌^◌, Bool, true, false, cond, ◌&&◌, List, [], ◌++◌, leb, ltb, eqb}
use Rattle.endian.specs.Bytes.{le, to_le, window}
use Rattle.layout.specs.declared.Device.{Device}
use Rattle.layout.specs.Limits.{record_limit}
use Rattle.layout.specs.Places.{data_start, data_end}
use Rattle.segments.specs.declared.Range.{Range}
use Rattle.items.specs.declared.Item.{Item}
use Rattle.items.specs.declared.Head.{Head}
use Rattle.items.specs.declared.Head.TheVariants.{Plain, Marked, Unknown}

-- the kinds of a head without and with a low water mark
abbrev pub plain_kind : ℕ
plain_kind = 16

abbrev pub marked_kind : ℕ
marked_kind = 17

-- kind 1 thin metadata, 2 thin data, 3 spare, 4 metadata volume; 16 and 17 a head
unfoldable pub item_of : ℕ → Item
item_of k =
    cond (eqb k 1) Item.ThinMetadata
    (cond (eqb k 2) Item.ThinData
    (cond (eqb k 3) Item.Spare
    (cond (eqb k 4) Item.MetadataVolume (cond (eqb k plain_kind) Item.Head (cond (eqb k marked_kind) Item.MarkedHead Item.Unknown)))))

-- the kinds of segments
abbrev pub is_segment : Item → Bool
is_segment Item.ThinMetadata = true
is_segment Item.ThinData = true
is_segment Item.Spare = true
is_segment Item.MetadataVolume = true
is_segment Item.Head = false
is_segment Item.MarkedHead = false
is_segment Item.Unknown = false

-- what the bytes s say, whose first item has this kind: kind 16 has the data block size in sectors as 4 bytes, kind 17 that and then the low
-- water mark in blocks as 4 bytes
abbrev pub head_as : Item → List ℕ → Head
head_as Item.ThinMetadata s = Unknown
head_as Item.ThinData s = Unknown
head_as Item.Spare s = Unknown
head_as Item.MetadataVolume s = Unknown
head_as Item.Head s = Plain (le (window s 4 4))
head_as Item.MarkedHead s = Marked (le (window s 4 4)) (le (window s 8 4))
head_as Item.Unknown s = Unknown

-- the head of a record; unknown where its first item is no head
unfoldable pub head_of : List ℕ → Head
head_of s = head_as (item_of (le (window s 2 2))) s

-- how many bytes it has; none where it is not known
unfoldable pub head_size : Head → ℕ
head_size (Plain b) = 8
head_size (Marked b m) = 12
head_size Unknown = 0

-- its kind; 0 where it is not known
unfoldable pub head_kind : Head → ℕ
head_kind (Plain b) = plain_kind
head_kind (Marked b m) = marked_kind
head_kind Unknown = 0

-- its bytes: length 8, kind 16, the block size; or length 12, kind 17, the block size, the low water mark
unfoldable pub head_bytes : Head → List ℕ
head_bytes (Plain b) = to_le 2 (head_size (Plain b)) ++ (to_le 2 plain_kind ++ to_le 4 b)
head_bytes (Marked b m) = to_le 2 (head_size (Marked b m)) ++ (to_le 2 marked_kind ++ (to_le 4 b ++ to_le 4 m))
head_bytes Unknown = []

-- its data block size in sectors
unfoldable pub block_size : Head → ℕ
block_size (Plain b) = b
block_size (Marked b m) = b
block_size Unknown = 0

-- its low water mark in blocks; 0 where it has none
unfoldable pub low_water : Head → ℕ
low_water (Plain b) = 0
low_water (Marked b m) = m
low_water Unknown = 0

-- from 128 to 2,097,152 and a multiple of 128
abbrev pub block_size_allowed : ℕ → Bool
block_size_allowed b = eqb (b % 128) 0 && (leb 128 b && leb b 2097152)

-- any number that its four bytes have room for
abbrev pub mark_allowed : ℕ → Bool
mark_allowed m = ltb m (256 ^ 4)

-- what a head says is within its limits, whatever the device
unfoldable pub head_allowed : Head → Bool
head_allowed (Plain b) = block_size_allowed b
head_allowed (Marked b m) = block_size_allowed b && mark_allowed m
head_allowed Unknown = false

-- it is within its limits on a device
unfoldable pub head_right : Device → Head → Bool
head_right d (Plain b) = head_allowed (Plain b)
head_right d (Marked b m) = head_allowed (Marked b m)
head_right d Unknown = false

-- the kinds of segments that a record with this head can have
unfoldable pub allows : Head → ℕ → Bool
allows (Plain b) k = is_segment (item_of k)
allows (Marked b m) k = is_segment (item_of k)
allows Unknown k = false

-- the data range
abbrev pub data_range : Device → Range
data_range d = record { start = data_start d; end = data_end d }

-- the range that a segment of kind k may lie in
unfoldable pub range_for : Device → Head → ℕ → Range
range_for d (Plain b) k = data_range d
range_for d (Marked b m) k = data_range d
range_for d Unknown k = record { start = 0; end = 0 }

-- the bytes of a segment's item
abbrev pub item_bytes : ℕ
item_bytes = 20

-- the most segments of a record with this head
unfoldable pub most_segments : Head → ℕ
most_segments h = (record_limit - head_size h) / item_bytes

-- the most segments that any record has: one with the smallest head
unfoldable pub most_of_any : ℕ
most_of_any = most_segments (Plain 0)
