-- The items of a segment record, as docs/FORMAT.md, 'Segment record', lays them out: each with its length first (two bytes, whole item), then a two-byte
-- kind, then the body. Bytes that are not there count as zero, so that each definition has a value at every list.
use Rattle.std.specs.Prelude.{ℕ, zero, suc, ◌-◌, ◌*◌, ◌/◌, ◌%◌, Bool, ◌&&◌, List, [], ◌∷◌, leb, eqb, length, drop}
use Rattle.endian.specs.Bytes.{le, window}
use Rattle.layout.specs.declared.Device.{Device}
use Rattle.search.specs.Search.{every}
use Rattle.segments.specs.declared.Segment.{Segment}
use Rattle.segments.specs.Segments.{nth}
use Rattle.items.specs.declared.Head.{Head}
use Rattle.items.specs.Head.{head_of, head_size, head_right, allows, item_bytes}

-- the items after the head
unfoldable pub items_of : List ℕ → List ℕ
items_of s = drop (head_size (head_of s)) s

-- what an item of 20 bytes says: kind 2 bytes, start 8 bytes, length 8 bytes
unfoldable pub segment_of : List ℕ → Segment
segment_of u = record { kind = le (window u 2 2); start = le (window u 4 8); sectors = le (window u 12 8) }

-- the first n items of t
unfoldable pub read_items : ℕ → List ℕ → List Segment
read_items zero t = []
read_items (suc n) t = segment_of (window t 0 item_bytes) ∷ read_items n (drop item_bytes t)

-- as many as there is room for
unfoldable pub segments_in : List ℕ → List Segment
segments_in t = read_items (length t / item_bytes) t

-- the segments of a record, in its order
abbrev pub segments : List ℕ → List Segment
segments s = segments_in (items_of s)

-- the length that the item at position i says it has
unfoldable pub size_in : List ℕ → ℕ → ℕ
size_in t i = le (window t (item_bytes * i) 2)

-- the item at position i of t is a segment of length 20 with a kind that the head h allows
unfoldable pub item_right : Head → List ℕ → ℕ → Bool
item_right h t i = eqb (size_in t i) item_bytes && allows h (nth (segments_in t) i).kind

-- the first item has the length of its kind, and after it there is room for whole items; nothing follows
unfoldable pub framed : List ℕ → Bool
framed s =
    eqb (le (window s 0 2)) (head_size (head_of s))
    && (leb (head_size (head_of s)) (length s) && eqb ((length s - head_size (head_of s)) % item_bytes) 0)

-- a right head, then segments
unfoldable pub well_formed : Device → List ℕ → Bool
well_formed d s = (framed s && head_right d (head_of s)) && every (item_right (head_of s) (items_of s)) (length (segments s))
