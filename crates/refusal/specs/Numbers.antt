-- The refusal numbers, in the words and order of the table of docs/FORMAT.md, 'Refusal numbers'.
use Rattle.std.specs.Prelude.{ℕ}

-- a lent slice has the wrong size, or is too small for the answer
abbrev pub slice_size : ℕ
slice_size = 1

-- the 16 signature bytes differ
abbrev pub signature : ℕ
signature = 2

-- the block's CRC differs
abbrev pub block_checksum : ℕ
block_checksum = 3

-- S too small
abbrev pub device_size : ℕ
device_size = 4

-- flags or a zero field not zero
abbrev pub not_zero : ℕ
not_zero = 5

-- a UUID byte not allowed
abbrev pub uuid_byte : ℕ
uuid_byte = 6

-- L not allowed
abbrev pub metadata_size : ℕ
metadata_size = 7

-- R not allowed
abbrev pub reserved_size : ℕ
reserved_size = 8

-- an area entry breaks a limit, or both used entries have one time
abbrev pub area_entry : ℕ
area_entry = 9

-- neither copy's block is accepted
abbrev pub no_block : ℕ
no_block = 10

-- both accepted; S, L, R or a UUID differ
abbrev pub identity : ℕ
identity = 11

-- no whole record in any accepted copy
abbrev pub no_record : ℕ
no_record = 12

-- the newest whole records of the two copies have one time and different bytes
abbrev pub two_records : ℕ
two_records = 13

-- update time not later than the present record's
abbrev pub not_later : ℕ
not_later = 14

-- record length 0 or over the limit
abbrev pub record_length : ℕ
record_length = 15

-- update asked while the copies are not in step
abbrev pub not_in_step : ℕ
not_in_step = 16

-- record malformed, or a kind not known
abbrev pub record_form : ℕ
record_form = 17

-- a segment empty or not wholly in the data range; or 0 sectors asked for
abbrev pub segment_place : ℕ
segment_place = 18

-- two segments share a sector
abbrev pub segment_clash : ℕ
segment_clash = 19

-- no free run is long enough
abbrev pub no_room : ℕ
no_room = 20

-- the record already holds the most segments
abbrev pub record_full : ℕ
record_full = 21

-- no segment has that position
abbrev pub no_segment : ℕ
no_segment = 22

-- no store has that number
abbrev pub no_such_store : ℕ
no_such_store = 23

-- moving the head would lose its low water mark
abbrev pub head_move : ℕ
head_move = 24
