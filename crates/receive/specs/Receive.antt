-- A copy in pieces: the state between two of them, what taking one answers, what the end answers. docs/FORMAT.md, 'A copy in pieces'.
use Rattle.std.specs.Prelude.{ℕ, ◌+◌, ◌-◌, Bool, false, cond, List, leb, eqb, length, Option, Some, None, Result, Ok, Err}
use Rattle.endian.specs.Bytes.{window, splice, zeros}
use Rattle.checksum.specs.Crc.{continued}
use Rattle.refusal.specs.declared.Reason.{Reason}
use Rattle.refusal.specs.Numbers.{slice_size}
use Rattle.refusal.specs.Reasons.{reason}
use Rattle.layout.specs.Limits.{sector_bytes, block_offset, length_allowed}
use Rattle.layout.specs.Places.{area_offset, copy_bytes}
use Rattle.layout.specs.declared.Area.{Area}
use Rattle.layout.specs.declared.Area.TheVariants.{A, B}
use Rattle.block.specs.declared.Holding.{Holding}
use Rattle.block.specs.declared.Reading.{Reading}
use Rattle.block.specs.Block.{fields_of, reading}
use Rattle.block.specs.Writing.{holding_of}
use Rattle.copy.specs.declared.CopyReading.{CopyReading}
use Rattle.copy.specs.Copy.{entry_in, present_by, mapped}
use Rattle.receive.specs.declared.Received.{Received}

-- the fresh state: no byte taken, a block of zeros, the checksums of no bytes
unfoldable pub fresh : Received
fresh = record { taken = 0; block = zeros sector_bytes; a = 0; b = 0 }

-- of a piece p that begins at byte `at` of the copy: its bytes that are among the copy's n bytes from `from` on
unfoldable pub part : List ℕ → ℕ → ℕ → ℕ → List ℕ
part p at from n = window p (from - at) (n - (at - from))

-- the signature block with what the piece has of it
unfoldable pub block_with : List ℕ → ℕ → List ℕ → List ℕ
block_with block at p = splice block (at - block_offset) (part p at block_offset sector_bytes)

-- the used bytes of an area, by its entry in the block; 0 where the entry says a length that no record has
abbrev pub length_in : List ℕ → Area → ℕ
length_in block x = (holding_of (entry_in (fields_of block) x)).bytes

unfoldable pub used_in : List ℕ → Area → ℕ
used_in block x = cond (length_allowed (length_in block x)) (length_in block x) 0

-- the checksum of an area's used bytes, with what the piece has of them
unfoldable pub sum_with : ℕ → List ℕ → ℕ → List ℕ → Area → ℕ
sum_with sum block at p x = continued sum (part p at (area_offset x) (used_in block x))

-- a piece of n bytes does not pass the end of the copy, of which `at` bytes were taken
unfoldable pub fits_in : ℕ → ℕ → Bool
fits_in at n = leb (at + n) copy_bytes

-- the state with a piece taken, its block then being `block`
abbrev pub advanced_with : Received → List ℕ → List ℕ → Received
advanced_with s p block =
    record { taken = s.taken + length p; block = block; a = sum_with s.a block s.taken p A; b = sum_with s.b block s.taken p B }

unfoldable pub advanced : Received → List ℕ → Received
advanced s p = advanced_with s p (block_with s.block s.taken p)

-- what a piece is answered with: the state with it, or 1 where it passes the copy's end; then it is not taken
unfoldable pub taking : Received → List ℕ → Result Received Reason
taking s p = cond (fits_in s.taken (length p)) (Ok (advanced s p)) (Err (reason slice_size))

-- of that, whether it was taken, or why it is refused
abbrev pub told : Result Received Reason → Result (Unit {0}) Reason
told (Ok t) = Ok tt
told (Err e) = Err e

-- and the state that a caller has after a piece: the one that is answered, or its own where the piece is refused
abbrev pub kept_after : Received → Result Received Reason → Received
kept_after s (Ok t) = t
kept_after s (Err e) = s

abbrev pub state_after : Received → List ℕ → Received
state_after s p = kept_after s (taking s p)

-- an area is whole, whose used bytes have this checksum
abbrev pub sum_right : ℕ → Option Holding → Bool
sum_right sum None = false
sum_right sum (Some h) = eqb sum h.checksum

-- what the end answers: 1 where other than a copy's bytes were taken; else what reading the block says and, where it is accepted, which
-- areas are whole by their checksums, and the present record
abbrev pub taken_reading : Received → Result Reading Reason
taken_reading s = cond (eqb s.taken copy_bytes) (reading s.block) (Err (reason slice_size))

abbrev pub ended_with : Received → Reading → CopyReading
ended_with s r =
    record {
      block = r;
      a = sum_right s.a r.fields.a;
      b = sum_right s.b r.fields.b;
      present = present_by r.fields (sum_right s.a r.fields.a) (sum_right s.b r.fields.b);
    }

unfoldable pub ending : Received → Result CopyReading Reason
ending s = mapped (ended_with s) (taken_reading s)
