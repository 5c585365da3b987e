-- One copy in other words than the definitions that read it: docs/FORMAT.md, 'Where things lie' and 'Discovery'.
-- `proofs/Demand.antt` proves `Exactly`.
use Rattle.std.specs.Prelude.{ℕ, ◌+◌, ◌*◌, ◌≤◌, ◌≡◌, ◌↔◌, Bool, true, false, List, length, Option, Some, None, Result, Ok, Err}
use Rattle.endian.specs.Bytes.{window}
use Rattle.checksum.specs.Crc as Crc
use Rattle.refusal.specs.declared.Reason.{Reason}
use Rattle.refusal.specs.Refusals.{plain}
use Rattle.refusal.specs.Reasons.{refusal_of}
use Rattle.layout.specs.Limits.{record_limit}
use Rattle.layout.specs.declared.Area.{Area}
use Rattle.layout.specs.declared.Area.TheVariants.{A, B}
use Rattle.block.specs.declared.Holding.{Holding}
use Rattle.block.specs.Block.{entry_at, fields_of, reading, accepted_reading}
use Rattle.block.specs.Accepted.{Accepted}
use Rattle.copy.specs.declared.Present.{Present}
use Rattle.copy.specs.declared.CopyReading.{CopyReading}
use Rattle.copy.specs.Copy.{newest, present_at, current, mapped, copy_reading}
use Rattle.copy.specs.Answers.{copy_number}

-- the size of a copy: the header's 8 sectors, then as much of area a, and of area b, as a record can fill
abbrev pub Sized : List ℕ → Type 0
Sized c = length c ≡ 4096 + record_limit + record_limit

-- its signature block: the header's sector 1
abbrev pub signature_block : List ℕ → List ℕ
signature_block c = window c 512 512

-- the first n bytes of an area
abbrev pub first_bytes : List ℕ → Area → ℕ → List ℕ
first_bytes c A n = window c 4096 n
first_bytes c B n = window c (4096 + record_limit) n

-- the area's entry in the block
abbrev pub entry_for : List ℕ → Area → Option Holding
entry_for c A = entry_at (signature_block c) 96
entry_for c B = entry_at (signature_block c) 128

-- the time of an entry as one number, in nanoseconds
abbrev pub moment : Holding → ℕ
moment h = 1000000000 * h.seconds + h.nanoseconds

-- An accepted copy: it has the size, and its block obeys the table and the limits.
pub record AcceptedCopy (c : List ℕ) : Type 0 where
  pub size : Sized c
  pub block : Accepted (signature_block c)

-- Document 01's 'whole': the entry is used, with these numbers, and the area's first used bytes match the entry's CRC.
pub record WholeArea (c : List ℕ) (x : Area) (h : Holding) : Type 0 where
  pub accepted : AcceptedCopy c
  pub used : entry_for c x ≡ Some h
  pub checksum : Crc.checksum (first_bytes c x h.bytes) ≡ h.checksum

-- Document 01's 'present record' of a copy: its whole area with the later time.
pub record PresentRecord (c : List ℕ) (x : Area) (h : Holding) : Type 0 where
  pub whole : WholeArea c x h
  pub none-later : (y : Area) (k : Holding) → WholeArea c y k → moment k ≤ moment h

-- the used entry with the later time, whole or not
pub record LaterEntry (c : List ℕ) (x : Area) (h : Holding) : Type 0 where
  pub used : entry_for c x ≡ Some h
  pub none-later : (y : Area) (k : Holding) → entry_for c y ≡ Some k → moment k ≤ moment h

-- what an answer says of the areas and of the present record; of a refused copy nothing
abbrev pub a_in : Result CopyReading Reason → Bool
a_in (Ok r) = r.a
a_in (Err e) = false

abbrev pub b_in : Result CopyReading Reason → Bool
b_in (Ok r) = r.b
b_in (Err e) = false

abbrev pub present_in : Result CopyReading Reason → Option Present
present_in (Ok r) = r.present
present_in (Err e) = None

-- What reading the slice c says of it, r.
pub record Reads (c : List ℕ) (r : Result CopyReading Reason) : Type 0 where
  -- 1 exactly when the slice has not the size of a copy
  pub one : copy_number r ≡ 1 ↔ ¬ Sized c
  -- 0 exactly when it is an accepted copy; the fields and UUIDs are then the block's own
  pub accepted : copy_number r ≡ 0 ↔ AcceptedCopy c
  pub fields : AcceptedCopy c → mapped (λ q. q.block) r ≡ Ok (accepted_reading (signature_block c))
  -- with the size of a copy, what reading the block says
  pub block : Sized c → mapped (λ q. q.block) r ≡ reading (signature_block c)
  -- a refusal says its number, and nothing beside it
  pub refused : (e : Reason) → r ≡ Err e → refusal_of e ≡ plain (copy_number r)
  -- area a, and area b, is whole
  pub a : a_in r ≡ true ↔ ((h : Holding) × WholeArea c A h)
  pub b : b_in r ≡ true ↔ ((h : Holding) × WholeArea c B h)
  -- the present record; nothing is present exactly when no area is whole
  pub present : (x : Area) (h : Holding) → (present_in r ≡ present_at x h ↔ PresentRecord c x h)
  pub nothing : present_in r ≡ None ↔ ((x : Area) (h : Holding) → ¬ WholeArea c x h)
  -- the area of the used entry with the later time; the present record is there exactly when it is whole
  pub newer : AcceptedCopy c → (x : Area) (h : Holding) → LaterEntry c x h → newest (fields_of (signature_block c)) ≡ x
  pub current : AcceptedCopy c
      → (current (fields_of (signature_block c)) (present_in r) ≡ true ↔ ((x : Area) × (h : Holding) × LaterEntry c x h × WholeArea c x h))

abbrev pub Exactly : Type 0
Exactly = (c : List ℕ) → Reads c (copy_reading c)
