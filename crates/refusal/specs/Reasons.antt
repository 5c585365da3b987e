-- Why a call refuses, by its refusal number, and what a call answers that refuses by its number.
use Rattle.std.specs.Prelude.{ℕ, cond, eqb, List, [], ◌∷◌, ◌-◌, get_or, Result, Ok, Err}
use Rattle.refusal.specs.declared.Reason.{Reason}
use Rattle.refusal.specs.declared.Refusal.{Refusal}
use Rattle.refusal.specs.Numbers.{slice_size, signature, block_checksum, device_size, not_zero, uuid_byte, metadata_size, reserved_size, area_entry, no_block, identity, no_record, two_records, not_later, record_length, not_in_step, record_form, segment_place, segment_clash, no_room, record_full, no_segment, no_such_store, head_move}
use Rattle.refusal.specs.Refusals.{plain}

-- a reason as C reads it: its number, and the pair beside 19
abbrev pub refusal_of : Reason → Refusal
refusal_of Reason.SliceSize = plain slice_size
refusal_of Reason.Signature = plain signature
refusal_of Reason.BlockChecksum = plain block_checksum
refusal_of Reason.DeviceSize = plain device_size
refusal_of Reason.NotZero = plain not_zero
refusal_of Reason.UuidByte = plain uuid_byte
refusal_of Reason.MetadataSize = plain metadata_size
refusal_of Reason.ReservedSize = plain reserved_size
refusal_of Reason.AreaEntry = plain area_entry
refusal_of Reason.NoBlock = plain no_block
refusal_of Reason.Identity = plain identity
refusal_of Reason.NoRecord = plain no_record
refusal_of Reason.TwoRecords = plain two_records
refusal_of Reason.NotLater = plain not_later
refusal_of Reason.RecordLength = plain record_length
refusal_of Reason.NotInStep = plain not_in_step
refusal_of Reason.RecordForm = plain record_form
refusal_of Reason.SegmentPlace = plain segment_place
refusal_of (Reason.SegmentClash i j) = record { number = segment_clash; first = i; second = j }
refusal_of Reason.NoRoom = plain no_room
refusal_of Reason.RecordFull = plain record_full
refusal_of Reason.NoSegment = plain no_segment
refusal_of Reason.NoStore = plain no_such_store
refusal_of Reason.HeadMove = plain head_move

-- the reasons from number 1 on
abbrev pub reasons : List Reason
reasons =
    Reason.SliceSize
    ∷ Reason.Signature
    ∷ Reason.BlockChecksum
    ∷ Reason.DeviceSize
    ∷ Reason.NotZero
    ∷ Reason.UuidByte
    ∷ Reason.MetadataSize
    ∷ Reason.ReservedSize
    ∷ Reason.AreaEntry
    ∷ Reason.NoBlock
    ∷ Reason.Identity
    ∷ Reason.NoRecord
    ∷ Reason.TwoRecords
    ∷ Reason.NotLater
    ∷ Reason.RecordLength
    ∷ Reason.NotInStep
    ∷ Reason.RecordForm
    ∷ Reason.SegmentPlace
    ∷ Reason.SegmentClash 0 0
    ∷ Reason.NoRoom
    ∷ Reason.RecordFull
    ∷ Reason.NoSegment
    ∷ Reason.NoStore
    ∷ Reason.HeadMove
    ∷ []

-- the reason with a number and nothing beside it; of a number that no reason has, the last
abbrev pub reason : ℕ → Reason
reason n = get_or reasons (n - 1) Reason.HeadMove

-- the reason with a number and what stands beside it
abbrev pub reason_of : Refusal → Reason
reason_of r = cond (eqb r.number segment_clash) (Reason.SegmentClash r.first r.second) (reason r.number)

-- what a call answers whose tests give the number n: v where that is 0, else the reason that the refusal r says
abbrev pub told : {A : Type 0} → ℕ → Refusal → A → Result A Reason
told n r v = cond (eqb n 0) (Ok v) (Err (reason_of r))

-- the same where nothing stands beside the number
abbrev pub answer : {A : Type 0} → ℕ → A → Result A Reason
answer n v = told n (plain n) v

-- the refusal in an answer: the number 0 where there is none
abbrev pub refusal_in : {A : Type 0} → Result A Reason → Refusal
refusal_in (Ok v) = plain 0
refusal_in (Err r) = refusal_of r

abbrev pub number_in : {A : Type 0} → Result A Reason → ℕ
number_in a = (refusal_in a).number
