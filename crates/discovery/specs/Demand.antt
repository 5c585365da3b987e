-- Discovery, in step and the reading of a found record, of the front copy f and the back copy b, in other words than the definitions
-- that compute them: rows 1 and 10 to 13 of docs/FORMAT.md, 'Refusal numbers', and 'Discovery'. `proofs/Demand.antt` proves `Exactly`, `proofs/Steps.antt`
-- `InStep`, `proofs/Copied.antt` `ReadFound` and `proofs/Examining.antt` `Examines`.
use Rattle.std.specs.Prelude.{ℕ, ◌≤◌, ◌<◌, ◌≡◌, ◌↔◌, ◌⊎◌, true, List, length, take, drop, Result, Ok, Err}
use Rattle.endian.specs.Bytes.{window}
use Rattle.refusal.specs.declared.Reason.{Reason}
use Rattle.refusal.specs.Reasons.{reason}
use Rattle.layout.specs.declared.Side.{Side}
use Rattle.layout.specs.declared.Side.TheVariants.{Front, Back}
use Rattle.layout.specs.declared.Area.{Area}
use Rattle.block.specs.declared.Holding.{Holding}
use Rattle.block.specs.declared.BlockFields.{BlockFields}
use Rattle.block.specs.Block.{number, fields_of}
use Rattle.block.specs.Accepted.{Accepted}
use Rattle.copy.specs.Copy.{other_side, copy_reading}
use Rattle.copy.specs.Answers.{copy_number}
use Rattle.copy.specs.Demand.{Sized, signature_block, first_bytes, moment, AcceptedCopy, WholeArea, PresentRecord, LaterEntry}
use Rattle.discovery.specs.declared.Finding.{Finding}
use Rattle.discovery.specs.declared.Found.{Found}
use Rattle.discovery.specs.declared.Examined.{Examined}
use Rattle.discovery.specs.Discovery.{found_with, discovery, is_in_step, examined, copy_on, read_answer, read_bytes}

-- both slices have the size of a copy
abbrev pub BothSized : List ℕ → List ℕ → Type 0
BothSized f b = (s : Side) → Sized (copy_on s f b)

-- S, L, R and the UUIDs are the same
pub record SameIdentity (f b : List ℕ) : Type 0 where
  pub sectors : number (signature_block f) 20 8 ≡ number (signature_block b) 20 8
  pub metadata : number (signature_block f) 160 4 ≡ number (signature_block b) 160 4
  pub reserved : number (signature_block f) 164 4 ≡ number (signature_block b) 164 4
  pub pool : window (signature_block f) 32 32 ≡ window (signature_block b) 32 32
  pub device : window (signature_block f) 64 32 ≡ window (signature_block b) 64 32

-- where both copies are accepted, they have one identity
abbrev pub OneIdentity : List ℕ → List ℕ → Type 0
OneIdentity f b = AcceptedCopy f → AcceptedCopy b → SameIdentity f b

-- 1: a lent slice has the wrong size
abbrev pub WrongSize : List ℕ → List ℕ → Type 0
WrongSize f b = (s : Side) × ¬ Sized (copy_on s f b)

-- 10: neither copy's block is accepted
pub record NoBlock (f b : List ℕ) : Type 0 where
  pub size : BothSized f b
  pub neither : (s : Side) → ¬ Accepted (signature_block (copy_on s f b))

-- 11: both accepted; S, L, R or a UUID differ
pub record TwoIdentities (f b : List ℕ) : Type 0 where
  pub accepted : (s : Side) → AcceptedCopy (copy_on s f b)
  pub differ : ¬ SameIdentity f b

-- 12: no whole record in any accepted copy
pub record NoRecord (f b : List ℕ) : Type 0 where
  pub size : BothSized f b
  pub accepted : (s : Side) × AcceptedCopy (copy_on s f b)
  pub identity : OneIdentity f b
  pub none : (s : Side) (x : Area) (h : Holding) → ¬ WholeArea (copy_on s f b) x h

-- 13: the newest whole records of the two copies have one time and different bytes
pub record TwoRecords (f b : List ℕ) : Type 0 where
  pub identity : SameIdentity f b
  pub x : Area
  pub h : Holding
  pub front : PresentRecord f x h
  pub y : Area
  pub k : Holding
  pub back : PresentRecord b y k
  pub time : moment h ≡ moment k
  pub differ : ¬ (first_bytes f x h.bytes ≡ first_bytes b y k.bytes)

-- A record is found: q says which, and o what the other copy is.
pub record Finds (f b : List ℕ) (q : Finding) (o : Result BlockFields Reason) : Type 0 where
  pub size : BothSized f b
  pub identity : OneIdentity f b
  -- q's area is whole; q says the length and time of its entry h, and the fields of its copy's block
  pub h : Holding
  pub whole : WholeArea (copy_on q.side f b) q.area h
  pub bytes : q.bytes ≡ h.bytes
  pub seconds : q.seconds ≡ h.seconds
  pub nanoseconds : q.nanoseconds ≡ h.nanoseconds
  pub fields : q.fields ≡ fields_of (signature_block (copy_on q.side f b))
  -- no whole area of either copy is later
  pub none-later : (s : Side) (y : Area) (k : Holding) → WholeArea (copy_on s f b) y k → moment k ≤ moment h
  -- on a tie, the front: a record is found in the back only where all that is whole in the front is earlier, and in the front only where
  -- what is whole in the back with its time has its bytes
  pub in_back : q.side ≡ Back → (y : Area) (k : Holding) → WholeArea f y k → moment k < moment h
  pub in_front : q.side ≡ Front → (y : Area) (k : Holding) → WholeArea b y k → moment k ≡ moment h
      → first_bytes b y k.bytes ≡ first_bytes f q.area h.bytes
  -- the other copy: its fields where it is accepted too, else its refusal number
  pub both : AcceptedCopy (copy_on (other_side q.side) f b) → o ≡ Ok (fields_of (signature_block (copy_on (other_side q.side) f b)))
  pub one : ¬ AcceptedCopy (copy_on (other_side q.side) f b) → o ≡ Err (reason (copy_number (copy_reading (copy_on (other_side q.side) f b))))

-- What the answer a says of the two slices: each number is given exactly when its row says, and a record is found exactly when it is one.
pub record Says (f b : List ℕ) (a : Result Found Reason) : Type 0 where
  pub size : a ≡ Err (reason 1) ↔ WrongSize f b
  pub block_none : a ≡ Err (reason 10) ↔ NoBlock f b
  pub identity : a ≡ Err (reason 11) ↔ TwoIdentities f b
  pub no_record : a ≡ Err (reason 12) ↔ NoRecord f b
  pub two_records : a ≡ Err (reason 13) ↔ TwoRecords f b
  pub found : (q : Finding) (o : Result BlockFields Reason) → (a ≡ found_with q o ↔ Finds f b q o)
  -- there is no other answer
  pub no_other : (e : Reason) → a ≡ Err e
      → (e ≡ reason 1) ⊎ ((e ≡ reason 10) ⊎ ((e ≡ reason 11) ⊎ ((e ≡ reason 12) ⊎ (e ≡ reason 13))))

abbrev pub Exactly : Type 0
Exactly = (f b : List ℕ) → Says f b (discovery f b)

-- Document 01's 'in step': both blocks accepted, identity equal, in each copy the used entry with the later time is whole, and both
-- present records, which those are, have the same time and bytes.
pub record Stepped (f b : List ℕ) : Type 0 where
  pub identity : SameIdentity f b
  pub x : Area
  pub h : Holding
  pub front : LaterEntry f x h
  pub front-whole : WholeArea f x h
  pub y : Area
  pub k : Holding
  pub back : LaterEntry b y k
  pub back_whole : WholeArea b y k
  pub time : moment h ≡ moment k
  pub bytes : first_bytes f x h.bytes ≡ first_bytes b y k.bytes

abbrev pub InStep : Type 0
InStep = (f b : List ℕ) → (is_in_step f b ≡ true ↔ Stepped f b)

-- What reading the found record answers, a, and leaves in the buffer `out`.
pub record Copies (f b out : List ℕ) (a : Result Found Reason) (left : List ℕ) : Type 0 where
  -- a buffer with room begins with the record afterwards; bytes past its length stay
  pub room : (q : Finding) (o : Result BlockFields Reason) → Finds f b q o → q.bytes ≤ length out
      → (a ≡ found_with q o)
      × ((take q.bytes left ≡ first_bytes (copy_on q.side f b) q.area q.bytes) × (drop q.bytes left ≡ drop q.bytes out))
  -- with too little room 1 is given, after all others, and the buffer stays
  pub short : (q : Finding) (o : Result BlockFields Reason) → Finds f b q o → length out < q.bytes → (a ≡ Err (reason 1)) × (left ≡ out)
  pub refused : (e : Reason) → discovery f b ≡ Err e → (a ≡ Err e) × (left ≡ out)

abbrev pub ReadFound : Type 0
ReadFound = (f b out : List ℕ) → Copies f b out (read_answer (discovery f b) (length out)) (read_bytes (read_answer (discovery f b) (length out)) f b out)

-- What the examination e of the two slices has: discovery's answer, and whether they are in step.
pub record Examination (f b : List ℕ) (e : Examined) : Type 0 where
  pub answer : e.answer ≡ discovery f b
  pub step : e.step ≡ is_in_step f b

abbrev pub Examines : Type 0
Examines = (f b : List ℕ) → Examination f b (examined f b)
