-- Moving a head and setting its mark, in other words than the definitions that the call cites. A device's size below 2^64, elements below 256
-- (`Bytes`) and a mark below 2^32 (`FourBytes`) are what the machine's types have. `proofs/Demand.antt` proves all of it.
use Rattle.std.specs.Prelude.{ℕ, ◌+◌, ◌*◌, ◌^◌, ◌≤◌, ◌<◌, ◌≡◌, List, [], ◌∷◌, ◌++◌, length, take, drop, Ok, Err}
use Rattle.endian.specs.Bytes.{Bytes}
use Rattle.refusal.specs.Reasons.{reason_of, refusal_in}
use Rattle.refusal.specs.Tests.{first}
use Rattle.layout.specs.declared.Device.{Device}
use Rattle.layout.specs.Limits.{device_tests}
use Rattle.segments.specs.Sectors.{is_free}
use Rattle.items.specs.declared.Head.{Head}
use Rattle.items.specs.declared.Head.TheVariants.{Plain, Marked}
use Rattle.items.specs.Head.{head_of, head_kind, head_size, block_size, low_water, data_range, range_for, item_bytes}
use Rattle.items.specs.Items.{segments}
use Rattle.items.specs.Making.{record_of}
use Rattle.record.specs.Accept.{record_tests, named}
use Rattle.record.specs.Sectors.{parts}
use Rattle.record.specs.Demand.{RightBytes, BlockSize, four_bytes}
use Rattle.allocation.specs.Answers.{runs_in}
use Rattle.allocation.specs.Change.{runs_for}
use Rattle.heads.specs.declared.Change.{Change}
use Rattle.heads.specs.Changing.{change_tests, change_answer, change_left}

-- a mark that is asked for is a number of four bytes
abbrev pub FourBytes : Change → Type 0
FourBytes Change.Up = Unit {0}
FourBytes Change.Back = Unit {0}
FourBytes (Change.Mark n) = n < 2 ^ 32

-- What becomes of the head h of an accepted record, by kind and mark. Moving up: kind 17, with the mark 0 where it had kind 16, and the mark as it
-- was where it had kind 17. Moving back: kind 16. Setting the mark: kind 17 with that mark.
abbrev pub Becomes : Change → Head → Head → Type 0
Becomes Change.Up h g = (head_kind g ≡ 17) × ((head_kind h ≡ 16 → low_water g ≡ 0) × (head_kind h ≡ 17 → low_water g ≡ low_water h))
Becomes Change.Back h g = head_kind g ≡ 16
Becomes (Change.Mark n) h g = (head_kind g ≡ 17) × (low_water g ≡ n)

-- bytes 2 and 3 say the kind k
abbrev pub KindBytes : ℕ → List ℕ → Type 0
KindBytes k s = take 2 (drop 2 s) ≡ k ∷ 0 ∷ []

-- The same byte for byte, of an accepted record s that becomes t. Moving up from kind 16: length 12, kind 17, the four bytes of the block size as they
-- are, four zeros, and all that follows the head. Moving back from kind 17: length 8, kind 16, those four bytes, and all that follows. Setting the
-- mark: the first eight bytes as they are, the mark, and all that follows.
abbrev pub ByteForByte : Change → List ℕ → List ℕ → Type 0
ByteForByte Change.Up s t =
    (KindBytes 16 s → t ≡ (12 ∷ 0 ∷ 17 ∷ 0 ∷ []) ++ (take 4 (drop 4 s) ++ (0 ∷ 0 ∷ 0 ∷ 0 ∷ drop 8 s))) × (KindBytes 17 s → t ≡ s)
ByteForByte Change.Back s t = (KindBytes 17 s → t ≡ (8 ∷ 0 ∷ 16 ∷ 0 ∷ []) ++ (take 4 (drop 4 s) ++ drop 12 s)) × (KindBytes 16 s → t ≡ s)
ByteForByte (Change.Mark n) s t = t ≡ take 8 s ++ (four_bytes n ++ drop 12 s)

-- The new record t, of n bytes, that a change of the record s leaves at the start of `out`.
pub record Moved (d : Device) (s : List ℕ) (c : Change) (out : List ℕ) (n : ℕ) (t : List ℕ) : Type 0 where
  pub answer : change_answer d s c (length out) ≡ Ok n
  pub new : take n (change_left d s c out) ≡ t
  pub past : drop n (change_left d s c out) ≡ drop n out
  pub long : length t ≡ n
  pub literal : ByteForByte c s t
  -- it is accepted, and right as an update asks for (`claims` `MovedOn`)
  pub accepted : first (record_tests d t) ≡ 0
  pub right : RightBytes d t
  -- its head
  pub head : Becomes c (head_of s) (head_of t)
  pub block : block_size (head_of t) ≡ block_size (head_of s)
  -- the bytes after the head are those that they were, and so are the segments, their order, kinds, starts and lengths
  pub bytes : drop (head_size (head_of t)) t ≡ drop (head_size (head_of s)) s
  pub segments_are : segments t ≡ segments s
  pub made : record_of (head_of t) (segments s) ≡ t
  -- the ranges of the kinds, the free sectors, the free runs, and in how many parts of the device each sector is
  pub ranges : (k : ℕ) → range_for d (head_of t) k ≡ range_for d (head_of s) k
  pub free : (x : ℕ) → is_free (data_range d) (segments t) x ≡ is_free (data_range d) (segments s) x
  pub runs : runs_in d t ≡ runs_in d s
  pub for_runs : (k : ℕ) → runs_for d t k ≡ runs_for d s k
  pub places : (x : ℕ) → parts d (segments t) x ≡ parts d (segments s) x

abbrev pub Changes : Type 0
Changes =
    (d : Device) (s : List ℕ) (c : Change) (out : List ℕ) → d.sectors < 2 ^ 64 → Bytes s → FourBytes c
    → first (change_tests d s c (length out)) ≡ 0 → (n : ℕ) × ((t : List ℕ) × Moved d s c out n t)

-- A change that changes nothing: moving up a head of kind 17, moving back one of kind 16, setting the mark that is set.
abbrev pub Nothing : Change → Head → Type 0
Nothing Change.Up h = head_kind h ≡ 17
Nothing Change.Back h = head_kind h ≡ 16
Nothing (Change.Mark n) h = low_water h ≡ n

-- It gives the same record, byte for byte.
abbrev pub Same : Type 0
Same =
    (d : Device) (s : List ℕ) (c : Change) (out : List ℕ) → d.sectors < 2 ^ 64 → Bytes s → FourBytes c
    → first (change_tests d s c (length out)) ≡ 0 → Nothing c (head_of s) → Moved d s c out (length s) s

-- There and back. A record of kind 16 is moved up to t and back; one of kind 17 with the mark 0 is moved back to t and up. The second is not refused,
-- where there is room for s, and leaves s, byte for byte.
pub record Returns (d : Device) (s : List ℕ) (there : Change) (back : Change) (out again : List ℕ) : Type 0 where
  pub n : ℕ
  pub t : List ℕ
  pub first_one : Moved d s there out n t
  pub second_one : Moved d t back again (length s) s

abbrev pub UpAndBack : Type 0
UpAndBack =
    (d : Device) (s out again : List ℕ) → d.sectors < 2 ^ 64 → Bytes s → head_kind (head_of s) ≡ 16
    → first (change_tests d s Change.Up (length out)) ≡ 0 → length s ≤ length again → Returns d s Change.Up Change.Back out again

abbrev pub BackAndUp : Type 0
BackAndUp =
    (d : Device) (s out again : List ℕ) → d.sectors < 2 ^ 64 → Bytes s → head_kind (head_of s) ≡ 17 → low_water (head_of s) ≡ 0
    → first (change_tests d s Change.Back (length out)) ≡ 0 → length s ≤ length again → Returns d s Change.Back Change.Up out again

-- 24 exactly when: the record is accepted, moving back is asked, and the head is of kind 17 with a mark that is not 0.
pub record Loses (d : Device) (s : List ℕ) (c : Change) : Type 0 where
  pub accepted : first (record_tests d s) ≡ 0
  pub back : c ≡ Change.Back
  pub kind : head_kind (head_of s) ≡ 17
  pub mark : 0 < low_water (head_of s)

abbrev pub TwentyFour : Type 0
TwentyFour =
    (d : Device) (s : List ℕ) (c : Change) (w : ℕ)
    → (first (change_tests d s c w) ≡ 24 → Loses d s c) × (Loses d s c → first (change_tests d s c w) ≡ 24)

-- The head's part of it in bytes: of an accepted record, kind 17 in bytes 2 and 3, and bytes 8 to 11 are not all zero.
abbrev pub LosesBytes : Type 0
LosesBytes =
    (d : Device) (s : List ℕ) (w : ℕ) → Bytes s → first (record_tests d s) ≡ 0
    → (first (change_tests d s Change.Back w) ≡ 24 → KindBytes 17 s × (take 4 (drop 8 s) ≡ 0 ∷ 0 ∷ 0 ∷ 0 ∷ [] → ⊥))
    × (KindBytes 17 s → (take 4 (drop 8 s) ≡ 0 ∷ 0 ∷ 0 ∷ 0 ∷ [] → ⊥) → first (change_tests d s Change.Back w) ≡ 24)

-- What a change of an accepted record's head needs of the head. Then it is refused exactly where the new record has no room in the w bytes lent,
-- with 1: its head has 12 bytes after moving up and after setting the mark, 8 after moving back, and each segment adds 20.
abbrev pub Movable : Change → Head → Type 0
Movable Change.Up h = Unit {0}
Movable Change.Back h = low_water h ≡ 0
Movable (Change.Mark n) h = head_kind h ≡ 17

abbrev pub head_bytes_after : Change → ℕ
head_bytes_after Change.Up = 12
head_bytes_after Change.Back = 8
head_bytes_after (Change.Mark n) = 12

pub record OwnNumbers (d : Device) (s : List ℕ) (c : Change) (w : ℕ) : Type 0 where
  pub done : Movable c (head_of s) → head_bytes_after c + item_bytes * length (segments s) ≤ w → first (change_tests d s c w) ≡ 0
  pub short : Movable c (head_of s) → w < head_bytes_after c + item_bytes * length (segments s) → first (change_tests d s c w) ≡ 1
  -- and not otherwise
  pub needs : (first (change_tests d s c w) ≡ 0) → Movable c (head_of s) × (head_bytes_after c + item_bytes * length (segments s) ≤ w)
  -- a mark asked for in a head of kind 16
  pub no_place : (n : ℕ) → c ≡ Change.Mark n → head_kind (head_of s) ≡ 16 → first (change_tests d s c w) ≡ 17

abbrev pub Owned : Type 0
Owned = (d : Device) (s : List ℕ) (c : Change) (w : ℕ) → first (record_tests d s) ≡ 0 → OwnNumbers d s c w

-- The device numbers and the record come first: what they are refused with is what a change is refused with.
abbrev pub RecordFirst : Type 0
RecordFirst = (d : Device) (s : List ℕ) (c : Change) (w : ℕ) → 0 < first (record_tests d s) → first (change_tests d s c w) ≡ first (record_tests d s)

-- A refused change answers its number with what stands beside it, and leaves the lent bytes as they were.
abbrev pub Refusing : Type 0
Refusing =
    (d : Device) (s : List ℕ) (c : Change) (out : List ℕ) → 0 < first (change_tests d s c (length out))
    → (change_answer d s c (length out) ≡ Err (reason_of (named (first (change_tests d s c (length out))) s))) × (change_left d s c out ≡ out)

-- The number that is answered is that of the tests, for every input.
abbrev pub Numbered : Type 0
Numbered =
    (d : Device) (s : List ℕ) (c : Change) (w : ℕ) → refusal_in (change_answer d s c w) ≡ named (first (change_tests d s c w)) s

-- What these claims ask for is there: on every device whose numbers are allowed, with every block size that is allowed, the record of one head of
-- each kind and no segments is accepted; where 12 bytes are lent, moving up the one of kind 16 is not refused, nor is moving back the one of kind 17
-- with the mark 0; with another mark it is refused with 24, and a mark for the one of kind 16 with 17.
pub record Exist (d : Device) (b : ℕ) : Type 0 where
  pub plain-accepted : first (record_tests d (record_of (Plain b) [])) ≡ 0
  pub marked_accepted : (m : ℕ) → m < 2 ^ 32 → first (record_tests d (record_of (Marked b m) [])) ≡ 0
  pub up : first (change_tests d (record_of (Plain b) []) Change.Up 12) ≡ 0
  pub back : first (change_tests d (record_of (Marked b 0) []) Change.Back 12) ≡ 0
  pub lost : (m : ℕ) → 0 < m → m < 2 ^ 32 → first (change_tests d (record_of (Marked b m) []) Change.Back 12) ≡ 24
  pub no_mark : (n : ℕ) → first (change_tests d (record_of (Plain b) []) (Change.Mark n) 12) ≡ 17

abbrev pub Existing : Type 0
Existing = (d : Device) (b : ℕ) → d.sectors < 2 ^ 64 → first (device_tests d) ≡ 0 → BlockSize b → Exist d b
