-- What pieces that follow one another give, without the state between them: the answer of the copy at once. Then what the state is. docs/FORMAT.md, 'A
-- copy in pieces'. `proofs/Demand.antt` proves it.
use Rattle.std.specs.Prelude.{ℕ, ◌+◌, ◌-◌, ◌≤◌, ◌<◌, ◌≡◌, ◌↔◌, true, length, Option, Some, None, Result, Ok, Err}
use mathlib.Core.List.{List, [], ◌∷◌, ◌++◌, flatten}
use Rattle.endian.specs.Bytes.{Bytes, le, to_le, window, splice, zeros}
use Rattle.checksum.specs.Crc.{checksum, continued}
use Rattle.refusal.specs.declared.Reason.{Reason}
use Rattle.refusal.specs.Reasons.{reason, number_in}
use Rattle.layout.specs.Limits.{record_limit}
use Rattle.layout.specs.declared.Area.{Area}
use Rattle.layout.specs.declared.Area.TheVariants.{A, B}
use Rattle.block.specs.declared.Holding.{Holding}
use Rattle.block.specs.Block.{entry_at, reading}
use Rattle.block.specs.Accepted.{Accepted}
use Rattle.copy.specs.declared.CopyReading.{CopyReading}
use Rattle.copy.specs.Copy.{present_at, mapped, copy_reading}
use Rattle.copy.specs.Demand.{Sized, moment, a_in, b_in, present_in, Reads}
use Rattle.receive.specs.declared.Received.{Received}
use Rattle.receive.specs.Receive.{fresh, part, used_in, taking, ending}
pub use Rattle.receive.specs.Receive.{kept_after, state_after}

-- the pieces one after the other, each state handed on as given: the last state
abbrev pub after : Received → List (List ℕ) → Received
after s [] = s
after s (p ∷ ps) = after (state_after s p) ps

-- the bytes that were taken: those of the pieces that were not refused, in order
abbrev pub unless_refused : Result Received Reason → List ℕ → List ℕ
unless_refused (Ok t) p = p
unless_refused (Err e) p = []

abbrev pub bytes_taken : Received → List (List ℕ) → List ℕ
bytes_taken s [] = []
bytes_taken s (p ∷ ps) = unless_refused (taking s p) p ++ bytes_taken (state_after s p) ps

-- none of the pieces is refused
abbrev pub AllTaken : Received → List (List ℕ) → Type 0
AllTaken s [] = Unit {0}
AllTaken s (p ∷ ps) = (number_in (taking s p) ≡ 0) × AllTaken (state_after s p) ps

-- what the end answers after pieces, from the fresh state
abbrev pub answered : List (List ℕ) → Result CopyReading Reason
answered ps = ending (after fresh ps)

-- the size of a copy, in bytes
abbrev pub size : ℕ
size = 4096 + record_limit + record_limit

-- A copy's bytes are taken in order, cut anywhere, in pieces of nothing too, and answered as the copy at once.
abbrev pub CutAnywhere : Type 0
CutAnywhere = (c : List ℕ) → Sized c → (ps : List (List ℕ)) → flatten ps ≡ c → (AllTaken fresh ps) × (answered ps ≡ copy_reading c)

-- The same of any pieces: the answer is that of the bytes taken, at once; and so what reading a copy means, of these bytes.
pub record AtOnce (ps : List (List ℕ)) : Type 0 where
  pub same : answered ps ≡ copy_reading (bytes_taken fresh ps)
  pub means : Reads (bytes_taken fresh ps) (answered ps)

-- Where all pieces together are at most a copy none is refused, and the bytes taken are all of them.
abbrev pub NoneRefused : Type 0
NoneRefused = (ps : List (List ℕ)) → length (flatten ps) ≤ size → (AllTaken fresh ps) × (bytes_taken fresh ps ≡ flatten ps)

-- Where the bytes were cut leaves no trace: after the same bytes the state is the same, and so is every answer from there on.
abbrev pub NoTrace : Type 0
NoTrace = (ps qs : List (List ℕ)) → bytes_taken fresh ps ≡ bytes_taken fresh qs → after fresh ps ≡ after fresh qs

-- Nor does it in any other state, made up or not: two pieces with which the copy has not too many bytes are answered as both at once, and a
-- piece of nothing leaves the state as it is.
pub record AnyState (s : Received) (room : length s.block ≡ 512) : Type 0 where
  pub two : (p q : List ℕ) → s.taken + length (p ++ q) ≤ size → taking (state_after s p) q ≡ taking s (p ++ q)
  pub nothing : s.taken ≤ size → taking s [] ≡ Ok s

-- A piece that passes the copy's end answers 1, keeps the state and is not taken: exactly such a piece, in every state. Every other answers 0 and
-- moves the state on by its length.
pub record Passing (s : Received) (p : List ℕ) : Type 0 where
  pub one : number_in (taking s p) ≡ 1 ↔ size < s.taken + length p
  pub zero : number_in (taking s p) ≡ 0 ↔ s.taken + length p ≤ size
  pub kept : size < s.taken + length p → (state_after s p) ≡ s
  pub further : s.taken + length p ≤ size → (state_after s p).taken ≡ s.taken + length p

-- Fewer bytes at the end answer 1, and nothing beside it; so does every state in which other than a copy's bytes were taken.
abbrev pub refused_with_one : Result CopyReading Reason
refused_with_one = Err (reason 1)

pub record NoCopy : Type 0 where
  pub fewer : (ps : List (List ℕ)) → length (bytes_taken fresh ps) < size → answered ps ≡ refused_with_one
  pub state : (s : Received) → ¬ (s.taken ≡ size) → ending s ≡ refused_with_one

-- The state as bytes: how many bytes were taken in 8 of them, the block, each checksum in 4.
abbrev pub state_bytes : Received → List ℕ
state_bytes s = to_le 8 s.taken ++ (s.block ++ (to_le 4 s.a ++ to_le 4 s.b))

-- each of the pieces is of bytes
abbrev pub EachBytes : List (List ℕ) → Type 0
EachBytes [] = Unit {0}
EachBytes (p ∷ ps) = Bytes p × EachBytes ps

-- Between pieces at most 1,024 bytes are kept: the state has no further field, and its 528 bytes say all that is in it. At first they are zero.
pub record Kept : Type 0 where
  pub fields : (s : Received) → s ≡ record { taken = s.taken; block = s.block; a = s.a; b = s.b }
  pub begun : state_bytes fresh ≡ zeros 528
  pub many : (ps : List (List ℕ)) → length (state_bytes (after fresh ps)) ≡ 528
  pub most : (ps : List (List ℕ)) → length (state_bytes (after fresh ps)) ≤ 1024
  pub bytes : (ps : List (List ℕ)) → EachBytes ps → Bytes (state_bytes (after fresh ps))
  pub all : (ps qs : List (List ℕ)) → state_bytes (after fresh ps) ≡ state_bytes (after fresh qs) → after fresh ps ≡ after fresh qs

-- What the state has of bytes c: how many they are, those of the block in their places, the checksums of those of the areas' used bytes.
pub record Holds (c : List ℕ) (s : Received) : Type 0 where
  pub taken : s.taken ≡ length c
  pub block : s.block ≡ splice (zeros 512) 0 (window c 512 512)
  pub a : s.a ≡ checksum (window c 4096 (used_in s.block A))
  pub b : s.b ≡ checksum (window c (4096 + record_limit) (used_in s.block B))

-- The used bytes that the entry of an area says, in these bytes of a block: the number at offset 108, or 140.
abbrev pub said : List ℕ → Area → ℕ
said block A = le (window block 108 4)
said block B = le (window block 140 4)

-- So many are used; none where that is not 1 to the record limit.
pub record UsedBytes (block : List ℕ) (x : Area) : Type 0 where
  pub some : 1 ≤ said block x → said block x ≤ record_limit → used_in block x ≡ said block x
  pub most : record_limit < said block x → used_in block x ≡ 0
  pub least : said block x ≡ 0 → used_in block x ≡ 0

-- What a piece has of n bytes of the copy, where c came before it: with it the copy has so much more of them.
abbrev pub Part : Type 0
Part = (c p : List ℕ) (from n : ℕ) → window (c ++ p) from n ≡ window c from n ++ part p (length c) from n

-- What a piece that is taken does to any state: its bytes of the block are laid into the block, and of the used bytes of an area, by the entry that is
-- then in the block, its own are added to those whose checksum was there.
pub record Laying (s : Received) (p : List ℕ) (fits : s.taken + length p ≤ size) : Type 0 where
  pub block : (state_after s p).block ≡ splice s.block (s.taken - 512) (part p s.taken 512 512)
  pub a : (state_after s p).a ≡ continued s.a (part p s.taken 4096 (used_in (state_after s p).block A))
  pub b : (state_after s p).b ≡ continued s.b (part p s.taken (4096 + record_limit) (used_in (state_after s p).block B))

-- What the end says of any state in which a copy's bytes were taken: the block's own fields or number, and nothing beside a number; an area is whole
-- exactly when the block is accepted and the area's entry, at offset 96 or 128, is used and has the checksum that is in the state; the present
-- record is the whole one with the later time.
abbrev pub entry_on : List ℕ → Area → Option Holding
entry_on block A = entry_at block 96
entry_on block B = entry_at block 128

abbrev pub sum_on : Received → Area → ℕ
sum_on s A = s.a
sum_on s B = s.b

pub record WholeIn (s : Received) (x : Area) (h : Holding) : Type 0 where
  pub accepted : Accepted s.block
  pub used : entry_on s.block x ≡ Some h
  pub checksum : sum_on s x ≡ h.checksum

pub record Ending (s : Received) (full : s.taken ≡ size) : Type 0 where
  pub block : mapped (λ (r : CopyReading). r.block) (ending s) ≡ reading s.block
  pub refused : (e : Reason) → reading s.block ≡ Err e → ending s ≡ Err e
  pub a : a_in (ending s) ≡ true ↔ ((h : Holding) × WholeIn s A h)
  pub b : b_in (ending s) ≡ true ↔ ((h : Holding) × WholeIn s B h)
  pub present : (x : Area) (h : Holding)
      → (present_in (ending s) ≡ present_at x h ↔ (WholeIn s x h × ((y : Area) (k : Holding) → WholeIn s y k → moment k ≤ moment h)))
  pub nothing : present_in (ending s) ≡ None ↔ ((x : Area) (h : Holding) → ¬ WholeIn s x h)

-- What is claimed.
pub record Pieces : Type 0 where
  pub cut : CutAnywhere
  pub at_once : (ps : List (List ℕ)) → AtOnce ps
  pub none-refused : NoneRefused
  pub no_trace : NoTrace
  pub any_state : (s : Received) (room : length s.block ≡ 512) → AnyState s room
  pub passing : (s : Received) (p : List ℕ) → Passing s p
  pub no_copy : NoCopy
  pub kept : Kept
  pub holds : (ps : List (List ℕ)) → Holds (bytes_taken fresh ps) (after fresh ps)
  pub used : (block : List ℕ) (x : Area) → UsedBytes block x
  pub part : Part
  pub laying : (s : Received) (p : List ℕ) (fits : s.taken + length p ≤ size) → Laying s p fits
  pub ending : (s : Received) (full : s.taken ≡ size) → Ending s full
