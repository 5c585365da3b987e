-- Making a record step by step, in other words: `proofs/Building.antt` proves `Beginning`, `Starting` and `Building`.
use Rattle.std.specs.Prelude.{ℕ, ◌+◌, ◌≤◌, ◌<◌, ◌≡◌, true, false, List, [], ◌∷◌, ◌++◌, length, take, drop, Ok}
use Rattle.refusal.specs.Tests.{first}
use Rattle.segments.specs.declared.Segment.{Segment}
use Rattle.items.specs.declared.Head.{Head}
use Rattle.items.specs.Head.{head_size, head_allowed}
use Rattle.items.specs.Making.{record_of, begin_tests, begun, put_answer, put_left}

-- a buffer begins with the record of this head and these segments
abbrev pub Holds : List ℕ → Head → List Segment → Type 0
Holds out h gs = take (length (record_of h gs)) out ≡ record_of h gs

-- A record that was begun has its head and no segments.
abbrev pub Beginning : Type 0
Beginning = (out : List ℕ) (h : Head) → first (begin_tests out h) ≡ 0 → Holds (begun out h) h []

-- Beginning a record, of any head and in any bytes: 1 where the head has no room, otherwise 17 where it is not within its limits, otherwise 0. A refusal
-- leaves every byte, and otherwise those past the head stay.
pub record Begins (out : List ℕ) (h : Head) : Type 0 where
  pub short : length out < head_size h → first (begin_tests out h) ≡ 1
  pub wrong : head_size h ≤ length out → head_allowed h ≡ false → first (begin_tests out h) ≡ 17
  pub done : head_size h ≤ length out → head_allowed h ≡ true → first (begin_tests out h) ≡ 0
  pub refused : 0 < first (begin_tests out h) → begun out h ≡ out
  pub past : first (begin_tests out h) ≡ 0 → drop (head_size h) (begun out h) ≡ drop (head_size h) out

abbrev pub Starting : Type 0
Starting = (out : List ℕ) (h : Head) → Begins out h

-- A segment put after those that a record with a head within its limits has, where there is room for its 20 bytes, is not refused: the record has it
-- last, and the answer is the record's length.
abbrev pub Building : Type 0
Building =
    (out : List ℕ) (h : Head) (gs : List Segment) (g : Segment) → head_allowed h ≡ true → Holds out h gs → length (record_of h gs) + 20 ≤ length out
    → (put_answer out (length gs) ≡ Ok (length (record_of h (gs ++ (g ∷ []))))) × Holds (put_left out (length gs) g) h (gs ++ (g ∷ []))
