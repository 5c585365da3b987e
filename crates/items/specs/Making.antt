-- Making a record: the bytes of a head and of segments one after the other.
use Rattle.std.specs.Prelude.{ℕ, ◌+◌, ◌*◌, Bool, cond, ◌&&◌, List, [], ◌∷◌, ◌++◌, eqb, leb, length, take, drop, Result, Ok, Err}
use Rattle.refusal.specs.Numbers.{record_form, slice_size}
use Rattle.refusal.specs.declared.Reason.{Reason}
use Rattle.refusal.specs.Reasons.{answer}
use Rattle.refusal.specs.Tests.{Test, ◌else_refuse◌, first}
use Rattle.endian.specs.Bytes.{le, to_le, window, splice, fits}
use Rattle.segments.specs.declared.Segment.{Segment}
use Rattle.items.specs.declared.Head.{Head}
use Rattle.items.specs.Head.{head_of, head_bytes, head_size, head_allowed, item_bytes}

-- length 20, kind, start, length
unfoldable pub segment_bytes : Segment → List ℕ
segment_bytes g = to_le 2 item_bytes ++ (to_le 2 g.kind ++ (to_le 8 g.start ++ to_le 8 g.sectors))

-- one after the other
unfoldable pub all_bytes : List Segment → List ℕ
all_bytes [] = []
all_bytes (g ∷ gs) = segment_bytes g ++ all_bytes gs

-- the record with this head and these segments
unfoldable pub record_of : Head → List Segment → List ℕ
record_of h gs = head_bytes h ++ all_bytes gs

-- where the item at position i begins
unfoldable pub place : List ℕ → ℕ → ℕ
place s i = head_size (head_of s) + item_bytes * i

-- the record with a segment appended
unfoldable pub appended : List ℕ → Segment → List ℕ
appended s g = s ++ segment_bytes g

-- the record with the segment at position p removed
unfoldable pub removed : List ℕ → ℕ → List ℕ
removed s p = take (place s p) s ++ drop (place s p + item_bytes) s

-- what a call that refused with n leaves: the bytes as they were; else those that it made
abbrev pub unless : ℕ → List ℕ → List ℕ → List ℕ
unless n made out = cond (eqb n 0) made out

-- room for n bytes from place `at` on
abbrev pub room_tests : List ℕ → ℕ → ℕ → List Test
room_tests out at n = (fits out at n else_refuse slice_size) ∷ []

-- a record begun with a head: room for its bytes, then whether it is within its limits
abbrev pub begin_tests : List ℕ → Head → List Test
begin_tests out h = (fits out 0 (head_size h) else_refuse slice_size) ∷ (head_allowed h else_refuse record_form) ∷ []

abbrev pub begun : List ℕ → Head → List ℕ
begun out h = unless (first (begin_tests out h)) (splice out 0 (head_bytes h)) out

-- s begins with a head: of the length of its kind, all of it there, and within its limits
unfoldable pub begins : List ℕ → Bool
begins s = eqb (le (window s 0 2)) (head_size (head_of s)) && (leb (head_size (head_of s)) (length s) && head_allowed (head_of s))

-- A segment put at position i of a record that was begun in out: 17 where out does not begin with a head, then 1 for too little room. The
-- answer is the length of the record that ends with it.
abbrev pub put_tests : List ℕ → ℕ → List Test
put_tests out i = (begins out else_refuse record_form) ∷ (fits out (place out i) item_bytes else_refuse slice_size) ∷ []

abbrev pub put_answer : List ℕ → ℕ → Result ℕ Reason
put_answer out i = answer (first (put_tests out i)) (place out i + item_bytes)

abbrev pub put_left : List ℕ → ℕ → Segment → List ℕ
put_left out i g = unless (first (put_tests out i)) (splice out (place out i) (segment_bytes g)) out

-- the value; the refusal number is `number_in` of it (`refusal`, Reasons)
abbrev pub put_values : Result ℕ Reason → List ℕ
put_values (Ok n) = n ∷ []
put_values (Err r) = []
