-- What the calls answer, and the values in an answer; its refusal is `refusal_in` of it (`refusal`, Reasons).
use Rattle.std.specs.Prelude.{ℕ, ◌-◌, ◌*◌, ◌/◌, min, ◌||◌, List, [], ◌∷◌, ◌++◌, leb, ltb, length, take, drop, Result, Ok, Err}
use Rattle.refusal.specs.Numbers.{no_segment, slice_size}
use Rattle.refusal.specs.declared.Reason.{Reason}
use Rattle.refusal.specs.Tests.{Test, ◌else_refuse◌, first}
use Rattle.layout.specs.declared.Device.{Device}
use Rattle.segments.specs.declared.Segment.{Segment}
use Rattle.segments.specs.Segments.{nth}
use Rattle.items.specs.declared.Head.{Head}
use Rattle.items.specs.Head.{head_of}
use Rattle.items.specs.Items.{segments}
use Rattle.items.specs.Making.{unless}
use Rattle.record.specs.Accept.{record_tests, answered}

-- there is a segment at position p, counted from 0
abbrev pub position_tests : List ℕ → ℕ → List Test
position_tests s p = (ltb p (length (segments s)) else_refuse no_segment) ∷ []

-- that segment
abbrev pub segment_answer : Device → List ℕ → ℕ → Result Segment Reason
segment_answer d s p = answered (first (record_tests d s ++ position_tests s p)) s (nth (segments s) p)

-- its kind, start and length
abbrev pub segment_values : Segment → List ℕ
segment_values g = g.kind ∷ g.start ∷ g.sectors ∷ []

abbrev pub found_values : Result Segment Reason → List ℕ
found_values (Ok g) = segment_values g
found_values (Err r) = []

-- the number of segments
abbrev pub count_answer : Device → List ℕ → Result ℕ Reason
count_answer d s = answered (first (record_tests d s)) s (length (segments s))

abbrev pub counted_values : Result ℕ Reason → List ℕ
counted_values (Ok k) = k ∷ []
counted_values (Err r) = []

-- the head
abbrev pub head_answer : Device → List ℕ → Result Head Reason
head_answer d s = answered (first (record_tests d s)) s (head_of s)

-- The segments from position p on, as many as a table of w numbers has room for, three for each. None where there is none left; 1,
-- last, where there are some and there is room for none.
unfoldable pub handed_on : List ℕ → ℕ → ℕ → ℕ
handed_on s p w = min (w / 3) (length (segments s) - p)

abbrev pub some_room : List ℕ → ℕ → ℕ → List Test
some_room s p w = ((leb (length (segments s)) p || leb 3 w) else_refuse slice_size) ∷ []

abbrev pub segments_answer : Device → List ℕ → ℕ → ℕ → Result ℕ Reason
segments_answer d s p w = answered (first (record_tests d s ++ some_room s p w)) s (handed_on s p w)

unfoldable pub all_values : List Segment → List ℕ
all_values [] = []
all_values (g ∷ gs) = g.kind ∷ g.start ∷ g.sectors ∷ all_values gs

-- the table afterwards; the numbers past those segments stay
abbrev pub segments_left : Device → List ℕ → ℕ → List ℕ → List ℕ
segments_left d s p t =
    unless (first (record_tests d s ++ some_room s p (length t)))
    (all_values (take (handed_on s p (length t)) (drop p (segments s))) ++ drop (3 * handed_on s p (length t)) t)
    t
