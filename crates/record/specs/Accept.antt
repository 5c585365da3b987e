-- When a segment record is accepted on a device: the tests in the format's order, and what a check answers of one that is not.
use Rattle.std.specs.Prelude.{ℕ, Bool, List, [], ◌∷◌, ◌++◌, length, Option, Some, None, Result}
use Rattle.refusal.specs.Numbers.{record_length, record_form, segment_place, segment_clash}
use Rattle.refusal.specs.declared.Refusal.{Refusal}
use Rattle.refusal.specs.Refusals.{plain_but}
use Rattle.refusal.specs.declared.Reason.{Reason}
use Rattle.refusal.specs.Reasons.{told}
use Rattle.refusal.specs.Tests.{Test, ◌else_refuse◌}
use Rattle.layout.specs.declared.Device.{Device}
use Rattle.layout.specs.Limits.{device_tests, length_allowed}
use Rattle.search.specs.Search.{every}
use Rattle.segments.specs.declared.Segment.{Segment}
use Rattle.segments.specs.Segments.{nth, in_range}
use Rattle.segments.specs.Clash.{later_of, earlier_of, apart}
use Rattle.items.specs.declared.Head.{Head}
use Rattle.items.specs.Head.{head_of, range_for}
use Rattle.items.specs.Items.{segments, well_formed}
use Rattle.order.specs.declared.Clash.{Clash}
use Rattle.order.specs.Ordering.{positions}

-- the segment at position i is not empty and lies wholly in the range that its kind may lie in
abbrev pub range_at : Device → Head → List Segment → ℕ → Bool
range_at d h gs i = in_range (range_for d h (nth gs i).kind) (nth gs i)

unfoldable pub all_in_range : Device → Head → List Segment → Bool
all_in_range d h gs = every (range_at d h gs) (length gs)

-- the tests of a record on a device whose numbers are allowed
abbrev pub content_tests : Device → List ℕ → List Test
content_tests d s =
    (length_allowed (length s) else_refuse record_length)
    ∷ (well_formed d s else_refuse record_form)
    ∷ (all_in_range d (head_of s) (segments s) else_refuse segment_place)
    ∷ (apart (segments s) else_refuse segment_clash)
    ∷ []

-- the device numbers first, then the record
abbrev pub record_tests : Device → List ℕ → List Test
record_tests d s = device_tests d ++ content_tests d s

-- What a call answers that gives the number n and takes the record s: beside 19 the pair of positions, the lowest that clashes with a
-- later one and the lowest such later one; zero beside every other number.
unfoldable pub named : ℕ → List ℕ → Refusal
named n s = plain_but segment_clash (earlier_of (segments s)) (later_of (segments s) (earlier_of (segments s))) n

-- what such a call answers: v where its number is 0
abbrev pub answered : {A : Type 0} → ℕ → List ℕ → A → Result A Reason
answered n s v = told n (named n s) v

-- what a check with an order answers: of an accepted record the positions of its segments in their order
unfoldable pub checked : ℕ → List ℕ → Result (List ℕ) Reason
checked n s = answered n s (positions (segments s))

-- why a record is refused, by what the search for a clash answers; nothing public cites this
abbrev pub clash_reason : Option Clash → Reason
clash_reason (Some c) = Reason.SegmentClash c.first c.second
clash_reason None = Reason.SegmentPlace
