-- What the calls on records answer.
use Rattle.std.specs.Prelude.{ℕ, List, length, Result, Ok, Err}
use Rattle.refusal.specs.declared.Refusal.{Refusal}
use Rattle.refusal.specs.Refusals.{plain}
use Rattle.refusal.specs.declared.Reason.{Reason}
use Rattle.refusal.specs.Reasons.{refusal_of}
use Rattle.layout.specs.declared.Device.{Device}
use Rattle.items.specs.declared.Head.{Head}
use Rattle.items.specs.Head.{head_kind, block_size, low_water}
use Rattle.items.specs.Items.{segments}
use Rattle.segments.specs.declared.Segment.{Segment}
use Rattle.record.specs.Answers as Record
use Rattle.amseokbin.specs.declared.HeadAnswer.{HeadAnswer}
use Rattle.amseokbin.specs.declared.SegmentAnswer.{SegmentAnswer}
use Rattle.amseokbin.specs.declared.CountAnswer.{CountAnswer}
use Rattle.amseokbin.specs.declared.LengthAnswer.{LengthAnswer}

-- the head's kind, the data block size, the low water mark and the number of segments
abbrev pub head_said : Head → ℕ → HeadAnswer
head_said h k = record { refusal = plain 0; kind = head_kind h; size = block_size h; mark = low_water h; segments = k }

-- nothing of them
abbrev pub no_head : Refusal → HeadAnswer
no_head q = record { refusal = q; kind = 0; size = 0; mark = 0; segments = 0 }

abbrev pub head_told : Result Head Reason → ℕ → HeadAnswer
head_told (Ok h) k = head_said h k
head_told (Err r) k = no_head (refusal_of r)

abbrev pub head_answer : Device → List ℕ → HeadAnswer
head_answer d s = head_told (Record.head_answer d s) (length (segments s))

abbrev pub segment_answer : Result Segment Reason → SegmentAnswer
segment_answer (Ok g) = record { refusal = plain 0; segment = g }
segment_answer (Err r) = record { refusal = refusal_of r; segment = record { kind = 0; start = 0; sectors = 0 } }

abbrev pub counted_answer : Result ℕ Reason → CountAnswer
counted_answer (Ok k) = record { refusal = plain 0; count = k }
counted_answer (Err r) = record { refusal = refusal_of r; count = 0 }

-- the length of a record: with a segment put, with another head, without a segment
abbrev pub length_answer : Result ℕ Reason → LengthAnswer
length_answer (Ok n) = record { refusal = plain 0; length = n }
length_answer (Err r) = record { refusal = refusal_of r; length = 0 }
