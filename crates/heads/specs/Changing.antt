-- Moving a record's head up and back, and setting its mark: what each refuses, answers, and leaves in the lent bytes.
use Rattle.std.specs.Prelude.{Result, Ok, Err, ℕ, Bool, List, [], ◌∷◌, ◌++◌, leb, eqb, length}
use Rattle.refusal.specs.Numbers.{slice_size, record_form, head_move}
use Rattle.refusal.specs.declared.Reason.{Reason}
use Rattle.refusal.specs.Tests.{Test, ◌else_refuse◌, first}
use Rattle.endian.specs.Bytes.{splice}
use Rattle.layout.specs.declared.Device.{Device}
use Rattle.items.specs.declared.Head.{Head}
use Rattle.items.specs.declared.Head.TheVariants.{Plain, Marked, Unknown}
use Rattle.items.specs.Head.{marked_kind, head_of, head_kind, head_bytes, low_water}
use Rattle.items.specs.Items.{items_of}
use Rattle.items.specs.Making.{unless}
use Rattle.record.specs.Accept.{record_tests, answered}
use Rattle.heads.specs.declared.Change.{Change}

-- moved up: kind 17 with the mark 0; one of kind 17 stays
unfoldable pub raised : Head → Head
raised (Plain b) = Marked b 0
raised (Marked b m) = Marked b m
raised Unknown = Unknown

-- moved back: kind 16; one of kind 16 stays
unfoldable pub lowered : Head → Head
lowered (Plain b) = Plain b
lowered (Marked b m) = Plain b
lowered Unknown = Unknown

-- with the mark n; one that has no place for a mark stays
unfoldable pub remarked : ℕ → Head → Head
remarked n (Plain b) = Plain b
remarked n (Marked b m) = Marked b n
remarked n Unknown = Unknown

-- the head after a change
abbrev pub head_after : Change → Head → Head
head_after Change.Up h = raised h
head_after Change.Back h = lowered h
head_after (Change.Mark n) h = remarked n h

-- the record after it: that head, and then the items as they are
unfoldable pub record_after : Change → List ℕ → List ℕ
record_after c s = head_bytes (head_after c (head_of s)) ++ items_of s

-- moving it back keeps all that it says: its mark, which only kind 17 has, is 0
abbrev pub keeps : Head → Bool
keeps h = eqb (low_water h) 0

-- it has a place for a mark
abbrev pub has_mark : Head → Bool
has_mark h = eqb (head_kind h) marked_kind

-- the test of the head
abbrev pub head_tests : Change → Head → List Test
head_tests Change.Up h = []
head_tests Change.Back h = (keeps h else_refuse head_move) ∷ []
head_tests (Change.Mark n) h = (has_mark h else_refuse record_form) ∷ []

-- and, although its number is the lowest, last of all, whether the new record fits the w bytes lent
abbrev pub room_tests : Change → List ℕ → ℕ → List Test
room_tests c s w = (leb (length (record_after c s)) w else_refuse slice_size) ∷ []

-- the device numbers and the record first
abbrev pub change_tests : Device → List ℕ → Change → ℕ → List Test
change_tests d s c w = record_tests d s ++ (head_tests c (head_of s) ++ room_tests c s w)

-- the new record's length
abbrev pub change_answer : Device → List ℕ → Change → ℕ → Result ℕ Reason
change_answer d s c w = answered (first (change_tests d s c w)) s (length (record_after c s))

-- the lent bytes: the new record, and those past it as they were
abbrev pub change_left : Device → List ℕ → Change → List ℕ → List ℕ
change_left d s c out = unless (first (change_tests d s c (length out))) (splice out 0 (record_after c s)) out

-- the value; the refusal is `refusal_in` of it (`refusal`, Reasons)
abbrev pub changed_values : Result ℕ Reason → List ℕ
changed_values (Ok len) = len ∷ []
changed_values (Err r) = []
