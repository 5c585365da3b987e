-- A line's length: there is room for every line, so that its pieces make it whole; and what putting it answers.
use Prim.Native.Nat.{ℕ, ◌+◌, ◌≤◌, ◌<◌}
use mathlib.Core.Path.{◌≡◌, sym, ap, ◌∙◌}
use mathlib.Core.List.{List, [], flatten}
use native.Mathlib.Omega.{arith}
use lib.Dec.{lit≤}
use borrow.Author.Tests.{le-leb, lt-leb}
use lib.ListN.{length, length-append}
use Rattle.endian.specs.Bytes.{fits}
use Rattle.std.proofs.Common.{Result, Ok, Err, true, false}
use Rattle.layout.specs.declared.Side.{Side}
use Rattle.layout.specs.declared.Side.TheVariants.{Front, Back}
use Rattle.layout.specs.declared.Area.{Area}
use Rattle.layout.specs.declared.Area.TheVariants.{A, B}
use Rattle.block.specs.declared.BlockFields.{BlockFields}
use Rattle.refusal.specs.declared.Reason.{Reason}
use Rattle.refusal.specs.Reasons.{refusal_of}
use Rattle.discovery.specs.declared.Found.{Found}
use Rattle.text.proofs.Decimals.{length_digits}
use Rattle.text.proofs.Texts.{added_all, added_all_lem}
use Rattle.refusal.specs.Numbers.{slice_size}
use Rattle.refusal.specs.Reasons.{reason}
use Rattle.dump_line.specs.Line.{side_word, area_word, other_word, pieces, line_of, line_bytes, written_of}

side_length : (s : Side) → length (side_word s) ≤ 6
side_length Front = lit≤ tt
side_length Back = lit≤ tt

area_length : (x : Area) → length (area_word x) ≤ 2
area_length A = lit≤ tt
area_length B = lit≤ tt

other_length : (o : Result BlockFields Reason) → length (other_word o) ≤ 20
other_length (Ok g) = lit≤ tt
other_length (Err e) = length_digits 20 (refusal_of e).number

-- every line has room
line-length : (a : Result Found Reason) → length (flatten (pieces a)) ≤ line_bytes
unfolding flatten
line-length (Err e) = simp length-append (omega (arith, length_digits 20 (refusal_of e).number))
line-length (Ok a) =
    simp length-append
    (omega
    (arith, side_length a.finding.side, area_length a.finding.area, length_digits 20 a.finding.bytes, length_digits 20 a.finding.seconds, length_digits 20 a.finding.nanoseconds, other_length a.other))

pub line_room : (a : Result Found Reason) → length (line_of a) ≤ line_bytes
unfolding line_of
line_room a = line-length a

-- a text to which a line's pieces were added is the line
pub line-text : (a : Result Found Reason) (t : List ℕ) → t ≡ added_all [] (pieces a) → t ≡ line_of a
unfolding line_of
line-text a t e = e ∙ added_all_lem (pieces a) [] (omega (arith, line-length a))

-- what a call that puts a line at the start of out answers
pub written-short : (out v : List ℕ) → length out < length v → written_of out v ≡ Err (reason slice_size)
unfolding written_of fits
written-short out v h = rw (lt-leb (0 + length v) (length out) (omega arith))

pub written-fits : (out v : List ℕ) → length v ≤ length out → written_of out v ≡ Ok (length v)
unfolding written_of fits
written-fits out v h = rw (le-leb (0 + length v) (length out) (omega arith))

pub line-short : (out v w : List ℕ) → v ≡ w → false ≡ fits out 0 (length v) → Err (reason slice_size) ≡ written_of out w
unfolding written_of
line-short out v w e h = sym (ap (written_of out) (sym e) ∙ rw (sym h))

pub line-put : (out v w : List ℕ) → v ≡ w → true ≡ fits out 0 (length v) → Ok (length v) ≡ written_of out w
unfolding written_of
line-put out v w e h = sym (ap (written_of out) (sym e) ∙ rw (sym h))
