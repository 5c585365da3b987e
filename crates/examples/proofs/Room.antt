-- The records of examples 9 to 12, and the free runs of examples 9 and 10: by the laws of records that are made.
use Prim.Native.Nat.{ℕ, ◌+◌, ◌*◌, ◌<◌, ◌≤◌}
use mathlib.Core.Path.{◌≡◌, refl, sym, ap, ◌∙◌}
use mathlib.Core.Bool.{Bool, true, ◌&&◌}
use mathlib.Core.List.{List, [], ◌∷◌}
use native.Mathlib.Omega.{arith}
use Rattle.std.proofs.lemmas.Bool.Decides.{nat_tests}
use lib.Dec.{eqb, leb}
use lib.ListN.{length}
use Rattle.endian.specs.Bytes.{to_le}
use Rattle.refusal.specs.Numbers.{record_length, segment_place, segment_clash}
use Rattle.refusal.specs.Tests.{Test, ◌else_refuse◌, first}
use Rattle.layout.specs.Limits.{length_allowed, record_limit}
use Rattle.search.specs.Search.{every, least}
use Rattle.search.proofs.Search.{every-at}
use Rattle.segments.specs.declared.Segment.{Segment}
use Rattle.segments.specs.Segments.{nth, end_of, holds, meets, in_range}
use Rattle.segments.specs.Clash.{clashes_at, later_of, earlier_of, apart}
use Rattle.segments.specs.Sectors.{allocated, free_sectors}
use Rattle.segments.specs.Order.{order_of, follows, ascends}
use Rattle.segments.proofs.Order.{ascends-order}
use Rattle.runs.specs.declared.Run.{Run}
use Rattle.runs.specs.Gaps.{gap, gaps}
use Rattle.items.specs.declared.Head.TheVariants.{Plain}
use Rattle.items.specs.Head.{item_of, head_of, head_bytes, head_size, allows, data_range, range_for, item_bytes}
use Rattle.items.specs.Items.{segments, well_formed}
use Rattle.items.specs.Making.{segment_bytes, all_bytes, record_of}
use Rattle.items.proofs.Heads.{HeadFits, plain-right, right-fits}
use Rattle.items.proofs.Making.{AllFit, length_record, head_record, segments_record, formed_record}
use Rattle.record.specs.Accept.{all_in_range, record_tests}
use Rattle.record.proofs.Naming.{named-pair}
use Rattle.record.proofs.Accepted.{accepted}
use Rattle.record.proofs.Demand.{sums}
use Rattle.allocation.specs.Answers as Answers
use Rattle.allocation.specs.Walking.{walked}
use Rattle.allocation.proofs.Finding.{runs-walked}
use Rattle.examples.specs.Examples.{device, segment, pair, in_row, row_of, nine, four_segments, check_of, Pairs}

-- the segment at position i is a data segment and ends on the device
abbrev small : List Segment → ℕ → Bool
small gs i = eqb (nth gs i).kind 2 && leb (end_of (nth gs i)) 2097152

-- the tests of a record of such segments on the device, by the segments alone
abbrev list_tests : List Segment → List Test
list_tests gs =
    (length_allowed (8 + item_bytes * length gs) else_refuse record_length)
    ∷ (all_in_range device (Plain 128) gs else_refuse segment_place)
    ∷ (apart gs else_refuse segment_clash)
    ∷ []

-- a head of block size 128: it allows data segments, and is read back
pub known : allows (Plain 128) 2 ≡ true
unfolding allows item_of
known = refl

head-fits : HeadFits (Plain 128)
head-fits = right-fits device (Plain 128) (plain-right device 128 refl)

length_made : (gs : List Segment) → length (record_of (Plain 128) gs) ≡ 8 + item_bytes * length gs
unfolding head_size
length_made gs = length_record (Plain 128) gs

head_made : (gs : List Segment) → head_of (record_of (Plain 128) gs) ≡ Plain 128
head_made gs = head_record (Plain 128) gs head-fits

-- what is read of a record that was made of such segments
module _ (gs : List Segment) (h : every (small gs) (length gs) ≡ true) where
  each : (i : ℕ) → i < length gs → ((nth gs i).kind ≡ 2) × (end_of (nth gs i) ≤ 2097152)
  each i l =
      let e : small gs i ≡ true = every-at (small gs) (length gs) h i l in
      (grind (arith, nat_tests), grind (arith, nat_tests))

  fits : AllFit gs
  fits i l = record { kind = omega (arith, each i l); start = omega (arith, each i l); sectors = omega (arith, each i l) }

  segments_made : segments (record_of (Plain 128) gs) ≡ gs
  segments_made = segments_record (Plain 128) gs head-fits fits

  formed_made : well_formed device (record_of (Plain 128) gs) ≡ true
  formed_made =
      formed_record device (Plain 128) gs head-fits (plain-right device 128 refl) fits (λ i l. ap (allows (Plain 128)) (each i l).0 ∙ known)

  -- the number of its check, by those tests
  number_made : first (record_tests device (record_of (Plain 128) gs)) ≡ first (list_tests gs)
  unfolding first
  number_made = rw (length_made gs, formed_made, head_made gs, segments_made)

-- 9. Segments (2,048, 100) and (3,000, 50): free runs (2,148, 852) and (3,050, 2,092,054); free total 2,092,906.
abbrev two : List Segment
two = segment 2048 100 ∷ segment 3000 50 ∷ []

abbrev pub free : List Run
free = record { start = 2148; sectors = 852 } ∷ record { start = 3050; sectors = 2092054 } ∷ []

pub nine-length : length nine ≡ 48
unfolding pair
nine-length = length_made two

pub nine-head : head_of nine ≡ Plain 128
unfolding pair
nine-head = head_made two

pub nine-segments : segments nine ≡ two
unfolding pair every
nine-segments = segments_made two refl

pub nine-accepted : first (record_tests device nine) ≡ 0
unfolding pair first every length_allowed record_limit all_in_range range_for in_range apart earlier_of later_of least clashes_at meets holds
nine-accepted = number_made two refl

order : 0 ∷ 1 ∷ [] ≡ order_of two
unfolding ascends follows
order = (ascends-order two (0 ∷ 1 ∷ []) refl refl).1

pub nine-runs : Answers.runs_in device nine ≡ free
unfolding gaps gap
nine-runs =
    runs-walked device nine (accepted device nine nine-accepted)
    ∙ (ap (λ (gs : List Segment). walked (data_range device) gs (order_of gs)) nine-segments
    ∙ ap (walked (data_range device) two) (sym order))

pub nine-total : free_sectors (data_range device) (segments nine) ≡ 2092906
unfolding allocated
nine-total = omega (arith, sums device nine nine-accepted, ap allocated nine-segments)

-- 11. Segments (2,048, 100) and (2,147, 1): 19. With (2,148, 1) instead: accepted.
pub example_11 : (first (record_tests device (pair 2048 100 2147 1)) ≡ 19) × (first (record_tests device (pair 2048 100 2148 1)) ≡ 0)
unfolding pair first every length_allowed record_limit all_in_range range_for in_range apart earlier_of later_of least clashes_at meets holds
example_11 = (number_made (segment 2048 100 ∷ segment 2147 1 ∷ []) refl, number_made (segment 2048 100 ∷ segment 2148 1 ∷ []) refl)

-- Request [2] on it: the two positions; and the lower of two pairs.
pair_made : (gs : List Segment) (s : List ℕ) (i j : ℕ) → record_of (Plain 128) gs ≡ s → every (small gs) (length gs) ≡ true → first (record_tests device s) ≡ 19
    → earlier_of gs ≡ i → later_of gs i ≡ j → check_of s ≡ record { number = 19; first = i; second = j }
pair_made gs s i j m h n e f =
    let g : segments s ≡ gs = ap segments (sym m) ∙ segments_made gs h in
    rw (n, named-pair s, g, e, f)

pub pairs : Pairs
unfolding pair four_segments record_of head_bytes head_size all_bytes segment_bytes to_le first every length_allowed record_limit all_in_range range_for in_range apart earlier_of later_of least clashes_at meets holds
pairs = (
  refl,
  segments_made (segment 2048 100 ∷ segment 2147 1 ∷ []) refl,
  pair_made (segment 2048 100 ∷ segment 2147 1 ∷ []) (pair 2048 100 2147 1) 0 1 refl refl example_11.0 refl refl,
  pair_made (segment 5000 10 ∷ segment 3000 50 ∷ segment 3049 10 ∷ segment 3010 1 ∷ []) four_segments 1 2 refl refl (number_made (segment 5000 10 ∷ segment 3000 50 ∷ segment 3049 10 ∷ segment 3010 1 ∷ []) refl) refl refl,
)

-- 12. A record of 508 bytes (25 segments), one of 528 bytes (26 segments).
abbrev Sized : ℕ → ℕ → Type 0
Sized k n = (length (row_of k) ≡ n) × (length (segments (row_of k)) ≡ k) × (first (record_tests device (row_of k)) ≡ 0)

pub example_12 : Sized 25 508 × Sized 26 528
unfolding row_of in_row first every length_allowed record_limit all_in_range range_for in_range apart earlier_of later_of least clashes_at meets holds
example_12 = (
  (length_made (in_row 2048 25), ap (λ (gs : List Segment). length gs) (segments_made (in_row 2048 25) refl), number_made (in_row 2048 25) refl),
  (length_made (in_row 2048 26), ap (λ (gs : List Segment). length gs) (segments_made (in_row 2048 26) refl), number_made (in_row 2048 26) refl),
)
