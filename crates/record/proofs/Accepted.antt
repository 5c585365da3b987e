-- What it means that a record is accepted, both ways, and what follows for its segments.
use Prim.Native.Nat.{ℕ, zero, suc, ◌+◌, ◌*◌, ◌%◌, ◌≤◌, ◌<◌}
use mathlib.Core.Path.{◌≡◌, subst}
use mathlib.Core.Bool.{true, ◌&&◌}
use mathlib.Core.List.{List}
use native.Mathlib.Omega.{arith}
use borrow.Author.Tests.{leb-true}
use lib.Dec.{leb, eqb}
use lib.ListN.{length}
use Rattle.endian.proofs.Tests.{and_right}
use Rattle.refusal.specs.Tests.{first, AllHold}
use Rattle.refusal.proofs.Order.{first-zero, first_all}
use Rattle.layout.specs.declared.Device.{Device}
use Rattle.layout.specs.Limits.{length_allowed, size_allowed, metadata_allowed, reserved_allowed, record_limit}
use Rattle.layout.specs.Places.{data_start, data_end}
use Rattle.search.proofs.Search.{every-at, every_all}
use Rattle.segments.specs.declared.Segment.{Segment}
use Rattle.segments.specs.declared.Range.{Range}
use Rattle.segments.specs.Segments.{nth, InRange}
use Rattle.segments.specs.Clash.{apart}
use Rattle.segments.specs.Order.{orderly}
use Rattle.segments.proofs.Segments.{in_range_lem, in_range-back}
use Rattle.segments.proofs.Sectors.{Laid, laid_by}
use Rattle.segments.proofs.Order.{laid-orderly}
use Rattle.items.specs.declared.Head.{Head}
use Rattle.items.specs.Head.{head_of, head_size, data_range, range_for, item_bytes, most_segments, most_of_any}
use Rattle.items.specs.Items.{segments, well_formed}
use Rattle.items.proofs.Heads.{one_range, most-most, room_most}
use Rattle.items.proofs.Items.{formed}
use Rattle.record.specs.Accept.{range_at, all_in_range, record_tests}
use Rattle.record.proofs.Testing.{record_ascending}

-- an accepted record, by its parts
pub record Accepted (d : Device) (s : List ℕ) : Type 0 where
  pub size : size_allowed d.sectors ≡ true
  pub metadata : metadata_allowed d.metadata ≡ true
  pub reserved : reserved_allowed d.reserved ≡ true
  pub bytes : length_allowed (length s) ≡ true
  pub form : well_formed d s ≡ true
  pub ranges : (i : ℕ) → i < length (segments s) → InRange (range_for d (head_of s) (nth (segments s) i).kind) (nth (segments s) i)
  pub disjoint : apart (segments s) ≡ true

pub ranges_all : (d : Device) (h : Head) (gs : List Segment) → all_in_range d h gs ≡ true
    → (i : ℕ) → i < length gs → InRange (range_for d h (nth gs i).kind) (nth gs i)
unfolding all_in_range
ranges_all d h gs a i l = in_range_lem (range_for d h (nth gs i).kind) (nth gs i) (every-at (range_at d h gs) (length gs) a i l)

pub all_ranges : (d : Device) (h : Head) (gs : List Segment)
    → ((i : ℕ) → i < length gs → InRange (range_for d h (nth gs i).kind) (nth gs i)) → all_in_range d h gs ≡ true
unfolding all_in_range
all_ranges d h gs a = every_all (range_at d h gs) (length gs) (λ i l. in_range-back (range_for d h (nth gs i).kind) (nth gs i) (a i l))

pub accepted : (d : Device) (s : List ℕ) → first (record_tests d s) ≡ 0 → Accepted d s
accepted d s h =
    let a : AllHold (record_tests d s) = first-zero 0 (record_tests d s) (record_ascending d s) h in
    record {
      size = a.0;
      metadata = a.1.0;
      reserved = a.1.1.0;
      bytes = a.1.1.1.0;
      form = a.1.1.1.1.0;
      ranges = ranges_all d (head_of s) (segments s) a.1.1.1.1.1.0;
      disjoint = a.1.1.1.1.1.1.0;
    }

pub accepted-back : (d : Device) (s : List ℕ) → Accepted d s → first (record_tests d s) ≡ 0
accepted-back d s a =
    first_all (record_tests d s)
    (a.size, (a.metadata, (a.reserved, (a.bytes, (a.form, (all_ranges d (head_of s) (segments s) a.ranges, (a.disjoint, tt)))))))

-- the two ends leave room for data
pub ends : (d : Device) → size_allowed d.sectors ≡ true → metadata_allowed d.metadata ≡ true → reserved_allowed d.reserved ≡ true
    → (data_start d < data_end d) × (data_end d + data_start d ≡ d.sectors)
ends d a b c =
    let s : 2097152 ≤ d.sectors = leb-true 2097152 d.sectors a in
    let l : d.metadata ≤ 16384 =
    leb-true d.metadata 16384
    (and_right (leb 2040 d.metadata) (leb d.metadata 16384)
    (and_right (eqb (d.metadata % 2) 0) (leb 2040 d.metadata && leb d.metadata 16384) b)) in
    let r : d.reserved ≤ 65536 = leb-true d.reserved 65536 c in
    (omega arith, omega arith)

-- segments that fit into a record are no more than its head has room for
in_limit : (h : Head) (n : ℕ) → head_size h + item_bytes * n ≤ record_limit → n ≤ most_segments h
in_limit h zero l = omega arith
in_limit h (suc n) l = room_most h n (omega arith)

-- a well-formed record has no more segments than its head has room for, and no more than any record
pub few_of : (d : Device) (s : List ℕ) → length_allowed (length s) ≡ true → well_formed d s ≡ true → length (segments s) ≤ most_segments (head_of s)
unfolding length_allowed
few_of d s b w =
    let f : length s ≡ head_size (head_of s) + item_bytes * length (segments s) = (formed d s w).bytes in
    let l : length s ≤ record_limit = leb-true (length s) record_limit (and_right (leb 1 (length s)) (leb (length s) record_limit) b) in
    in_limit (head_of s) (length (segments s)) (omega arith)

pub fewer_of : (d : Device) (s : List ℕ) → length_allowed (length s) ≡ true → well_formed d s ≡ true → length (segments s) ≤ most_of_any
fewer_of d s b w =
    let m : most_segments (head_of s) ≤ most_of_any = most-most d (head_of s) (formed d s w).head in
    let f : length (segments s) ≤ most_segments (head_of s) = few_of d s b w in
    omega arith

module _ (d : Device) (s : List ℕ) (a : Accepted d s) where
  -- the segments lie in the data range
  pub in_data : (i : ℕ) → i < length (segments s) → InRange (data_range d) (nth (segments s) i)
  in_data i l = subst (λ (r : Range). InRange r (nth (segments s) i)) (one_range d (head_of s) (nth (segments s) i).kind (formed d s a.form).head) (a.ranges i l)

  pub laid : Laid (data_range d) (segments s)
  laid = laid_by (data_range d) (segments s) in_data a.disjoint

  pub ordered : orderly (segments s) ≡ true
  ordered = laid-orderly (data_range d) (segments s) laid

  pub few : length (segments s) ≤ most_segments (head_of s)
  few = few_of d s a.bytes a.form

  pub fewer : length (segments s) ≤ most_of_any
  fewer = fewer_of d s a.bytes a.form
