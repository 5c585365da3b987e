-- A head and segments that are right make an accepted record, and an accepted record is made of such.
use Prim.Native.Nat.{ℕ, ◌+◌, ◌*◌, ◌^◌, ◌≤◌, ◌<◌}
use mathlib.Core.Path.{◌≡◌, ◌∙◌, subst}
use mathlib.Core.Bool.{true}
use mathlib.Core.List.{List, [], ◌∷◌, ◌++◌}
use native.Mathlib.Nat.{not-suc-le-zero}
use native.Mathlib.Omega.{arith}
use borrow.Author.Tests.{le-leb, leb-true}
use lib.Dec.{leb}
use lib.ListN.{length}
use Rattle.endian.proofs.Tests.{and_right, and_both}
use Rattle.refusal.specs.Numbers.{record_length, record_form, segment_place, segment_clash}
use Rattle.refusal.specs.Tests.{Test, ◌else_refuse◌, first, AllHold}
use Rattle.refusal.proofs.Order.{first-nil, first-pass, first-zero, first-after}
use Rattle.layout.specs.declared.Device.{Device}
use Rattle.layout.specs.Limits.{length_allowed, record_limit, device_tests}
use Rattle.layout.specs.Places.{data_start, data_end}
use Rattle.segments.specs.declared.Segment.{Segment}
use Rattle.segments.specs.declared.Range.{Range}
use Rattle.segments.specs.Segments.{nth, end_of, InRange}
use Rattle.segments.specs.Clash.{apart}
use Rattle.segments.proofs.Pairs.{apart_share, share_apart}
use Rattle.items.specs.declared.Head.{Head}
use Rattle.items.specs.Head.{head_of, head_size, head_right, data_range, range_for, item_bytes}
use Rattle.items.specs.Items.{segments, well_formed}
use Rattle.items.specs.Making.{record_of}
use Rattle.items.proofs.Heads.{kind-small, head_small, right-fits, right-some, one_range}
use Rattle.items.proofs.Items.{Formed, formed}
use Rattle.items.proofs.Making.{AllFit, length_record, head_record, segments_record, formed_record}
use Rattle.record.specs.Accept.{all_in_range, content_tests, record_tests}
use Rattle.record.specs.Demand.{Right, EachRight, RightBytes}
use Rattle.record.proofs.Testing.{device-ascending, record_ascending}
use Rattle.record.proofs.Accepted.{ranges_all, all_ranges, ends}

-- a record's tests but the last, that no two segments share a sector
abbrev pub tests_but_last : Device → List ℕ → List Test
tests_but_last d s =
    device_tests d
    ++ ((length_allowed (length s) else_refuse record_length)
    ∷ (well_formed d s else_refuse record_form)
    ∷ (all_in_range d (head_of s) (segments s) else_refuse segment_place)
    ∷ [])

module _ (d : Device) (h : Head) (gs : List Segment) (small : d.sectors < 256 ^ 8) (r : EachRight d h gs) where
  -- their numbers have room in their fields
  fits_each : AllFit gs
  fits_each i l =
      let e : (data_start d < data_end d) × (data_end d + data_start d ≡ d.sectors) = ends d r.size r.metadata r.reserved in
      let g : InRange (data_range d) (nth gs i) = subst (λ (z : Range). InRange z (nth gs i)) (one_range d h (nth gs i).kind r.head) (r.ranges i l) in
      let k : end_of (nth gs i) ≤ data_end d = g.high in
      record { kind = kind-small h (nth gs i).kind (r.kinds i l); start = omega arith; sectors = omega arith }

  head_each : head_of (record_of h gs) ≡ h
  head_each = head_record h gs (right-fits d h r.head)

  pub segments_each : segments (record_of h gs) ≡ gs
  segments_each = segments_record h gs (right-fits d h r.head) fits_each

  -- what is made of them passes every test but the last
  length_each : length_allowed (length (record_of h gs)) ≡ true
  unfolding length_allowed
  length_each =
      let n : length (record_of h gs) ≡ head_size h + item_bytes * length gs = length_record h gs in
      let m : head_size h + item_bytes * length gs ≤ record_limit = r.bytes in
      and_both (leb 1 (length (record_of h gs))) (leb (length (record_of h gs)) record_limit) (le-leb 1 (length (record_of h gs)) (omega (arith, right-some d h r.head))) (le-leb (length (record_of h gs)) record_limit (omega arith))

  formed_each : well_formed d (record_of h gs) ≡ true
  formed_each = formed_record d h gs (right-fits d h r.head) r.head fits_each r.kinds

  ranges_each : (i : ℕ) → i < length (segments (record_of h gs))
      → InRange (range_for d (head_of (record_of h gs)) (nth (segments (record_of h gs)) i).kind) (nth (segments (record_of h gs)) i)
  ranges_each = rw (head_each, segments_each) r.ranges

  pub tests_each : AllHold (tests_but_last d (record_of h gs))
  tests_each = (r.size, (r.metadata, (r.reserved, (length_each, (formed_each, (all_ranges d (head_of (record_of h gs)) (segments (record_of h gs)) ranges_each, tt))))))

-- and a record that passes those is made of them
pub tests_right : (d : Device) (s : List ℕ) → AllHold (tests_but_last d s) → EachRight d (head_of s) (segments s)
unfolding length_allowed
tests_right d s a =
    let f : Formed d s = formed d s a.1.1.1.1.0 in
    let l : length s ≤ record_limit = leb-true (length s) record_limit (and_right (leb 1 (length s)) (leb (length s) record_limit) a.1.1.1.0) in
    let b : length s ≡ head_size (head_of s) + item_bytes * length (segments s) = f.bytes in
    record {
      size = a.0;
      metadata = a.1.0;
      reserved = a.1.1.0;
      head = f.head;
      bytes = omega arith;
      kinds = f.kinds;
      ranges = ranges_all d (head_of s) (segments s) a.1.1.1.1.1.0;
    }

module _ (d : Device) (h : Head) (gs : List Segment) (small : d.sectors < 256 ^ 8) (r : Right d h gs) where
  pub read_head : head_of (record_of h gs) ≡ h
  read_head = head_each d h gs small r.each

  pub read_segments : segments (record_of h gs) ≡ gs
  read_segments = segments_each d h gs small r.each

  -- A MADE RECORD IS ACCEPTED
  pub accepted_made : first (record_tests d (record_of h gs)) ≡ 0
  accepted_made =
      first-after (tests_but_last d (record_of h gs)) ((apart (segments (record_of h gs)) else_refuse segment_clash) ∷ []) (tests_each d h gs small r.each)
      ∙ (first-pass (apart (segments (record_of h gs))) segment_clash [] (rw read_segments (share_apart gs r.apart)) ∙ first-nil)

-- an accepted record is right
pub accepted-right : (d : Device) (s : List ℕ) → first (record_tests d s) ≡ 0 → Right d (head_of s) (segments s)
accepted-right d s h =
    let a : AllHold (record_tests d s) = first-zero 0 (record_tests d s) (record_ascending d s) h in
    record {
      each = tests_right d s (a.0, (a.1.0, (a.1.1.0, (a.1.1.1.0, (a.1.1.1.1.0, (a.1.1.1.1.1.0, tt))))));
      apart = apart_share (segments s) a.1.1.1.1.1.1.0;
    }

-- a right head alone is a right record
pub right-empty : (d : Device) (h : Head) → first (device_tests d) ≡ 0 → head_right d h ≡ true → Right d h []
right-empty d h e r =
    let a : AllHold (device_tests d) = first-zero 0 (device_tests d) (device-ascending d) e in
    let l : head_size h + item_bytes ≤ record_limit = head_small h in
    record {
      each =
          record {
            size = a.0;
            metadata = a.1.0;
            reserved = a.1.1.0;
            head = r;
            bytes = omega arith;
            kinds = λ i l. absurd (not-suc-le-zero l);
            ranges = λ i l. absurd (not-suc-le-zero l);
          };
      apart = λ i j x c. not-suc-le-zero c.there;
    }

-- what is tested of the content of an accepted record
pub accepted_content : (d : Device) (s : List ℕ) → first (record_tests d s) ≡ 0 → AllHold (content_tests d s)
accepted_content d s h = (first-zero 0 (record_tests d s) (record_ascending d s) h).1.1.1

-- the bytes of a head and segments that are right pass every test of a record
pub right_content : (d : Device) (s : List ℕ) → d.sectors < 256 ^ 8 → RightBytes d s → AllHold (content_tests d s)
right_content d s small r =
    subst (λ (z : List ℕ). AllHold (content_tests d z)) r.is
    (accepted_content d (record_of r.head r.list) (accepted_made d r.head r.list small r.right))
