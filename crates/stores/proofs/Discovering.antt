-- What discovery gives where a copy holds a record and the other does, or is refused.
use Prim.Native.Nat.{ℕ, ◌+◌}
use mathlib.Core.Path.{◌≡◌, refl, sym, ap, ap₂, ◌∙◌}
use mathlib.Core.Bool.{true, ◌&&◌}
use mathlib.Core.List.{List}
use native.Mathlib.Omega.{arith}
use borrow.Author.Tests.{le-leb}
use lib.ListN.{length, take, drop}
use lib.Seq.{take_at}
use Rattle.std.specs.Prelude.{Option, Result, Ok, Err}
use Rattle.endian.specs.Bytes.{same, splice}
use Rattle.endian.proofs.Parts.{splice-fits}
use Rattle.endian.proofs.Tests.{and_left, and_right, and_both, equal_same, same_refl}
use Rattle.refusal.specs.declared.Reason.{Reason}
use Rattle.layout.specs.declared.Side.{Side}
use Rattle.layout.specs.declared.Side.TheVariants.{Front, Back}
use Rattle.layout.specs.declared.Area.{Area}
use Rattle.block.specs.declared.Time.{Time}
use Rattle.block.specs.declared.Holding.{Holding}
use Rattle.block.specs.declared.BlockFields.{BlockFields}
use Rattle.block.specs.declared.Reading.{Reading}
use Rattle.block.specs.Entry.{later_than, same_time, time_of}
use Rattle.block.proofs.Times.{later_asym, later_differs}
use Rattle.copy.specs.declared.Present.{Present}
use Rattle.copy.specs.Copy.{is_copy, area_bytes, other_side, record_at, mapped, reading_in, copy_reading_of, present_reading_of}
use Rattle.copy.proofs.Readings.{sized-read}
use Rattle.discovery.specs.declared.Found.{Found}
use Rattle.discovery.specs.Discovery.{finding_of, found_with, alone_of, newest_of, together_of, same_device, decide, decide_of, sized, discovery, copy_on, read_bytes}
use Rattle.stores.specs.States.{Gives}
use Rattle.stores.proofs.Holding.{Holds, its_present}

-- a found record is given
pub gives : (f b : List ℕ) (s : Side) (g : BlockFields) (x : Area) (h : Holding) (o : Result BlockFields Reason) (t : Time) (r : List ℕ)
    → discovery f b ≡ found_with (finding_of s g (record_at x h)) o → area_bytes (copy_on s f b) x h.bytes ≡ r → h.bytes ≡ length r → time_of h ≡ t → Gives f b t r
gives f b s g x h o t r e a l w =
    record {
      found = finding_of s g (record_at x h);
      other = o;
      answers = e;
      long = l;
      seconds = ap (λ (z : Time). z.seconds) w;
      nanoseconds = ap (λ (z : Time). z.nanoseconds) w;
      starts = a;
      reads = λ out k. rw (e, le-leb h.bytes (length out) (omega arith));
      copies = λ out k.
          ap (λ (z : Result Found Reason). take (length r) (read_bytes z f b out)) e
          ∙ (ap (λ (z : List ℕ). take (length r) (splice out 0 z)) a
          ∙ (ap (take (length r)) (splice-fits out 0 r (omega arith)) ∙ take_at r (drop (0 + length r) out) (length r) refl));
    }

module _ (f b : List ℕ) (z : sized f b ≡ true) where
  -- what discovery answers by what reading the two blocks answered
  abbrev by_readings : Result Reading Reason → Result Reading Reason → Result Found Reason
  by_readings v w = decide (mapped present_reading_of (mapped (copy_reading_of f) v)) (mapped present_reading_of (mapped (copy_reading_of b) w)) f b

  decided : discovery f b ≡ by_readings (reading_in f) (reading_in b)
  unfolding discovery
  decided =
      rw z
      (ap₂ (λ v w. decide_of v w f b) (sized-read f (and_left (is_copy f) (is_copy b) z)) (sized-read b (and_right (is_copy f) (is_copy b) z)))

  -- a side's copy holds a record, and the other side's block is refused
  pub alone-found : (w : Side) {g : BlockFields} {p u : List ℕ} {x : Area} {k : Holding} {r : List ℕ} (n : Reason) → Holds (copy_on w f b) g p u x k r
      → reading_in (copy_on (other_side w) f b) ≡ Err n → discovery f b ≡ found_with (finding_of w g (record_at x k)) (Err n)
  alone-found Front {g} {p} {u} {x} {k} {r} n h e = decided ∙ (ap₂ by_readings h.reads e ∙ ap (λ (q : Option Present). alone_of Front g q n) (its_present h))
  alone-found Back {g} {p} {u} {x} {k} {r} n h e = decided ∙ (ap₂ by_readings e h.reads ∙ ap (λ (q : Option Present). alone_of Back g q n) (its_present h))

  module _ {g j : BlockFields} {p u : List ℕ} {x y : Area} {h k : Holding} {r q : List ℕ} (m : Holds f g p u x h r) (n : Holds b j p u y k q)
      (one : same_device g j ≡ true) where
    both : discovery f b ≡ newest_of f b g j (record_at x h) (record_at y k)
    both =
        decided
        ∙ (ap₂ by_readings m.reads n.reads
        ∙ rw (and_both (same_device g j) (same p p && same u u) one (and_both (same p p) (same u u) (same_refl p) (same_refl u)))
        (ap₂ (together_of f b g j) (its_present m) (its_present n)))

    -- both hold the same record
    pub both_found : same_time (time_of h) (time_of k) ≡ true → r ≡ q → discovery f b ≡ found_with (finding_of Front g (record_at x h)) (Ok j)
    both_found t e = both ∙ rw (t, equal_same (area_bytes f x h.bytes) (area_bytes b y k.bytes) (m.bytes ∙ (e ∙ sym n.bytes)))

    -- the front's is later
    pub later-found : later_than (time_of h) (time_of k) ≡ true → discovery f b ≡ found_with (finding_of Front g (record_at x h)) (Ok j)
    later-found l = both ∙ rw (later_differs (time_of h) (time_of k) l, later_asym (time_of h) (time_of k) l)
