-- Whether two copies are in step follows from their present records and from what discovery answers for them, with no checksum and
-- no comparison more.
use Prim.Native.Nat.{ℕ}
use mathlib.Core.Path.{◌≡◌, refl, sym, ap, ap₂, ◌∙◌}
use mathlib.Core.Bool.{Bool, true, false, ◌&&◌}
use mathlib.Core.List.{List}
use Rattle.std.proofs.Common.{Option, Some, Result, Ok, Err, is_ok}
use Rattle.endian.proofs.Tests.{and_left, and_right}
use Rattle.endian.specs.Bytes.{same}
use Rattle.refusal.specs.declared.Reason.{Reason}
use Rattle.refusal.specs.Numbers.{slice_size}
use Rattle.refusal.specs.Reasons.{reason}
use Rattle.block.specs.declared.BlockFields.{BlockFields}
use Rattle.block.specs.declared.Reading.{Reading}
use Rattle.block.specs.Entry.{same_time, time_of}
use Rattle.block.specs.Writing.{holding_of}
use Rattle.copy.specs.declared.Present.{Present}
use Rattle.copy.specs.declared.CopyReading.{CopyReading}
use Rattle.copy.specs.declared.PresentReading.{PresentReading}
use Rattle.copy.specs.Copy.{is_copy, area_bytes, entry_in, whole, newest, record_at, present, mapped, reading_in, copy_reading_of, copy_reading, present_reading_of}
use Rattle.copy.proofs.Presence.{present-newest}
use Rattle.copy.proofs.Newness.{current-whole}
use Rattle.copy.proofs.Readings.{sized-read}
use Rattle.discovery.specs.declared.Found.{Found}
use Rattle.discovery.specs.Discovery.{newest_of, together_of, same_device, same_uuids, sized, agree, stepped, in_step_of, is_in_step, examined}
use Rattle.discovery.specs.Examine.{one_time, step_both, step_with, examine_of}
use Rattle.discovery.specs.Demand.{Examines}
use Rattle.discovery.proofs.Deciding.{discovery_unsized, discovery-sized}

-- records of one time that are not refused have the same bytes
agree-found : (f b : List ℕ) (i j : BlockFields) (p q : Present)
    → same_time (time_of p.holding) (time_of q.holding) && is_ok (newest_of f b i j p q) ≡ agree f b p q
agree-found f b i j p q =
    go (same_time (time_of p.holding) (time_of q.holding)) refl (same (area_bytes f p.area p.holding.bytes) (area_bytes b q.area q.holding.bytes)) refl
  where
    go : (t : Bool) → same_time (time_of p.holding) (time_of q.holding) ≡ t → (s : Bool) → same (area_bytes f p.area p.holding.bytes) (area_bytes b q.area q.holding.bytes) ≡ s
        → same_time (time_of p.holding) (time_of q.holding) && is_ok (newest_of f b i j p q) ≡ agree f b p q
    go true p true q = rw (p, q)
    go true p false q = rw (p, q)
    go false p s q = rw p

module _ (f : List ℕ) (x : BlockFields) (b : List ℕ) (y : BlockFields) where
  abbrev here : Present
  here = record_at (newest x) (holding_of (entry_in x (newest x)))

  abbrev there : Present
  there = record_at (newest y) (holding_of (entry_in y (newest y)))

  -- by which of the newest entries are whole
  by_whole : (p q : Option Present) (a c : Bool) → (a ≡ true → p ≡ Some here) → (c ≡ true → q ≡ Some there)
      → (a && c) && (one_time p q && is_ok (together_of f b x y p q)) ≡ (a && (c && agree f b here there))
  by_whole p q true true h k = rw (h refl, k refl) (agree-found f b x y here there)
  by_whole p q true false h k = refl
  by_whole p q false c h k = refl

  step_both_lem : step_both f b x y (present f x) (present b y) ≡ stepped f x b y
  step_both_lem =
      rw (current-whole f x, current-whole b y)
      (by_whole (present f x) (present b y) (whole f x (newest x)) (whole b y (newest y)) (λ e. sym (present-newest f x (newest x) _ refl e refl)) (λ e. sym (present-newest b y (newest y) _ refl e refl)))

-- with the present records that the blocks' fields give
module _ (f b : List ℕ) where
  abbrev read_as : List ℕ → Result Reading Reason → Result PresentReading Reason
  read_as c r = mapped present_reading_of (mapped (copy_reading_of c) r)

  step_with_lem : (v w : Result Reading Reason) → step_with (read_as f v) (read_as b w) f b ≡ in_step_of v w f b
  step_with_lem (Err m) w = refl
  step_with_lem (Ok x) (Err n) = refl
  step_with_lem (Ok x) (Ok y) = ap (λ (z : Bool). (same_device x.fields y.fields && same_uuids x y) && z) (step_both_lem f x.fields b y.fields)

  pub examined_unsized : sized f b ≡ false → record { answer = Err (reason slice_size); step = false } ≡ examined f b
  unfolding is_in_step
  examined_unsized h =
      ap₂ (λ (a : Result Found Reason) (s : Bool). record { answer = a; step = s }) (sym (discovery_unsized f b h))
      (ap (λ (t : Bool). t && in_step_of (reading_in f) (reading_in b) f b) (sym h))

  pub examined_sized : sized f b ≡ true → examine_of (mapped present_reading_of (copy_reading f)) (mapped present_reading_of (copy_reading b)) f b ≡ examined f b
  unfolding is_in_step
  examined_sized h =
      ap₂ (λ (r s : Result CopyReading Reason). examine_of (mapped present_reading_of r) (mapped present_reading_of s) f b)
      (sized-read f (and_left (is_copy f) (is_copy b) h)) (sized-read b (and_right (is_copy f) (is_copy b) h))
      ∙ ap₂ (λ (a : Result Found Reason) (s : Bool). record { answer = a; step = s }) (sym (discovery-sized f b h))
      (step_with_lem (reading_in f) (reading_in b) ∙ ap (λ (t : Bool). t && in_step_of (reading_in f) (reading_in b) f b) (sym h))

-- what is examined has both answers
pub examines : Examines
examines f b = record { answer = refl; step = refl }
