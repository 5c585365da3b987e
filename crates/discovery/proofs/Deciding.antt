-- What two copies give, by what reading their blocks answered.
use mathlib.Core.Path.{◌≡◌, sym, ap, ap₂, ◌∙◌}
use Prim.Native.Nat.{ℕ}
use mathlib.Core.Bool.{Bool, true, false, cond, ◌&&◌}
use mathlib.Core.List.{List}
use Rattle.std.proofs.Common.{Result, Ok, Err}
use Rattle.endian.proofs.Tests.{and_left, and_right}
use Rattle.refusal.specs.declared.Reason.{Reason}
use Rattle.refusal.specs.Numbers.{slice_size, identity}
use Rattle.refusal.specs.Reasons.{reason}
use Rattle.block.specs.declared.Reading.{Reading}
use Rattle.copy.specs.declared.CopyReading.{CopyReading}
use Rattle.copy.specs.Copy.{is_copy, present, mapped, reading_in, copy_reading_of, copy_reading}
use Rattle.copy.proofs.Readings.{sized-read}
use Rattle.discovery.specs.declared.Found.{Found}
use Rattle.discovery.specs.Discovery.{together_of, same_device, same_uuids, decide_of, sized, discovery}

module _ (f b : List ℕ) where
  -- with the present records that the blocks' fields give
  abbrev pub decide_at : Result Reading Reason → Result Reading Reason → Result Found Reason
  decide_at v w = decide_of (mapped (copy_reading_of f) v) (mapped (copy_reading_of b) w) f b

  -- both blocks are accepted, of one identity
  pub decide-same : (v w : Result Reading Reason) (x y : Reading) → v ≡ Ok x → w ≡ Ok y → same_device x.fields y.fields && same_uuids x y ≡ true
      → together_of f b x.fields y.fields (present f x.fields) (present b y.fields) ≡ decide_at v w
  decide-same v w x y e d h =
      ap (λ (z : Bool). cond z (together_of f b x.fields y.fields (present f x.fields) (present b y.fields)) (Err (reason identity))) (sym h)
      ∙ ap₂ decide_at (sym e) (sym d)

  pub discovery_unsized : sized f b ≡ false → discovery f b ≡ Err (reason slice_size)
  unfolding discovery
  discovery_unsized h = ap (λ (t : Bool). cond t (decide_of (copy_reading f) (copy_reading b) f b) (Err (reason slice_size))) h

  pub discovery-sized : sized f b ≡ true → discovery f b ≡ decide_at (reading_in f) (reading_in b)
  unfolding discovery
  discovery-sized h =
      ap (λ (t : Bool). cond t (decide_of (copy_reading f) (copy_reading b) f b) (Err (reason slice_size))) h
      ∙ ap₂ (λ (r s : Result CopyReading Reason). decide_of r s f b) (sized-read f (and_left (is_copy f) (is_copy b) h))
      (sized-read b (and_right (is_copy f) (is_copy b) h))
