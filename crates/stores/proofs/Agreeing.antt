-- Two copies of one device that hold the same record with the same time.
use Prim.Native.Nat.{ℕ}
use mathlib.Core.Path.{◌≡◌, refl, ap₂, ◌∙◌}
use mathlib.Core.Bool.{true}
use mathlib.Core.List.{List}
use Rattle.std.specs.Prelude.{Ok}
use Rattle.layout.specs.declared.Side.{Side}
use Rattle.layout.specs.declared.Side.TheVariants.{Front, Back}
use Rattle.layout.specs.declared.Area.{Area}
use Rattle.block.specs.declared.Time.{Time}
use Rattle.block.specs.declared.Holding.{Holding}
use Rattle.block.specs.declared.BlockFields.{BlockFields}
use Rattle.block.specs.Entry.{same_time, time_of}
use Rattle.endian.proofs.Tests.{and_left, and_right}
use Rattle.copy.specs.Copy.{is_copy, record_at}
use Rattle.discovery.specs.Discovery.{finding_of, found_with, same_device, sized, discovery, copy_on}
use Rattle.stores.specs.States.{Presents, Gives, InStepOn}
use Rattle.stores.proofs.Holding.{Holds, holds_presents}
use Rattle.stores.proofs.Discovering.{gives, both_found}
use Rattle.stores.proofs.InStep.{held-in_step}
use Rattle.stores.proofs.Facts.{same_time-refl}

module _ {f b : List ℕ} {g j : BlockFields} {p u : List ℕ} {x y : Area} {h k : Holding} {r : List ℕ} (m : Holds f g p u x h r) (n : Holds b j p u y k r)
    (z : sized f b ≡ true) (one : same_device g j ≡ true) (t : Time) (eh : time_of h ≡ t) (ek : time_of k ≡ t) where
  one_time : same_time (time_of h) (time_of k) ≡ true
  one_time = ap₂ same_time eh ek ∙ same_time-refl t

  pub found_front : discovery f b ≡ found_with (finding_of Front g (record_at x h)) (Ok j)
  found_front = both_found f b z m n one one_time refl

  -- discovery gives the record, and the copies are in step on it
  pub agree_gives : Gives f b t r
  agree_gives = gives f b Front g x h (Ok j) t r found_front m.bytes m.long eh

  pub agree-in_step : InStepOn f b t r
  agree-in_step = (held-in_step m n z one one_time, on)
    where
      on : (s : Side) → Presents (copy_on s f b) t r
      on Front = holds_presents m (and_left (is_copy f) (is_copy b) z) t eh
      on Back = holds_presents n (and_right (is_copy f) (is_copy b) z) t ek
