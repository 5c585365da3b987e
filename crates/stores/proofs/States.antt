-- The states of a device, from the copies that hold a record there.
use Prim.Native.Nat.{ℕ}
use mathlib.Core.Path.{◌≡◌, refl, sym, ap, ◌∙◌}
use mathlib.Core.Bool.{true}
use mathlib.Core.List.{List}
use borrow.Author.Tests.{eqb-true}
use lib.ListN.{length}
use Rattle.std.specs.Prelude.{Result, Ok}
use Rattle.refusal.specs.declared.Reason.{Reason}
use Rattle.endian.proofs.Tests.{and_left, and_right}
use Rattle.layout.specs.declared.Device.{Device}
use Rattle.layout.specs.declared.Side.{Side}
use Rattle.layout.specs.declared.Side.TheVariants.{Front, Back}
use Rattle.layout.specs.declared.Area.{Area}
use Rattle.layout.specs.Places.{copy_bytes}
use Rattle.block.specs.declared.Time.{Time}
use Rattle.block.specs.declared.Holding.{Holding}
use Rattle.block.specs.declared.BlockFields.{BlockFields}
use Rattle.block.specs.declared.Reading.{Reading}
use Rattle.block.specs.Entry.{time_of}
use Rattle.block.specs.Block.{pool_of, blockdev_of, fields_of}
use Rattle.copy.specs.Copy.{is_copy, device_in, block_in, area_bytes, newest, record_at, present_at, mapped, copy_reading_of, copy_reading}
use Rattle.copy.specs.Demand.{present_in}
use Rattle.copy.proofs.Presence.{present-newest}
use Rattle.copy.proofs.Readings.{sized-read}
use Rattle.block.proofs.Readings.{accepted_reading_lem}
use Rattle.discovery.specs.declared.Finding.{Finding}
use Rattle.discovery.specs.Discovery.{finding_of, found_with, discovery, copy_on}
use Rattle.discovery.proofs.Latest.{found-same}
use Rattle.crash.specs.Crash.{Sectors, Sound, copy_from}
use Rattle.stores.specs.States.{Presents, Gives, Ready, Answered}
use Rattle.stores.proofs.Holding.{held_in, record_in, Holds, holds_presents}
use Rattle.stores.proofs.Discovering.{gives}
use Rattle.stores.proofs.InStep.{Stepped, reading_facts, in_step_facts, same_device_test}
use Rattle.stores.proofs.Facts.{renamed, sized_copies}
use Rattle.stores.proofs.Whole.{holds-newest, presents_newest}
use Rattle.stores.proofs.Agreeing.{found_front, agree-in_step}

-- the device numbers that a copy that holds a record says
pub holds-device : {c : List ℕ} {g : BlockFields} {p u : List ℕ} {x : Area} {h : Holding} {r : List ℕ} → Holds c g p u x h r → device_in c ≡ g.device
holds-device {c} {g} k = sym (ap (λ (z : Reading). z.fields.device) (reading_facts (block_in c) _ k.reads).1)

-- of two copies in step, which record each of them holds
module _ (c : Side → List ℕ) (k : Stepped c) where
  sized-at : (w : Side) → is_copy (c w) ≡ true
  sized-at Front = and_left (is_copy (c Front)) (is_copy (c Back)) k.sizes
  sized-at Back = and_right (is_copy (c Front)) (is_copy (c Back)) k.sizes

  holds-at-front : (w : Side)
      → Holds (c w) (fields_of (block_in (c w))) (pool_of (block_in (c Front))) (blockdev_of (block_in (c Front))) (newest (fields_of (block_in (c w)))) (held_in (c w)) (record_in (c Front))
  holds-at-front w =
      renamed (k.pool w) (k.blockdev w) (k.records w)
      (holds-newest (c w) (eqb-true (length (c w)) copy_bytes (sized-at w)) (k.accepted w) (k.newest-whole w))

  -- discovery names the front's
  pub stepped-found : discovery (c Front) (c Back)
      ≡ found_with (finding_of Front (fields_of (block_in (c Front))) (record_at (newest (fields_of (block_in (c Front)))) (held_in (c Front)))) (Ok (fields_of (block_in (c Back))))
  stepped-found =
      found_front (holds-at-front Front) (holds-at-front Back) k.sizes
      (same_device_test (fields_of (block_in (c Front))) (fields_of (block_in (c Back))) k.device) _ refl (k.times Back)

  -- what each presents
  pub stepped_presents : (w : Side) (t : Time) (r : List ℕ) → Presents (c w) t r → (time_of (held_in (c w)) ≡ t) × (record_in (c w) ≡ r)
  stepped_presents w = presents_newest (c w) (sized-at w) (k.accepted w) (k.newest-whole w)

  pub stepped-present : (w : Side) → present_in (copy_reading (c w)) ≡ present_at (newest (fields_of (block_in (c w)))) (held_in (c w))
  stepped-present w =
      ap present_in (sized-read (c w) (sized-at w))
      ∙ (ap (λ (q : Result Reading Reason). present_in (mapped (copy_reading_of (c w)) q)) (accepted_reading_lem (block_in (c w)) (k.accepted w))
      ∙ sym (present-newest (c w) (fields_of (block_in (c w))) (newest (fields_of (block_in (c w)))) (held_in (c w)) refl (k.newest-whole w) refl))

  pub presents_stepped : (w : Side) → Presents (c w) (time_of (held_in (c Front))) (record_in (c Front))
  presents_stepped w = holds_presents (holds-at-front w) (sized-at w) (time_of (held_in (c Front))) (k.times w)

-- two copies that hold one record with one time, on the device that they say
pub made_ready : (v : Device) (e : Sectors) → Sound e → {g j : BlockFields} {p u : List ℕ} {x y : Area} {h k : Holding} {r : List ℕ}
    → Holds (copy_from Front v e) g p u x h r → Holds (copy_from Back v e) j p u y k r → g.device ≡ v → j.device ≡ v
    → (t : Time) → time_of h ≡ t → time_of k ≡ t → Ready v e t r
made_ready v e se {g} {j} m n eg ej t eh ek =
    record {
      sound = se;
      says = says;
      in_step = agree-in_step m n (sized_copies v e e se se) (same_device_test g j (eg ∙ sym ej)) t eh ek;
    }
  where
    says : (s : Side) → device_in (copy_from s v e) ≡ v
    says Front = holds-device m ∙ eg
    says Back = holds-device n ∙ ej

-- a found record, in a copy that holds it
pub made_answered : (v : Device) (e : Sectors) → Sound e → (w : Side) {g : BlockFields} {p u : List ℕ} {x : Area} {h : Holding} {r : List ℕ}
    → Holds (copy_from w v e) g p u x h r → (o : Result BlockFields Reason) → discovery (copy_from Front v e) (copy_from Back v e) ≡ found_with (finding_of w g (record_at x h)) o → g.device ≡ v
    → (t : Time) → time_of h ≡ t → Answered v e t r
made_answered v e se w {g} {p} {u} {x} {h} {r} m o found dev t eh =
    record {
      sound = se;
      gives = given;
      says =
          ap (λ (q : Finding). device_in (copy_from q.side v e))
          (found-same (finding_of w g (record_at x h)) o given.found given.other (sym given.answers ∙ found))
          ∙ (holds-device m ∙ dev);
    }
  where
    starts : (s : Side) → Holds (copy_from s v e) g p u x h r
        → area_bytes (copy_on s (copy_from Front v e) (copy_from Back v e)) x h.bytes ≡ r
    starts Front k = k.bytes
    starts Back k = k.bytes

    given : Gives (copy_from Front v e) (copy_from Back v e) t r
    given = gives (copy_from Front v e) (copy_from Back v e) w g x h o t r found (starts w m) m.long eh

-- a device whose copies are in step
module _ {v : Device} {d : Sectors} {t : Time} {r : List ℕ} (k : Ready v d t r) where
  pub ready_stepped : Stepped (λ (w : Side). copy_from w v d)
  ready_stepped = in_step_facts (λ (w : Side). copy_from w v d) k.in_step.0

  at_side : (w : Side) → Presents (copy_from w v d) t r
  at_side Front = k.in_step.1 Front
  at_side Back = k.in_step.1 Back

  pub ready_time : (w : Side) → time_of (held_in (copy_from w v d)) ≡ t
  ready_time w = (stepped_presents (λ (w : Side). copy_from w v d) ready_stepped w t r (at_side w)).0

  pub ready_record : (w : Side) → record_in (copy_from w v d) ≡ r
  ready_record w = (stepped_presents (λ (w : Side). copy_from w v d) ready_stepped w t r (at_side w)).1
