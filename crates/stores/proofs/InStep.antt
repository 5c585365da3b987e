-- What it means that two copies are in step, fact by fact.
use Prim.Native.Nat.{ℕ}
use mathlib.Core.Path.{◌≡◌, refl, sym, ap, ap₂, ◌∙◌}
use mathlib.Core.Bool.{Bool, true, ◌&&◌, true≢false}
use mathlib.Core.List.{List}
use borrow.Author.Tests.{eqb-true, eq-eqb}
use lib.Dec.{eqb}
use Rattle.std.specs.Prelude.{Some, Result, Ok, Err, is_ok}
use Rattle.refusal.specs.declared.Reason.{Reason}
use Rattle.endian.specs.Bytes.{same}
use Rattle.endian.proofs.Tests.{and_left, and_right, and_both, same_equal, equal_same, same_refl}
use Rattle.refusal.specs.Tests.{first}
use Rattle.layout.specs.declared.Device.{Device}
use Rattle.layout.specs.declared.Side.{Side}
use Rattle.layout.specs.declared.Side.TheVariants.{Front, Back}
use Rattle.layout.specs.declared.Area.{Area}
use Rattle.block.specs.declared.Time.{Time}
use Rattle.block.specs.declared.Holding.{Holding}
use Rattle.block.specs.declared.BlockFields.{BlockFields}
use Rattle.block.specs.declared.Reading.{Reading}
use Rattle.block.specs.Entry.{same_time, time_of}
use Rattle.block.specs.Block.{pool_of, blockdev_of, fields_of, read_tests, reading, accepted_reading}
use Rattle.block.specs.Writing.{holding_of}
use Rattle.block.proofs.Readings.{accepted_reading_lem, accepted_none}
use Rattle.block.proofs.Times.{same_facts}
use Rattle.copy.specs.Copy.{block_in, area_bytes, entry_in, whole, newest, record_at, reading_in}
use Rattle.discovery.specs.Discovery.{same_device, sized, agree, stepped, in_step_of, is_in_step}
use Rattle.stores.proofs.Holding.{held_in, record_in, Holds, its_whole}

pub refused_differs : (e : Reason) (r : Reading) → Err e ≡ Ok r → ⊥
refused_differs e r h = true≢false (sym (ap is_ok h))

-- the reading of an accepted block says that no test refuses it, and gives its numbers and its UUIDs
pub reading_facts : (b : List ℕ) (r : Reading) → reading b ≡ Ok r → (first (read_tests b) ≡ 0) × (r ≡ accepted_reading b)
reading_facts b r e =
    let z : first (read_tests b) ≡ 0 = accepted_none b r e in
    let o : Ok r ≡ Ok (accepted_reading b) = sym e ∙ accepted_reading_lem b z in
    (z, cc)

-- the sides' copies: each is accepted and whole, with the front's identity, time and record
pub record Stepped (c : Side → List ℕ) : Type 0 where
  pub sizes : sized (c Front) (c Back) ≡ true
  pub device : (fields_of (block_in (c Front))).device ≡ (fields_of (block_in (c Back))).device
  pub accepted : (w : Side) → first (read_tests (block_in (c w))) ≡ 0
  pub newest-whole : (w : Side) → whole (c w) (fields_of (block_in (c w))) (newest (fields_of (block_in (c w)))) ≡ true
  pub pool : (w : Side) → pool_of (block_in (c w)) ≡ pool_of (block_in (c Front))
  pub blockdev : (w : Side) → blockdev_of (block_in (c w)) ≡ blockdev_of (block_in (c Front))
  pub times : (w : Side) → time_of (held_in (c w)) ≡ time_of (held_in (c Front))
  pub records : (w : Side) → record_in (c w) ≡ record_in (c Front)

each : (P : Side → Type 0) → P Front → P Back → (w : Side) → P w
each P p q Front = p
each P p q Back = q

same_time_is : (t u : Time) → same_time t u ≡ true → t ≡ u
same_time_is t u h =
    let s : (t.seconds ≡ u.seconds) × (t.nanoseconds ≡ u.nanoseconds) = same_facts t u h in
    λ i. record { seconds = s.0 i; nanoseconds = s.1 i }

pub same_device_facts : (x y : BlockFields) → same_device x y ≡ true → x.device ≡ y.device
same_device_facts x y h =
    let k : (eqb x.device.metadata y.device.metadata && eqb x.device.reserved y.device.reserved) ≡ true =
    and_right (eqb x.device.sectors y.device.sectors) (eqb x.device.metadata y.device.metadata && eqb x.device.reserved y.device.reserved) h in
    let p : x.device.sectors ≡ y.device.sectors =
    eqb-true x.device.sectors y.device.sectors
    (and_left (eqb x.device.sectors y.device.sectors) (eqb x.device.metadata y.device.metadata && eqb x.device.reserved y.device.reserved) h) in
    let q : x.device.metadata ≡ y.device.metadata =
    eqb-true x.device.metadata y.device.metadata (and_left (eqb x.device.metadata y.device.metadata) (eqb x.device.reserved y.device.reserved) k) in
    let r : x.device.reserved ≡ y.device.reserved =
    eqb-true x.device.reserved y.device.reserved (and_right (eqb x.device.metadata y.device.metadata) (eqb x.device.reserved y.device.reserved) k) in
    λ i. record { sectors = p i; metadata = q i; reserved = r i }

pub same_device_test : (x y : BlockFields) → x.device ≡ y.device → same_device x y ≡ true
same_device_test x y e =
    and_both (eqb x.device.sectors y.device.sectors) _ (eq-eqb x.device.sectors y.device.sectors (ap (λ (d : Device). d.sectors) e))
    (and_both (eqb x.device.metadata y.device.metadata) (eqb x.device.reserved y.device.reserved)
    (eq-eqb x.device.metadata y.device.metadata (ap (λ (d : Device). d.metadata) e))
    (eq-eqb x.device.reserved y.device.reserved (ap (λ (d : Device). d.reserved) e)))

module _ (c : Side → List ℕ) where
  abbrev f : List ℕ
  f = c Front

  abbrev b : List ℕ
  b = c Back

  by_readings : sized f b ≡ true → (v w : Result Reading Reason) → reading_in f ≡ v → reading_in b ≡ w → in_step_of v w f b ≡ true → Stepped c
  by_readings z (Err m) w p q h = absurd (true≢false (sym h))
  by_readings z (Ok x) (Err n) p q h = absurd (true≢false (sym h))
  by_readings z (Ok x) (Ok y) p q h =
      let fx : (first (read_tests (block_in f)) ≡ 0) × (x ≡ accepted_reading (block_in f)) = reading_facts (block_in f) x p in
      let fy : (first (read_tests (block_in b)) ≡ 0) × (y ≡ accepted_reading (block_in b)) = reading_facts (block_in b) y q in
      let g : BlockFields = fields_of (block_in f) in
      let j : BlockFields = fields_of (block_in b) in
      let sp : Bool = same (pool_of (block_in f)) (pool_of (block_in b)) in
      let su : Bool = same (blockdev_of (block_in f)) (blockdev_of (block_in b)) in
      let wf : Bool = whole f g (newest g) in
      let wb : Bool = whole b j (newest j) in
      let st : Bool = same_time (time_of (held_in f)) (time_of (held_in b)) in
      let sb : Bool = same (record_in f) (record_in b) in
      let a : ((same_device g j && (sp && su)) && (wf && (wb && (st && sb)))) ≡ true = sym (ap₂ (λ (r s : Reading). in_step_of (Ok r) (Ok s) f b) fx.1 fy.1) ∙ h in
      let i : (same_device g j && (sp && su)) ≡ true = and_left (same_device g j && (sp && su)) (wf && (wb && (st && sb))) a in
      let uu : (sp && su) ≡ true = and_right (same_device g j) (sp && su) i in
      let s1 : (wf && (wb && (st && sb))) ≡ true = and_right (same_device g j && (sp && su)) (wf && (wb && (st && sb))) a in
      let s2 : (wb && (st && sb)) ≡ true = and_right wf (wb && (st && sb)) s1 in
      let s3 : (st && sb) ≡ true = and_right wb (st && sb) s2 in
      record {
        sizes = z;
        device = same_device_facts g j (and_left (same_device g j) (sp && su) i);
        accepted = each (λ (w : Side). first (read_tests (block_in (c w))) ≡ 0) fx.0 fy.0;
        newest-whole =
            each (λ (w : Side). whole (c w) (fields_of (block_in (c w))) (newest (fields_of (block_in (c w)))) ≡ true) (and_left wf (wb && (st && sb)) s1) (and_left wb (st && sb) s2);
        pool = each (λ (w : Side). pool_of (block_in (c w)) ≡ pool_of (block_in f)) refl (sym (same_equal (pool_of (block_in f)) (pool_of (block_in b)) (and_left sp su uu)));
        blockdev = each (λ (w : Side). blockdev_of (block_in (c w)) ≡ blockdev_of (block_in f)) refl (sym (same_equal (blockdev_of (block_in f)) (blockdev_of (block_in b)) (and_right sp su uu)));
        times = each (λ (w : Side). time_of (held_in (c w)) ≡ time_of (held_in f)) refl (sym (same_time_is (time_of (held_in f)) (time_of (held_in b)) (and_left st sb s3)));
        records = each (λ (w : Side). record_in (c w) ≡ record_in f) refl (sym (same_equal (record_in f) (record_in b) (and_right st sb s3)));
      }

  pub in_step_facts : is_in_step f b ≡ true → Stepped c
  unfolding is_in_step
  in_step_facts h =
      by_readings (and_left (sized f b) _ h) (reading_in f) (reading_in b) refl refl (and_right (sized f b) (in_step_of (reading_in f) (reading_in b) f b) h)

-- and back: two copies of one device that hold the same record are in step
module _ {f b : List ℕ} {g j : BlockFields} {p u : List ℕ} {x y : Area} {h k : Holding} {r : List ℕ} (m : Holds f g p u x h r) (n : Holds b j p u y k r)
    (z : sized f b ≡ true) (one : same_device g j ≡ true) (t : same_time (time_of h) (time_of k) ≡ true) where
  pub held-in_step : is_in_step f b ≡ true
  unfolding is_in_step
  held-in_step =
      and_both (sized f b) _ z
      (ap₂ (λ (a c : Result Reading Reason). in_step_of a c f b) m.reads n.reads
      ∙ and_both (same_device g j && (same p p && same u u)) (stepped f g b j)
      (and_both (same_device g j) (same p p && same u u) one (and_both (same p p) (same u u) (same_refl p) (same_refl u)))
      (and_both (whole f g (newest g)) _ (ap (whole f g) m.area ∙ its_whole m)
      (and_both (whole b j (newest j)) _ (ap (whole b j) n.area ∙ its_whole n) agreed)))
    where
      held : (a : BlockFields) (q : Area) (w : Holding) → newest a ≡ q → entry_in a q ≡ Some w → holding_of (entry_in a (newest a)) ≡ w
      held a q w c d = ap (λ (v : Area). holding_of (entry_in a v)) c ∙ ap holding_of d

      agreed : agree f b (record_at (newest g) (holding_of (entry_in g (newest g)))) (record_at (newest j) (holding_of (entry_in j (newest j)))) ≡ true
      agreed =
          ap₂ (λ (a c : Area). agree f b (record_at a (holding_of (entry_in g (newest g)))) (record_at c (holding_of (entry_in j (newest j))))) m.area n.area
          ∙ (ap₂ (λ (a c : Holding). agree f b (record_at x a) (record_at y c)) (held g x h m.area m.entry) (held j y k n.area n.entry)
          ∙ and_both (same_time (time_of h) (time_of k)) _ t
          (equal_same (area_bytes f x h.bytes) (area_bytes b y k.bytes) (m.bytes ∙ sym n.bytes)))
