-- Copies in memory follow the device.
use Prim.Native.Nat.{ℕ, ◌≤◌, ◌<◌}
use mathlib.Core.Path.{◌≡◌, sym, ap, ap₂, subst, ◌∙◌}
use mathlib.Core.List.{List}
use native.Mathlib.Nat.{le_refl}
use native.Mathlib.Omega.{arith}
use lib.ListN.{length}
use Rattle.refusal.specs.Tests.{first, AllHold}
use Rattle.refusal.proofs.Order.{first-zero, first_all}
use Rattle.layout.specs.declared.Device.{Device}
use Rattle.layout.specs.declared.Side.{Side}
use Rattle.layout.specs.declared.Side.TheVariants.{Front, Back}
use Rattle.layout.specs.Limits.{device_tests}
use Rattle.block.specs.declared.Time.{Time}
use Rattle.block.specs.Block.{device_of, read_tests}
use Rattle.block.proofs.Readings.{ascending}
use Rattle.copy.specs.Copy.{block_in}
use Rattle.discovery.specs.Discovery.{copy_on}
use Rattle.crash.specs.Crash.{Sectors, Sound, Groups, stores, store_in, landed, copy_from, all_landed}
use Rattle.std.specs.Prelude.{Result, Ok}
use Rattle.refusal.specs.declared.Reason.{Reason}
use Rattle.stores.specs.States.{InStepOn, AllFit}
use Rattle.stores.proofs.InStep.{in_step_facts}
use Rattle.update.specs.Demand as UpdateDemand
use Rattle.update.proofs.Demand as Updates
use Rattle.mend.specs.Demand as MendDemand
use Rattle.mend.proofs.Kept.{kept}
use Rattle.mend.proofs.Demand as Mends
use Rattle.sectors.proofs.Applying.{following}
use Rattle.claims.specs.InMemory.{held, Along, Updating, Mending}
use Rattle.claims.proofs.Chain.{landing}

-- the device numbers of an accepted block are allowed
numbers-allowed : (s : List ℕ) → first (read_tests s) ≡ 0 → first (device_tests (device_of s)) ≡ 0
numbers-allowed s e =
    let a : AllHold (read_tests s) = first-zero 0 (read_tests s) (ascending s) e in
    first_all (device_tests (device_of s)) (a.1.1.1.0, (a.1.1.1.1.1.1.0, (a.1.1.1.1.1.1.1.0, tt)))

module _ (v : Device) (d : Sectors) (gs : Groups) (s : Sound d) (fit : AllFit v gs) (ok : first (device_tests v) ≡ 0) where
  follows : (i : ℕ) → i ≤ length (stores gs) → (w : Side) → held v d gs i w ≡ copy_from w v (landed (store_in gs) i d)
  follows i l w = (following v d (store_in gs) i ok s (λ j m. (fit j (omega arith)).size)).leaves w

  module _ (answer : List ℕ → List ℕ → ℕ → List ℕ → Result ℕ Reason) (bytes : List ℕ → List ℕ → ℕ → List ℕ → List ℕ) (t : Time) (r : List ℕ)
      (given : (i : ℕ) (out : List ℕ) → i < length (stores gs) → length out ≡ 512
      → (answer (copy_from Front v (landed (store_in gs) i d)) (copy_from Back v (landed (store_in gs) i d)) i out ≡ Ok (store_in gs i).sector)
      × (bytes (copy_from Front v (landed (store_in gs) i d)) (copy_from Back v (landed (store_in gs) i d)) i out ≡ (store_in gs i).content))
      (after : InStepOn (copy_from Front v (all_landed gs d)) (copy_from Back v (all_landed gs d)) t r) where
    along : Along v d gs answer bytes t r
    along =
        record {
          reads = follows;
          given = λ i out l room. (
            ap₂ (λ (f b : List ℕ). answer f b i out) (follows i (omega arith) Front) (follows i (omega arith) Back) ∙ (given i out l room).0,
            ap₂ (λ (f b : List ℕ). bytes f b i out) (follows i (omega arith) Front) (follows i (omega arith) Back) ∙ (given i out l room).1,
          );
          in_step =
              subst (λ (f : List ℕ). InStepOn f (held v d gs (length (stores gs)) Back) t r) (sym (follows (length (stores gs)) (le_refl _) Front))
              (subst (λ (b : List ℕ). InStepOn (copy_from Front v (all_landed gs d)) b t r) (sym (follows (length (stores gs)) (le_refl _) Back)) after);
        }

pub updating : Updating
updating v d u q t r st =
    let both : Side → List ℕ = λ (w : Side). copy_from w v d in
    let ok : first (device_tests v) ≡ 0 =
    ap (λ (z : Device). first (device_tests z)) (sym (st.ready.says Front))
    ∙ numbers-allowed (block_in (copy_from Front v d)) ((in_step_facts (λ (w : Side). copy_from w v d) st.ready.in_step.0).accepted Front) in
    along v d (UpdateDemand.groups_on v d t r) st.ready.sound (Updates.demand3 v d u q t r st).0 ok _ _ t r
    (λ i out l room. (Updates.giving v d u q t r st).store i i out (le_refl i) l room) (landing v d u q t r st).0.in_step

pub mending : Mending
mending v d t r a =
    let ok : first (device_tests v) ≡ 0 =
    ap (λ (z : Device). first (device_tests z)) (sym a.says)
    ∙ numbers-allowed (block_in (copy_from a.gives.found.side v d)) (accepted a.gives.found.side (kept (copy_from Front v d) (copy_from Back v d) a.gives.found a.gives.other a.gives.answers).accepted) in
    along v d (MendDemand.groups_on v d) a.sound (Mends.mended v d t r a).1 ok _ _ t r
    (λ i out l room. (Mends.going v d t r a).store i i out (le_refl i) l room) (Mends.mended v d t r a).0.in_step
  where
    accepted : (w : Side) → first (read_tests (block_in (copy_on w (copy_from Front v d) (copy_from Back v d)))) ≡ 0 → first (read_tests (block_in (copy_from w v d))) ≡ 0
    accepted Front h = h
    accepted Back h = h
