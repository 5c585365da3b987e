-- A caller that keeps the two copies in memory and applies each store to them as it goes, as the C header's example does. `proofs/InMemory.antt`
-- proves `Updating` and `Mending`.
use Rattle.std.specs.Prelude.{ℕ, ◌≤◌, ◌<◌, ◌≡◌, List, length, Result, Ok}
use Rattle.refusal.specs.declared.Reason.{Reason}
use Rattle.layout.specs.declared.Device.{Device}
use Rattle.layout.specs.declared.Side.{Side}
use Rattle.layout.specs.declared.Side.TheVariants.{Front, Back}
use Rattle.block.specs.declared.Time.{Time}
use Rattle.crash.specs.Crash.{Sectors, Groups, stores, store_in, landed, copy_from}
use Rattle.stores.specs.States.{InStepOn, Answered}
use Rattle.update.specs.Plan as Update
use Rattle.update.specs.Demand as UpdateDemand
use Rattle.mend.specs.Plan as Mend
use Rattle.mend.specs.Demand as MendDemand
use Rattle.sectors.specs.Apply.{applied_first}

-- a side's copy in memory, read from the device before the first store, after i of the stores of gs were applied
abbrev pub held : Device → Sectors → Groups → ℕ → Side → List ℕ
held v d gs i w = applied_first v (store_in gs) i (copy_from Front v d) (copy_from Back v d) w

-- Of the stores of gs, asked for with those copies: however many were applied, the copies are what reading the device gives on which as many have
-- landed; each store is then given with its sector and its 512 bytes; and after the last the copies are in step on the record r with its time t.
pub record Along (v : Device) (d : Sectors) (gs : Groups) (answer : List ℕ → List ℕ → ℕ → List ℕ → Result ℕ Reason) (bytes : List ℕ → List ℕ → ℕ → List ℕ → List ℕ)
    (t : Time) (r : List ℕ) : Type 0 where
  pub reads : (i : ℕ) → i ≤ length (stores gs) → (w : Side) → held v d gs i w ≡ copy_from w v (landed (store_in gs) i d)
  pub given : (i : ℕ) (out : List ℕ) → i < length (stores gs) → length out ≡ 512
      → (answer (held v d gs i Front) (held v d gs i Back) i out ≡ Ok (store_in gs i).sector)
      × (bytes (held v d gs i Front) (held v d gs i Back) i out ≡ (store_in gs i).content)
  pub in_step : InStepOn (held v d gs (length (stores gs)) Front) (held v d gs (length (stores gs)) Back) t r

-- Of every update that demand 3 speaks of, with the plan that was worked out from the copies as they were.
abbrev pub Updating : Type 0
Updating =
    (v : Device) (d : Sectors) (u : Time) (q : List ℕ) (t : Time) (r : List ℕ) → UpdateDemand.Start v d u q t r
    → Along v d (UpdateDemand.groups_on v d t r) (λ (f b : List ℕ) (i : ℕ) (out : List ℕ). Update.store_answer (UpdateDemand.plan_on v d t r) f b r i out)
    (λ (f b : List ℕ) (i : ℕ) (out : List ℕ). Update.store_bytes (UpdateDemand.plan_on v d t r) f b r i out) t r

-- Of every mend.
abbrev pub Mending : Type 0
Mending =
    (v : Device) (d : Sectors) (t : Time) (r : List ℕ) → Answered v d t r
    → Along v d (MendDemand.groups_on v d) (λ (f b : List ℕ) (i : ℕ) (out : List ℕ). Mend.store_answer (Mend.mending (copy_from Front v d) (copy_from Back v d)) f b i out)
    (λ (f b : List ℕ) (i : ℕ) (out : List ℕ). Mend.store_bytes (Mend.mending (copy_from Front v d) (copy_from Back v d)) f b i out) t r
