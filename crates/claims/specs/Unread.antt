-- What is stored does not depend on sectors that could not be read and that do not matter. `proofs/Unread.antt` proves `StoredAlike` and
-- `SureStored`.
use Rattle.std.specs.Prelude.{ℕ, ◌≡◌, true, List}
use Rattle.refusal.specs.Tests.{first}
use Rattle.layout.specs.declared.Device.{Device}
use Rattle.layout.specs.declared.Side.TheVariants.{Front, Back}
use Rattle.layout.specs.Limits.{device_tests}
use Rattle.block.specs.declared.Time.{Time}
use Rattle.crash.specs.Crash.{Sectors, Sound, copy_from}
use Rattle.update.specs.declared.Plan.{Plan}
use Rattle.update.specs.Update.{update_groups}
use Rattle.update.specs.Plan.{planned}
use Rattle.update.specs.Plan as Update
use Rattle.mend.specs.Mend.{mend_groups}
use Rattle.mend.specs.Plan.{mending}
use Rattle.mend.specs.Plan as Mend
use Rattle.sectors.specs.Sectors.{settled}
use Rattle.sectors.specs.Demand.{Agree, ReadFrom}

-- what a mend and an update store: both are worked out the same, and each store by its number is to the same sector, with the same
-- bytes; and so are the groups of stores that a cut speaks of
pub record SameStores (f b g k : List ℕ) : Type 0 where
  pub mends : mending g k ≡ mending f b
  pub mend_place : (i : ℕ) (out : List ℕ) → Mend.store_answer (mending g k) g k i out ≡ Mend.store_answer (mending f b) f b i out
  pub mend_bytes : (i : ℕ) (out : List ℕ) → Mend.store_bytes (mending g k) g k i out ≡ Mend.store_bytes (mending f b) f b i out
  pub mend_groups_lem : mend_groups g k ≡ mend_groups f b
  pub plans : (t : Time) (r : List ℕ) → planned g k t r ≡ planned f b t r
  pub update_place : (p : Plan) (r : List ℕ) (i : ℕ) (out : List ℕ) → Update.store_answer p g k r i out ≡ Update.store_answer p f b r i out
  pub update_bytes : (p : Plan) (r : List ℕ) (i : ℕ) (out : List ℕ) → Update.store_bytes p g k r i out ≡ Update.store_bytes p f b r i out
  pub update_groups_lem : (t : Time) (r : List ℕ) → update_groups g k t r ≡ update_groups f b t r

-- Whatever the marked sectors of two copies hold, what is stored is the same.
abbrev pub StoredAlike : Type 0
StoredAlike =
    (f b g k fm bm : List ℕ) → Agree fm f g → Agree bm b k → settled f b fm bm ≡ true
    → SameStores f b g k

-- And what is stored is what the device's own copies would have stored.
abbrev pub SureStored : Type 0
SureStored =
    (v : Device) (d : Sectors) (f b fm bm : List ℕ) → first (device_tests v) ≡ 0 → Sound d
    → ReadFrom Front v d fm f → ReadFrom Back v d bm b → settled f b fm bm ≡ true
    → SameStores f b (copy_from Front v d) (copy_from Back v d)
