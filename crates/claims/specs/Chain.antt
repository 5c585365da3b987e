-- Formatting, updates, cuts and mends, one after the other, from the crates' own claims alone: what one leaves is what the next may
-- start from. `proofs/Chain.antt` proves `Cutting`, `Onward`, `Landing` and `Chain`.
use Rattle.std.specs.Prelude.{ℕ, suc, ◌^◌, ◌≤◌, ◌<◌, ◌≡◌, true, List, length}
use Rattle.layout.specs.declared.Device.{Device}
use Rattle.layout.specs.Limits.{most_nanoseconds}
use Rattle.block.specs.declared.Time.{Time}
use Rattle.block.specs.Entry.{later_than}
use Rattle.record.specs.Demand.{RightBytes}
use Rattle.crash.specs.Crash.{Sectors, Sound, Groups, put, stores, store_in, group_start, CutIn, all_landed}
use Rattle.stores.specs.States.{Ready, before, Excused}
use Rattle.update.specs.Demand.{Start, FrontNew, groups_on}
use Rattle.mend.specs.Demand.{after}

-- every store has 512 bytes
abbrev pub AllSized : Groups → Type 0
AllSized gs = (i : ℕ) → i < length (stores gs) → length (store_in gs i).content ≡ 512

-- What demand 3 asks of a cut is met, and what is asked of one in formatting: in every group of stores of 512 bytes there are cuts without the exception, one that leaves the device as
-- before the group and one that leaves it as after the group; and one with any 512 bytes w in any sector that the group stores to, which
-- may be the exception.
pub record Cuts (v : Device) (gs : Groups) (g : ℕ) (d : Sectors) : Type 0 where
  pub none : CutIn gs g d (before gs g d) × (Excused v gs g d (before gs g d) → ⊥)
  pub all : CutIn gs g d (before gs (suc g) d) × (Excused v gs g d (before gs (suc g) d) → ⊥)
  pub wild : (i : ℕ) (w : List ℕ) → group_start gs g ≤ i → i < group_start gs (suc g) → length w ≡ 512
      → CutIn gs g d (put (before gs g d) (record { sector = (store_in gs i).sector; content = w }))

abbrev pub Cutting : Type 0
Cutting = (v : Device) (gs : Groups) (g : ℕ) (d : Sectors) → Sound d → AllSized gs → Cuts v gs g d

-- every later update that the format does not refuse may start: a time within its limit, later than u, and a record that is right
abbrev pub Starts : Device → Sectors → Time → List ℕ → Type 0
Starts v d u q =
    (t : Time) (r : List ℕ) → t.seconds < 2 ^ 64 → t.nanoseconds ≤ most_nanoseconds → later_than t u ≡ true → RightBytes v r → Start v d u q t r

-- It may from copies in step, such as formatting leaves (`format`'s `Starting` and `Possible`).
abbrev pub Onward : Type 0
Onward = (v : Device) (d : Sectors) (u : Time) (q : List ℕ) → Ready v d u q → Starts v d u q

-- All stores of an update landed: the copies are in step on its record with its time, and the next update may start.
abbrev pub Landing : Type 0
Landing =
    (v : Device) (d : Sectors) (u : Time) (q : List ℕ) (t : Time) (r : List ℕ) → Start v d u q t r
    → Ready v (all_landed (groups_on v d t r) d) t r × Starts v (all_landed (groups_on v d t r) d) t r

-- An update, a cut anywhere in it or after it, then a mend: the copies are in step on the new record exactly when the front signature
-- block stood in its new version, and otherwise on the old one, and the next update may start.
abbrev pub Chain : Type 0
Chain =
    (v : Device) (d : Sectors) (u : Time) (q : List ℕ) (t : Time) (r : List ℕ) → Start v d u q t r
    → (e : Sectors) (g : ℕ) → CutIn (groups_on v d t r) g d e → (Excused v (groups_on v d t r) g d e → ⊥)
    → (FrontNew v d e t r → Ready v (after v e) t r × Starts v (after v e) t r)
    × ((FrontNew v d e t r → ⊥) → Ready v (after v e) u q × Starts v (after v e) u q)
