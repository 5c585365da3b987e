-- A record's head moved up or back, or given another mark, and stored as an update: demand 3 speaks of it as of every other. `proofs/Heads.antt`
-- proves `MovedOn` and `SegmentsKept`.
use Rattle.std.specs.Prelude.{ℕ, ◌^◌, ◌≤◌, ◌<◌, ◌≡◌, ◌⊎◌, true, List}
use Rattle.layout.specs.declared.Device.{Device}
use Rattle.layout.specs.Limits.{most_nanoseconds}
use Rattle.block.specs.declared.Time.{Time}
use Rattle.block.specs.Entry.{later_than}
use Rattle.items.specs.Head.{head_of, block_size}
use Rattle.items.specs.Items.{segments}
use Rattle.heads.specs.declared.Change.{Change}
use Rattle.heads.specs.Demand.{Moved}
use Rattle.crash.specs.Crash.{Sectors, CutIn}
use Rattle.stores.specs.States.{Ready, Answered, Excused}
use Rattle.update.specs.Demand.{Start, groups_on}

-- From copies in step on the record q, of either head: the record r that a change of its head gives may be the record of an update, at every later
-- time.
abbrev pub MovedOn : Type 0
MovedOn =
    (v : Device) (d : Sectors) (u : Time) (q : List ℕ) → Ready v d u q → (c : Change) (out : List ℕ) (n : ℕ) (r : List ℕ) → Moved v q c out n r
    → (t : Time) → t.seconds < 2 ^ 64 → t.nanoseconds ≤ most_nanoseconds → later_than t u ≡ true → Start v d u q t r

-- The record p with its time w, which discovery gives, is q with u or r with t, and has the segments and the block size of q.
pub record Kept (v : Device) (e : Sectors) (u : Time) (q : List ℕ) (t : Time) (r : List ℕ) (w : Time) (p : List ℕ) : Type 0 where
  pub found : Answered v e w p
  pub which : ((w ≡ u) × (p ≡ q)) ⊎ ((w ≡ t) × (p ≡ r))
  pub same : segments p ≡ segments q
  pub block : block_size (head_of p) ≡ block_size (head_of q)

-- A cut in that update loses no segment. Whatever it leaves, but for demand 3's exception, discovery gives such a record.
abbrev pub SegmentsKept : Type 0
SegmentsKept =
    (v : Device) (d : Sectors) (u : Time) (q : List ℕ) (t : Time) (r : List ℕ) → Start v d u q t r
    → (c : Change) (out : List ℕ) (n : ℕ) → Moved v q c out n r
    → (e : Sectors) (g : ℕ) → CutIn (groups_on v d t r) g d e → (Excused v (groups_on v d t r) g d e → ⊥)
    → (w : Time) × ((p : List ℕ) × (Kept v e u q t r w p))
