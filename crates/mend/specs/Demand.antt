-- What mending promises: `proofs/Demand.antt` proves `Serving`, `Mended`, `Counting`, `Rewriting`, `Touching` and `Going`, `proofs/Giving.antt`
-- `Giving`, `proofs/Answering.antt` `Answering`, `proofs/Refusing.antt` `Refusing`, `proofs/Lying.antt` `Within`. The states of a device are those that demand 3 speaks of: a mend serves what a cut in an update leaves, and leaves what every update may start
-- from. What a cut in a mend leaves is request [7].
use Rattle.std.specs.Prelude.{ℕ, suc, ◌+◌, ◌≤◌, ◌<◌, ◌≡◌, ◌⊎◌, ◌↔◌, true, false, List, [], length, Option, Some, None, Result, Ok, Err}
use Rattle.refusal.specs.declared.Reason.{Reason}
use Rattle.refusal.specs.Numbers.{no_such_store}
use Rattle.refusal.specs.Reasons.{reason}
use Rattle.layout.specs.declared.Device.{Device}
use Rattle.layout.specs.declared.Side.{Side}
use Rattle.layout.specs.declared.Side.TheVariants.{Front, Back}
use Rattle.layout.specs.declared.Area.{Area}
use Rattle.layout.specs.declared.Area.TheVariants.{A}
use Rattle.layout.specs.Places.{block_sector, area_sector}
use Rattle.block.specs.declared.Time.{Time}
use Rattle.block.specs.declared.Holding.{Holding}
use Rattle.block.specs.declared.BlockFields.{BlockFields}
use Rattle.block.specs.Block.{pool_of, blockdev_of, fields_of, reading}
use Rattle.copy.specs.Copy.{block_in, other_side, device_in}
use Rattle.copy.specs.Demand.{WholeArea, LaterEntry}
use Rattle.discovery.specs.declared.Finding.{Finding}
use Rattle.discovery.specs.Discovery.{found_with, sized, discovery, is_in_step, copy_on, record_bytes}
use Rattle.discovery.specs.Newest.{time_at}
use Rattle.crash.specs.Crash.{Sectors, Sound, Store, Groups, stores, store_in, group_start, landed, all_landed, copy_from}
use Rattle.stores.specs.Stores.{sectors_of, sector_of, holding_for, with_entry}
use Rattle.stores.specs.States.{Ready, Answered, Lies, AllFit}
use Rattle.mend.specs.declared.Rewrite.{Rewrite}
use Rattle.mend.specs.Mend.{later_whole, mend_groups}
use Rattle.mend.specs.Plan.{mending, stores_in, group_of, flush_after, store_answer, store_bytes}

-- the groups of a mend of the device's copies, and the device after all of its stores
abbrev pub groups_on : Device → Sectors → Groups
groups_on v d = mend_groups (copy_from Front v d) (copy_from Back v d)

abbrev pub after : Device → Sectors → Sectors
after v d = all_landed (groups_on v d) d

-- Any state that discovery answers, from a copy that is where its own S and L place it, is one that mending serves.
abbrev pub Serving : Type 0
Serving =
    (v : Device) (d : Sectors) (q : Finding) (o : Result BlockFields Reason) → Sound d
    → discovery (copy_from Front v d) (copy_from Back v d) ≡ found_with q o
    → device_in (copy_from q.side v d) ≡ v → Answered v d (time_at q) (record_bytes q (copy_from Front v d) (copy_from Back v d))

-- All stores landed: the copies are in step on the same record with its time. The stores go only where they belong.
abbrev pub Mended : Type 0
Mended = (v : Device) (d : Sectors) (t : Time) (r : List ℕ) → Answered v d t r → Ready v (after v d) t r × AllFit v (groups_on v d)

-- how many stores there are: none where the copies are in step, and every update may start then; else k + 2, and one more exactly where the
-- later entry of the copy with the found record q is not whole
pub record Counts (v : Device) (d : Sectors) (t : Time) (r : List ℕ) (q : Finding) : Type 0 where
  pub in_step : is_in_step (copy_from Front v d) (copy_from Back v d) ≡ true → (groups_on v d ≡ []) × Ready v d t r
  pub whole : is_in_step (copy_from Front v d) (copy_from Back v d) ≡ false → later_whole (copy_from q.side v d) ≡ true
      → length (stores (groups_on v d)) ≡ sectors_of (length r) + 2
  pub torn : is_in_step (copy_from Front v d) (copy_from Back v d) ≡ false → later_whole (copy_from q.side v d) ≡ false
      → length (stores (groups_on v d)) ≡ sectors_of (length r) + 3

abbrev pub Counting : Type 0
Counting = (v : Device) (d : Sectors) (t : Time) (r : List ℕ) (a : Answered v d t r) → Counts v d t r a.gives.found

-- a store that is a signature block for side w: its sector, and what reading its bytes answers: these numbers, and the UUIDs of the copy c
pub record BlockFor (v : Device) (w : Side) (g : BlockFields) (c : List ℕ) (s : Store) : Type 0 where
  pub place : s.sector ≡ block_sector w v
  pub reads : reading s.content ≡ Ok (record { fields = g; pool = pool_of (block_in c); blockdev = blockdev_of (block_in c) })

-- The groups of a mend that keeps the copy c of side w, with its present record r and time t, in their order: the other copy's block with
-- both entries unused; the record in its area a; its block with the record's entry; and only where the kept copy's later entry is not
-- whole, the kept block with that entry unused.
pub record Rewrites (v : Device) (w : Side) (c : List ℕ) (t : Time) (r : List ℕ) (gs : Groups) : Type 0 where
  pub second : group_start gs 1 ≡ 1
  pub third : group_start gs 2 ≡ sectors_of (length r) + 1
  pub fourth : group_start gs 3 ≡ sectors_of (length r) + 2
  pub empty : BlockFor v (other_side w) (record { device = v; a = None; b = None }) c (store_in gs 0)
  pub filled : (j : ℕ) → j < sectors_of (length r) → store_in gs (suc j) ≡ record { sector = area_sector (other_side w) A v + j; content = sector_of r j }
  pub entry : BlockFor v (other_side w) (record { device = v; a = Some (holding_for t r); b = None }) c (store_in gs (suc (sectors_of (length r))))
  pub whole : (y : Area) (h : Holding) → LaterEntry c y h → WholeArea c y h → length (stores gs) ≡ sectors_of (length r) + 2
  pub torn : (y : Area) (h : Holding) → LaterEntry c y h → (WholeArea c y h → ⊥)
      → (length (stores gs) ≡ sectors_of (length r) + 3)
      × BlockFor v w (with_entry (fields_of (block_in c)) y None) c (store_in gs (suc (suc (sectors_of (length r)))))

abbrev pub Rewriting : Type 0
Rewriting =
    (v : Device) (d : Sectors) (t : Time) (r : List ℕ) (a : Answered v d t r) → is_in_step (copy_from Front v d) (copy_from Back v d) ≡ false
    → Rewrites v a.gives.found.side (copy_from a.gives.found.side v d) t r (groups_on v d)

-- where a store of a mend that keeps the copy with the found record q goes: to the other copy's signature block, to a sector of its
-- area a that the record fills, or, the last one, with number k + 2, to the kept block
abbrev pub Goes : Device → Finding → Groups → ℕ → Type 0
Goes v q gs i =
    ((store_in gs i).sector ≡ block_sector (other_side q.side) v)
    ⊎ (((j : ℕ) × (j < sectors_of q.bytes) × ((store_in gs i).sector ≡ area_sector (other_side q.side) A v + j))
    ⊎ ((i ≡ sectors_of q.bytes + 2) × ((store_in gs i).sector ≡ block_sector q.side v)))

abbrev pub Touching : Type 0
Touching =
    (v : Device) (d : Sectors) (t : Time) (r : List ℕ) (a : Answered v d t r) (i : ℕ) → i < length (stores (groups_on v d))
    → Goes v a.gives.found (groups_on v d) i

-- What `work_out` answers of any two copies: a refusal exactly where discovery refuses, with its number; nothing to store exactly where they
-- are in step; something exactly where discovery answers and they are not.
pub record MendAnswers (f b : List ℕ) (m : Result (Option Rewrite) Reason) : Type 0 where
  pub refused : (r : Reason) → (m ≡ Err r ↔ discovery f b ≡ Err r)
  pub in_step : m ≡ Ok None ↔ is_in_step f b ≡ true
  pub needed : ((p : Rewrite) × (m ≡ Ok (Some p)))
      ↔ ((q : Finding) × (o : Result BlockFields Reason) × (discovery f b ≡ found_with q o) × (is_in_step f b ≡ false))

abbrev pub Answering : Type 0
Answering = (f b : List ℕ) → MendAnswers f b (mending f b)

-- What the calls give of a mend m is what the groups gs have: the count is the length of the list of stores, each store is in its group,
-- a flush belongs exactly after the last store of each group, each store is given with its sector and its 512 bytes; past the last there
-- is none of copies by their size, no group, and no flush.
pub record MendGives (f b : List ℕ) (m : Result (Option Rewrite) Reason) (gs : Groups) : Type 0 where
  pub count : stores_in m ≡ length (stores gs)
  pub grouped : (g i : ℕ) → g < 4 → group_start gs g ≤ i → i < group_start gs (suc g) → group_of m i ≡ g
  pub no_group : (i : ℕ) → length (stores gs) ≤ i → group_of m i ≡ 4
  pub flush : (g i : ℕ) → g < 4 → group_start gs g ≤ i → i < group_start gs (suc g) → (flush_after m i ≡ true ↔ suc i ≡ group_start gs (suc g))
  pub no_flush : (i : ℕ) → length (stores gs) ≤ i → flush_after m i ≡ false
  pub store : (i : ℕ) (out : List ℕ) → i < length (stores gs) → length out ≡ 512
      → (store_answer m f b i out ≡ Ok (store_in gs i).sector) × (store_bytes m f b i out ≡ (store_in gs i).content)
  pub no_store : (i : ℕ) (out : List ℕ) → length (stores gs) ≤ i → sized f b ≡ true → length out ≡ 512
      → (store_answer m f b i out ≡ Err (reason no_such_store)) × (store_bytes m f b i out ≡ out)

-- Of any two copies.
abbrev pub Giving : Type 0
Giving = (f b : List ℕ) → MendGives f b (mending f b) (mend_groups f b)

-- store i of a mend m, of the device's copies with the first j stores of the groups gs applied to them
abbrev pub GivenAfter : Device → Sectors → Result (Option Rewrite) Reason → Groups → ℕ → ℕ → List ℕ → Type 0
GivenAfter v d m gs j i out =
    (store_answer m (copy_from Front v (landed (store_in gs) j d)) (copy_from Back v (landed (store_in gs) j d)) i out ≡ Ok (store_in gs i).sector)
    × (store_bytes m (copy_from Front v (landed (store_in gs) j d)) (copy_from Back v (landed (store_in gs) j d)) i out ≡ (store_in gs i).content)

-- the same past the last store: there is none
abbrev pub NoneAfter : Device → Sectors → Result (Option Rewrite) Reason → Groups → ℕ → ℕ → List ℕ → Type 0
NoneAfter v d m gs j i out =
    (store_answer m (copy_from Front v (landed (store_in gs) j d)) (copy_from Back v (landed (store_in gs) j d)) i out ≡ Err (reason no_such_store))
    × (store_bytes m (copy_from Front v (landed (store_in gs) j d)) (copy_from Back v (landed (store_in gs) j d)) i out ≡ out)

-- A caller may apply each store to its copies as it goes: a mend worked out from the copies as they were gives store i with its sector and
-- its 512 bytes also of copies to which stores with lower numbers were applied; and past the last there is none, also with all of them
-- applied.
pub record GoesOn (v : Device) (d : Sectors) (m : Result (Option Rewrite) Reason) (gs : Groups) : Type 0 where
  pub store : (i j : ℕ) (out : List ℕ) → j ≤ i → i < length (stores gs) → length out ≡ 512 → GivenAfter v d m gs j i out
  pub no_store : (i j : ℕ) (out : List ℕ) → j ≤ length (stores gs) → length (stores gs) ≤ i → length out ≡ 512 → NoneAfter v d m gs j i out

abbrev pub Going : Type 0
Going =
    (v : Device) (d : Sectors) (t : Time) (r : List ℕ) → Answered v d t r → GoesOn v d (mending (copy_from Front v d) (copy_from Back v d)) (groups_on v d)

-- Wherever a store is given, of any mend and any copies, made up or not, there is something to store, and it goes on the device that the
-- kept copy says it is of to a signature block's sector or to one of those of an area that a record can fill: on the other side, and only
-- past number k + 1 on the kept one.
abbrev pub Within : Type 0
Within =
    (m : Result (Option Rewrite) Reason) (f b : List ℕ) (i : ℕ) (out : List ℕ) (s : ℕ) → store_answer m f b i out ≡ Ok s
    → (p : Rewrite)
    × ((m ≡ Ok (Some p))
    × ((i ≤ sectors_of p.bytes + 1 → Lies (other_side p.kept) (device_in (copy_on p.kept f b)) s)
    × (sectors_of p.bytes + 1 < i → Lies p.kept (device_in (copy_on p.kept f b)) s)))

-- A refused store changes no lent byte, of any mend, made up or not.
abbrev pub Refusing : Type 0
Refusing = (m : Result (Option Rewrite) Reason) (f b : List ℕ) (i : ℕ) (out : List ℕ) (r : Reason) → store_answer m f b i out ≡ Err r → store_bytes m f b i out ≡ out
