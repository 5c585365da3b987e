-- What an update promises. `proofs/Allowing.antt` proves `Exactly`, `Ordered` and `Started`, `proofs/Demand.antt` `Demand3`, `Placing` and
-- `Giving`, `proofs/Refusing.antt` `Naming` and `Refusing`, `proofs/Lying.antt` `Within`, `proofs/Changing.antt` `Changing`. That there are copies in step on every allowed device is `format`'s `Possible`.
use Rattle.std.specs.Prelude.{ℕ, suc, ◌+◌, ◌*◌, ◌^◌, ◌≤◌, ◌<◌, ◌≡◌, ◌↔◌, true, false, List, [], ◌∷◌, length, get_or, Result, Ok, Err}
use Rattle.endian.specs.Bytes.{Bytes}
use Rattle.refusal.specs.declared.Reason.{Reason}
use Rattle.refusal.specs.Numbers.{no_such_store}
use Rattle.refusal.specs.Reasons.{reason, refusal_of, refusal_in}
use Rattle.refusal.specs.Tests.{first}
use Rattle.layout.specs.declared.Device.{Device}
use Rattle.layout.specs.declared.Side.{Side}
use Rattle.layout.specs.declared.Side.TheVariants.{Front, Back}
use Rattle.layout.specs.declared.Area.{Area}
use Rattle.layout.specs.declared.Area.TheVariants.{A, B}
use Rattle.layout.specs.Limits.{most_nanoseconds}
use Rattle.layout.specs.Places.{block_sector, area_sector, copy_bytes}
use Rattle.block.specs.declared.Time.{Time}
use Rattle.block.specs.declared.Holding.{Holding}
use Rattle.block.specs.declared.BlockFields.{BlockFields}
use Rattle.block.specs.Entry.{later_than}
use Rattle.block.specs.Accepted.{Accepted}
use Rattle.items.specs.Items.{segments}
use Rattle.record.specs.Accept.{content_tests, named}
use Rattle.segments.specs.Demand.{FirstPair}
use Rattle.record.specs.Demand.{RightBytes}
use Rattle.copy.specs.Copy.{device_in, block_in, other_area, present_at, copy_reading}
use Rattle.copy.specs.Demand.{present_in}
use Rattle.discovery.specs.declared.Finding.{Finding}
use Rattle.discovery.specs.Discovery.{found_with, discovery, is_in_step, copy_on}
use Rattle.crash.specs.Crash.{Sectors, Sound, Groups, stores, store_in, group_start, landed, CutIn, copy_from}
use Rattle.stores.specs.Stores.{sectors_of, sector_of}
use Rattle.stores.specs.States.{Presents, Gives, Ready, Answered, Excused, Lies, AllFit}
use Rattle.update.specs.declared.Plan.{Plan}
use Rattle.update.specs.Update.{update_number, spare, new_block, update_groups}
use Rattle.update.specs.Answers.{planned_values}
use Rattle.update.specs.Plan.{plan_of, planned, sectors_in, stores_in, group_of, flush_after, store_answer, store_bytes}

-- An update that the format does not refuse, in plain words: two copies, which discovery answers and which are in step; a time within
-- its limit, later than the present record's; and a record that is right on the device that the copies are of.
pub record Allowed (f b : List ℕ) (t : Time) (r : List ℕ) : Type 0 where
  pub front-copy : length f ≡ copy_bytes
  pub back-copy : length b ≡ copy_bytes
  pub found : Finding
  pub other : Result BlockFields Reason
  pub answers : discovery f b ≡ found_with found other
  pub in_step : is_in_step f b ≡ true
  pub nanoseconds : t.nanoseconds ≤ most_nanoseconds
  pub old : Time
  pub old_record : List ℕ
  pub presents : (s : Side) → Presents (copy_on s f b) old old_record
  pub later : later_than t old ≡ true
  pub right : RightBytes (device_in f) r

-- An update's number is 0 exactly then. Elements below 256 are what the machine's types have.
abbrev pub Exactly : Type 0
Exactly =
    (f b : List ℕ) (t : Time) (r : List ℕ) → Bytes r
    → (update_number f b t r ≡ 0 → Allowed f b t r) × (Allowed f b t r → update_number f b t r ≡ 0)

-- Otherwise it is the first that applies in the format's order: discovery's, then 16, then 9 for the nanoseconds of its time, then 14,
-- then the record's own.
pub record InOrder (f b : List ℕ) (t : Time) (r : List ℕ) : Type 0 where
  pub refused : (e : Reason) → discovery f b ≡ Err e → update_number f b t r ≡ (refusal_of e).number
  pub apart : (q : Finding) (o : Result BlockFields Reason) → discovery f b ≡ found_with q o → is_in_step f b ≡ false → update_number f b t r ≡ 16
  pub limit : is_in_step f b ≡ true → most_nanoseconds < t.nanoseconds → update_number f b t r ≡ 9
  pub earlier : is_in_step f b ≡ true → t.nanoseconds ≤ most_nanoseconds → (old : Time) (q : List ℕ) → Presents f old q → later_than t old ≡ false
      → update_number f b t r ≡ 14
  pub content : is_in_step f b ≡ true → t.nanoseconds ≤ most_nanoseconds → (old : Time) (q : List ℕ) → Presents f old q → later_than t old ≡ true
      → update_number f b t r ≡ first (content_tests (device_in f) r)

abbrev pub Ordered : Type 0
Ordered = (f b : List ℕ) (t : Time) (r : List ℕ) → InOrder f b t r

-- 19 is of the new record: two of its segments share a sector, and the two that clash stand beside it.
abbrev pub Naming : Type 0
Naming =
    (f b : List ℕ) (t : Time) (r : List ℕ) → update_number f b t r ≡ 19
    → FirstPair (segments r) (refusal_in (planned f b t r)).first (refusal_in (planned f b t r)).second

-- the start of an update: any two copies in step on a record q with its time u, and any update that is not refused
pub record Start (v : Device) (d : Sectors) (u : Time) (q : List ℕ) (t : Time) (r : List ℕ) : Type 0 where
  pub ready : Ready v d u q
  pub fits : t.seconds < 2 ^ 64
  pub nanoseconds : t.nanoseconds ≤ most_nanoseconds
  pub later : later_than t u ≡ true
  pub right : RightBytes v r

-- Every update of a device's copies that is not refused has such a start, where each copy says its own places.
abbrev pub Started : Type 0
Started =
    (v : Device) (d : Sectors) (t : Time) (r : List ℕ) → Sound d → ((s : Side) → device_in (copy_from s v d) ≡ v) → Bytes r → t.seconds < 2 ^ 64
    → update_number (copy_from Front v d) (copy_from Back v d) t r ≡ 0 → (u : Time) × ((q : List ℕ) × Start v d u q t r)

-- the groups of the update, and its plan
abbrev pub groups_on : Device → Sectors → Time → List ℕ → Groups
groups_on v d t r = update_groups (copy_from Front v d) (copy_from Back v d) t r

abbrev pub plan_on : Device → Sectors → Time → List ℕ → Plan
plan_on v d t r = plan_of (copy_from Front v d) (copy_from Back v d) t r

-- the front signature block stands in its new version
abbrev pub FrontNew : Device → Sectors → Sectors → Time → List ℕ → Type 0
FrontNew v d e t r = e (block_sector Front v) ≡ new_block (copy_from Front v d) t r

-- What a cut in group g leaves: discovery gives the new record with its time exactly when the front signature block stands in its new
-- version, and otherwise the old one; after the last group the two copies are in step on the new one. `Answered` is what a mend asks for,
-- `Ready` what the next update does.
pub record Outcome (v : Device) (d e : Sectors) (u : Time) (q : List ℕ) (t : Time) (r : List ℕ) (g : ℕ) : Type 0 where
  pub new : FrontNew v d e t r → Answered v e t r
  pub only_new : Gives (copy_from Front v e) (copy_from Back v e) t r → FrontNew v d e t r
  pub old : (FrontNew v d e t r → ⊥) → Answered v e u q
  pub landed : 4 ≤ g → FrontNew v d e t r × Ready v e t r

-- Demand 3: of every start, update and cut, in any of the four groups, 0 to 3, or after the last, unless a signature block equals
-- neither of its versions and is still accepted. The update's stores go only where they belong, and their groups are four.
abbrev pub Demand3 : Type 0
Demand3 =
    (v : Device) (d : Sectors) (u : Time) (q : List ℕ) (t : Time) (r : List ℕ) → Start v d u q t r
    → AllFit v (groups_on v d t r)
    × ((length (groups_on v d t r) ≡ 4)
    × ((e : Sectors) (g : ℕ) → CutIn (groups_on v d t r) g d e → (Excused v (groups_on v d t r) g d e → ⊥) → Outcome v d e u q t r g))

-- the groups of a side's area and of its signature block
abbrev pub area_group : Side → ℕ
area_group Front = 0
area_group Back = 2

abbrev pub block_group : Side → ℕ
block_group Front = 1
block_group Back = 3

-- which store goes where: in each copy the record's sectors to the area that is not present there, then the block; the front first
pub record Places (v : Device) (d : Sectors) (t : Time) (r : List ℕ) : Type 0 where
  pub area : (s : Side) (x : Area) (h : Holding) → present_in (copy_reading (copy_from s v d)) ≡ present_at x h → (j : ℕ) → j < sectors_of (length r)
      → store_in (groups_on v d t r) (group_start (groups_on v d t r) (area_group s) + j) ≡ record { sector = area_sector s (other_area x) v + j; content = sector_of r j }
  pub block : (s : Side)
      → store_in (groups_on v d t r) (group_start (groups_on v d t r) (block_group s)) ≡ record { sector = block_sector s v; content = new_block (copy_from s v d) t r }

abbrev pub Placing : Type 0
Placing = (v : Device) (d : Sectors) (u : Time) (q : List ℕ) (t : Time) (r : List ℕ) → Start v d u q t r → Places v d t r

-- a side's copy as it is read after the first j of the update's stores; as it was where j is 0
abbrev pub copy_after : Device → Sectors → Time → List ℕ → ℕ → Side → List ℕ
copy_after v d t r j w = copy_from w v (landed (store_in (groups_on v d t r)) j d)

-- The stores of the plan that `work_out` gives are those that demand 3 speaks of: the update's number is 0 and the plan is not refused, it
-- has as many stores, 2k + 2, each is in its group, a flush belongs after the last of each group, and each is given with its sector and
-- its 512 bytes; past the last there is none, no group and no flush. A store is given alike with the copies as they were and with any
-- number of the stores before it in them: a caller may apply each store to its copies in memory as it goes.
pub record PlanGives (v : Device) (d : Sectors) (t : Time) (r : List ℕ) : Type 0 where
  pub number : update_number (copy_from Front v d) (copy_from Back v d) t r ≡ 0
  pub plan : planned (copy_from Front v d) (copy_from Back v d) t r ≡ Ok (plan_on v d t r)
  pub count : stores_in (plan_on v d t r) ≡ length (stores (groups_on v d t r))
  pub two_k_two : stores_in (plan_on v d t r) ≡ 2 * sectors_of (length r) + 2
  pub grouped : (g i : ℕ) → g < 4 → group_start (groups_on v d t r) g ≤ i → i < group_start (groups_on v d t r) (suc g) → group_of (plan_on v d t r) i ≡ g
  pub no_group : (i : ℕ) → length (stores (groups_on v d t r)) ≤ i → group_of (plan_on v d t r) i ≡ 4
  pub flush : (g i : ℕ) → g < 4 → group_start (groups_on v d t r) g ≤ i → i < group_start (groups_on v d t r) (suc g)
      → (flush_after (plan_on v d t r) i ≡ true ↔ suc i ≡ group_start (groups_on v d t r) (suc g))
  pub no_flush : (i : ℕ) → length (stores (groups_on v d t r)) ≤ i → flush_after (plan_on v d t r) i ≡ false
  pub store : (j i : ℕ) (out : List ℕ) → j ≤ i → i < length (stores (groups_on v d t r)) → length out ≡ 512
      → (store_answer (plan_on v d t r) (copy_after v d t r j Front) (copy_after v d t r j Back) r i out ≡ Ok (store_in (groups_on v d t r) i).sector)
      × (store_bytes (plan_on v d t r) (copy_after v d t r j Front) (copy_after v d t r j Back) r i out ≡ (store_in (groups_on v d t r) i).content)
  pub no_store : (j i : ℕ) (out : List ℕ) → j ≤ length (stores (groups_on v d t r)) → length (stores (groups_on v d t r)) ≤ i → length out ≡ 512
      → (store_answer (plan_on v d t r) (copy_after v d t r j Front) (copy_after v d t r j Back) r i out ≡ Err (reason no_such_store))
      × (store_bytes (plan_on v d t r) (copy_after v d t r j Front) (copy_after v d t r j Back) r i out ≡ out)

abbrev pub Giving : Type 0
Giving = (v : Device) (d : Sectors) (u : Time) (q : List ℕ) (t : Time) (r : List ℕ) → Start v d u q t r → PlanGives v d t r

-- A refused store changes no lent byte, of any plan, made up or not; a plan's refusal is the update's number, with what stands beside it; and a plan
-- has 2k + 2 stores.
pub record Refusing : Type 0 where
  pub store : (p : Plan) (f b r : List ℕ) (i : ℕ) (out : List ℕ) (e : Reason) → store_answer p f b r i out ≡ Err e → store_bytes p f b r i out ≡ out
  pub number : (f b : List ℕ) (t : Time) (r : List ℕ) → refusal_in (planned f b t r) ≡ named (update_number f b t r) r
  pub values : (f b : List ℕ) (t : Time) (r : List ℕ) → update_number f b t r ≡ 0 → planned_values (planned f b t r) ≡ (2 * sectors_of (length r) + 2) ∷ []

-- Wherever a store is given, of any plan and any copies, made up or not, it goes to a sector of its own side, the front's stores coming
-- first, on the device that this side's copy says it is of: its signature block's or one of those of an area that a record can fill.
abbrev pub Within : Type 0
Within =
    (p : Plan) (f b r : List ℕ) (i : ℕ) (out : List ℕ) (s : ℕ) → store_answer p f b r i out ≡ Ok s
    → (i ≤ sectors_in p → Lies Front (device_in f) s) × (sectors_in p < i → Lies Back (device_in b) s)

-- where an area's entry lies in the block, 20 bytes
abbrev pub entry_place : Area → ℕ
entry_place A = 96
entry_place B = 128

-- The block changes only that area's entry and the CRC: each byte outside them is as it was.
abbrev pub Changing : Type 0
Changing =
    (c : List ℕ) (t : Time) (r : List ℕ) (i : ℕ) → Bytes (block_in c) → Accepted (block_in c)
    → 4 ≤ i → (entry_place (spare c) ≤ i → i < entry_place (spare c) + 20 → ⊥)
    → get_or (new_block c t r) i 0 ≡ get_or (block_in c) i 0
