-- What the C calls give, from the libraries' own claims: `proofs/Telling.antt` proves `Telling`, `Saying`, `Zeroing`,
-- `Rereading`, `Receiving` and `Planning`, `proofs/Demand.antt` `Blocks`, `ReadBack`, `Giving` and `Mending`.
use Rattle.std.specs.Prelude.{ℕ, suc, ◌+◌, ◌^◌, ◌≤◌, ◌<◌, ◌≡◌, ◌↔◌, Bool, true, false, cond, not, eqb, length, take, Option, None, Some, Result, Ok, Err}
use mathlib.Core.List.{List, [], ◌∷◌, ◌++◌, flatten}
use Rattle.search.specs.Search.{one}
use Rattle.endian.specs.Bytes.{Bytes, zeros}
use Rattle.refusal.specs.Numbers.{no_such_store}
use Rattle.refusal.specs.declared.Refusal.{Refusal}
use Rattle.refusal.specs.declared.Reason.{Reason}
use Rattle.refusal.specs.Reasons.{refusal_of, refusal_in}
use Rattle.refusal.specs.Tests.{first}
use Rattle.refusal.specs.Refusals.{plain}
use Rattle.layout.specs.declared.Device.{Device}
use Rattle.layout.specs.declared.Side.TheVariants.{Front, Back}
use Rattle.layout.specs.Answers.{side_number, area_number, map_numbers, located_values, blocks_values}
use Rattle.layout.specs.declared.BlockSectors.{BlockSectors}
use Rattle.layout.specs.declared.DeviceMap.{DeviceMap}
use Rattle.block.specs.declared.Time.{Time}
use Rattle.block.specs.declared.BlockFields.{BlockFields}
use Rattle.block.specs.declared.Reading.{Reading}
use Rattle.block.specs.Accepted.{Accepted}
use Rattle.block.specs.Block.{pool_of, blockdev_of, reading}
use Rattle.block.specs.Writing.{write_tests, written}
use Rattle.block.specs.Answers.{reading_values}
use Rattle.block.specs.declared.Holding.{Holding}
use Rattle.layout.specs.declared.Area.TheVariants.{A, B}
use Rattle.copy.specs.declared.CopyReading.{CopyReading}
use Rattle.copy.specs.Copy as Copy
use Rattle.copy.specs.Copy.{newest, same_area, mapped, copy_reading}
use Rattle.copy.specs.Demand.{Sized}
use Rattle.receive.specs.declared.Received.{Received}
use Rattle.receive.specs.Receive.{fresh, taking, ending}
use Rattle.receive.specs.Demand.{state_after, size}
use Rattle.discovery.specs.declared.Finding.{Finding}
use Rattle.discovery.specs.declared.Found.{Found}
use Rattle.discovery.specs.Discovery.{sized, discovery, is_in_step, copy_on}
use Rattle.discovery.specs.Answers.{answer_values}
use Rattle.segments.specs.declared.Segment.{Segment}
use Rattle.runs.specs.declared.Run.{Run}
use Rattle.items.specs.Head.{head_of, head_kind, block_size, low_water}
use Rattle.items.specs.Items.{segments}
use Rattle.record.specs.Accept.{record_tests, named}
use Rattle.items.specs.Making.{put_values}
use Rattle.record.specs.Answers.{segment_values, found_values, counted_values}
use Rattle.allocation.specs.declared.Allocation.{Allocation}
use Rattle.allocation.specs.Answers.{total_values, runs_values, run_values}
use Rattle.allocation.specs.Change.{allocation_values, release_values}
use Rattle.heads.specs.Changing.{changed_values}
use Rattle.crash.specs.Crash.{Sectors, Groups, stores, store_in, group_start}
use Rattle.stores.specs.Stores.{holding_for}
use Rattle.stores.specs.Answers.{given_values}
use Rattle.update.specs.declared.Plan as Declared
use Rattle.update.specs.Update.{update_number, spare}
use Rattle.update.specs.Plan as Update
use Rattle.update.specs.Demand.{Start, groups_on, copy_after}
use Rattle.mend.specs.declared.Rewrite.{Rewrite}
use Rattle.mend.specs.Answers.{mending_values}
use Rattle.mend.specs.Mend.{mend_groups}
use Rattle.mend.specs.Plan as Plan
use Rattle.amseokbin.specs.declared.Block.{Block}
use Rattle.amseokbin.specs.declared.FoundAnswer.{FoundAnswer}
use Rattle.amseokbin.specs.declared.UpdatePlan.{UpdatePlan}
use Rattle.amseokbin.specs.declared.MendPlan.{MendPlan}
use Rattle.amseokbin.specs.Answers.{blocks_answer, places_answer, no_entry, no_block, block_answer, fields_from}
use Rattle.amseokbin.specs.Copies.{present_number, copy_answer, receive_answer, found_answer, step_answer}
use Rattle.amseokbin.specs.Records as Records
use Rattle.amseokbin.specs.Room as Room
use Rattle.amseokbin.specs.Plans.{store_answer, update_of, update_from, update_answer, rewrite_told, no_mend, mend_from, mend_answer}

-- what was found, as document 01 lists it: side, area, bytes, seconds, nanoseconds, the other copy
abbrev pub found_list : FoundAnswer → List ℕ
found_list k = k.side ∷ k.area ∷ k.bytes ∷ k.time.seconds ∷ k.time.nanoseconds ∷ k.other ∷ []

-- An answer is told: its refusal is the library's q, and its other fields are the library's values, all of them, and zeros after them; a
-- refusal has no values, so that every other field is zero.
abbrev pub Told : Refusal → Refusal → List ℕ → List ℕ → Type 0
Told r q fields values = (r ≡ q) × (fields ≡ take (length fields) (values ++ zeros (length fields))) × (length values ≤ length fields)

-- the numbers of a block, as document 01 lists its fields
abbrev pub block_list : Block → List ℕ
block_list k =
    k.device.sectors
    ∷ k.device.metadata
    ∷ k.device.reserved
    ∷ k.a.seconds
    ∷ k.a.nanoseconds
    ∷ k.a.bytes
    ∷ k.a.checksum
    ∷ k.b.seconds
    ∷ k.b.nanoseconds
    ∷ k.b.bytes
    ∷ k.b.checksum
    ∷ []

-- the numbers of a copy's block
abbrev pub copy_values : Result CopyReading Reason → List ℕ
copy_values a = reading_values (mapped (λ c. c.block) a)

-- So is every answer that has a library's values.
pub record Telling : Type 0 where
  pub blocks : (a : Result BlockSectors Reason) → Told (blocks_answer a).refusal (refusal_in a) ((blocks_answer a).front ∷ (blocks_answer a).back ∷ []) (blocks_values a)
  pub places : (a : Result DeviceMap Reason) → Told (places_answer a).refusal (refusal_in a) (map_numbers (places_answer a).map) (located_values a)
  pub block : (a : Result Reading Reason) → Told (block_answer a).refusal (refusal_in a) (block_list (block_answer a).block) (reading_values a)
  pub copy : (a : Result CopyReading Reason) → Told (copy_answer a).refusal (refusal_in a) (block_list (copy_answer a).block) (copy_values a)
  pub found : (a : Result Found Reason) (f b : List ℕ) → Told (found_answer a f b).refusal (refusal_in a) (found_list (found_answer a f b)) (answer_values a)
  pub store : (g : Result ℕ Reason) (flush : Bool) → Told (store_answer g flush).refusal (refusal_in g) ((store_answer g flush).sector ∷ []) (given_values g)
  pub update : (a : Result Declared.Plan Reason) → (update_answer a).refusal ≡ refusal_in a
  pub mend : (m : Result (Option Rewrite) Reason) → Told (mend_answer m).refusal (refusal_in m) (Plan.stores_in (mend_from (mend_answer m).plan) ∷ []) (mending_values m)
  pub segment : (a : Result Segment Reason) → Told (Records.segment_answer a).refusal (refusal_in a) (segment_values (Records.segment_answer a).segment) (found_values a)
  pub segments : (a : Result ℕ Reason) → Told (Records.counted_answer a).refusal (refusal_in a) ((Records.counted_answer a).count ∷ []) (counted_values a)
  pub put : (a : Result ℕ Reason) → Told (Records.length_answer a).refusal (refusal_in a) ((Records.length_answer a).length ∷ []) (put_values a)
  pub total : (a : Result ℕ Reason) → Told (Room.total_answer a).refusal (refusal_in a) ((Room.total_answer a).sectors ∷ []) (total_values a)
  pub runs : (a : Result ℕ Reason) → Told (Records.counted_answer a).refusal (refusal_in a) ((Records.counted_answer a).count ∷ []) (runs_values a)
  pub run : (a : Result Run Reason) → Told (Room.run_answer a).refusal (refusal_in a) ((Room.run_answer a).run.start ∷ (Room.run_answer a).run.sectors ∷ []) (run_values a)
  pub allocation : (a : Result Allocation Reason)
      → Told (Room.allocation_answer a).refusal (refusal_in a) ((Room.allocation_answer a).start ∷ (Room.allocation_answer a).length ∷ []) (allocation_values a)
  pub changed : (a : Result ℕ Reason) → Told (Records.length_answer a).refusal (refusal_in a) ((Records.length_answer a).length ∷ []) (changed_values a)
  pub release : (a : Result ℕ Reason) → Told (Records.length_answer a).refusal (refusal_in a) ((Records.length_answer a).length ∷ []) (release_values a)

-- What is in an answer beside those: the UUIDs of a block, what a copy says of its areas, whether two copies are in step, what a head says.
pub record Saying : Type 0 where
  pub block : (x : Reading) → ((block_answer (Ok x)).block.pool ≡ x.pool) × ((block_answer (Ok x)).block.blockdev ≡ x.blockdev)
  pub copy : (c : CopyReading)
      → copy_answer (Ok c)
      ≡ record { refusal = plain 0; block = (block_answer (Ok c.block)).block; a = c.a; b = c.b; present = present_number c.present }
  -- a present record's number: none, area a, area b
  pub present-none : present_number None ≡ 0
  pub present_a : (h : Holding) → present_number (Some (record { area = A; holding = h })) ≡ 1
  pub present_b : (h : Holding) → present_number (Some (record { area = B; holding = h })) ≡ 2
  pub step : (f b : List ℕ) → sized f b ≡ true → step_answer f b ≡ record { refusal = plain 0; step = is_in_step f b }
  pub head : (d : Device) (s : List ℕ) → first (record_tests d s) ≡ 0
      → Records.head_answer d s
      ≡ record { refusal = plain 0; kind = head_kind (head_of s); size = block_size (head_of s); mark = low_water (head_of s); segments = length (segments s) }

-- A refusal has zero in every other field, to the letter, but for a refused piece of a copy (`Receiving`). What stands beside its number is `Telling` (the library's) and, by meaning, `Pairs`.
pub record Zeroing : Type 0 where
  -- no block: zero in all its numbers, and zeros for its UUIDs
  pub block_none : (no_block.device ≡ record { sectors = 0; metadata = 0; reserved = 0 })
      × (no_block.a ≡ record { seconds = 0; nanoseconds = 0; bytes = 0; checksum = 0 })
      × (no_block.b ≡ record { seconds = 0; nanoseconds = 0; bytes = 0; checksum = 0 })
      × (no_block.pool ≡ zeros 32)
      × (no_block.blockdev ≡ zeros 32)
  pub block : (r : Reason) → block_answer (Err r) ≡ record { refusal = refusal_of r; block = no_block }
  pub copy : (r : Reason) → copy_answer (Err r) ≡ record { refusal = refusal_of r; block = no_block; a = false; b = false; present = 0 }
  pub found : (r : Reason) (f b : List ℕ)
      → found_answer (Err r) f b
      ≡ record { refusal = refusal_of r; side = 0; area = 0; other = 0; bytes = 0; time = record { seconds = 0; nanoseconds = 0 }; block = no_block }
  pub step : (f b : List ℕ) → sized f b ≡ false → step_answer f b ≡ record { refusal = plain 1; step = false }
  pub head : (d : Device) (s : List ℕ) → (first (record_tests d s) ≡ 0 → ⊥)
      → Records.head_answer d s ≡ record { refusal = named (first (record_tests d s)) s; kind = 0; size = 0; mark = 0; segments = 0 }
  pub store : (r : Reason) (flush : Bool) → store_answer (Err r) flush ≡ record { refusal = refusal_of r; sector = 0; flush = false }
  pub update : (r : Reason) → update_answer (Err r) ≡ record { refusal = refusal_of r; plan = record { entry = no_entry; front = 0; back = 0 } }
  pub mend : (r : Reason) → mend_answer (Err r) ≡ record { refusal = refusal_of r; plan = record { bytes = 0; needed = 0; kept = 0; area = 0; last = 0 } }

-- Demand 2 in C: writing what was read gives the same 512 bytes, with the block's own UUIDs; reading what was written gives the same struct.
pub record Rereading : Type 0 where
  pub written_again : (s out : List ℕ) → Bytes s → Accepted s → length out ≡ 512
      → ((block_answer (reading s)).block.pool ≡ pool_of s)
      × ((block_answer (reading s)).block.blockdev ≡ blockdev_of s)
      × (first (write_tests out (pool_of s) (blockdev_of s) (fields_from (block_answer (reading s)).block)) ≡ 0)
      × (written out (pool_of s) (blockdev_of s) (fields_from (block_answer (reading s)).block) ≡ s)
  pub read_again : (out : List ℕ) (k : Block) → k.device.sectors < 2 ^ 64 → k.a.seconds < 2 ^ 64 → k.a.checksum < 2 ^ 32 → k.b.seconds < 2 ^ 64
      → k.b.checksum < 2 ^ 32 → first (write_tests out k.pool k.blockdev (fields_from k)) ≡ 0
      → block_answer (reading (written out k.pool k.blockdev (fields_from k))) ≡ record { refusal = plain 0; block = k }

-- A copy in pieces, by the answers of the calls alone: each state handed on as it was given, and the bytes of the pieces that were answered
-- with 0. The end answers what `amseokbin_copy_read` answers of them at once.
abbrev pub handed_on : Received → List (List ℕ) → Received
handed_on s [] = s
handed_on s (p ∷ ps) = handed_on (receive_answer s (taking s p)).received ps

abbrev pub unless_number : ℕ → List ℕ → List ℕ
unless_number n p = cond (eqb n 0) p []

abbrev pub taken_in : Received → List (List ℕ) → List ℕ
taken_in s [] = []
taken_in s (p ∷ ps) = unless_number (receive_answer s (taking s p)).refusal.number p ++ taken_in (receive_answer s (taking s p)).received ps

pub record Receiving : Type 0 where
  pub cut : (c : List ℕ) → Sized c → (ps : List (List ℕ)) → flatten ps ≡ c → copy_answer (ending (handed_on fresh ps)) ≡ copy_answer (copy_reading c)
  pub at_once : (ps : List (List ℕ)) → copy_answer (ending (handed_on fresh ps)) ≡ copy_answer (copy_reading (taken_in fresh ps))
  -- a piece that is taken: 0, nothing beside it, and the next state
  pub taken : (s : Received) (p : List ℕ) → s.taken + length p ≤ size → receive_answer s (taking s p) ≡ record { refusal = plain 0; received = state_after s p }
  -- a piece that is refused: 1, and the state that was handed in
  pub refused : (s : Received) (p : List ℕ) → size < s.taken + length p → receive_answer s (taking s p) ≡ record { refusal = plain 1; received = s }
  -- the end where other than a copy's bytes were taken: 1, and zero in every other field
  pub no_copy : (s : Received) → ¬ (s.taken ≡ size) → copy_answer (ending s) ≡ record { refusal = plain 1; block = no_block; a = false; b = false; present = 0 }

-- The fields of plans are what the header says: in each copy the area that is not present there; the found side, area and length.
pub record Planning : Type 0 where
  pub update : (f b : List ℕ) (t : Time) (r : List ℕ) → update_number f b t r ≡ 0
      → (update_answer (Update.planned f b t r)).plan
      ≡ record { entry = holding_for t r; front = area_number (spare f); back = area_number (spare b) }
  pub mend : (f b : List ℕ) (q : Finding) (o : Result BlockFields Reason) → discovery f b ≡ Ok (record { finding = q; other = o }) → is_in_step f b ≡ false
      → (mend_answer (Plan.mending f b)).plan
      ≡ record { bytes = q.bytes; needed = 1; kept = side_number q.side; area = area_number q.area; last = one (not (same_area q.area (newest q.fields))) }
  pub in_step : (f b : List ℕ) → is_in_step f b ≡ true → (mend_answer (Plan.mending f b)).plan ≡ record { bytes = 0; needed = 0; kept = 0; area = 0; last = 0 }

-- The block of a found record is what reading the block of its copy answers, UUIDs too.
abbrev pub Blocks : Type 0
Blocks =
    (f b : List ℕ) (q : Finding) (o : Result BlockFields Reason) → discovery f b ≡ Ok (record { finding = q; other = o })
    → (found_answer (discovery f b) f b).block ≡ (block_answer (reading (Copy.block_in (copy_on q.side f b)))).block

-- Plans that the libraries work out are read back as themselves.
pub record ReadBack : Type 0 where
  pub update : (p : Declared.Plan) → update_from (update_of p) ≡ p
  pub mend : (p : Rewrite) → mend_from (rewrite_told p) ≡ Ok (Some p)
  pub in_step : mend_from no_mend ≡ Ok None

-- What the calls on a plan give is what the groups gs have, which a cut and a landing speak of: it has as many stores, each is in its group, each is
-- given with its sector, its 512 bytes and whether a flush belongs after it, which is so after the last of its group; past the last there is
-- none, and no group. With f j and b j, the copies as they stand after the first j of the stores.
pub record Calls (gs : Groups) (f b : ℕ → List ℕ) (count : ℕ) (group : ℕ → ℕ) (answer : List ℕ → List ℕ → ℕ → List ℕ → Result ℕ Reason)
    (bytes : List ℕ → List ℕ → ℕ → List ℕ → List ℕ) (flush : ℕ → Bool) : Type 0 where
  pub counted : count ≡ length (stores gs)
  pub grouped : (g i : ℕ) → g < 4 → group_start gs g ≤ i → i < group_start gs (suc g) → group i ≡ g
  pub no_group : (i : ℕ) → length (stores gs) ≤ i → group i ≡ 4
  pub store : (j i : ℕ) (out : List ℕ) → j ≤ i → i < length (stores gs) → length out ≡ 512
      → (store_answer (answer (f j) (b j) i out) (flush i) ≡ record { refusal = plain 0; sector = (store_in gs i).sector; flush = flush i })
      × (bytes (f j) (b j) i out ≡ (store_in gs i).content)
  pub flushed : (g i : ℕ) → g < 4 → group_start gs g ≤ i → i < group_start gs (suc g) → (flush i ≡ true ↔ suc i ≡ group_start gs (suc g))
  pub no_store : (j i : ℕ) (out : List ℕ) → j ≤ length (stores gs) → length (stores gs) ≤ i → length out ≡ 512
      → (store_answer (answer (f j) (b j) i out) (flush i) ≡ record { refusal = plain no_such_store; sector = 0; flush = false })
      × (bytes (f j) (b j) i out ≡ out)

-- Of every start of demand 3: with the plan that C was answered.
abbrev pub plan_answered : Device → Sectors → Time → List ℕ → UpdatePlan
plan_answered v d t r = (update_answer (Update.planned (copy_after v d t r 0 Front) (copy_after v d t r 0 Back) t r)).plan

abbrev pub Giving : Type 0
Giving =
    (v : Device) (d : Sectors) (u : Time) (q : List ℕ) (t : Time) (r : List ℕ) → Start v d u q t r
    → ((update_answer (Update.planned (copy_after v d t r 0 Front) (copy_after v d t r 0 Back) t r)).refusal ≡ plain 0)
    × Calls (groups_on v d t r) (λ (j : ℕ). copy_after v d t r j Front) (λ (j : ℕ). copy_after v d t r j Back)
    (Update.stores_in (update_from (plan_answered v d t r))) (Update.group_of (update_from (plan_answered v d t r)))
    (λ (f b : List ℕ) (i : ℕ) (out : List ℕ). Update.store_answer (update_from (plan_answered v d t r)) f b r i out)
    (λ (f b : List ℕ) (i : ℕ) (out : List ℕ). Update.store_bytes (update_from (plan_answered v d t r)) f b r i out)
    (Update.flush_after (update_from (plan_answered v d t r)))

-- Of any two copies in which discovery finds a record; with earlier stores applied too it is `mend`'s `Going`.
abbrev pub mend_answered : List ℕ → List ℕ → MendPlan
mend_answered f b = (mend_answer (Plan.mending f b)).plan

abbrev pub Mending : Type 0
Mending =
    (f b : List ℕ) (q : Finding) (o : Result BlockFields Reason) → discovery f b ≡ Ok (record { finding = q; other = o })
    → ((mend_answer (Plan.mending f b)).refusal ≡ plain 0)
    × Calls (mend_groups f b) (λ (j : ℕ). f) (λ (j : ℕ). b) (Plan.stores_in (mend_from (mend_answered f b))) (Plan.group_of (mend_from (mend_answered f b)))
    (Plan.store_answer (mend_from (mend_answered f b))) (Plan.store_bytes (mend_from (mend_answered f b))) (Plan.flush_after (mend_from (mend_answered f b)))
