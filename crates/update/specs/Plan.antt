-- What the calls of an update answer: a plan worked out once, and its stores by their number. A plan may be anything a
-- caller makes up; `Demand.Giving` says that the stores of an update's plan are those of `Update.update_groups`.
use Rattle.std.specs.Prelude.{ℕ, suc, ◌+◌, ◌-◌, ◌*◌, Bool, cond, not, ◌&&◌, List, leb, ltb, eqb, length, Some, Result, Ok, Err}
use Rattle.refusal.specs.declared.Reason.{Reason}
use Rattle.refusal.specs.Numbers.{not_in_step}
use Rattle.refusal.specs.Reasons.{reason, reason_of}
use Rattle.refusal.specs.Tests.{Test, first}
use Rattle.layout.specs.declared.Side.{Side}
use Rattle.layout.specs.declared.Side.TheVariants.{Front, Back}
use Rattle.layout.specs.declared.Area.{Area}
use Rattle.layout.specs.Places.{block_sector, area_sector}
use Rattle.block.specs.declared.Time.{Time}
use Rattle.block.specs.declared.Holding.{Holding}
use Rattle.block.specs.declared.BlockFields.{BlockFields}
use Rattle.block.specs.Block.{fields_of}
use Rattle.record.specs.Accept.{named, answered}
use Rattle.copy.specs.Copy.{device_in, block_in, other_area, newest}
use Rattle.discovery.specs.declared.Found.{Found}
use Rattle.discovery.specs.Newest.{time_at}
use Rattle.stores.specs.declared.Part.{Part}
use Rattle.update.specs.declared.Plan.{Plan}
use Rattle.update.specs.Update.{tests_after, update_number}
use Rattle.stores.specs.Stores.{sectors_of, holding_for, with_entry}
use Rattle.stores.specs.Given.{plan_tests, part_given, part_left}

-- of copies whose blocks have these fields: what the new entry says, and in each copy the area that is not the later entry's
abbrev pub plan_for : BlockFields → BlockFields → Time → List ℕ → Plan
plan_for x y t r = record { entry = holding_for t r; front = other_area (newest x); back = other_area (newest y) }

-- of a front and a back copy
abbrev pub plan_of : List ℕ → List ℕ → Time → List ℕ → Plan
plan_of f b t r = plan_for (fields_of (block_in f)) (fields_of (block_in b)) t r

-- how the code finds it from what discovery answers; nothing public cites this
abbrev pub plan_with : BlockFields → Result BlockFields Reason → Time → List ℕ → Result Plan Reason
plan_with x (Ok y) t r = Ok (plan_for x y t r)
plan_with x (Err e) t r = Err (reason not_in_step)

abbrev pub plan_found : Found → Bool → Time → List ℕ → Result Plan Reason
plan_found w step t r =
    cond (eqb (first (tests_after step w.finding.fields.device (time_at w.finding) t r)) 0) (plan_with w.finding.fields w.other t r)
    (Err (reason_of (named (first (tests_after step w.finding.fields.device (time_at w.finding) t r)) r)))

-- what `work_out` answers
abbrev pub planned : List ℕ → List ℕ → Time → List ℕ → Result Plan Reason
planned f b t r = answered (update_number f b t r) r (plan_of f b t r)

-- the sectors that the record fills, k, and the stores, 2k + 2
abbrev pub sectors_in : Plan → ℕ
sectors_in p = sectors_of p.entry.bytes

abbrev pub stores_in : Plan → ℕ
stores_in p = 2 * sectors_in p + 2

-- the group of a store: 0 to 3 in their order, 4 past the last store
abbrev pub group_of : Plan → ℕ → ℕ
group_of p i =
    cond (ltb i (sectors_in p)) 0
    (cond (leb i (sectors_in p)) 1 (cond (leb i (2 * sectors_in p)) 2 (cond (ltb i (stores_in p)) 3 4)))

-- a flush belongs after store i: it is the last of its group
abbrev pub flush_after : Plan → ℕ → Bool
flush_after p i = ltb i (stores_in p) && not (eqb (group_of p i) (group_of p (suc i)))

-- one side of a plan where that side's block has the numbers g: where its area and its block lie, and the new block's numbers
abbrev pub part_of : Side → Area → Holding → BlockFields → Part
part_of w x h g = record { area = area_sector w x g.device; block = block_sector w g.device; fields = with_entry g x (Some h) }

-- the same with the copy c of that side
abbrev pub part_on : Side → Area → Holding → List ℕ → Part
part_on w x h c = part_of w x h (fields_of (block_in c))

-- the copy that store i is worked out from: the front's stores come first
abbrev pub copy_of : Plan → ℕ → List ℕ → List ℕ → List ℕ
copy_of p i f b = cond (leb i (sectors_in p)) f b

-- the tests of a store: the sizes, the record's length, which is the plan's, its number, and the device numbers of its copy
abbrev pub store_tests : Plan → List ℕ → List ℕ → List ℕ → ℕ → List ℕ → List Test
store_tests p f b r i out = plan_tests f b (length out) (length r) p.entry.bytes i (stores_in p) (device_in (copy_of p i f b))

-- store i of both sides, the front's and then the back's: the sector and the bytes
abbrev pub sides_answer : Plan → List ℕ → List ℕ → List ℕ → ℕ → List ℕ → Result ℕ Reason
sides_answer p f b r i out =
    cond (leb i (sectors_in p)) (part_given (part_on Front p.front p.entry f) (sectors_in p) f r i out)
    (part_given (part_on Back p.back p.entry b) (sectors_in p) b r (i - (sectors_in p + 1)) out)

abbrev pub sides_bytes : Plan → List ℕ → List ℕ → List ℕ → ℕ → List ℕ → List ℕ
sides_bytes p f b r i out =
    cond (leb i (sectors_in p)) (part_left (part_on Front p.front p.entry f) (sectors_in p) f r i out)
    (part_left (part_on Back p.back p.entry b) (sectors_in p) b r (i - (sectors_in p + 1)) out)

-- what `store` answers and leaves
abbrev pub store_answer : Plan → List ℕ → List ℕ → List ℕ → ℕ → List ℕ → Result ℕ Reason
store_answer p f b r i out =
    cond (eqb (first (store_tests p f b r i out)) 0) (sides_answer p f b r i out) (Err (reason (first (store_tests p f b r i out))))

abbrev pub store_bytes : Plan → List ℕ → List ℕ → List ℕ → ℕ → List ℕ → List ℕ
store_bytes p f b r i out = cond (eqb (first (store_tests p f b r i out)) 0) (sides_bytes p f b r i out) out
