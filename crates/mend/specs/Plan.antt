-- What the calls of a mend answer: a plan, worked out once, and its stores by their number. The plan may be anything that a caller makes
-- up; `Demand.Giving` says that the stores of what `work_out` answers are those of `Mend.mend_groups`. It holds what the kept copy does
-- not say already: all else is read from that copy as it is lent for the store.
use Rattle.std.specs.Prelude.{ℕ, suc, ◌+◌, ◌-◌, Bool, cond, not, ◌&&◌, List, leb, ltb, eqb, length, Option, Some, None, Result, Ok, Err}
use Rattle.refusal.specs.Numbers.{slice_size, no_such_store}
use Rattle.refusal.specs.declared.Reason.{Reason}
use Rattle.refusal.specs.Reasons.{reason}
use Rattle.refusal.specs.Tests.{Test, first}
use Rattle.layout.specs.declared.Side.{Side}
use Rattle.layout.specs.declared.Area.{Area}
use Rattle.layout.specs.declared.Area.TheVariants.{A}
use Rattle.layout.specs.Limits.{sector_bytes}
use Rattle.layout.specs.Places.{block_sector, area_sector}
use Rattle.block.specs.declared.BlockFields.{BlockFields}
use Rattle.block.specs.Block.{fields_of}
use Rattle.block.specs.Writing.{holding_of}
use Rattle.copy.specs.Copy.{block_in, area_bytes, entry_in, other_area, other_side, newest, same_area, device_in}
use Rattle.discovery.specs.declared.Finding.{Finding}
use Rattle.discovery.specs.declared.Found.{Found}
use Rattle.discovery.specs.Discovery.{sized, discovery, is_in_step, copy_on}
use Rattle.stores.specs.declared.Part.{Part}
use Rattle.stores.specs.Stores.{sectors_of, with_entry}
use Rattle.stores.specs.Given.{plan_tests, block_given, block_left, part_given, part_left}
use Rattle.mend.specs.declared.Rewrite.{Rewrite}
use Rattle.mend.specs.Mend.{emptied, refilled}

-- what is stored where the copy with the found record q is kept: there is a last store where the kept copy's later entry is not whole,
-- which is where the found record is not that entry's
abbrev pub rewrite_of : Finding → Rewrite
rewrite_of q = record { kept = q.side; area = q.area; bytes = q.bytes; last = not (same_area q.area (newest q.fields)) }

-- what `work_out` answers: discovery's refusal; nothing where the copies are in step; or what to store
abbrev pub mending_after : Result Found Reason → List ℕ → List ℕ → Result (Option Rewrite) Reason
mending_after (Err r) f b = Err r
mending_after (Ok a) f b = cond (is_in_step f b) (Ok None) (Ok (Some (rewrite_of a.finding)))

unfoldable pub mending : List ℕ → List ℕ → Result (Option Rewrite) Reason
mending f b = mending_after (discovery f b) f b

-- the number of stores: 0, k + 2, or k + 3 with the last one
abbrev pub plan_stores : Rewrite → ℕ
plan_stores p = cond p.last (sectors_of p.bytes + 3) (sectors_of p.bytes + 2)

abbrev pub stores_in : Result (Option Rewrite) Reason → ℕ
stores_in (Ok None) = 0
stores_in (Ok (Some p)) = plan_stores p
stores_in (Err r) = 0

-- the group of a store: 0 to 3 in their order, 4 past the last store
abbrev pub group_in : ℕ → ℕ → ℕ → ℕ
group_in k n i = cond (ltb i n) (cond (eqb i 0) 0 (cond (leb i k) 1 (cond (leb i (k + 1)) 2 3))) 4

abbrev pub group_of : Result (Option Rewrite) Reason → ℕ → ℕ
group_of (Ok None) i = 4
group_of (Ok (Some p)) i = group_in (sectors_of p.bytes) (plan_stores p) i
group_of (Err r) i = 4

-- a flush belongs after store i: it is the last of its group
abbrev pub flush_after : Result (Option Rewrite) Reason → ℕ → Bool
flush_after m i = ltb i (stores_in m) && not (eqb (group_of m i) (group_of m (suc i)))

-- what is stored on side w where a block with the numbers x, and the found record's entry for area y, is kept on the other side
abbrev pub part_for : Side → Area → BlockFields → Part
part_for w y x = record { area = area_sector w A x.device; block = block_sector w x.device; fields = refilled x.device (entry_in x y) }

-- store i with the kept copy c, whose block has the numbers x: the other block emptied; the record and the block that names it; the
-- last one, the kept block with the entry of the other area unused
abbrev pub rewrite_answer : Rewrite → BlockFields → List ℕ → ℕ → List ℕ → Result ℕ Reason
rewrite_answer p x c i out =
    cond (eqb i 0) (block_given (block_sector (other_side p.kept) x.device) (emptied x.device) c out)
    (cond (leb i (sectors_of p.bytes + 1))
    (part_given (part_for (other_side p.kept) p.area x) (sectors_of p.bytes) c (area_bytes c p.area p.bytes) (i - 1) out)
    (block_given (block_sector p.kept x.device) (with_entry x (other_area p.area) None) c out))

abbrev pub rewrite_bytes : Rewrite → BlockFields → List ℕ → ℕ → List ℕ → List ℕ
rewrite_bytes p x c i out =
    cond (eqb i 0) (block_left (emptied x.device) c out)
    (cond (leb i (sectors_of p.bytes + 1))
    (part_left (part_for (other_side p.kept) p.area x) (sectors_of p.bytes) c (area_bytes c p.area p.bytes) (i - 1) out)
    (block_left (with_entry x (other_area p.area) None) c out))

-- of the copies f and b, of which c is kept: the tests of a plan's store, with the length that the kept block's entry has and its
-- device numbers
abbrev pub needed_tests : Rewrite → List ℕ → List ℕ → List ℕ → ℕ → List ℕ → List Test
needed_tests p f b c i out = plan_tests f b (length out) (holding_of (entry_in (fields_of (block_in c)) p.area)).bytes p.bytes i (plan_stores p) (device_in c)

abbrev pub needed_answer : Rewrite → List ℕ → List ℕ → List ℕ → ℕ → List ℕ → Result ℕ Reason
needed_answer p f b c i out =
    cond (eqb (first (needed_tests p f b c i out)) 0) (rewrite_answer p (fields_of (block_in c)) c i out) (Err (reason (first (needed_tests p f b c i out))))

abbrev pub needed_bytes : Rewrite → List ℕ → List ℕ → List ℕ → ℕ → List ℕ → List ℕ
needed_bytes p f b c i out = cond (eqb (first (needed_tests p f b c i out)) 0) (rewrite_bytes p (fields_of (block_in c)) c i out) out

-- where there is nothing to store: 1 for a slice of another size, else 23
abbrev pub none_number : List ℕ → List ℕ → ℕ → ℕ
none_number f b room = cond (sized f b && eqb room sector_bytes) no_such_store slice_size

-- what `store` answers and leaves
abbrev pub store_answer : Result (Option Rewrite) Reason → List ℕ → List ℕ → ℕ → List ℕ → Result ℕ Reason
store_answer (Ok None) f b i out = Err (reason (none_number f b (length out)))
store_answer (Ok (Some p)) f b i out = needed_answer p f b (copy_on p.kept f b) i out
store_answer (Err r) f b i out = Err (reason (none_number f b (length out)))

abbrev pub store_bytes : Result (Option Rewrite) Reason → List ℕ → List ℕ → ℕ → List ℕ → List ℕ
store_bytes (Ok None) f b i out = out
store_bytes (Ok (Some p)) f b i out = needed_bytes p f b (copy_on p.kept f b) i out
store_bytes (Err r) f b i out = out
