-- A store that is given lies on the device that the kept copy says it is of.
use Prim.Native.Nat.{ℕ, ◌+◌, ◌-◌, ◌≤◌, ◌<◌}
use mathlib.Core.Path.{◌≡◌, refl, sym, ap, ◌∙◌}
use mathlib.Core.Bool.{Bool, cond}
use mathlib.Core.List.{List}
use native.Mathlib.Omega.{arith}
use borrow.Author.Tests.{eqb-true, le-leb, lt-leb}
use lib.Dec.{eqb, leb}
use lib.ListN.{length}
use Rattle.std.specs.Prelude.{Some, None, Result, Ok, Err}
use Rattle.refusal.specs.declared.Reason.{Reason}
use Rattle.refusal.specs.Reasons.{reason}
use Rattle.refusal.specs.Tests.{first}
use Rattle.layout.specs.declared.Side.{Side}
use Rattle.layout.specs.declared.Area.TheVariants.{A}
use Rattle.layout.specs.Places.{block_sector}
use Rattle.block.specs.declared.BlockFields.{BlockFields}
use Rattle.block.specs.Block.{fields_of}
use Rattle.block.specs.Writing.{holding_of}
use Rattle.copy.specs.Copy.{block_in, area_bytes, entry_in, other_area, other_side, device_in}
use Rattle.discovery.specs.Discovery.{copy_on}
use Rattle.stores.specs.declared.Part.{Part}
use Rattle.stores.specs.Stores.{sectors_of, with_entry}
use Rattle.stores.specs.Given.{block_given, part_given}
use Rattle.stores.specs.States.{Lies}
use Rattle.stores.proofs.Lying.{by_test, no_place, block_place_lem, part-place, block_lies, part_lies}
use Rattle.mend.specs.declared.Rewrite.{Rewrite}
use Rattle.mend.specs.Mend.{emptied}
use Rattle.mend.specs.Plan.{plan_stores, part_for, rewrite_answer, needed_tests, needed_answer, none_number}
use Rattle.mend.specs.Demand.{Within}

module _ (p : Rewrite) (f b c : List ℕ) (i : ℕ) (out : List ℕ) (s : ℕ) where
  abbrev x : BlockFields
  x = fields_of (block_in c)

  abbrev k : ℕ
  k = sectors_of p.bytes

  abbrev other : Side
  other = other_side p.kept

  abbrev part : Part
  part = part_for other p.area x

  abbrev number : ℕ
  number = first (needed_tests p f b c i out)

  abbrev empty : Result ℕ Reason
  empty = block_given (block_sector other x.device) (emptied x.device) c out

  abbrev filled : Result ℕ Reason
  filled = part_given part k c (area_bytes c p.area p.bytes) (i - 1) out

  abbrev blank : Result ℕ Reason
  blank = block_given (block_sector p.kept x.device) (with_entry x (other_area p.area) None) c out

  module _ (z : number ≡ 0) where
    block_on : (w : Side) → s ≡ block_sector w (device_in c) → Lies w (device_in c) s
    block_on w e = block_lies f b (length out) (holding_of (entry_in x p.area)).bytes p.bytes i (plan_stores p) (device_in c) z w s e

    other-lies : i ≤ k + 1 → rewrite_answer p x c i out ≡ Ok s → Lies other (device_in c) s
    other-lies l =
        by_test (eqb i 0) empty (cond (leb i (k + 1)) filled blank) s
        (λ t e. block_on other (block_place_lem (block_sector other x.device) (emptied x.device) c out s e))
        (λ t e.
        part_lies f b (length out) (holding_of (entry_in x p.area)).bytes p.bytes i (plan_stores p) (device_in c) z other A (i - 1) s
        (part-place part k c (area_bytes c p.area p.bytes) (i - 1) out s (ap (λ (a : Bool). cond a filled blank) (sym (le-leb i (k + 1) l)) ∙ e)))

    kept-lies : k + 1 < i → rewrite_answer p x c i out ≡ Ok s → Lies p.kept (device_in c) s
    kept-lies l =
        by_test (eqb i 0) empty (cond (leb i (k + 1)) filled blank) s
        (λ t e. absurd (let n : i ≡ 0 = eqb-true i 0 t in omega arith))
        (λ t e.
        block_on p.kept
        (block_place_lem (block_sector p.kept x.device) (with_entry x (other_area p.area) None) c out s
        (ap (λ (a : Bool). cond a filled blank) (sym (lt-leb i (k + 1) l)) ∙ e)))

  needed_lies : needed_answer p f b c i out ≡ Ok s → (i ≤ k + 1 → Lies other (device_in c) s) × (k + 1 < i → Lies p.kept (device_in c) s)
  needed_lies =
      by_test (eqb number 0) (rewrite_answer p x c i out) (Err (reason number)) s
      (λ t e. (λ l. other-lies (eqb-true number 0 t) l e, λ l. kept-lies (eqb-true number 0 t) l e))
      (λ t e. no_place (reason number) s e)

pub within : Within
within (Ok None) f b i out s e = no_place (reason (none_number f b (length out))) s e
within (Ok (Some p)) f b i out s e = (p, (refl, needed_lies p f b (copy_on p.kept f b) i out s e))
within (Err n) f b i out s e = no_place (reason (none_number f b (length out))) s e
