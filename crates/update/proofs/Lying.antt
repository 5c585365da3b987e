-- A store that is given lies on its own side of the device that this side's copy says it is of.
use Prim.Native.Nat.{ℕ, ◌+◌, ◌-◌, ◌≤◌, ◌<◌}
use mathlib.Core.Path.{◌≡◌, sym, ap, ◌∙◌}
use mathlib.Core.Bool.{Bool, true, false, cond}
use mathlib.Core.List.{List}
use borrow.Author.Tests.{eqb-true, le-leb, lt-leb}
use lib.Dec.{eqb, leb}
use lib.ListN.{length}
use Rattle.std.specs.Prelude.{Result, Ok, Err}
use Rattle.refusal.specs.declared.Reason.{Reason}
use Rattle.refusal.specs.Reasons.{reason}
use Rattle.refusal.specs.Tests.{first}
use Rattle.layout.specs.declared.Side.TheVariants.{Front, Back}
use Rattle.copy.specs.Copy.{device_in}
use Rattle.stores.specs.declared.Part.{Part}
use Rattle.stores.specs.Given.{plan_tests, part_given}
use Rattle.stores.specs.States.{Lies}
use Rattle.stores.proofs.Lying.{by_test, no_place, part-place, part_lies}
use Rattle.update.specs.declared.Plan.{Plan}
use Rattle.update.specs.Plan.{sectors_in, stores_in, part_on, store_tests, sides_answer, store_answer}
use Rattle.update.specs.Demand.{Within}

module _ (p : Plan) (f b r : List ℕ) (i : ℕ) (out : List ℕ) (s : ℕ) where
  abbrev k : ℕ
  k = sectors_in p

  abbrev number : List ℕ → ℕ
  number c = first (plan_tests f b (length out) (length r) p.entry.bytes i (stores_in p) (device_in c))

  abbrev frontPart : Part
  frontPart = part_on Front p.front p.entry f

  abbrev backPart : Part
  backPart = part_on Back p.back p.entry b

  abbrev chosen : Bool → Result ℕ Reason
  chosen t = cond t (part_given frontPart k f r i out) (part_given backPart k b r (i - (k + 1)) out)

  -- the tests hold of its copy, and its side gives the sector
  given : (t : Bool) → leb i k ≡ t → store_answer p f b r i out ≡ Ok s → (number (cond t f b) ≡ 0) × (chosen t ≡ Ok s)
  given t h =
      by_test (eqb (first (store_tests p f b r i out)) 0) (sides_answer p f b r i out) (Err (reason (first (store_tests p f b r i out)))) s
      (λ z e. (ap (λ (a : Bool). number (cond a f b)) (sym h) ∙ eqb-true (first (store_tests p f b r i out)) 0 z, ap chosen (sym h) ∙ e))
      (λ z e. no_place (reason (first (store_tests p f b r i out))) s e)

  front_lies : store_answer p f b r i out ≡ Ok s → i ≤ k → Lies Front (device_in f) s
  front_lies e l =
      let g : (number f ≡ 0) × (part_given frontPart k f r i out ≡ Ok s) = given true (le-leb i k l) e in
      part_lies f b (length out) (length r) p.entry.bytes i (stores_in p) (device_in f) g.0 Front p.front i s (part-place frontPart k f r i out s g.1)

  back_lies : store_answer p f b r i out ≡ Ok s → k < i → Lies Back (device_in b) s
  back_lies e l =
      let g : (number b ≡ 0) × (part_given backPart k b r (i - (k + 1)) out ≡ Ok s) = given false (lt-leb i k l) e in
      part_lies f b (length out) (length r) p.entry.bytes i (stores_in p) (device_in b) g.0 Back p.back (i - (k + 1)) s
      (part-place backPart k b r (i - (k + 1)) out s g.1)

pub within : Within
within p f b r i out s e = (front_lies p f b r i out s e, back_lies p f b r i out s e)
