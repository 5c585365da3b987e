-- A refused store changes no lent byte, and a plan's refusal is the update's number, with the two segments that clash beside 19.
use Prim.Native.Nat.{ℕ, ◌+◌, ◌-◌, ◌*◌, ◌<◌}
use mathlib.Core.Bool.{false}
use mathlib.Core.Path.{◌≡◌, refl, sym, ap, subst, ◌∙◌}
use mathlib.Core.List.{List, [], ◌∷◌}
use native.Mathlib.Omega.{arith}
use lib.Dec.{eqb, leb}
use lib.ListN.{length}
use Rattle.std.specs.Prelude.{Result, Ok, Err}
use Rattle.refusal.specs.declared.Reason.{Reason}
use Rattle.refusal.specs.Reasons.{reason, refusal_of, refusal_in}
use Rattle.refusal.proofs.Reasons.{told_zero}
use Rattle.record.proofs.Naming.{refusal_named}
use Rattle.refusal.specs.declared.Refusal.{Refusal}
use Rattle.refusal.specs.Numbers.{area_entry, not_later, not_in_step, segment_clash}
use Rattle.refusal.specs.Tests.{first}
use Rattle.refusal.proofs.Order.{first_other}
use Rattle.layout.specs.Limits.{nanoseconds_allowed}
use Rattle.layout.specs.declared.Side.TheVariants.{Front, Back}
use Rattle.block.specs.declared.Time.{Time}
use Rattle.block.specs.Entry.{later_than}
use Rattle.segments.specs.Clash.{apart}
use Rattle.items.specs.Items.{segments}
use Rattle.record.specs.Accept.{content_tests, named}
use Rattle.segments.specs.Demand.{FirstPair}
use Rattle.record.proofs.Demand.{first-named, content_clash}
use Rattle.discovery.specs.declared.Found.{Found}
use Rattle.discovery.specs.Discovery.{discovery, is_in_step}
use Rattle.discovery.specs.Newest.{time_at}
use Rattle.stores.specs.declared.Part.{Part}
use Rattle.stores.specs.Given.{part_given, part_left}
use Rattle.stores.specs.Stores.{sectors_of}
use Rattle.stores.proofs.Refusing.{either, part_refuses}
use Rattle.update.specs.declared.Plan.{Plan}
use Rattle.update.specs.Update.{number_after, update_number}
use Rattle.update.specs.Answers.{planned_values}
use Rattle.update.specs.Plan.{plan_of, planned, sectors_in, part_on, store_tests, sides_answer, sides_bytes, store_answer, store_bytes}
use Rattle.update.specs.Demand.{Naming, Refusing}
use Rattle.update.proofs.Planning.{Nonzero, discovery-number, number_below}

module _ (p : Plan) (f b r : List ℕ) (i : ℕ) (out : List ℕ) (n : Reason) where
  abbrev frontPart : Part
  frontPart = part_on Front p.front p.entry f

  abbrev backPart : Part
  backPart = part_on Back p.back p.entry b

  store_refuses : store_answer p f b r i out ≡ Err n → store_bytes p f b r i out ≡ out
  store_refuses =
      either (eqb (first (store_tests p f b r i out)) 0) (sides_answer p f b r i out) (Err (reason (first (store_tests p f b r i out)))) (sides_bytes p f b r i out) out out n
      (either (leb i (sectors_in p)) (part_given frontPart (sectors_in p) f r i out) (part_given backPart (sectors_in p) b r (i - (sectors_in p + 1)) out)
      (part_left frontPart (sectors_in p) f r i out) (part_left backPart (sectors_in p) b r (i - (sectors_in p + 1)) out) out n
      (part_refuses frontPart (sectors_in p) f r i out n) (part_refuses backPart (sectors_in p) b r (i - (sectors_in p + 1)) out n))
      (λ e. refl)

module _ (f b : List ℕ) (t : Time) (r : List ℕ) where
  numbers : refusal_in (planned f b t r) ≡ named (update_number f b t r) r
  numbers = refusal_named (update_number f b t r) r (plan_of f b t r) (number_below f b t r)

  values : update_number f b t r ≡ 0 → planned_values (planned f b t r) ≡ (2 * sectors_of (length r) + 2) ∷ []
  values z = ap planned_values (told_zero (update_number f b t r) (named (update_number f b t r) r) (plan_of f b t r) z)

  -- 19 is the record's: discovery never gives it, and no test before the record's does
  from_record : (a : Result Found Reason) → Nonzero a → number_after a f b t r ≡ 19 → apart (segments r) ≡ false
  from_record (Err n) z e =
      let l : (refusal_of n).number < segment_clash = z.1 in
      let h : (refusal_of n).number ≡ 19 = e in
      absurd (omega arith)
  from_record (Ok w) z e =
      content_clash w.finding.fields.device r
      (first_other (later_than t (time_at w.finding)) not_later (content_tests w.finding.fields.device r) 19 (λ x. omega arith)
      (first_other (nanoseconds_allowed t.nanoseconds) area_entry _ 19 (λ x. omega arith) (first_other (is_in_step f b) not_in_step _ 19 (λ x. omega arith) e)))

  pair : update_number f b t r ≡ 19 → FirstPair (segments r) (refusal_in (planned f b t r)).first (refusal_in (planned f b t r)).second
  unfolding update_number
  pair e =
      subst (λ (q : Refusal). FirstPair (segments r) q.first q.second) (sym (numbers ∙ ap (λ (n : ℕ). named n r) e))
      (first-named r (from_record (discovery f b) (discovery-number f b) e))

pub naming : Naming
naming = pair

pub refusing : Refusing
refusing = record { store = store_refuses; number = numbers; values = values }
