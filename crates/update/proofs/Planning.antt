-- A plan, and why there is none, from what discovery answers.
use Prim.Native.Nat.{ℕ, ◌<◌}
use mathlib.Core.Path.{◌≡◌, refl, sym, ap, ap₂, subst, ◌∙◌}
use mathlib.Core.Bool.{Bool}
use mathlib.Core.Logic.{◌⊎◌, inl, inr}
use mathlib.Core.List.{List}
use native.Mathlib.Decide.{ℕ_discrete}
use native.Mathlib.Omega.{arith}
use borrow.Author.Tests.{ne_eqb}
use lib.Dec.{lit<}
use Rattle.std.specs.Prelude.{Result, Ok, Err}
use Rattle.refusal.specs.declared.Reason.{Reason}
use Rattle.refusal.specs.Numbers.{segment_clash}
use Rattle.refusal.specs.Reasons.{refusal_of, reason, reason_of}
use Rattle.refusal.specs.Tests.{first, AllHold}
use Rattle.refusal.proofs.Order.{Numbered, first_holds, first_below}
use Rattle.refusal.proofs.Reasons.{told_zero, told_other}
use Rattle.layout.specs.declared.Device.{Device}
use Rattle.layout.specs.declared.Side.{Side}
use Rattle.layout.specs.declared.Side.TheVariants.{Front, Back}
use Rattle.block.specs.declared.Time.{Time}
use Rattle.block.specs.declared.BlockFields.{BlockFields}
use Rattle.block.specs.Block.{fields_of}
use Rattle.block.proofs.Readings.{reason-from}
use Rattle.record.specs.Accept.{named, answered}
use Rattle.record.proofs.Naming.{named_other}
use Rattle.copy.specs.Copy.{block_in, record_at, newest}
use Rattle.discovery.specs.declared.Finding.{Finding}
use Rattle.discovery.specs.declared.Found.{Found}
use Rattle.discovery.specs.Discovery.{finding_of, found_with, discovery, is_in_step}
use Rattle.discovery.specs.Newest.{time_at}
use Rattle.discovery.proofs.Latest.{found-same, found_other}
use Rattle.discovery.proofs.Demand.{exactly}
use Rattle.stores.proofs.Holding.{held_in}
use Rattle.stores.proofs.InStep.{Stepped, in_step_facts}
use Rattle.stores.proofs.States.{stepped-found}
use Rattle.update.specs.Update.{tests_after, update_tests, number_after, update_number}
use Rattle.update.specs.Plan.{plan_of, plan_with, plan_found, planned}

-- discovery refuses neither with 0 nor with 19
abbrev pub Nonzero : Result Found Reason → Type 0
Nonzero (Ok w) = Unit {0}
Nonzero (Err e) = (0 < (refusal_of e).number) × ((refusal_of e).number < segment_clash)

pub discovery-number : (f b : List ℕ) → Nonzero (discovery f b)
discovery-number f b = go (discovery f b) refl
  where
    go : (a : Result Found Reason) → discovery f b ≡ a → Nonzero a
    go (Ok w) e = tt
    go (Err r) e = go_five ((exactly f b).no_other r e)
      where
        go_five : (r ≡ reason 1) ⊎ ((r ≡ reason 10) ⊎ ((r ≡ reason 11) ⊎ ((r ≡ reason 12) ⊎ (r ≡ reason 13)))) → Nonzero (Err r)
        go_five (inl h) = rw h (lit< tt, lit< tt)
        go_five (inr (inl h)) = rw h (lit< tt, lit< tt)
        go_five (inr (inr (inl h))) = rw h (lit< tt, lit< tt)
        go_five (inr (inr (inr (inl h)))) = rw h (lit< tt, lit< tt)
        go_five (inr (inr (inr (inr h)))) = rw h (lit< tt, lit< tt)

tests_numbered : (b : Bool) (v : Device) (old t : Time) (r : List ℕ) → Numbered (tests_after b v old t r)
tests_numbered b v old t r = (lit< tt, (lit< tt, (lit< tt, (lit< tt, (lit< tt, (lit< tt, (lit< tt, tt)))))))

module _ (f b : List ℕ) (t : Time) (r : List ℕ) where
  by_answer : (a : Result Found Reason) → discovery f b ≡ a → update_number f b t r ≡ number_after a f b t r
  unfolding update_number
  by_answer a e = ap (λ (z : Result Found Reason). number_after z f b t r) e

  -- an update's number is one of the numbers of refusals
  pub number_below : update_number f b t r < 25
  number_below = go (discovery f b) refl (discovery-number f b)
    where
      go : (a : Result Found Reason) → discovery f b ≡ a → Nonzero a → update_number f b t r < 25
      go (Err e) h z =
          let l : (refusal_of e).number < segment_clash = z.1 in
          let n : update_number f b t r ≡ (refusal_of e).number = by_answer (Err e) h in
          omega arith
      go (Ok w) h z =
          rw (by_answer (Ok w) h)
          (first_below 25 (update_tests f b w.finding t r) (lit< tt) (lit< tt, (lit< tt, (lit< tt, (lit< tt, (lit< tt, (lit< tt, (lit< tt, tt))))))))

  -- no test refuses an update whose number is 0
  pub not_refused : update_number f b t r ≡ 0 → (w : Found) × ((discovery f b ≡ Ok w) × AllHold (update_tests f b w.finding t r))
  not_refused h = go (discovery f b) refl (discovery-number f b)
    where
      go : (a : Result Found Reason) → discovery f b ≡ a → Nonzero a → (w : Found) × ((discovery f b ≡ Ok w) × AllHold (update_tests f b w.finding t r))
      go (Err e) k z =
          let l : 0 < (refusal_of e).number = z.0 in
          let n : update_number f b t r ≡ (refusal_of e).number = by_answer (Err e) k in
          absurd (omega arith)
      go (Ok w) k z =
          (w, (k, first_holds (update_tests f b w.finding t r) (tests_numbered (is_in_step f b) w.finding.fields.device (time_at w.finding) t r) (sym (by_answer (Ok w) k) ∙ h)))

  -- discovery's reason is the update's
  pub refused_lem : {A : Type 0} (v : A) (e : Reason) → discovery f b ≡ Err e → answered (update_number f b t r) r v ≡ Err e
  refused_lem v e h =
      let n : ℕ = (refusal_of e).number in
      let z : Nonzero (Err e) = subst Nonzero h (discovery-number f b) in
      let a : 0 < (refusal_of e).number = z.0 in
      let c : (refusal_of e).number < segment_clash = z.1 in
      rw (by_answer (Err e) h)
      (told_other (refusal_of e).number (named (refusal_of e).number r) v (λ x. omega arith)
      ∙ ap Err (ap reason_of (named_other (refusal_of e).number r (λ x. omega arith)) ∙ reason-from e (refusal_of e).number refl (λ x. omega arith)))

  -- of a found record the tests say the rest
  pub found_lem : {A : Type 0} (v : A) (w : Found) → discovery f b ≡ Ok w
      → answered (first (update_tests f b w.finding t r)) r v ≡ answered (update_number f b t r) r v
  found_lem v w h = ap (λ (n : ℕ). answered n r v) (sym (by_answer (Ok w) h))

  pub plan_found_lem : (w : Found) → discovery f b ≡ Ok w → plan_found w (is_in_step f b) t r ≡ planned f b t r
  plan_found_lem w e =
      elim (ℕ_discrete (first (update_tests f b w.finding t r)) 0) [
        | yes z ↦ rw z (ready z ∙ sym (told_zero (update_number f b t r) (named (update_number f b t r) r) (plan_of f b t r) (by_answer (Ok w) e ∙ z)))
        | no z ↦
            rw (ne_eqb (first (update_tests f b w.finding t r)) 0 z)
            (ap (λ (n : ℕ). Err (reason_of (named n r))) (sym (by_answer (Ok w) e))
            ∙ sym (told_other (update_number f b t r) (named (update_number f b t r) r) (plan_of f b t r) (λ x. z (sym (by_answer (Ok w) e) ∙ x))))
      ]
    where
      both : Side → List ℕ
      both Front = f
      both Back = b

      -- not refused: the copies are in step, and discovery has named both
      ready : first (update_tests f b w.finding t r) ≡ 0 → plan_with w.finding.fields w.other t r ≡ Ok (plan_of f b t r)
      ready z =
          let s : Stepped both = in_step_facts both (first_holds (update_tests f b w.finding t r) (tests_numbered (is_in_step f b) w.finding.fields.device (time_at w.finding) t r) z).0 in
          let p : found_with (finding_of Front (fields_of (block_in f)) (record_at (newest (fields_of (block_in f))) (held_in f))) (Ok (fields_of (block_in b))) ≡ found_with w.finding w.other =
          sym (stepped-found both s) ∙ e in
          ap₂ (λ (q : Finding) (o : Result BlockFields Reason). plan_with q.fields o t r) (sym (found-same w.finding w.other _ _ p)) (sym (found_other w.finding w.other _ _ p))
