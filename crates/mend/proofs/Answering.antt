-- What `work_out` answers, in other words.
use Prim.Native.Nat.{ℕ}
use mathlib.Core.Path.{◌≡◌, refl, sym, ap, ◌∙◌}
use mathlib.Core.Bool.{Bool, true, false, cond, true≢false}
use mathlib.Core.List.{List}
use Rattle.std.specs.Prelude.{Option, Some, None, Result, Ok, Err, is_ok}
use Rattle.refusal.specs.declared.Reason.{Reason}
use native.Mathlib.Omega.{arith}
use Rattle.layout.specs.declared.Side.{Side}
use Rattle.discovery.specs.declared.Found.{Found}
use Rattle.discovery.specs.Discovery.{discovery, is_in_step, copy_on}
use Rattle.stores.proofs.InStep.{in_step_facts}
use Rattle.stores.proofs.States.{stepped-found}
use Rattle.mend.specs.declared.Rewrite.{Rewrite}
use Rattle.mend.specs.Plan.{rewrite_of, mending_after, mending}
use Rattle.mend.specs.Demand.{MendAnswers, Answering}

-- the three answers differ
refused-same : {A B : Type 0} (n m : Reason) → ◌≡◌ {A = Result A Reason} (Err n) (Err m) → ◌≡◌ {A = Result B Reason} (Err n) (Err m)
refused-same n m e = let z : n ≡ m = cc in ap Err z

err_ok : {A : Type 0} (n : Reason) (v : A) → Err n ≡ Ok v → ⊥
err_ok n v e = true≢false (sym (ap is_ok e))

step_needed : (p : Rewrite) → ◌≡◌ {A = Result (Option Rewrite) Reason} (Ok None) (Ok (Some p)) → ⊥
step_needed p e = let z : ◌≡◌ {A = ℕ} 0 1 = cc in omega arith

module _ (f b : List ℕ) where
  -- copies in step are not refused
  in_step-found : (n : Reason) → discovery f b ≡ Err n → is_in_step f b ≡ true → ⊥
  in_step-found n e i = err_ok n _ (sym e ∙ stepped-found (λ (w : Side). copy_on w f b) (in_step_facts (λ (w : Side). copy_on w f b) i))

  by_answer : (a : Result Found Reason) → discovery f b ≡ a → MendAnswers f b (mending_after a f b)
  by_answer (Err n) e =
      record {
        refused = λ m. (λ h. e ∙ refused-same n m h, λ h. refused-same n m (sym e ∙ h));
        in_step = (λ h. absurd (err_ok n None h), λ i. absurd (in_step-found n e i));
        needed = (λ h. absurd (err_ok n (Some h.0) h.1), λ h. absurd (err_ok n _ (sym e ∙ h.2)));
      }
  by_answer (Ok a) e = go (is_in_step f b) refl
    where
      go : (u : Bool) → is_in_step f b ≡ u → MendAnswers f b (cond u (Ok None) (Ok (Some (rewrite_of a.finding))))
      go true i =
          record {
            refused = λ m. (λ h. absurd (err_ok m None (sym h)), λ h. absurd (err_ok m a (sym h ∙ e)));
            in_step = (λ h. i, λ h. refl);
            needed = (λ h. absurd (step_needed h.0 h.1), λ h. absurd (true≢false (sym i ∙ h.3)));
          }
      go false i =
          record {
            refused = λ m. (λ h. absurd (err_ok m (Some (rewrite_of a.finding)) (sym h)), λ h. absurd (err_ok m a (sym h ∙ e)));
            in_step = (λ h. absurd (step_needed (rewrite_of a.finding) (sym h)), λ h. absurd (true≢false (sym h ∙ i)));
            needed = (λ h. (a.finding, a.other, e, i), λ h. (rewrite_of a.finding, refl));
          }

pub answering : Answering
unfolding mending
answering f b = by_answer f b (discovery f b) refl
