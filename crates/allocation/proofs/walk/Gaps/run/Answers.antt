-- `allocation::walk::Gaps::run` meets its contract.
use Rattle.std.proofs.Common.{◌≡◌, ℕ, zero, suc, List, [], ◌∷◌, sym, refl, ap, ◌∙◌}
use Rattle.std.proofs.lemmas.Iterator.Consumers.{YieldsList-from_first, nth_from_yields_List}
use Rattle.std.specs.Prelude.{Option, Some, None, slice_get}
use Rattle.std.specs.Option.{option_map, unwrap_or}
use Rattle.runs.specs.declared.Run.{Run}
use Rattle.runs.specs.Runs.{no_run, run_at}
use Rattle.allocation.specs.Walking.{left}
use Rattle.allocation.proofs.walk.Gaps.run.Goals as goal

same : (o : Option Run) → option_map (λ (x : Run). x) o ≡ o
same None = refl
same (Some x) = refl

got : (rs : List Run) (k : ℕ) → unwrap_or (slice_get rs k) no_run ≡ run_at rs k
got [] k = refl
got (r ∷ rs) zero = refl
got (r ∷ rs) (suc k) = got rs k

pub returns : goal.returns
returns c =
    let g : c.nth.result ≡ slice_get (left c.args.self) c.args.k =
    sym (same c.nth.result) ∙ nth_from_yields_List c.nth.result c.nth.new.self c.args.k c.nth.ensures.ran (YieldsList-from_first (λ (x : Run). x) left (left c.args.self) refl) in
    c.unwrap_or.ensures ∙ (ap (λ (o : Option Run). unwrap_or o no_run) g ∙ got (left c.args.self) c.args.k)
