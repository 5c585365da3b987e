-- `allocation::walk::Gaps::fit` meets its contract.
use Rattle.std.proofs.Common.{◌≡◌, sym, refl, ◌∙◌, leb, rules, tests}
use Rattle.std.proofs.lemmas.Iterator.Consumers.{YieldsList-from_first}
use Rattle.std.proofs.lemmas.Iterator.Search.{find_from_yields_List}
use Rattle.std.specs.Prelude.{Option, Some, None}
use Rattle.std.specs.Option.{option_map}
use Rattle.runs.specs.declared.Run.{Run}
use Rattle.allocation.specs.Walking.{left}
use Rattle.allocation.proofs.walk.Gaps.fit.Goals as goal

same : (o : Option Run) → option_map (λ (x : Run). x) o ≡ o
same None = refl
same (Some x) = refl

pub returns : goal.returns
returns c =
    sym (same c.find.result)
    ∙ find_from_yields_List (λ (r : Run). leb c.args.m r.sectors) c.find.new.self _ c.find.result c.find.ensures.ran
    (YieldsList-from_first (λ (x : Run). x) left (left c.args.self) refl) (λ x b q k. search (rules, tests))
