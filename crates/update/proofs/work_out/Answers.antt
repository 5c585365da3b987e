-- `update::work_out` meets its contract: discovery's reason is the update's.
use mathlib.Core.Path.{◌≡◌, sym, ap, ◌∙◌}
use borrow.Author.Rules.{rules}
use Rattle.std.specs.Prelude.{Err}
use Rattle.discovery.specs.declared.Examined.{Examined}
use Rattle.update.specs.Plan.{plan_of, planned}
use Rattle.update.proofs.Planning.{refused_lem}
use Rattle.update.proofs.work_out.Goals as goal

pub returns-in_err-v : goal.returns-in_err-v
returns-in_err-v c =
    let h : planned c.args.c.front.now c.args.c.back.now c.args.t c.args.r.now ≡ Err c.in_err-v.field-0.0 =
    refused_lem c.args.c.front.now c.args.c.back.now c.args.t c.args.r.now (plan_of c.args.c.front.now c.args.c.back.now c.args.t c.args.r.now) _
    (sym (ap (λ (v : Examined). v.answer) c.examine-v.ensures) ∙ c.in_err-v.was) in
    search rules
