-- `update::check` meets its contract: discovery's reason is the update's.
use mathlib.Core.Path.{◌≡◌, sym, ap, ◌∙◌}
use borrow.Author.Rules.{rules}
use Rattle.std.specs.Prelude.{Err}
use Rattle.record.specs.Accept.{answered}
use Rattle.discovery.specs.declared.Examined.{Examined}
use Rattle.update.specs.Update.{update_number}
use Rattle.update.proofs.Planning.{refused_lem}
use Rattle.update.proofs.check.Goals as goal

pub returns-in_err-w : goal.returns-in_err-w
returns-in_err-w c =
    let h : answered (update_number c.args.c.front.now c.args.c.back.now c.args.t c.args.r.now) c.args.r.now (tt {0}) ≡ Err c.in_err-w.field-0.0 =
    refused_lem c.args.c.front.now c.args.c.back.now c.args.t c.args.r.now (tt {0}) _ (sym (ap (λ (v : Examined). v.answer) c.examine-v.ensures) ∙ c.in_err-w.was) in
    search rules
