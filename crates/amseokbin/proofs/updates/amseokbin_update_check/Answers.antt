-- `amseokbin::amseokbin_update_check` meets its contract.
use Rattle.update.specs.Update.{update_number}
use Rattle.amseokbin.proofs.Numbers.{named_told, update_known}
use Rattle.amseokbin.proofs.updates.amseokbin_update_check.Goals as goal

pub returns : goal.returns
returns c =
    named_told (update_number c.args.front.now c.args.back.now c.args.time c.args.content.now) c.args.content.now
    (update_known c.args.front.now c.args.back.now c.args.time c.args.content.now) _ _ c.check.ensures c.refusal_in.ensures
