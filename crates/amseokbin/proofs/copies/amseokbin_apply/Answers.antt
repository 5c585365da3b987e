-- `amseokbin::amseokbin_apply` meets its contract.
use mathlib.Core.Path.{refl}
use Rattle.sectors.specs.Apply.{apply_tests}
use Rattle.amseokbin.proofs.Numbers.{plain_told}
use Rattle.amseokbin.proofs.copies.amseokbin_apply.Goals as goal

pub returns-clause-value : goal.returns-clause-value
returns-clause-value c = plain_told (apply_tests c.args.device c.args.bytes.now c.args.front.now c.args.back.now) refl _ _ c.apply.ensures.value c.refusal_in.ensures
