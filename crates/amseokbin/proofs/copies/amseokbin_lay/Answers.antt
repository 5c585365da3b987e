-- `amseokbin::amseokbin_lay` meets its contract.
use mathlib.Core.Path.{refl}
use Rattle.stores.specs.Given.{lay_tests}
use Rattle.amseokbin.proofs.Numbers.{plain_told}
use Rattle.amseokbin.proofs.copies.amseokbin_lay.Goals as goal

pub returns-clause-value : goal.returns-clause-value
returns-clause-value c = plain_told (lay_tests c.args.copy.now c.args.content.now) refl _ _ c.lay.ensures.value c.refusal_in.ensures
