-- `amseokbin::amseokbin_record_begin` meets its contract.
use mathlib.Core.Path.{refl}
use Rattle.items.specs.declared.Head.TheVariants.{Plain}
use Rattle.items.specs.Making.{begin_tests}
use Rattle.amseokbin.proofs.Numbers.{plain_told}
use Rattle.amseokbin.proofs.records.amseokbin_record_begin.Goals as goal

pub returns-clause-value : goal.returns-clause-value
returns-clause-value c = plain_told (begin_tests c.args.content.now (Plain c.args.size)) refl _ _ c.begin.ensures.value c.refusal_in.ensures
