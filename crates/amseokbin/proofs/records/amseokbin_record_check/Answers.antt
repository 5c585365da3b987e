-- `amseokbin::amseokbin_record_check` meets its contract.
use mathlib.Core.Path.{refl}
use Rattle.refusal.specs.Tests.{first}
use Rattle.record.specs.Accept.{record_tests}
use Rattle.amseokbin.proofs.Numbers.{first_known, named_told}
use Rattle.amseokbin.proofs.records.amseokbin_record_check.Goals as goal

pub returns : goal.returns
returns c = named_told (first (record_tests c.args.device c.args.content.now)) c.args.content.now (first_known (record_tests c.args.device c.args.content.now) refl) _ _ c.check.ensures c.refusal_in.ensures
