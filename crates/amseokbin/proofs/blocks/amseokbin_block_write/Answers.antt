-- `amseokbin::amseokbin_block_write` meets its contract.
use mathlib.Core.Path.{refl, ap, ◌∙◌}
use Rattle.block.specs.declared.BlockFields.{BlockFields}
use Rattle.block.specs.Writing.{write_tests}
use Rattle.refusal.specs.Reasons.{answer}
use Rattle.refusal.specs.Tests.{first}
use Rattle.amseokbin.specs.Answers.{fields_from}
use Rattle.amseokbin.proofs.Numbers.{plain_told}
use Rattle.amseokbin.proofs.blocks.amseokbin_block_write.Goals as goal

pub returns-clause-value : goal.returns-clause-value
returns-clause-value c =
    plain_told (write_tests c.args.bytes.now c.args.block.pool c.args.block.blockdev (fields_from c.args.block)) refl _ _
    (c.write.ensures.value ∙ ap (λ (x : BlockFields). answer (first (write_tests c.args.bytes.now c.args.block.pool c.args.block.blockdev x)) (tt {0})) c.fields_from.ensures)
    c.refusal_in.ensures
