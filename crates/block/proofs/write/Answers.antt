-- `block::write` meets its contract.
use mathlib.Core.Path.{◌≡◌, sym, ap, ◌∙◌}
use Rattle.refusal.specs.Tests.{first}
use Rattle.block.specs.Writing.{sealed, write_tests}
use Rattle.block.proofs.Readings.{ok_none}
use Rattle.block.proofs.Written.{written-accepted, sealed_laid}
use Rattle.block.proofs.write.Goals as goal

pub returns-clause-out_after : goal.returns-clause-out_after
returns-clause-out_after c =
    let z : first (write_tests c.args.out.now c.args.pool.now c.args.blockdev.now c.args.f) ≡ 0 =
    ok_none _ _ _ (sym c.check_write.ensures ∙ c.in_ok-check_write.was) in
    c.seal.ensures
    ∙ (ap sealed c.put_fields.ensures
    ∙ (sealed_laid c.args.out.now c.args.pool.now c.args.blockdev.now c.args.f z
    ∙ written-accepted c.args.out.now c.args.pool.now c.args.blockdev.now c.args.f z))
