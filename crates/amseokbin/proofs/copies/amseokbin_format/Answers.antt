-- `amseokbin::amseokbin_format` meets its contract.
use mathlib.Core.Path.{refl}
use Prim.Native.Nat.{ℕ, ◌<◌}
use Rattle.format.specs.Format.{format_tests, format_number}
use Rattle.amseokbin.proofs.Numbers.{first_known, named_told}
use Rattle.amseokbin.proofs.copies.amseokbin_format.Goals as goal

pub returns-clause-value : goal.returns-clause-value
unfolding format_number
returns-clause-value c =
    let n : ℕ = format_number c.args.front.now c.args.back.now c.args.device c.args.pool.now c.args.blockdev.now c.args.time c.args.content.now in
    let l : n < 25 = first_known (format_tests c.args.front.now c.args.back.now c.args.device c.args.pool.now c.args.blockdev.now c.args.time c.args.content.now) refl in
    named_told n c.args.content.now l _ _ c.format_copies.ensures.value c.refusal_in.ensures
