-- `layout::length_allowed` meets its contract; with the constant in src/, the one place that looks at the limit's value.
use mathlib.Core.Path.{refl}
use Rattle.layout.specs.Limits.{record_limit, length_allowed}
use Rattle.layout.proofs.length_allowed.Goals as goal

pub returns : goal.returns
unfolding record_limit length_allowed
returns c = refl
