-- `endian::same` meets its contract.
use mathlib.Core.Path.{sym, ◌∙◌}
use Rattle.endian.proofs.Tests.{same-pointwise}
use Rattle.endian.proofs.same.Goals as goal

pub returns : goal.returns
returns c = c.eq.ensures ∙ sym (same-pointwise _ _)
