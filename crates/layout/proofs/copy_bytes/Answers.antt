-- `layout::copy_bytes` meets its contract.
use mathlib.Core.Path.{refl}
use Rattle.layout.specs.Limits.{record_limit}
use Rattle.layout.specs.Places.{copy_bytes}
use Rattle.layout.proofs.copy_bytes.Goals as goal

pub returns : goal.returns
unfolding copy_bytes record_limit
returns c = refl
