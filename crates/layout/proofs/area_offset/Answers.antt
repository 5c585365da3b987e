-- `layout::area_offset` meets its contract.
use Rattle.layout.specs.Limits.{record_limit}
use Rattle.layout.specs.Places.{area_offset}
use Rattle.layout.proofs.area_offset.Goals as goal

pub returns-in-A : goal.returns-in-A
unfolding area_offset record_limit
returns-in-A c = rw c.in-A.is

pub returns-in-B : goal.returns-in-B
unfolding area_offset record_limit
returns-in-B c = rw c.in-B.is
