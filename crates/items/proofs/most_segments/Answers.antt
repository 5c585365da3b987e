-- `items::most_segments` meets its contract.
use Rattle.layout.specs.Limits.{record_limit}
use Rattle.items.specs.Head.{most_segments}
use Rattle.items.proofs.most_segments.Goals as goal

pub returns : goal.returns
unfolding most_segments record_limit
returns c = rw c.head_size.ensures
