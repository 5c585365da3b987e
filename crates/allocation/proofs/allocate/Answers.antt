-- `allocation::allocate` meets its contract.
use Rattle.std.proofs.Common.{sym, ◌∙◌}
use Rattle.allocation.proofs.Leaving.{allocate-written}
use Rattle.allocation.proofs.allocate.Goals as goal

pub returns-clause-out_after : goal.returns-clause-out_after
returns-clause-out_after c =
    allocate-written c.args.d c.args.s.now c.args.kind c.args.m c.args.out.now c.in_ok-a.a c.put.new.s c.put_segment.new.out
    (sym c.allocation_of.ensures ∙ c.in_ok-a.was) c.put.ensures.s_after c.put_segment.ensures.out_after
