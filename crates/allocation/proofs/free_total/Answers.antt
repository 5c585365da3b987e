-- `allocation::free_total` meets its contract.
use Rattle.std.proofs.Common.{◌≡◌, [], sym, ◌∙◌, arith}
use Rattle.refusal.specs.Tests.{first}
use Rattle.refusal.proofs.Reasons.{told_zero}
use Rattle.segments.specs.Sectors.{allocated, free_sectors}
use Rattle.items.specs.Head.{data_range}
use Rattle.items.specs.Items.{segments_in, segments}
use Rattle.record.specs.Accept.{record_tests, named}
use Rattle.allocation.proofs.Calls.{accepted_on, total_left}
use Rattle.allocation.proofs.free_total.Goals as goal

pub allocated_of-requires : goal.allocated_of-requires
allocated_of-requires c =
    let z = (accepted_on c.args.d c.args.s.now [] tt _ (sym c.check.ensures ∙ c.in_ok-check.was)).0 in
    let e : allocated (segments_in c.items_of.result.now) ≡ allocated (segments c.args.s.now) = rw c.items_of.ensures in
    omega (arith, (total_left c.args.d c.args.s.now z).1.0, c.data_end.ensures)

pub overflow_sub-result : goal.overflow_sub-result
overflow_sub-result c =
    let z = (accepted_on c.args.d c.args.s.now [] tt _ (sym c.check.ensures ∙ c.in_ok-check.was)).0 in
    let e : allocated (segments_in c.items_of.result.now) ≡ allocated (segments c.args.s.now) = rw c.items_of.ensures in
    omega (arith, (total_left c.args.d c.args.s.now z).1.0, c.data_end.ensures, c.data_start.ensures, c.allocated_of.ensures)

pub returns : goal.returns
returns c =
    let n = first (record_tests c.args.d c.args.s.now) in
    let z = (accepted_on c.args.d c.args.s.now [] tt _ (sym c.check.ensures ∙ c.in_ok-check.was)).0 in
    rw (c.allocated_of.ensures, c.items_of.ensures, c.data_end.ensures, c.data_start.ensures, (total_left c.args.d c.args.s.now z).0)
    (sym (told_zero n (named n c.args.s.now) (free_sectors (data_range c.args.d) (segments c.args.s.now)) z))
