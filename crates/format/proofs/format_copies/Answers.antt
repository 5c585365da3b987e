-- `format::format_copies` meets its contract.
use Rattle.format.proofs.Filling.{accepted_facts, filled_after}
use Rattle.format.proofs.format_copies.Goals as goal

pub first_fields-x-requires : goal.first_fields-x-requires
first_fields-x-requires c = (accepted_facts _ _ _ _ _ _ _ _ c.in_ok-check.ensures).content.0

pub fill-requires : goal.fill-requires
fill-requires c = (accepted_facts _ _ _ _ _ _ _ _ c.in_ok-check.ensures).front

pub fill-requires-2 : goal.fill-requires-2
fill-requires-2 c = (accepted_facts _ _ _ _ _ _ _ _ c.in_ok-check.ensures).back

pub returns-clause-f_after : goal.returns-clause-f_after
returns-clause-f_after c = rw (c.fill.ensures, c.first_fields-x.ensures) (filled_after _ _ _ _ _ _ _ _ c.in_ok-check.ensures _)

pub returns-clause-b_after : goal.returns-clause-b_after
returns-clause-b_after c = rw (c.fill-2.ensures, c.first_fields-x.ensures) (filled_after _ _ _ _ _ _ _ _ c.in_ok-check.ensures _)
