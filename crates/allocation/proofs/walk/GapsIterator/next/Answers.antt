-- `allocation::walk::GapsIterator::next` meets its contract: each gap is given once, in order.
use Rattle.std.proofs.Common.{sym, ap, ◌∙◌}
use Rattle.segments.specs.Segments.{nth}
use Rattle.items.specs.Items.{segments_in}
use Rattle.allocation.proofs.Walking.{gap_there, gap_not, left_more, last_gap, progress}
use Rattle.allocation.proofs.walk.GapsIterator.next.Goals as goal

pub returns-then-is_some-clause-steps : goal.returns-then-is_some-clause-steps
returns-then-is_some-clause-steps c =
    let l = left_more c.loop-i.w c.in-Some.i.now c.in-Some.others.now c.segment_in-g.result c.in-Some.ensures.cases.0
    (c.segment_in-g.ensures ∙ ap (nth (segments_in c.loop-i.w.t.now)) c.from.ensures) in
    gap_there _ _ _ _ _ _ (sym c.loop-i.invariant ∙ l) c.gap-before.ensures (sym c.is_some.ensures ∙ c.if-is_some.true)

pub returns-then-is_some-clause-goes : goal.returns-then-is_some-clause-goes
returns-then-is_some-clause-goes c = progress _ _ _ _ tt (returns-then-is_some-clause-steps c)

pub loop-i-preserved : goal.loop-i-preserved
loop-i-preserved c =
    let l = left_more c.loop-i.w c.in-Some.i.now c.in-Some.others.now c.segment_in-g.result c.in-Some.ensures.cases.0
    (c.segment_in-g.ensures ∙ ap (nth (segments_in c.loop-i.w.t.now)) c.from.ensures) in
    sym (gap_not _ _ _ _ _ (sym c.loop-i.invariant ∙ l) c.gap-before.ensures (sym c.is_some.ensures ∙ c.if-is_some.false))

pub returns-clause-steps : goal.returns-clause-steps
returns-clause-steps c =
    last_gap c.loop-i.w (record { t = c.loop-i.w.t; at = c.loop-i.w.at; last = c.nothing_at.result; end = c.loop-i.w.end }) _ _
    (sym c.loop-i.invariant) c.in_default.ensures.cases c.in_default.ensures.cases c.nothing_at.ensures c.gap.ensures

pub returns-clause-goes : goal.returns-clause-goes
returns-clause-goes c = progress _ _ _ _ tt (returns-clause-steps c)
