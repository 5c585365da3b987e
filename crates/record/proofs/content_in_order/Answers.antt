-- `record::content_in_order` meets its contract.
use Rattle.std.proofs.Common.{◌≡◌, ℕ, List, length, true, sym, ap, ◌∙◌, Err}
use Rattle.layout.specs.Limits.{length_allowed}
use Rattle.items.specs.Head.{head_of}
use Rattle.items.specs.Items.{segments_in, segments, well_formed}
use Rattle.order.specs.Ordering.{order}
use Rattle.record.specs.Accept.{all_in_range}
use Rattle.record.proofs.Checking.{ordered_as, in_place, no_place, ordered_checked}
use Rattle.record.proofs.content_in_order.Goals as goal

pub returns-in-Ok : goal.returns-in-Ok
returns-in-Ok c =
    let s : List ℕ = c.args.s.now in
    let b : length_allowed (length s) ≡ true = sym c.length_allowed.ensures ∙ c.if-not-length_allowed.false in
    let w : well_formed c.args.d s ≡ true = sym c.well_formed-2.ensures ∙ c.if-not-well_formed.false in
    let r : all_in_range c.args.d (head_of s) (segments s) ≡ true = rw (← c.items_of-t.ensures, ← c.head_of.ensures) (sym c.all_in_range.ensures ∙ c.if-not-all_in_range.false) in
    in_place (order (segments_in c.items_of-t.result.now)) c.arrange.new.at (sym c.in-Ok.is ∙ c.arrange.ensures.value) c.arrange.ensures.at_after
    ∙ (ap ordered_as (ap (λ (t : List ℕ). order (segments_in t)) c.items_of-t.ensures) ∙ ordered_checked c.args.d s b w r)

pub returns-in-Err : goal.returns-in-Err
returns-in-Err c =
    let s : List ℕ = c.args.s.now in
    let b : length_allowed (length s) ≡ true = sym c.length_allowed.ensures ∙ c.if-not-length_allowed.false in
    let w : well_formed c.args.d s ≡ true = sym c.well_formed-2.ensures ∙ c.if-not-well_formed.false in
    let r : all_in_range c.args.d (head_of s) (segments s) ≡ true = rw (← c.items_of-t.ensures, ← c.head_of.ensures) (sym c.all_in_range.ensures ∙ c.if-not-all_in_range.false) in
    ap Err c.clash_reason.ensures
    ∙ (no_place (order (segments_in c.items_of-t.result.now)) c.in-Err.c (sym c.in-Err.is ∙ c.arrange.ensures.value)
    ∙ (ap ordered_as (ap (λ (t : List ℕ). order (segments_in t)) c.items_of-t.ensures) ∙ ordered_checked c.args.d s b w r))
