-- `allocation::allocation_of` meets its contract: what is refused before the search is found by the check.
use Rattle.std.proofs.Common.{◌≡◌, ℕ, ◌+◌, ◌<◌, true, List, length, sym, ap, ◌∙◌, arith}
use Rattle.std.proofs.lemmas.Result.{err_from_is_err_and}
use Rattle.std.specs.Prelude.{Ok}
use Rattle.refusal.specs.Refusals.{plain_but}
use Rattle.layout.specs.declared.Device.{Device}
use Rattle.runs.specs.declared.Run.{Run}
use Rattle.items.specs.Head.{head_of, allows, item_bytes, most_segments}
use Rattle.items.specs.Items.{segments}
use Rattle.record.specs.Accept.{named, answered}
use Rattle.record.proofs.Accepted.{accepted}
use Rattle.allocation.specs.declared.Allocation.{Allocation}
use Rattle.allocation.specs.Walking.{left, fit_in}
use Rattle.allocation.specs.Change.{runs_for, own_tests, given}
use Rattle.allocation.proofs.Finding.{for_runs}
use Rattle.allocation.proofs.Calls.{ordered_refused, Ordered, ordered_on, range_is, fit_is, fit_some, fit_not, own-none, own-short, own-yes}
use Rattle.allocation.proofs.allocation_of.Goals as goal

-- what is answered where nothing is refused
abbrev placed : Device → List ℕ → ℕ → ℕ → Allocation
placed d s k m = record { start = (given d s k m).start; length = length s + item_bytes }

pub returns-in_err-at : goal.returns-in_err-at
returns-in_err-at c =
    let p = err_from_is_err_and c.from_residual.result c.from_residual.ensures.1 in
    rw (p.1, p.2)
    (ordered_refused c.args.d c.args.s.now (own_tests c.args.d c.args.s.now c.args.kind c.args.m c.args.w) (placed c.args.d c.args.s.now c.args.kind c.args.m) _
    (sym c.check_in_order.ensures ∙ c.in_err-at.was))

pub returns-in_default : goal.returns-in_default
unfolding named plain_but
returns-in_default c =
    let d : Device = c.args.d in
    let s : List ℕ = c.args.s.now in
    let k : ℕ = c.args.kind in
    let m : ℕ = c.args.m in
    let w : ℕ = c.args.w in
    let o : Ordered d s c.in_ok-at.at (own_tests d s k m w) = ordered_on d s c.in_ok-at.at (own_tests d s k m w) (sym c.check_in_order.ensures ∙ c.in_ok-at.was) in
    let a : allows (head_of s) k ≡ true = rw (← c.head_of-h.ensures) (sym c.allowed.ensures ∙ c.if-not-allowed.false) in
    let mo : c.most_segments.result ≡ most_segments (head_of s) = c.most_segments.ensures ∙ ap most_segments c.head_of-h.ensures in
    let few : length (segments s) < most_segments (head_of s) = omega (arith, c.count_of.ensures) in
    let f : c.fit.result ≡ fit_in m (runs_for d s k) =
    rw (for_runs d s (accepted d s o.zero) k)
    (fit_is d s c.in_ok-at.at (own_tests d s k m w) c.range_for.result (left c.gaps_in.result) m c.fit.result o
    (range_is d s c.head_of-h.result c.range_for.result k o.zero c.head_of-h.ensures c.range_for.ensures) c.gaps_in.ensures.all (omega arith) c.fit.ensures) in
    ap (λ (n : ℕ). answered n s (placed d s k m)) (sym (o.after ∙ own-none d s k m w a (omega arith) few (fit_not m (runs_for d s k) (sym c.in_default.is ∙ f))))

pub returns-then-w-s : goal.returns-then-w-s
unfolding named plain_but
returns-then-w-s c =
    let d : Device = c.args.d in
    let s : List ℕ = c.args.s.now in
    let k : ℕ = c.args.kind in
    let m : ℕ = c.args.m in
    let w : ℕ = c.args.w in
    let o : Ordered d s c.in_ok-at.at (own_tests d s k m w) = ordered_on d s c.in_ok-at.at (own_tests d s k m w) (sym c.check_in_order.ensures ∙ c.in_ok-at.was) in
    let a : allows (head_of s) k ≡ true = rw (← c.head_of-h.ensures) (sym c.allowed.ensures ∙ c.if-not-allowed.false) in
    let mo : c.most_segments.result ≡ most_segments (head_of s) = c.most_segments.ensures ∙ ap most_segments c.head_of-h.ensures in
    let few : length (segments s) < most_segments (head_of s) = omega (arith, c.count_of.ensures) in
    let f : c.fit.result ≡ fit_in m (runs_for d s k) =
    rw (for_runs d s (accepted d s o.zero) k)
    (fit_is d s c.in_ok-at.at (own_tests d s k m w) c.range_for.result (left c.gaps_in.result) m c.fit.result o
    (range_is d s c.head_of-h.result c.range_for.result k o.zero c.head_of-h.ensures c.range_for.ensures) c.gaps_in.ensures.all (omega arith) c.fit.ensures) in
    ap (λ (n : ℕ). answered n s (placed d s k m)) (sym (o.after ∙ own-short d s k m w a (omega arith) few (fit_some m (runs_for d s k) c.in-Some.r (sym c.in-Some.is ∙ f)).0 c.if-w-s.true))

pub returns : goal.returns
returns c =
    let d : Device = c.args.d in
    let s : List ℕ = c.args.s.now in
    let k : ℕ = c.args.kind in
    let m : ℕ = c.args.m in
    let w : ℕ = c.args.w in
    let o : Ordered d s c.in_ok-at.at (own_tests d s k m w) = ordered_on d s c.in_ok-at.at (own_tests d s k m w) (sym c.check_in_order.ensures ∙ c.in_ok-at.was) in
    let a : allows (head_of s) k ≡ true = rw (← c.head_of-h.ensures) (sym c.allowed.ensures ∙ c.if-not-allowed.false) in
    let mo : c.most_segments.result ≡ most_segments (head_of s) = c.most_segments.ensures ∙ ap most_segments c.head_of-h.ensures in
    let few : length (segments s) < most_segments (head_of s) = omega (arith, c.count_of.ensures) in
    let f : c.fit.result ≡ fit_in m (runs_for d s k) =
    rw (for_runs d s (accepted d s o.zero) k)
    (fit_is d s c.in_ok-at.at (own_tests d s k m w) c.range_for.result (left c.gaps_in.result) m c.fit.result o
    (range_is d s c.head_of-h.result c.range_for.result k o.zero c.head_of-h.ensures c.range_for.ensures) c.gaps_in.ensures.all (omega arith) c.fit.ensures) in
    let q = fit_some m (runs_for d s k) c.in-Some.r (sym c.in-Some.is ∙ f) in
    ap (λ (x : Run). Ok (record { start = x.start; length = length s + item_bytes })) q.1
    ∙ ap (λ (n : ℕ). answered n s (placed d s k m)) (sym (o.after ∙ own-yes d s k m w a (omega arith) few q.0 c.if-w-s.false))
