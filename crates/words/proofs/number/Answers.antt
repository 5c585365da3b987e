-- `words::number` meets its contract: the digits left give what the whole word says.
use borrow.Author.Tests.{eqb-true, eq-eqb}
use lib.Dec.{lit<}
use mathlib.Core.Bool.{true≢false}
use Rattle.std.proofs.Common.{sym, drop, ℕ, ◌≡◌, ◌+◌, ◌*◌, ◌∙◌, ap, None, arith}
use Rattle.words.specs.Words.{number_after}
use Rattle.words.proofs.Words.{number-none, number_start, number_stop, number_over, number_next, number-done}
use Rattle.words.proofs.number.Goals as goal

pub returns-then-is_empty : goal.returns-then-is_empty
returns-then-is_empty c = number-none c.args.s.now (eqb-true _ _ (sym c.if-is_empty.ensures))

pub loop-c-init : goal.loop-c-init
loop-c-init c = (lit< tt, number_start c.args.s.now (λ e. true≢false (sym (eq-eqb _ 0 e) ∙ sym c.if-is_empty.ensures)))

pub returns-in_err-d : goal.returns-in_err-d
returns-in_err-d c = c.from_residual.ensures ∙ number_stop c.args.s.now c.loop-c.c-index c.loop-c.v c.digit.result (omega arith) c.digit.ensures c.loop-c.invariant.1 c.in_err-d.was

pub returns-in_err-checked_mul : goal.returns-in_err-checked_mul
returns-in_err-checked_mul c = let e : c.from_residual-in_err-checked_mul.result ≡ None = c.from_residual-in_err-checked_mul.ensures in
    e ∙ number_over c.args.s.now c.loop-c.c-index c.loop-c.v c.digit.result (omega arith) c.digit.ensures c.loop-c.invariant.1 c.in_ok-d.d c.in_ok-d.was (grind arith)

pub returns-in_err-v : goal.returns-in_err-v
returns-in_err-v c = let e : c.from_residual-in_err-v.result ≡ None = c.from_residual-in_err-v.ensures in
    e ∙ number_over c.args.s.now c.loop-c.c-index c.loop-c.v c.digit.result (omega arith) c.digit.ensures c.loop-c.invariant.1 c.in_ok-d.d c.in_ok-d.was (grind arith)

pub loop-c-preserved : goal.loop-c-preserved
loop-c-preserved c =
    let i : ℕ = c.loop-c.c-index in
    let v : ℕ = c.loop-c.v in
    let d : ℕ = c.in_ok-d.d in
    let e : c.in_ok-v.v ≡ v * 10 + d = c.in_ok-v.ensures.1 ∙ ap (λ (z : ℕ). z + d) c.in_ok-checked_mul.ensures.1 in (
      omega (arith, c.in_ok-v.ensures),
      ap (λ (z : ℕ). number_after z (drop (i + 1) c.args.s.now)) e
          ∙ number_next c.args.s.now i v c.digit.result (omega arith) c.digit.ensures c.loop-c.invariant.1 d c.in_ok-d.was,
    )

pub returns : goal.returns
returns c = number-done c.args.s.now c.loop-c.c-index c.loop-c.v c.loop-c.invariant.1 (omega arith) c.loop-c.invariant.0
