-- `endian::number` meets its contract: the number so far is that of the bytes passed, which are the last ones.
use Rattle.std.proofs.Common.{◌≡◌, ℕ, ◌^◌, ◌≤◌, ◌<◌, List, [], ◌∷◌, ◌++◌, length, sym, ap, ◌∙◌, refl, arith}
use mathlib.Core.List.{append_assoc, append-nil}
use native.Mathlib.Nat.{mod-eq_of_lt}
use lib.ListN.{length-append}
use Rattle.endian.specs.Bytes.{le}
use Rattle.endian.proofs.Numbers.{le_bound, le-cons, le-nil}
use Rattle.endian.proofs.number.Goals as goal

-- the number of the bytes passed has room for one more
room : (s u t p : List ℕ) (b r : ℕ) → length s ≤ 8 → s ≡ u ++ p → u ≡ t ++ b ∷ [] → r ≡ le p → r < 256 ^ 7
room s u t p b r m e f h =
    rw h (le_bound p 7 (omega (arith, ap length e, ap length f, length-append u p, length-append t (b ∷ []))))

none_left : (u p : List ℕ) → length u ≡ 0 → u ++ p ≡ p
none_left [] p h = refl
none_left (x ∷ u) p h = absurd (cc)

pub loop-b-init : goal.loop-b-init
loop-b-init c =
    let e : c.args.s.now ≡ c.into_iter-b-iterator.result.iter.rest.now = cc in
    ([], (e ∙ sym (append-nil _), sym le-nil))

pub overflow_mul-r : goal.overflow_mul-r
overflow_mul-r c = omega (arith, room _ _ _ c.loop-b.invariant.0 _ _ c.requires c.loop-b.invariant.1.0 c.in-Some.ensures.steps c.loop-b.invariant.1.1)

pub overflow_add-r : goal.overflow_add-r
overflow_add-r c = omega (arith, room _ _ _ c.loop-b.invariant.0 _ _ c.requires c.loop-b.invariant.1.0 c.in-Some.ensures.steps c.loop-b.invariant.1.1)

pub loop-b-preserved : goal.loop-b-preserved
loop-b-preserved c =
    let b : ℕ = c.in-Some.b.now in
    let p : List ℕ = c.loop-b.invariant.0 in
    let l : b < 256 = omega arith in (
      b ∷ p,
      (
        c.loop-b.invariant.1.0 ∙ (ap (λ (u : List ℕ). u ++ p) c.in-Some.ensures.steps ∙ append_assoc _ (b ∷ []) p),
        rw (le-cons, mod-eq_of_lt l, c.loop-b.invariant.1.1) (omega arith),
      ),
    )

pub returns : goal.returns
returns c = c.loop-b.invariant.1.1 ∙ ap le (sym (c.loop-b.invariant.1.0 ∙ none_left _ _ c.in-None.ensures.steps.0))
