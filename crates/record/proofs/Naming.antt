-- Laws of the refusal of a call that takes a record: its number, and what stands beside it.
use Prim.Native.Nat.{ℕ, ◌<◌}
use mathlib.Core.Path.{◌≡◌, refl, sym, ap, ◌∙◌}
use mathlib.Core.Bool.{false, cond}
use mathlib.Core.List.{List}
use native.Mathlib.Omega.{arith}
use lib.Dec.{eqb}
use lib.ListN.{length}
use Rattle.refusal.specs.declared.Refusal.{Refusal}
use Rattle.refusal.specs.Numbers.{segment_clash}
use Rattle.refusal.specs.Refusals.{plain}
use Rattle.refusal.proofs.Order.{answer_no, answer-yes}
use Rattle.refusal.specs.Reasons.{reason_of, refusal_in}
use Rattle.refusal.proofs.Reasons.{named_back}
use Rattle.refusal.proofs.Refusals.{but_number, but_there, but_other}
use Rattle.segments.specs.Clash.{later_of, earlier_of, apart}
use Rattle.segments.proofs.Clash.{apart_not}
use Rattle.items.specs.Items.{segments}
use Rattle.order.specs.Ordering.{first_clash}
use Rattle.order.proofs.Ordering.{clash_pair}
use Rattle.record.specs.Accept.{named, answered, clash_reason}

-- the number, a number with nothing beside it, and the pair beside 19
pub named-number : (n : ℕ) (s : List ℕ) → (named n s).number ≡ n
unfolding named
named-number n s = but_number segment_clash _ _ n

pub named_other : (n : ℕ) (s : List ℕ) → (n ≡ segment_clash → ⊥) → named n s ≡ plain n
unfolding named
named_other n s h = but_other segment_clash _ _ n h

pub named-pair : (s : List ℕ) → named segment_clash s ≡ record { number = segment_clash; first = earlier_of (segments s); second = later_of (segments s) (earlier_of (segments s)) }
unfolding named
named-pair s = but_there segment_clash _ _

-- an accepted record
pub named_none : (s : List ℕ) → named 0 s ≡ plain 0
named_none s = named_other 0 s (λ z. omega arith)

-- why segments are refused of which two share a sector, as the code finds it
pub clash_named : (s : List ℕ) → apart (segments s) ≡ false → clash_reason (first_clash (segments s)) ≡ reason_of (named segment_clash s)
clash_named s h =
    let l : earlier_of (segments s) < length (segments s) = apart_not (segments s) h in
    ap clash_reason (clash_pair (segments s) (earlier_of (segments s)) (later_of (segments s) (earlier_of (segments s))) l refl refl)
    ∙ ap reason_of (sym (named-pair s))

-- the refusal in an answer of a call whose tests have numbers that are known
pub refusal_named : {A : Type 0} (n : ℕ) (s : List ℕ) (v : A) → n < 25 → refusal_in (answered n s v) ≡ named n s
unfolding named
refusal_named n s v l = named_back _ _ n v l

-- the refusal r of a check whose number is m: its number, and the same by its own number
pub number_is : (r : Refusal) (m : ℕ) (s : List ℕ) → r ≡ named m s → r.number ≡ m
number_is r m s h = ap (λ (q : Refusal). q.number) h ∙ named-number m s

pub named_again : (r : Refusal) (m : ℕ) (s : List ℕ) → r ≡ named m s → r ≡ named r.number s
named_again r m s h = h ∙ ap (λ (k : ℕ). named k s) (sym (number_is r m s h))

-- a number that is the call's own, and the refusal of a check that is the call's
pub named_own : (k n : ℕ) (s : List ℕ) → (k ≡ segment_clash → ⊥) → k ≡ n → plain k ≡ named n s
named_own k n s h e = sym (named_other k s h) ∙ ap (λ (m : ℕ). named m s) e

pub named-on : (r : Refusal) (m n : ℕ) (s : List ℕ) → r ≡ named m s → m ≡ n → r ≡ named n s
named-on r m n s h e = h ∙ ap (λ (k : ℕ). named k s) e

-- What a call answers that hands the refusal r of its tests on, whose number is n, or else its values.
module _ {A : Type 0} (value : A) (refused : Refusal → A) (s : List ℕ) where
  pub refuse_no : (r : Refusal) (n : ℕ) → r ≡ named r.number s → r.number ≡ n → (r.number ≡ 0 → ⊥) → refused r ≡ cond (eqb n 0) value (refused (named n s))
  refuse_no r n h e z = ap refused h ∙ answer_no value (λ (k : ℕ). refused (named k s)) r.number n e z

  -- a number of its own, which is not 19
  pub refuse_own : (k n : ℕ) → (k ≡ segment_clash → ⊥) → k ≡ n → (k ≡ 0 → ⊥) → refused (plain k) ≡ cond (eqb n 0) value (refused (named n s))
  refuse_own k n h e z = refuse_no (plain k) n (sym (named_other k s h)) e z

  pub refuse-yes : (k n : ℕ) → k ≡ n → k ≡ 0 → value ≡ cond (eqb n 0) value (refused (named n s))
  refuse-yes k n e z = answer-yes value (λ (j : ℕ). refused (named j s)) k n e z
