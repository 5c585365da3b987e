-- What the search for two segments that clash answers, proved: the names of specs/Demand.antt.
use Rattle.std.proofs.Common.{◌≡◌, ℕ, ◌<◌, ◌≤◌, Bool, true, false, List, length, sym, refl, ap, ◌∙◌, subst, cond, leb, ◌&&◌, arith}
use native.Mathlib.Decide.{dec_lt}
use Rattle.endian.proofs.Tests.{and_right}
use Rattle.segments.specs.declared.Segment.{Segment}
use Rattle.segments.specs.Clash.{later_of, earlier_of, apart}
use Rattle.segments.specs.Demand.{Share, FirstPair}
use Rattle.segments.specs.Order.{all_some, orderly}
use Rattle.segments.proofs.Clash.{earlier_le, apart_none}
use Rattle.segments.proofs.Pairs.{apart_share, share_apart, share_found, first-pair, one-pair}
use Rattle.items.specs.Head.{most_of_any}
use Rattle.std.specs.Prelude.{Option, Some, None, Ok, Err}
use Rattle.order.specs.declared.Clash.{Clash}
use Rattle.order.specs.Ordering.{first_clash, positions, order}
use Rattle.order.specs.Demand.{Finding}
use Rattle.order.proofs.Ordering.{clash_pair, clash_nothing, order_not}

module _ (gs : List Segment) where
  -- the search by its cases: two positions, or none
  found_there : earlier_of gs < length gs → first_clash gs ≡ Some (record { first = earlier_of gs; second = later_of gs (earlier_of gs) })
  found_there l = clash_pair gs (earlier_of gs) (later_of gs (earlier_of gs)) l refl refl

  found_none : length gs ≤ earlier_of gs → first_clash gs ≡ None
  found_none l = clash_nothing gs (let e : earlier_of gs ≡ length gs = omega (arith, earlier_le gs) in e)

  pair_is : (i j : ℕ) → first_clash gs ≡ Some (record { first = i; second = j }) → FirstPair gs i j
  pair_is i j h =
      elim (dec_lt (earlier_of gs) (length gs)) [
        | yes l ↦
            let f : first_clash gs ≡ Some (record { first = earlier_of gs; second = later_of gs (earlier_of gs) }) = found_there l in
            let a : Clash = record { first = earlier_of gs; second = later_of gs (earlier_of gs) } in
            let b : Clash = record { first = i; second = j } in
            let e : a ≡ b = cc in
            rw (← ap (λ (c : Clash). c.first) e, ← ap (λ (c : Clash). c.second) e) (first-pair gs l)
        | no l ↦
            let f : first_clash gs ≡ None = found_none (let m : length gs ≤ earlier_of gs = omega arith in m) in
            let z : ◌≡◌ {A = ℕ} 0 1 = cc in
            absurd (omega arith)
      ]

  is_pair : (i j : ℕ) → FirstPair gs i j → first_clash gs ≡ Some (record { first = i; second = j })
  is_pair i j p =
      let l : earlier_of gs < length gs = share_found gs i j p.shared.0 p.shared.1 in
      let e : (earlier_of gs ≡ i) × (later_of gs (earlier_of gs) ≡ j) = one-pair gs (earlier_of gs) (later_of gs (earlier_of gs)) i j (first-pair gs l) p in
      clash_pair gs i j (subst (λ (k : ℕ). k < length gs) e.0 l) e.0 (ap (later_of gs) (sym e.0) ∙ e.1)

  nothing_is : first_clash gs ≡ None → (i j x : ℕ) → Share gs i j x → ⊥
  nothing_is h i j x c =
      let l : earlier_of gs < length gs = share_found gs i j x c in
      let f : first_clash gs ≡ Some (record { first = earlier_of gs; second = later_of gs (earlier_of gs) }) = found_there l in
      let z : ◌≡◌ {A = ℕ} 0 1 = cc in
      omega arith

  is_nothing : ((i j x : ℕ) → Share gs i j x → ⊥) → first_clash gs ≡ None
  is_nothing h = clash_nothing gs (apart_none gs (share_apart gs h))

  -- segments that have an order, and segments that have none
  is_ordered : (p : List ℕ) → order gs ≡ Ok p → orderly gs ≡ true
  is_ordered p h = go (orderly gs) refl
    where
      go : (b : Bool) → orderly gs ≡ b → b ≡ true
      go true e = refl
      go false e =
          let f : order gs ≡ Err (first_clash gs) = order_not gs e in
          let z : ◌≡◌ {A = ℕ} 0 1 = cc in
          absurd (omega arith)

  ordered_is : (p : List ℕ) → order gs ≡ Ok p → (first_clash gs ≡ None) × ((i j x : ℕ) → Share gs i j x → ⊥)
  unfolding orderly
  ordered_is p h =
      let a : apart gs ≡ true = and_right (all_some gs) (apart gs) (is_ordered p h) in
      (is_nothing (apart_share gs a), apart_share gs a)

  clash_is : (c : Option Clash) → order gs ≡ Err c → c ≡ first_clash gs
  unfolding order
  clash_is c h = go (leb (length gs) most_of_any && orderly gs) h
    where
      go : (b : Bool) → cond b (Ok (positions gs)) (Err (first_clash gs)) ≡ Err c → c ≡ first_clash gs
      go true e =
          let z : ◌≡◌ {A = ℕ} 0 1 = cc in
          absurd (omega arith)
      go false e = cc

pub finding : Finding
finding gs =
    record {
      pair = pair_is gs;
      found = is_pair gs;
      nothing = nothing_is gs;
      none = is_nothing gs;
      ordered = ordered_is gs;
      not_ordered = clash_is gs;
    }
