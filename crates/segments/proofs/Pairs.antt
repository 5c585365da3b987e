-- Laws of two segments that clash, in words.
use Prim.Native.Nat.{ℕ, ◌≤◌, ◌<◌}
use mathlib.Core.Path.{◌≡◌, sym, ◌∙◌, subst}
use mathlib.Core.Bool.{true, true≢false}
use mathlib.Core.Logic.{⊎_elim}
use mathlib.Core.List.{List}
use native.Mathlib.Decide.{dec_lt}
use native.Mathlib.Omega.{arith}
use lib.ListN.{length}
use Rattle.search.proofs.Search.{not_true-false}
use Rattle.segments.specs.declared.Segment.{Segment}
use Rattle.segments.specs.Segments.{nth, holds, meets}
use Rattle.segments.specs.Clash.{later_of, earlier_of, clashes_at, apart}
use Rattle.segments.specs.Demand.{Share, FirstPair}
use Rattle.segments.proofs.Segments.{meets_shares, shares_meets}
use Rattle.segments.proofs.Clash.{clash_later, clash_order, clash_meets, later_there, found_clash, clash_lowest, none_apart, apart_all, all_apart}

-- no two segments share a sector, as a test and in words
pub apart_share : (gs : List Segment) → apart gs ≡ true → (i j x : ℕ) → Share gs i j x → ⊥
apart_share gs h i j x c =
    true≢false (sym (shares_meets (nth gs i) (nth gs j) x c.one c.other) ∙ apart_all gs h i j c.later c.there)

pub share_apart : (gs : List Segment) → ((i j x : ℕ) → Share gs i j x → ⊥) → apart gs ≡ true
share_apart gs h =
    all_apart gs (λ i j l k. not_true-false (meets (nth gs i) (nth gs j)) (λ m.
    let w : (x : ℕ) × ((holds (nth gs i) x ≡ true) × (holds (nth gs j) x ≡ true)) = meets_shares (nth gs i) (nth gs j) m in
    h i j w.0 (record { later = l; there = k; one = w.1.0; other = w.1.1 })))

-- positions whose segments share a sector clash, and two that clash are found
pub share_clash : (gs : List Segment) (k l x : ℕ) → Share gs k l x → clashes_at gs k l ≡ true
share_clash gs k l x c = clash_later gs k l c.later ∙ shares_meets (nth gs k) (nth gs l) x c.one c.other

pub share_found : (gs : List Segment) (i j x : ℕ) → Share gs i j x → earlier_of gs < length gs
share_found gs i j x c =
    elim (dec_lt (earlier_of gs) (length gs)) [
      | yes l ↦ l
      | no l ↦ absurd (apart_share gs (none_apart gs (let m : length gs ≤ earlier_of gs = omega arith in m)) i j x c)
    ]

-- the pair that the search finds
pub first-pair : (gs : List Segment) → earlier_of gs < length gs → FirstPair gs (earlier_of gs) (later_of gs (earlier_of gs))
first-pair gs l =
    record {
      shared = found;
      lowest = λ k m x c.
          ⊎_elim (λ (h : earlier_of gs < k). (let q : earlier_of gs ≤ k = omega arith in q))
          (λ (h : (earlier_of gs ≡ k) × (later_of gs (earlier_of gs) ≤ m)). (let e : earlier_of gs ≡ k = h.0 in let q : earlier_of gs ≤ k = omega arith in q))
          (clash_lowest gs k m c.there (share_clash gs k m x c));
      next = λ m x c.
          ⊎_elim (λ (h : earlier_of gs < earlier_of gs). absurd (let q : ⊥ = omega arith in q))
          (λ (h : (earlier_of gs ≡ earlier_of gs) × (later_of gs (earlier_of gs) ≤ m)). h.1)
          (clash_lowest gs (earlier_of gs) m c.there (share_clash gs (earlier_of gs) m x c));
    }
  where
    found : (x : ℕ) × Share gs (earlier_of gs) (later_of gs (earlier_of gs)) x
    found =
        let c : clashes_at gs (earlier_of gs) (later_of gs (earlier_of gs)) ≡ true = found_clash gs l in
        let w : (x : ℕ) × ((holds (nth gs (earlier_of gs)) x ≡ true) × (holds (nth gs (later_of gs (earlier_of gs))) x ≡ true)) =
        meets_shares (nth gs (earlier_of gs)) (nth gs (later_of gs (earlier_of gs))) (clash_meets gs (earlier_of gs) (later_of gs (earlier_of gs)) c) in
        (w.0, record { later = clash_order gs (earlier_of gs) (later_of gs (earlier_of gs)) c; there = later_there gs l; one = w.1.0; other = w.1.1 })

-- there is one such pair at the most
pub one-pair : (gs : List Segment) (i j k l : ℕ) → FirstPair gs i j → FirstPair gs k l → (i ≡ k) × (j ≡ l)
one-pair gs i j k l p q =
    let a : i ≤ k = p.lowest k l q.shared.0 q.shared.1 in
    let b : k ≤ i = q.lowest i j p.shared.0 p.shared.1 in
    let e : i ≡ k = omega arith in
    let c : j ≤ l = p.next l q.shared.0 (subst (λ (z : ℕ). Share gs z l q.shared.0) (sym e) q.shared.1) in
    let d : l ≤ j = q.next j p.shared.0 (subst (λ (z : ℕ). Share gs z j p.shared.0) e p.shared.1) in
    (e, omega arith)
