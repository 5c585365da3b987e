-- Laws of the sectors that a list of segments holds, and of those of a range that are free.
use Prim.Native.Nat.{ℕ, zero, suc, ◌+◌, ◌-◌, ◌≤◌, ◌<◌, min}
use mathlib.Core.Path.{◌≡◌, refl, sym, ap, ◌∙◌}
use mathlib.Core.Bool.{Bool, true, false, ◌&&◌}
use mathlib.Core.Logic.{◌⊎◌, inl, inr}
use mathlib.Core.List.{List, [], ◌∷◌, ◌++◌}
use native.Mathlib.Decide.{dec_lt, dec_le}
use native.Mathlib.Nat.{le_of_suc-le-suc, not-suc-le-zero}
use native.Mathlib.Omega.{arith}
use borrow.Author.Tests.{eqb-true, eq-eqb, ne_eqb}
use lib.Dec.{eqb}
use lib.ListN.{length}
use Rattle.endian.proofs.Tests.{and_left, and_right, and_both}
use Rattle.search.specs.Search.{total, within, one}
use Rattle.search.proofs.Search.{and_false-left, and_false-right, not_true-false, in_within, below-within, past-within, within_low, within_high, total-same}
use Rattle.search.proofs.Sums.{total-none, total-add, total-within}
use Rattle.segments.specs.declared.Segment.{Segment}
use Rattle.segments.specs.declared.Range.{Range}
use Rattle.segments.specs.Segments.{nth, end_of, holds, InRange}
use Rattle.segments.specs.Sectors.{held_by, is_free, allocated, free_sectors, Holder}
use Rattle.segments.specs.Clash.{apart}
use Rattle.segments.proofs.Segments.{Apart, apart-holds, meets_not, not_meets, not_holds_low, not_holds_high}
use Rattle.segments.proofs.Clash.{apart_all, all_apart}

-- in how many segments a sector is
pub held_none : (x : ℕ) → held_by [] x ≡ 0
unfolding held_by
held_none x = refl

pub held_more : (g : Segment) (gs : List Segment) (x : ℕ) → held_by (g ∷ gs) x ≡ one (holds g x) + held_by gs x
unfolding held_by
held_more g gs x = refl

pub held-append : (gs hs : List Segment) (x : ℕ) → held_by (gs ++ hs) x ≡ held_by gs x + held_by hs x
held-append [] hs x =
    let a : held_by [] x ≡ 0 = held_none x in
    omega arith
held-append (g ∷ gs) hs x =
    let a : held_by (g ∷ gs) x ≡ one (holds g x) + held_by gs x = held_more g gs x in
    let b : held_by (g ∷ (gs ++ hs)) x ≡ one (holds g x) + held_by (gs ++ hs) x = held_more g (gs ++ hs) x in
    let r : held_by (gs ++ hs) x ≡ held_by gs x + held_by hs x = held-append gs hs x in
    omega arith

one-zero : (b : Bool) → one b ≡ 0 → b ≡ false
one-zero true h = absurd (omega arith)
one-zero false h = refl

-- a sector is in none exactly where no segment holds it
pub held_not : (gs : List Segment) (x : ℕ) → held_by gs x ≡ 0 → (i : ℕ) → i < length gs → holds (nth gs i) x ≡ false
held_not [] x h i l = absurd (not-suc-le-zero l)
held_not (g ∷ gs) x h zero l =
    let a : held_by (g ∷ gs) x ≡ one (holds g x) + held_by gs x = held_more g gs x in
    one-zero (holds g x) (omega arith)
held_not (g ∷ gs) x h (suc i) l =
    let a : held_by (g ∷ gs) x ≡ one (holds g x) + held_by gs x = held_more g gs x in
    held_not gs x (omega arith) i (le_of_suc-le-suc l)

pub not_held : (gs : List Segment) (x : ℕ) → ((i : ℕ) → i < length gs → holds (nth gs i) x ≡ false) → held_by gs x ≡ 0
not_held [] x h = held_none x
not_held (g ∷ gs) x h =
    let a : held_by (g ∷ gs) x ≡ one (holds g x) + held_by gs x = held_more g gs x in
    let b : one (holds g x) ≡ 0 = ap one (h 0 (omega arith)) in
    let r : held_by gs x ≡ 0 = not_held gs x (λ i l. h (suc i) (let k : suc i < suc (length gs) = omega arith in k)) in
    omega arith

-- and in some exactly where one does
pub held-some : (gs : List Segment) (x i : ℕ) → i < length gs → holds (nth gs i) x ≡ true → 1 ≤ held_by gs x
held-some [] x i l h = absurd (not-suc-le-zero l)
held-some (g ∷ gs) x zero l h =
    let a : held_by (g ∷ gs) x ≡ one (holds g x) + held_by gs x = held_more g gs x in
    let b : one (holds g x) ≡ 1 = ap one h in
    omega arith
held-some (g ∷ gs) x (suc i) l h =
    let a : held_by (g ∷ gs) x ≡ one (holds g x) + held_by gs x = held_more g gs x in
    let r : 1 ≤ held_by gs x = held-some gs x i (le_of_suc-le-suc l) h in
    omega arith

pub find_held : (gs : List Segment) (x : ℕ) → 1 ≤ held_by gs x → (i : ℕ) × ((i < length gs) × (holds (nth gs i) x ≡ true))
find_held [] x h =
    let a : held_by [] x ≡ 0 = held_none x in
    absurd (omega arith)
find_held (g ∷ gs) x h = go (find_held gs x) (holds g x) refl
  where
    go : (1 ≤ held_by gs x → (i : ℕ) × ((i < length gs) × (holds (nth gs i) x ≡ true))) → (b : Bool) → holds g x ≡ b
        → (i : ℕ) × ((i < suc (length gs)) × (holds (nth (g ∷ gs) i) x ≡ true))
    go r true e = (0, ((let k : 0 < suc (length gs) = omega arith in k), e))
    go r false e =
        let a : held_by (g ∷ gs) x ≡ one (holds g x) + held_by gs x = held_more g gs x in
        let b : one (holds g x) ≡ 0 = ap one e in
        let u : (i : ℕ) × ((i < length gs) × (holds (nth gs i) x ≡ true)) = r (omega arith) in
        let l : u.0 < length gs = u.1.0 in
        (suc u.0, ((let k : suc u.0 < suc (length gs) = omega arith in k), u.1.1))

-- a free sector lies in the range and in no segment
pub free_low : (r : Range) (gs : List Segment) (x : ℕ) → is_free r gs x ≡ true → r.start ≤ x
unfolding is_free
free_low r gs x h = within_low r.start r.end x (and_left (within r.start r.end x) (eqb (held_by gs x) 0) h)

pub free_high : (r : Range) (gs : List Segment) (x : ℕ) → is_free r gs x ≡ true → x < r.end
unfolding is_free
free_high r gs x h = within_high r.start r.end x (and_left (within r.start r.end x) (eqb (held_by gs x) 0) h)

pub free-held : (r : Range) (gs : List Segment) (x : ℕ) → is_free r gs x ≡ true → held_by gs x ≡ 0
unfolding is_free
free-held r gs x h = eqb-true (held_by gs x) 0 (and_right (within r.start r.end x) (eqb (held_by gs x) 0) h)

pub is_free_lem : (r : Range) (gs : List Segment) (x : ℕ) → r.start ≤ x → x < r.end → held_by gs x ≡ 0 → is_free r gs x ≡ true
unfolding is_free
is_free_lem r gs x h k e =
    and_both (within r.start r.end x) (eqb (held_by gs x) 0) (in_within r.start r.end x h k) (eq-eqb (held_by gs x) 0 e)

-- a sector that is not free: outside the range, or held
pub outside_not_free : (r : Range) (gs : List Segment) (x : ℕ) → (x < r.start) ⊎ (r.end ≤ x) → is_free r gs x ≡ false
unfolding is_free
outside_not_free r gs x (inl h) = and_false-left (within r.start r.end x) (eqb (held_by gs x) 0) (below-within r.start r.end x h)
outside_not_free r gs x (inr h) = and_false-left (within r.start r.end x) (eqb (held_by gs x) 0) (past-within r.start r.end x h)

pub held_not_free : (r : Range) (gs : List Segment) (x : ℕ) → 1 ≤ held_by gs x → is_free r gs x ≡ false
unfolding is_free
held_not_free r gs x h =
    and_false-right (within r.start r.end x) (eqb (held_by gs x) 0) (ne_eqb (held_by gs x) 0 (λ e. omega arith))

-- the same sectors held: the same sectors free
pub free-same : (r : Range) (gs hs : List Segment) (x : ℕ) → held_by gs x ≡ held_by hs x → is_free r gs x ≡ is_free r hs x
unfolding is_free
free-same r gs hs x h = ap (λ (n : ℕ). within r.start r.end x && eqb n 0) h

-- allocated sectors
pub allocated-none : allocated [] ≡ 0
unfolding allocated
allocated-none = refl

pub allocated_more : (g : Segment) (gs : List Segment) → allocated (g ∷ gs) ≡ g.sectors + allocated gs
unfolding allocated
allocated_more g gs = refl

pub allocated-append : (gs hs : List Segment) → allocated (gs ++ hs) ≡ allocated gs + allocated hs
allocated-append [] hs =
    let a : allocated [] ≡ 0 = allocated-none in
    omega arith
allocated-append (g ∷ gs) hs =
    let a : allocated (g ∷ gs) ≡ g.sectors + allocated gs = allocated_more g gs in
    let b : allocated (g ∷ (gs ++ hs)) ≡ g.sectors + allocated (gs ++ hs) = allocated_more g (gs ++ hs) in
    let r : allocated (gs ++ hs) ≡ allocated gs + allocated hs = allocated-append gs hs in
    omega arith

-- any two segments are apart
abbrev pub Disjoint : List Segment → Type 0
Disjoint gs = (i j : ℕ) → i < j → j < length gs → Apart (nth gs i) (nth gs j)

pub disjoint_tail : (g : Segment) (gs : List Segment) → Disjoint (g ∷ gs) → Disjoint gs
disjoint_tail g gs w i j l m =
    w (suc i) (suc j) (let k : suc i < suc j = omega arith in k) (let k : suc j < suc (length gs) = omega arith in k)

-- segments that are not empty, lie in a range and are apart
pub record Laid (r : Range) (gs : List Segment) : Type 0 where
  pub ranges : (i : ℕ) → i < length gs → InRange r (nth gs i)
  pub disjoint : (i j : ℕ) → i < j → j < length gs → Apart (nth gs i) (nth gs j)

pub laid_tail : (r : Range) (g : Segment) (gs : List Segment) → Laid r (g ∷ gs) → Laid r gs
laid_tail r g gs w =
    record {
      ranges = λ i l. w.ranges (suc i) (let k : suc i < suc (length gs) = omega arith in k);
      disjoint = disjoint_tail g gs w.disjoint;
    }

-- from the tests, and back
pub laid_by : (r : Range) (gs : List Segment) → ((i : ℕ) → i < length gs → InRange r (nth gs i)) → apart gs ≡ true → Laid r gs
laid_by r gs h a =
    record {
      ranges = h;
      disjoint = λ i j l k.
          meets_not (nth gs i) (nth gs j) (h i (let m : i < length gs = omega arith in m)).some (h j k).some (apart_all gs a i j l k);
    }

pub laid-apart : (r : Range) (gs : List Segment) → Laid r gs → apart gs ≡ true
laid-apart r gs w = all_apart gs (λ i j l k. not_meets (nth gs i) (nth gs j) (w.disjoint i j l k))

-- outside the range no segment holds a sector
pub outside : (r : Range) (gs : List Segment) → Laid r gs → (x : ℕ) → (x < r.start) ⊎ (r.end ≤ x) → held_by gs x ≡ 0
outside r gs w x (inl h) =
    not_held gs x (λ i l. not_holds_low (nth gs i) x (let k : r.start ≤ (nth gs i).start = (w.ranges i l).low in omega arith))
outside r gs w x (inr h) =
    not_held gs x (λ i l. not_holds_high (nth gs i) x (let k : end_of (nth gs i) ≤ r.end = (w.ranges i l).high in omega arith))

-- no sector is in two
pub held_once : (gs : List Segment) → Disjoint gs → (x : ℕ) → held_by gs x ≤ 1
held_once [] w x =
    let a : held_by [] x ≡ 0 = held_none x in
    omega arith
held_once (g ∷ gs) w x = go (held_once gs (disjoint_tail g gs w) x) (holds g x) refl
  where
    none : holds g x ≡ true → (i : ℕ) → i < length gs → holds (nth gs i) x ≡ false
    none e i l =
        not_true-false (holds (nth gs i) x) (apart-holds g (nth gs i) x (w 0 (suc i) (omega arith) (let k : suc i < suc (length gs) = omega arith in k)) e)

    go : held_by gs x ≤ 1 → (b : Bool) → holds g x ≡ b → held_by (g ∷ gs) x ≤ 1
    go u true e =
        let b : one (holds g x) ≡ 1 = ap one e in
        let z : held_by gs x ≡ 0 = not_held gs x (none e) in
        omega (arith, held_more g gs x)
    go u false e =
        let b : one (holds g x) ≡ 0 = ap one e in
        omega (arith, held_more g gs x)

-- each sector of the range is in one segment, or free
pub once : (r : Range) (gs : List Segment) → Laid r gs → (x : ℕ) → r.start ≤ x → x < r.end → held_by gs x + one (is_free r gs x) ≡ 1
once r gs w x h k =
    let u : held_by gs x ≤ 1 = held_once gs w.disjoint x in
    elim (dec_lt 0 (held_by gs x)) [
      | yes l ↦
          let f : one (is_free r gs x) ≡ 0 = ap one (held_not_free r gs x l) in
          omega arith
      | no l ↦
          let f : one (is_free r gs x) ≡ 1 = ap one (is_free_lem r gs x h k (omega arith)) in
          omega arith
    ]

-- a segment below n holds as many sectors as it says, and a list of them as many as they say together
pub total-holds : (g : Segment) (n : ℕ) → end_of g ≤ n → total (λ x. one (holds g x)) n ≡ g.sectors
unfolding holds
total-holds g n h =
    total-within g.start (end_of g) n (let l : g.start ≤ end_of g = omega arith in l)
    ∙ (let e : min n (end_of g) - g.start ≡ g.sectors = omega arith in e)

pub total-held : (gs : List Segment) (n : ℕ) → ((i : ℕ) → i < length gs → end_of (nth gs i) ≤ n) → total (held_by gs) n ≡ allocated gs
total-held [] n h = total-none (held_by []) n (λ x l. held_none x) ∙ sym allocated-none
total-held (g ∷ gs) n h =
    let a : total (held_by (g ∷ gs)) n ≡ total (λ x. one (holds g x) + held_by gs x) n =
    total-same (held_by (g ∷ gs)) (λ x. one (holds g x) + held_by gs x) n (λ x l. held_more g gs x) in
    let b : total (λ x. one (holds g x) + held_by gs x) n ≡ total (λ x. one (holds g x)) n + total (held_by gs) n =
    total-add (λ x. one (holds g x)) (held_by gs) n in
    let c : total (λ x. one (holds g x)) n ≡ g.sectors = total-holds g n (h 0 (omega arith)) in
    let d : total (held_by gs) n ≡ allocated gs = total-held gs n (λ i l. h (suc i) (let k : suc i < suc (length gs) = omega arith in k)) in
    let e : allocated (g ∷ gs) ≡ g.sectors + allocated gs = allocated_more g gs in
    omega arith

-- allocated and free sectors are all of the range
pub counted : (r : Range) (gs : List Segment) → Laid r gs → r.start ≤ r.end → allocated gs + free_sectors r gs ≡ r.end - r.start
unfolding free_sectors
counted r gs w h =
    let n : ℕ = r.end in
    let free : ℕ → ℕ = λ x. one (is_free r gs x) in
    let inside : ℕ → ℕ = λ x. one (within r.start r.end x) in
    let a : total (held_by gs) n ≡ allocated gs = total-held gs n (λ i l. (w.ranges i l).high) in
    let b : total (λ x. held_by gs x + free x) n ≡ total (held_by gs) n + total free n = total-add (held_by gs) free n in
    let c : total (λ x. held_by gs x + free x) n ≡ total inside n = total-same (λ x. held_by gs x + free x) inside n each in
    let d : total inside n ≡ min r.end r.end - r.start = total-within r.start r.end n h in
    omega arith
  where
    each : (x : ℕ) → x < r.end → held_by gs x + one (is_free r gs x) ≡ one (within r.start r.end x)
    each x l =
        elim (dec_le r.start x) [
          | yes k ↦ once r gs w x k l ∙ ap one (sym (in_within r.start r.end x k l))
          | no k ↦
              let m : x < r.start = omega arith in
              let a : held_by gs x ≡ 0 = outside r gs w x (inl m) in
              let b : one (is_free r gs x) ≡ 0 = ap one (outside_not_free r gs x (inl m)) in
              let c : one (within r.start r.end x) ≡ 0 = ap one (below-within r.start r.end x m) in
              omega arith
        ]

-- the one segment that holds x
unfoldable pub holder : (r : Range) (gs : List Segment) → Laid r gs → (x : ℕ) → held_by gs x ≡ 1 → Holder gs x
holder r gs w x h =
    let u : (i : ℕ) × ((i < length gs) × (holds (nth gs i) x ≡ true)) = find_held gs x (omega arith) in
    record { at = u.0; there = u.1.0; has = u.1.1; only = only u.0 u.1.0 u.1.1 }
  where
    only : (i : ℕ) → i < length gs → holds (nth gs i) x ≡ true → (j : ℕ) → j < length gs → holds (nth gs j) x ≡ true → j ≡ i
    only i p u j q v =
        elim (dec_lt i j) [
          | yes k ↦ absurd (apart-holds (nth gs i) (nth gs j) x (w.disjoint i j k q) u v)
          | no k ↦
              elim (dec_lt j i) [
                | yes m ↦ absurd (apart-holds (nth gs j) (nth gs i) x (w.disjoint j i m p) v u)
                | no m ↦ omega arith
              ]
        ]
