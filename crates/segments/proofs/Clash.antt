-- Laws of two segments of a list that share a sector. A search's loops cite a law a step; meaning is the other half.
use Prim.Native.Nat.{ℕ, ◌+◌, ◌≤◌, ◌<◌}
use mathlib.Core.Path.{◌≡◌, sym, ap, ◌∙◌}
use mathlib.Core.Bool.{Bool, true, false, ◌&&◌}
use mathlib.Core.Logic.{◌⊎◌, inl, inr, ⊎_elim}
use mathlib.Core.List.{List}
use native.Mathlib.Decide.{dec_le, dec_lt}
use native.Mathlib.Nat.{le_refl, eq-or-lt_of_le}
use native.Mathlib.Omega.{arith}
use borrow.Author.Tests.{lt-ltb, le-ltb, le-leb, ltb-true, ltb-false, leb-true, leb-false}
use lib.Dec.{ltb}
use lib.ListN.{length}
use Rattle.endian.proofs.Tests.{and_left, and_right}
use Rattle.search.specs.Search.{least}
use Rattle.search.proofs.Search.{and_false-left, both, least-none, least_more, least-found, least-holds, least-below, least-le}
use Rattle.segments.specs.declared.Segment.{Segment}
use Rattle.segments.specs.Segments.{nth, meets}
use Rattle.segments.specs.Clash.{clashes_at, later_of, clashes_later, earlier_of, apart}

-- only a later position clashes
pub clash_not_later : (gs : List Segment) (i j : ℕ) → j ≤ i → clashes_at gs i j ≡ false
unfolding clashes_at
clash_not_later gs i j h = and_false-left (ltb i j) (meets (nth gs i) (nth gs j)) (le-ltb i j h)

pub clash_later : (gs : List Segment) (i j : ℕ) → i < j → clashes_at gs i j ≡ meets (nth gs i) (nth gs j)
unfolding clashes_at
clash_later gs i j h = ap (λ (z : Bool). z && meets (nth gs i) (nth gs j)) (lt-ltb i j h)

-- none up to i itself
pub clash_begin : (gs : List Segment) (i : ℕ) → least (clashes_at gs i) (i + 1) ≡ i + 1
clash_begin gs i = least-none (clashes_at gs i) (i + 1) (λ j l. clash_not_later gs i j (let k : j ≤ i = omega arith in k))

pub clash_more : (gs : List Segment) (i j : ℕ) → i < j → least (clashes_at gs i) j ≡ j → meets (nth gs i) (nth gs j) ≡ false
    → least (clashes_at gs i) (j + 1) ≡ j + 1
clash_more gs i j l h m = least_more (clashes_at gs i) j h (clash_later gs i j l ∙ m)

-- found
pub later-found : (gs : List Segment) (i j : ℕ) → i < j → j < length gs → least (clashes_at gs i) j ≡ j → meets (nth gs i) (nth gs j) ≡ true
    → later_of gs i ≡ j
unfolding later_of
later-found gs i j l k h m = least-found (clashes_at gs i) j (length gs) h (clash_later gs i j l ∙ m) k

pub later-none : (gs : List Segment) (i j : ℕ) → length gs ≤ j → j ≤ length gs → least (clashes_at gs i) j ≡ j → later_of gs i ≡ length gs
unfolding later_of
later-none gs i j k l h =
    let e : j ≡ length gs = omega arith in
    ap (least (clashes_at gs i)) (sym e) ∙ (h ∙ e)

-- the search over the lower position: its start, where none before it clashes; a turn passed, found, its end
pub earlier_from : (gs : List Segment) (i : ℕ) → i ≤ earlier_of gs → least (clashes_later gs) i ≡ i
unfolding earlier_of
earlier_from gs i h = least-none (clashes_later gs) i (λ j l. least-below (clashes_later gs) (length gs) j (omega arith))

pub earlier_more : (gs : List Segment) (i : ℕ) → least (clashes_later gs) i ≡ i → length gs ≤ later_of gs i → least (clashes_later gs) (i + 1) ≡ i + 1
earlier_more gs i h l = least_more (clashes_later gs) i h (le-ltb (later_of gs i) (length gs) l)

pub earlier_found : (gs : List Segment) (i : ℕ) → i < length gs → least (clashes_later gs) i ≡ i → later_of gs i < length gs → earlier_of gs ≡ i
unfolding earlier_of
earlier_found gs i l h k = least-found (clashes_later gs) i (length gs) h (lt-ltb (later_of gs i) (length gs) k) l

pub earlier_none : (gs : List Segment) (i : ℕ) → length gs ≤ i → i ≤ length gs → least (clashes_later gs) i ≡ i → earlier_of gs ≡ length gs
unfolding earlier_of
earlier_none gs i k l h =
    let e : i ≡ length gs = omega arith in
    ap (least (clashes_later gs)) (sym e) ∙ (h ∙ e)

-- the search ends at the number of segments, or before
pub earlier_le : (gs : List Segment) → earlier_of gs ≤ length gs
unfolding earlier_of
earlier_le gs = least-le (clashes_later gs) (length gs)

-- no two share a sector: exactly where the search ends at the number of segments
pub apart_none : (gs : List Segment) → apart gs ≡ true → earlier_of gs ≡ length gs
unfolding apart
apart_none gs h =
    let a : length gs ≤ earlier_of gs = leb-true (length gs) (earlier_of gs) h in
    let b : earlier_of gs ≤ length gs = earlier_le gs in
    omega arith

pub none_apart : (gs : List Segment) → length gs ≤ earlier_of gs → apart gs ≡ true
unfolding apart
none_apart gs h = le-leb (length gs) (earlier_of gs) h

pub apart_not : (gs : List Segment) → apart gs ≡ false → earlier_of gs < length gs
unfolding apart
apart_not gs h = leb-false (length gs) (earlier_of gs) h

-- and exactly where no two segments meet
pub apart_all : (gs : List Segment) → apart gs ≡ true → (i j : ℕ) → i < j → j < length gs → meets (nth gs i) (nth gs j) ≡ false
unfolding earlier_of later_of
apart_all gs h i j l k =
    let a : earlier_of gs ≡ length gs = apart_none gs h in
    let b : clashes_later gs i ≡ false = least-below (clashes_later gs) (length gs) i (omega arith) in
    let e : length gs ≤ later_of gs i = ltb-false (later_of gs i) (length gs) b in
    sym (clash_later gs i j l) ∙ least-below (clashes_at gs i) (length gs) j (omega arith)

pub all_apart : (gs : List Segment) → ((i j : ℕ) → i < j → j < length gs → meets (nth gs i) (nth gs j) ≡ false) → apart gs ≡ true
unfolding earlier_of later_of
all_apart gs h = none_apart gs (rw none (le_refl (length gs)))
  where
    row : (i j : ℕ) → j < length gs → clashes_at gs i j ≡ false
    row i j k =
        elim (dec_lt i j) [
          | yes l ↦ clash_later gs i j l ∙ h i j l k
          | no l ↦ clash_not_later gs i j (let m : j ≤ i = omega arith in m)
        ]

    none : least (clashes_later gs) (length gs) ≡ length gs
    none =
        least-none (clashes_later gs) (length gs)
        (λ i l. le-ltb (later_of gs i) (length gs) (rw (least-none (clashes_at gs i) (length gs) (λ j k. row i j k)) (le_refl (length gs))))

-- two positions that clash: the later one is after the other, and they meet
pub clash_order : (gs : List Segment) (i j : ℕ) → clashes_at gs i j ≡ true → i < j
unfolding clashes_at
clash_order gs i j h = ltb-true i j (and_left (ltb i j) (meets (nth gs i) (nth gs j)) h)

pub clash_meets : (gs : List Segment) (i j : ℕ) → clashes_at gs i j ≡ true → meets (nth gs i) (nth gs j) ≡ true
unfolding clashes_at
clash_meets gs i j h = and_right (ltb i j) (meets (nth gs i) (nth gs j)) h

-- what the searches find
pub later_there : (gs : List Segment) → earlier_of gs < length gs → later_of gs (earlier_of gs) < length gs
unfolding earlier_of
later_there gs l = ltb-true (later_of gs (earlier_of gs)) (length gs) (least-holds (clashes_later gs) (length gs) l)

pub later_clash : (gs : List Segment) (i : ℕ) → later_of gs i < length gs → clashes_at gs i (later_of gs i) ≡ true
unfolding later_of
later_clash gs i l = least-holds (clashes_at gs i) (length gs) l

pub found_clash : (gs : List Segment) → earlier_of gs < length gs → clashes_at gs (earlier_of gs) (later_of gs (earlier_of gs)) ≡ true
found_clash gs l = later_clash gs (earlier_of gs) (later_there gs l)

-- the pair found is the lowest that clashes: by the lower position, then by the higher
pub clash_lowest : (gs : List Segment) (k l : ℕ) → l < length gs → clashes_at gs k l ≡ true
    → (earlier_of gs < k) ⊎ ((earlier_of gs ≡ k) × (later_of gs (earlier_of gs) ≤ l))
unfolding earlier_of later_of
clash_lowest gs k l m h =
    let a : later_of gs k ≤ l =
    elim (dec_le (later_of gs k) l) [
      | yes q ↦ q
      | no q ↦ absurd (both (clashes_at gs k l) h (least-below (clashes_at gs k) (length gs) l (omega arith)))
    ] in
    let b : clashes_later gs k ≡ true = lt-ltb (later_of gs k) (length gs) (omega arith) in
    let n : earlier_of gs ≤ k =
    elim (dec_le (earlier_of gs) k) [
      | yes q ↦ q
      | no q ↦ absurd (both (clashes_later gs k) b (least-below (clashes_later gs) (length gs) k (omega arith)))
    ] in
    ⊎_elim
    (λ (q : earlier_of gs ≡ k).
    let r : later_of gs (earlier_of gs) ≡ later_of gs k = ap (later_of gs) q in
    inr (q, (let t : later_of gs (earlier_of gs) ≤ l = omega arith in t)))
    (λ (q : earlier_of gs < k). inl q) (eq-or-lt_of_le n)

-- where no position before m meets a later one, the search ends at m or after
pub earlier_past : (gs : List Segment) (m : ℕ) → m ≤ length gs
    → ((i j : ℕ) → i < m → i < j → j < length gs → meets (nth gs i) (nth gs j) ≡ false) → m ≤ earlier_of gs
earlier_past gs m l h =
    elim (dec_le m (earlier_of gs)) [
      | yes q ↦ q
      | no q ↦
          let i : ℕ = earlier_of gs in
          let j : ℕ = later_of gs i in
          let u : i < length gs = omega arith in
          let c : clashes_at gs i j ≡ true = found_clash gs u in
          absurd (both (meets (nth gs i) (nth gs j)) (clash_meets gs i j c) (h i j (omega arith) (clash_order gs i j c) (later_there gs u)))
    ]
