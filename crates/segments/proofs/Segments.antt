-- Laws of a segment, alone and beside another.
use Prim.Native.Nat.{ℕ, ◌+◌, ◌-◌, ◌≤◌, ◌<◌, max}
use mathlib.Core.Path.{◌≡◌, sym, ap, ◌∙◌}
use mathlib.Core.Bool.{Bool, true, false, ◌&&◌}
use mathlib.Core.Logic.{◌⊎◌, inl, inr, ⊎_elim}
use native.Mathlib.Decide.{dec_le, dec_lt}
use native.Mathlib.Omega.{arith}
use borrow.Author.Tests.{lt-ltb, le-ltb, le-leb, lt-leb, leb-true}
use lib.Dec.{leb, ltb}
use Rattle.endian.proofs.Tests.{and_left, and_right, and_both}
use Rattle.search.proofs.Search.{and_false-right, not_true-false, both, in_within, below-within, past-within, within_low, within_high}
use Rattle.segments.specs.declared.Segment.{Segment}
use Rattle.segments.specs.declared.Range.{Range}
use Rattle.segments.specs.Segments.{end_of, holds, meets, in_range, InRange}

-- a sum that the code does not take
pub leb-shift : (a b e : ℕ) → a ≤ e → leb b (e - a) ≡ leb (a + b) e
leb-shift a b e h =
    elim (dec_le (a + b) e) [
      | yes l ↦ le-leb b (e - a) (omega arith) ∙ sym (le-leb (a + b) e l)
      | no l ↦ lt-leb b (e - a) (omega arith) ∙ sym (lt-leb (a + b) e (omega arith))
    ]

pub ltb_shift : (a b x : ℕ) → a ≤ x → ltb (x - a) b ≡ ltb x (a + b)
ltb_shift a b x h =
    elim (dec_lt x (a + b)) [
      | yes l ↦ lt-ltb (x - a) b (omega arith) ∙ sym (lt-ltb x (a + b) l)
      | no l ↦ le-ltb (x - a) b (omega arith) ∙ sym (le-ltb x (a + b) (omega arith))
    ]

-- in words of numbers, both ways
pub in_range_lem : (r : Range) (g : Segment) → in_range r g ≡ true → InRange r g
unfolding in_range
in_range_lem r g h =
    let q : leb 1 g.sectors && leb (end_of g) r.end ≡ true = and_right (leb r.start g.start) (leb 1 g.sectors && leb (end_of g) r.end) h in
    record {
      low = leb-true r.start g.start (and_left (leb r.start g.start) (leb 1 g.sectors && leb (end_of g) r.end) h);
      some = leb-true 1 g.sectors (and_left (leb 1 g.sectors) (leb (end_of g) r.end) q);
      high = leb-true (end_of g) r.end (and_right (leb 1 g.sectors) (leb (end_of g) r.end) q);
    }

pub in_range-back : (r : Range) (g : Segment) → InRange r g → in_range r g ≡ true
unfolding in_range
in_range-back r g i = rw (le-leb r.start g.start i.low, le-leb 1 g.sectors i.some, le-leb (end_of g) r.end i.high)

-- which sectors a segment holds
pub holds_low : (g : Segment) (x : ℕ) → holds g x ≡ true → g.start ≤ x
unfolding holds
holds_low g x h = within_low g.start (end_of g) x h

pub holds_high : (g : Segment) (x : ℕ) → holds g x ≡ true → x < end_of g
unfolding holds
holds_high g x h = within_high g.start (end_of g) x h

pub holds_in : (g : Segment) (x : ℕ) → g.start ≤ x → x < end_of g → holds g x ≡ true
unfolding holds
holds_in g x h k = in_within g.start (end_of g) x h k

pub not_holds_low : (g : Segment) (x : ℕ) → x < g.start → holds g x ≡ false
unfolding holds
not_holds_low g x h = below-within g.start (end_of g) x h

pub not_holds_high : (g : Segment) (x : ℕ) → end_of g ≤ x → holds g x ≡ false
unfolding holds
not_holds_high g x h = past-within g.start (end_of g) x h

-- one segment ends before the other begins
abbrev pub Apart : Segment → Segment → Type 0
Apart a b = (end_of a ≤ b.start) ⊎ (end_of b ≤ a.start)

-- segments that are apart have no sector in common
pub apart-holds : (a b : Segment) (x : ℕ) → Apart a b → holds a x ≡ true → holds b x ≡ true → ⊥
apart-holds a b x p h k =
    let l : a.start ≤ x = holds_low a x h in
    let m : x < end_of a = holds_high a x h in
    let n : b.start ≤ x = holds_low b x k in
    let o : x < end_of b = holds_high b x k in
    ⊎_elim (λ (q : end_of a ≤ b.start). omega arith) (λ (q : end_of b ≤ a.start). omega arith) p

-- two segments meet exactly where they have a sector in common
pub meets_shares : (a b : Segment) → meets a b ≡ true → (x : ℕ) × ((holds a x ≡ true) × (holds b x ≡ true))
unfolding meets
meets_shares a b h =
    let x : ℕ = max a.start b.start in
    (x, (and_left (holds a x) (holds b x) h, and_right (holds a x) (holds b x) h))

pub shares_meets : (a b : Segment) (x : ℕ) → holds a x ≡ true → holds b x ≡ true → meets a b ≡ true
unfolding meets
shares_meets a b x h k =
    let l : a.start ≤ x = holds_low a x h in
    let m : x < end_of a = holds_high a x h in
    let n : b.start ≤ x = holds_low b x k in
    let o : x < end_of b = holds_high b x k in
    let y : ℕ = max a.start b.start in
    and_both (holds a y) (holds b y) (holds_in a y (omega arith) (omega arith)) (holds_in b y (omega arith) (omega arith))

-- segments that are not empty are apart exactly where they do not meet
pub meets_not : (a b : Segment) → 1 ≤ a.sectors → 1 ≤ b.sectors → meets a b ≡ false → Apart a b
meets_not a b p q h =
    elim (dec_le (end_of a) b.start) [
      | yes l ↦ inl l
      | no l ↦
          elim (dec_le (end_of b) a.start) [
            | yes m ↦ inr m
            | no m ↦
                let x : ℕ = max a.start b.start in
                absurd (both (meets a b) (shares_meets a b x (holds_in a x (omega arith) (omega arith)) (holds_in b x (omega arith) (omega arith))) h)
          ]
    ]

pub not_meets : (a b : Segment) → Apart a b → meets a b ≡ false
not_meets a b p =
    not_true-false (meets a b) (λ h.
    let w : (x : ℕ) × ((holds a x ≡ true) × (holds b x ≡ true)) = meets_shares a b h in
    apart-holds a b w.0 p w.1.0 w.1.1)
