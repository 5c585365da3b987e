-- Laws of a text to which pieces are added: with room for all of them it is the pieces, one after the other.
use Prim.Native.Nat.{ℕ, zero, suc, ◌+◌, ◌-◌, ◌≤◌, ◌<◌}
use mathlib.Core.Path.{◌≡◌, refl, sym, ap, ◌∙◌}
use mathlib.Core.List.{List, [], ◌∷◌, ◌++◌, append_assoc, append-nil, flatten}
use native.Mathlib.Decide.{dec_le}
use native.Mathlib.Nat.{not-suc-le-zero}
use native.Mathlib.Omega.{arith}
use borrow.Author.Tests.{le-leb, lt-leb}
use lib.ListN.{length, take, drop, replicate, length-append, length-take, length-replicate, length-drop, drop_of_length-le}
use lib.Seq.{take_at, take_all, length-take-le, drop-append-le}
use Rattle.endian.specs.Bytes.{splice}
use Rattle.endian.proofs.Parts.{splice-fits, length-splice}
use Rattle.text.specs.Text.{capacity, added, filled}

pub added-fits : (t p : List ℕ) → length t + length p ≤ capacity → added t p ≡ t ++ p
unfolding added
added-fits t p h = rw (le-leb (length t + length p) capacity h)

pub added-short : (t p : List ℕ) → capacity < length t + length p → added t p ≡ t
unfolding added
added-short t p h = rw (lt-leb (length t + length p) capacity h)

no_piece : (t p : List ℕ) → length p ≡ 0 → t ≡ t ++ p
no_piece t [] e = sym (append-nil t)
no_piece t (x ∷ p) e = absurd (omega arith)

pub unplaced : (b : List ℕ) (u : ℕ) (p : List ℕ) → length b ≡ capacity → length b < u + length p → take u b ≡ added (take u b) p
unplaced b u p e h =
    elim (dec_le (length (take u b) + length p) capacity) [
      | yes l ↦ no_piece (take u b) p (omega (arith, length-take u b)) ∙ sym (added-fits (take u b) p l)
      | no l ↦ sym (added-short (take u b) p (omega arith))
    ]

pub placed : (b : List ℕ) (u : ℕ) (p : List ℕ) → length b ≡ capacity → u + length p ≤ length b
    → take (u + length p) (splice b u p) ≡ added (take u b) p
placed b u p e h =
    let l : length (take u b) ≡ u = length-take-le u b (omega arith) in
    rw (splice-fits b u p h, ← append_assoc (take u b) p (drop (u + length p) b))
    (take_at (take u b ++ p) (drop (u + length p) b) (u + length p) (rw (length-append, l))
    ∙ sym (added-fits (take u b) p (omega arith)))

-- pieces added to a text, in order
unfoldable pub added_all : List ℕ → List (List ℕ) → List ℕ
added_all t [] = t
added_all t (p ∷ ps) = added_all (added t p) ps

pub added_all_lem : (ps : List (List ℕ)) (t : List ℕ) → length t + length (flatten ps) ≤ capacity → added_all t ps ≡ t ++ flatten ps
unfolding added_all flatten
added_all_lem [] t h = sym (append-nil t)
added_all_lem (p ∷ ps) t h =
    let l : length (p ++ flatten ps) ≡ length p + length (flatten ps) = length-append p (flatten ps) in
    rw (added-fits t p (let k : length t + length p ≤ capacity = omega arith in k))
    (added_all_lem ps (t ++ p) (rw length-append (omega arith)) ∙ append_assoc t p (flatten ps))

-- nothing is filled in before a piece that is long enough
pub filled_long : (c w : ℕ) (p : List ℕ) → w ≤ length p → filled c w p ≡ p
unfolding filled
filled_long c w p h = rw (let z : w - length p ≡ 0 = omega arith in z)

-- a piece longer than a text has no room
pub filled-short : (t : List ℕ) (c w : ℕ) (p : List ℕ) → capacity < w → t ≡ added t (filled c w p)
unfolding filled
filled-short t c w p h = sym (added-short t (filled c w p) (simp (length-append, length-replicate) (omega arith)))

drop-replicate : (k n c : ℕ) → drop k (replicate n c) ≡ replicate (n - k) c
drop-replicate zero n c = ap (λ (m : ℕ). replicate m c) (let e : n ≡ n - 0 = omega arith in e)
drop-replicate (suc k) zero c = ap (λ (m : ℕ). replicate m c) (let e : 0 ≡ 0 - suc k = omega arith in e)
drop-replicate (suc k) (suc n) c = drop-replicate k n c ∙ ap (λ (m : ℕ). replicate m c) (let e : n - k ≡ suc n - suc k = omega arith in e)

take-replicate : (k n c : ℕ) → k ≤ n → take k (replicate n c) ≡ replicate k c
take-replicate zero n c h = refl
take-replicate (suc k) zero c h = absurd (not-suc-le-zero h)
take-replicate (suc k) (suc n) c h = ap (λ (l : List ℕ). c ∷ l) (take-replicate k n c (omega arith))

-- a piece at the end of m bytes c: with those before it, from the place on that leaves w
pub filled-end : (m c w at : ℕ) (p : List ℕ) → at + length p ≡ m → length p ≤ w → w ≤ m
    → drop (m - w) (splice (replicate m c) at p) ≡ filled c w p
unfolding filled
filled-end m c w at p e h k =
    let l : length (replicate m c) ≡ m = length-replicate m c in
    let f : splice (replicate m c) at p ≡ replicate at c ++ p =
    splice-fits (replicate m c) at p (omega arith)
    ∙ (ap (λ (z : List ℕ). take at (replicate m c) ++ (p ++ z)) (drop_of_length-le (replicate m c) (let g : length (replicate m c) ≤ at + length p = omega arith in g))
    ∙ (ap (λ (z : List ℕ). take at (replicate m c) ++ z) (append-nil p) ∙ ap (λ (z : List ℕ). z ++ p) (take-replicate at m c (omega arith)))) in
    ap (drop (m - w)) f
    ∙ (drop-append-le (m - w) (replicate at c) p (rw length-replicate (omega arith))
    ∙ ap (λ (z : List ℕ). z ++ p)
    (drop-replicate (m - w) at c ∙ ap (λ (z : ℕ). replicate z c) (let q : at - (m - w) ≡ w - length p = omega arith in q)))

-- the rest of n bytes as it is lent, by its two ends
pub rest : (d : List ℕ) (at n : ℕ) → length d ≡ n → take (n - at) (drop at d) ≡ drop at d
rest d at n e = take_all (n - at) (drop at d) (rw length-drop (omega arith))

pub rest_length : (d p : List ℕ) (at n : ℕ) → length d ≡ n → drop at d ≡ p → length p ≡ n - at
rest_length d p at n e r = let l : length (drop at d) ≡ length d - at = length-drop at d in omega (arith, ap length r)

-- a piece p as it is lent from d, filled up to w by way of `long`, as it is lent
pub filled_way : (c w at : ℕ) (d p long : List ℕ) → length d ≡ 20 → drop at d ≡ p → at < 20 → 20 - at < w → w ≤ capacity
    → long ≡ splice (replicate capacity c) (236 + at) (take (20 - at) (drop at d))
    → take (capacity - (capacity - w)) (drop (capacity - w) long) ≡ filled c w p
filled_way c w at d p long e r h k m q =
    let l : length p ≡ 20 - at = rest_length d p at 20 e r in
    let s : long ≡ splice (replicate capacity c) (236 + at) p = q ∙ ap (splice (replicate capacity c) (236 + at)) (rest d at 20 e ∙ r) in
    let n : length long ≡ capacity = ap length s ∙ (length-splice (replicate capacity c) (236 + at) p ∙ length-replicate capacity c) in
    rest long (capacity - w) capacity n ∙ (ap (drop (capacity - w)) s ∙ filled-end capacity c w (236 + at) p (omega arith) (omega arith) m)
