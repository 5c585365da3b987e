-- Laws of a record that is made in a buffer: its head, then one segment after the other.
use Prim.Native.Nat.{ℕ, ◌+◌, ◌*◌, ◌≤◌, ◌<◌, ◌^◌, min}
use mathlib.Core.Path.{◌≡◌, refl, sym, ap, ◌∙◌}
use mathlib.Core.Bool.{true}
use mathlib.Core.List.{List, [], ◌∷◌, ◌++◌, append_assoc, append-nil}
use native.Mathlib.Omega.{arith}
use lib.Dec.{lit<}
use lib.ListN.{length, drop}
use Rattle.endian.specs.Bytes.{splice}
use Rattle.endian.proofs.Parts.{splice-fits, splice_next, splice-whole, length-splice}
use Rattle.segments.specs.declared.Segment.{Segment}
use Rattle.items.specs.declared.Head.{Head}
use Rattle.items.specs.declared.Head.TheVariants.{Plain}
use Rattle.items.specs.Head.{head_of, head_size, head_bytes, head_allowed, item_bytes}
use Rattle.items.specs.Making.{segment_bytes, all_bytes, record_of, place, begun}
use Rattle.items.proofs.Heads.{HeadFits, head_made}
use Rattle.items.proofs.Making.{length-segment, length_record, begun_is}
use Rattle.items.proofs.Building.{one_more}
use Rattle.sampling.specs.Laying.{segment_put}

-- what `put_segment` leaves, from what its calls answer
pub put_is : (s w : List ℕ) (at i : ℕ) (g : Segment) → at ≡ min (place s i) (length s) → w ≡ splice s at (segment_bytes g) → w ≡ segment_put s i g
unfolding segment_put
put_is s w at i g e f = f ∙ ap (λ (z : ℕ). splice s z (segment_bytes g)) e

-- the head of a record that a buffer begins with
head_there : (s : List ℕ) (h : Head) (gs : List Segment) → HeadFits h → length (record_of h gs) ≤ length s → head_of (splice s 0 (record_of h gs)) ≡ h
unfolding record_of
head_there s h gs f l =
    ap head_of (splice-fits s 0 (head_bytes h ++ all_bytes gs) (omega arith) ∙ append_assoc (head_bytes h) (all_bytes gs) (drop (0 + length (head_bytes h ++ all_bytes gs)) s))
    ∙ head_made h (all_bytes gs ++ drop (0 + length (head_bytes h ++ all_bytes gs)) s) f

-- a segment put after the last
put_next : (s : List ℕ) (h : Head) (gs : List Segment) (g : Segment) → HeadFits h → length (record_of h gs) + item_bytes ≤ length s
    → segment_put (splice s 0 (record_of h gs)) (length gs) g ≡ splice s 0 (record_of h (gs ++ (g ∷ [])))
unfolding segment_put place
put_next s h gs g f l =
    let n : length (segment_bytes g) ≡ 20 = length-segment g in
    let e : head_of (splice s 0 (record_of h gs)) ≡ h = head_there s h gs f (omega arith) in
    let m : length (record_of h gs) ≡ head_size h + 20 * length gs = length_record h gs in
    let k : length (splice s 0 (record_of h gs)) ≡ length s = length-splice s 0 (record_of h gs) in
    let p : min (head_size h + 20 * length gs) (length s) ≡ length (record_of h gs) = omega arith in
    rw (e, k, p) (splice_next s 0 (record_of h gs) (segment_bytes g) (length (record_of h gs)) (omega arith) (omega arith) ∙ ap (splice s 0) (one_more h gs g))

-- a record begun
begun_record : (s : List ℕ) (h : Head) → head_allowed h ≡ true → head_size h ≤ length s → begun s h ≡ splice s 0 (record_of h [])
unfolding record_of all_bytes
begun_record s h r l = begun_is s h r l ∙ ap (splice s 0) (sym (append-nil (head_bytes h)))

module _ (s : List ℕ) (g : Segment) where
  small : 128 < 256 ^ 4
  small = lit< tt

  allowed : head_allowed (Plain 128) ≡ true
  unfolding head_allowed
  allowed = refl

  eight : head_size (Plain 128) ≡ 8
  unfolding head_size
  eight = refl

  first-put : 28 ≤ length s → segment_put (begun s (Plain 128)) 0 g ≡ splice s 0 (record_of (Plain 128) (g ∷ []))
  first-put l =
      let e : head_size (Plain 128) ≡ 8 = eight in
      let m : length (record_of (Plain 128) []) ≡ head_size (Plain 128) + 20 * 0 = length_record (Plain 128) [] in
      ap (λ (z : List ℕ). segment_put z 0 g) (begun_record s (Plain 128) allowed (omega arith)) ∙ put_next s (Plain 128) [] g small (omega arith)

  pub one_made : length s ≡ 28 → (a w : List ℕ) → a ≡ begun s (Plain 128) → w ≡ segment_put a 0 g → w ≡ record_of (Plain 128) (g ∷ [])
  one_made l a w i j =
      let e : head_size (Plain 128) ≡ 8 = eight in
      let m : length (record_of (Plain 128) (g ∷ [])) ≡ head_size (Plain 128) + 20 * 1 = length_record (Plain 128) (g ∷ []) in
      j ∙ (ap (λ (z : List ℕ). segment_put z 0 g) i ∙ (first-put (omega arith) ∙ splice-whole s (record_of (Plain 128) (g ∷ [])) (omega arith)))

  pub two_made : (f : Segment) → length s ≡ 48 → (a b w : List ℕ) → a ≡ begun s (Plain 128) → b ≡ segment_put a 0 g → w ≡ segment_put b 1 f
      → w ≡ record_of (Plain 128) (g ∷ f ∷ [])
  two_made f l a b w i j k =
      let e : head_size (Plain 128) ≡ 8 = eight in
      let m : length (record_of (Plain 128) (g ∷ [])) ≡ head_size (Plain 128) + 20 * 1 = length_record (Plain 128) (g ∷ []) in
      let n : length (record_of (Plain 128) (g ∷ f ∷ [])) ≡ head_size (Plain 128) + 20 * 2 = length_record (Plain 128) (g ∷ f ∷ []) in
      let o : b ≡ splice s 0 (record_of (Plain 128) (g ∷ [])) = j ∙ (ap (λ (z : List ℕ). segment_put z 0 g) i ∙ first-put (omega arith)) in
      k ∙ (ap (λ (z : List ℕ). segment_put z 1 f) o
      ∙ (put_next s (Plain 128) (g ∷ []) f small (omega arith) ∙ splice-whole s (record_of (Plain 128) (g ∷ f ∷ [])) (omega arith)))
