-- Two pieces, one after the other, leave the state that both at once leave, whatever the state before them was.
use Prim.Native.Nat.{ℕ, ◌+◌, ◌-◌, ◌≤◌, min}
use mathlib.Core.Path.{◌≡◌, refl, sym, ap, ap₂, ◌∙◌}
use mathlib.Core.List.{List, [], ◌++◌, append-nil}
use native.Mathlib.Decide.{dec_le}
use native.Mathlib.Omega.{arith}
use lib.ListN.{length, take, drop, length-append, length-take, length-drop}
use lib.Seq.{take_all, take-append-le, take-append-add, drop-append-le, drop-append-add}
use Rattle.endian.specs.Bytes.{window, splice, zeros}
use Rattle.endian.proofs.Tests.{length-zeros}
use Rattle.endian.proofs.Parts.{length-window, window-past, splice_next, splice-window, length-splice}
use Rattle.checksum.specs.Crc.{checksum, continued}
use Rattle.checksum.proofs.Laws.{checksum-continued, continued-nil, continued-append}
use Rattle.layout.specs.Limits.{sector_bytes, block_offset}
use Rattle.layout.specs.Places.{area_offset}
use Rattle.layout.specs.declared.Area.{Area}
use Rattle.layout.specs.declared.Area.TheVariants.{A, B}
use Rattle.receive.specs.declared.Received.{Received}
use Rattle.receive.specs.Receive.{fresh, part, block_with, used_in, sum_with, advanced_with, advanced}

take-joined : (n : ℕ) (x y : List ℕ) → take n (x ++ y) ≡ take n x ++ take (n - length x) y
take-joined n x y =
    elim (dec_le n (length x)) [
      | yes h ↦
          take-append-le n x y h
          ∙ (sym (append-nil (take n x)) ∙ ap (λ (k : ℕ). take n x ++ take k y) (let e : 0 ≡ n - length x = omega arith in e))
      | no h ↦
          ap (λ (k : ℕ). take k (x ++ y)) (let e : n ≡ length x + (n - length x) = omega arith in e)
          ∙ (take-append-add x y (n - length x)
          ∙ ap (λ (l : List ℕ). l ++ take (n - length x) y) (sym (take_all n x (let e : length x ≤ n = omega arith in e))))
    ]

-- a part of bytes in two pieces: what the first has of it, then what the second has
pub window-joined : (c p : List ℕ) (o n : ℕ) → window (c ++ p) o n ≡ window c o n ++ part p (length c) o n
unfolding window part
window-joined c p o n =
    elim (dec_le (length c) o) [
      | yes h ↦
          ap (take n)
          (ap (λ (k : ℕ). drop k (c ++ p)) (let e : o ≡ length c + (o - length c) = omega arith in e) ∙ drop-append-add c p (o - length c))
          ∙ ap₂ (λ (u v : List ℕ). u ++ v) (sym (window-past c o n h))
          (ap (λ (k : ℕ). take k (drop (o - length c) p)) (let e : n ≡ n - (length c - o) = omega arith in e))
      | no h ↦
          ap (take n) (drop-append-le o c p (let e : o ≤ length c = omega arith in e))
          ∙ (take-joined n (drop o c) p
          ∙ ap₂ (λ (i k : ℕ). take n (drop o c) ++ take (n - i) (drop k p)) (length-drop o c) (let e : 0 ≡ o - length c = omega arith in e))
    ]

-- the same of pieces that begin at a byte of the copy
begin_further : (at from l : ℕ) → from - at - l ≡ from - (at + l)
begin_further at from l = omega arith

less-twice : (n a b : ℕ) → n - a - b ≡ n - (a + b)
less-twice n a b = omega arith

end_further : (at from l n : ℕ) → n - (at - from) - (l - (from - at)) ≡ n - (at + l - from)
end_further at from l n =
    less-twice n (at - from) (l - (from - at)) ∙ ap (λ (k : ℕ). n - k) (let e : (at - from) + (l - (from - at)) ≡ at + l - from = omega arith in e)

part-joined : (p q : List ℕ) (at from n : ℕ) → part (p ++ q) at from n ≡ part p at from n ++ part q (at + length p) from n
unfolding part
part-joined p q at from n =
    window-joined p q (from - at) (n - (at - from))
    ∙ ap₂ (λ (i k : ℕ). window p (from - at) (n - (at - from)) ++ window q i k) (begin_further at from (length p)) (end_further at from (length p) n)

window-zero : (s : List ℕ) (at : ℕ) → window s at 0 ≡ []
unfolding window
window-zero s at = refl

-- a part that the piece does not reach, and one that was passed before it
part-before : (p : List ℕ) (at from n : ℕ) → at + length p ≤ from → part p at from n ≡ []
unfolding part
part-before p at from n h = window-past p (from - at) (n - (at - from)) (omega arith)

part-passed : (p : List ℕ) (at from n : ℕ) → from + n ≤ at → part p at from n ≡ []
unfolding part
part-passed p at from n h = ap (window p (from - at)) (let e : n - (at - from) ≡ 0 = omega arith in e) ∙ window-zero p (from - at)

pub part-nothing : (at from n : ℕ) → part [] at from n ≡ []
unfolding part
part-nothing at from n = window-past [] (from - at) (n - (at - from)) (omega arith)

part-most : (p : List ℕ) (at from n : ℕ) → length (part p at from n) ≤ n - (at - from)
unfolding part
part-most p at from n = length-window p (from - at) (n - (at - from))

-- up to its end, as much of a part was taken as its place says
up_to : (at from n l : ℕ) → at + l ≤ from + n → at + l - from ≡ (at - from) + min (n - (at - from)) (l - (from - at))
up_to at from n l h =
    elim (dec_le at from) [
      | yes g ↦
          (let a : at + l - from ≡ 0 + min (n - 0) (l - (from - at)) = omega arith in a)
          ∙ ap (λ (u : ℕ). u + min (n - u) (l - (from - at))) (let e : 0 ≡ at - from = omega arith in e)
      | no g ↦
          (let a : at + l - from ≡ (at - from) + min (n - (at - from)) (l - 0) = omega arith in a)
          ∙ ap (λ (v : ℕ). (at - from) + min (n - (at - from)) (l - v)) (let e : 0 ≡ from - at = omega arith in e)
    ]

part_length : (p : List ℕ) (at from n : ℕ) → at + length p ≤ from + n → at + length p - from ≡ (at - from) + length (part p at from n)
unfolding part window
part_length p at from n h =
    up_to at from n (length p) h
    ∙ ap (λ (k : ℕ). (at - from) + k)
    (sym (length-take (n - (at - from)) (drop (from - at) p) ∙ ap (min (n - (at - from))) (length-drop (from - at) p)))

pub splice-nil : (s : List ℕ) (at : ℕ) → splice s at [] ≡ s
splice-nil s at = ap (splice s at) (sym (window-zero s at)) ∙ splice-window s at 0

-- Two pieces after `at` bytes: the block
module _ (b : List ℕ) (at : ℕ) (p q : List ℕ) where
  -- once it was passed it stays
  block_passed : 1024 ≤ at + length p → block_with b at (p ++ q) ≡ block_with b at p
  unfolding block_with
  block_passed h =
      ap (splice b (at - block_offset))
      (part-joined p q at block_offset sector_bytes
      ∙ (ap (λ (l : List ℕ). part p at block_offset sector_bytes ++ l) (part-passed q (at + length p) block_offset sector_bytes h)
      ∙ append-nil (part p at block_offset sector_bytes)))

  block_joined : length b ≡ 512 → block_with (block_with b at p) (at + length p) q ≡ block_with b at (p ++ q)
  unfolding block_with
  block_joined z =
      elim (dec_le (at + length p) 1024) [
        | yes h ↦
            splice_next b (at - block_offset) (part p at block_offset sector_bytes) (part q (at + length p) block_offset sector_bytes) (at + length p - block_offset)
            (part_length p at block_offset sector_bytes h)
            (let m : length (part q (at + length p) block_offset sector_bytes) ≤ sector_bytes - (at + length p - block_offset) = part-most q (at + length p) block_offset sector_bytes in
            omega arith)
            ∙ ap (splice b (at - block_offset)) (sym (part-joined p q at block_offset sector_bytes))
        | no h ↦
            let g : 1024 ≤ at + length p = omega arith in
            ap (splice (block_with b at p) (at + length p - block_offset)) (part-passed q (at + length p) block_offset sector_bytes g)
            ∙ (splice-nil (block_with b at p) (at + length p - block_offset) ∙ sym (block_passed g))
      ]

-- the areas lie after the block
area_after : (x : Area) → 1024 ≤ area_offset x
unfolding area_offset
area_after A = omega arith
area_after B = omega arith

-- and an area's checksum: what the first piece has of it does not depend on what is still to come of the block
module _ (sum : ℕ) (b : List ℕ) (at : ℕ) (p q : List ℕ) (x : Area) where
  part-settled : part p at (area_offset x) (used_in (block_with b at p) x) ≡ part p at (area_offset x) (used_in (block_with b at (p ++ q)) x)
  part-settled =
      elim (dec_le (at + length p) (area_offset x)) [
        | yes h ↦
            part-before p at (area_offset x) (used_in (block_with b at p) x) h
            ∙ sym (part-before p at (area_offset x) (used_in (block_with b at (p ++ q)) x) h)
        | no h ↦
            let o : 1024 ≤ area_offset x = area_after x in
            ap (λ (c : List ℕ). part p at (area_offset x) (used_in c x)) (sym (block_passed b at p q (omega arith)))
      ]

  sum-joined : sum_with (sum_with sum (block_with b at p) at p x) (block_with b at (p ++ q)) (at + length p) q x ≡ sum_with sum (block_with b at (p ++ q)) at (p ++ q) x
  unfolding sum_with
  sum-joined =
      ap (λ (l : List ℕ). continued (continued sum l) (part q (at + length p) (area_offset x) (used_in (block_with b at (p ++ q)) x))) part-settled
      ∙ (sym (continued-append sum (part p at (area_offset x) (used_in (block_with b at (p ++ q)) x)) (part q (at + length p) (area_offset x) (used_in (block_with b at (p ++ q)) x)))
      ∙ ap (continued sum) (sym (part-joined p q at (area_offset x) (used_in (block_with b at (p ++ q)) x))))

pub same_state : (n m : ℕ) (s t : List ℕ) (a d b e : ℕ) → n ≡ m → s ≡ t → a ≡ d → b ≡ e
    → ◌≡◌ {A = Received} (record { taken = n; block = s; a = a; b = b }) (record { taken = m; block = t; a = d; b = e })
same_state n m s t a d b e h i j k = cc

-- the state after both
pub advanced-joined : (s : Received) → length s.block ≡ 512 → (p q : List ℕ) → advanced (advanced s p) q ≡ advanced s (p ++ q)
unfolding advanced
advanced-joined s z p q =
    ap (advanced_with (advanced_with s p (block_with s.block s.taken p)) q) (block_joined s.block s.taken p q z)
    ∙ same_state (s.taken + length p + length q) (s.taken + length (p ++ q)) _ _ _ _ _ _ (rw (length-append p q) (omega arith)) refl
    (sum-joined s.a s.block s.taken p q A) (sum-joined s.b s.block s.taken p q B)

-- a piece of nothing
pub advanced-nothing : (s : Received) → advanced s [] ≡ s
unfolding advanced block_with sum_with
advanced-nothing s =
    same_state (s.taken + 0) s.taken _ s.block _ s.a _ s.b (omega arith)
    (ap (splice s.block (s.taken - block_offset)) (part-nothing s.taken block_offset sector_bytes) ∙ splice-nil s.block (s.taken - block_offset))
    (ap (continued s.a) (part-nothing s.taken (area_offset A) _) ∙ continued-nil s.a)
    (ap (continued s.b) (part-nothing s.taken (area_offset B) _) ∙ continued-nil s.b)

-- What bytes leave of the fresh state: how many they are, what they have of the block, the checksums of what they have of the areas' used
-- bytes.
abbrev pub block_of : List ℕ → List ℕ
block_of c = splice (zeros sector_bytes) 0 (window c block_offset sector_bytes)

abbrev pub sum_of : List ℕ → List ℕ → Area → ℕ
sum_of c block x = checksum (window c (area_offset x) (used_in block x))

abbrev pub left_with : List ℕ → List ℕ → Received
left_with c block = record { taken = length c; block = block; a = sum_of c block A; b = sum_of c block B }

abbrev pub left : List ℕ → Received
left c = left_with c (block_of c)

from_start : (c : List ℕ) (from n : ℕ) → part c 0 from n ≡ window c from n
unfolding part
from_start c from n = ap₂ (window c) (let e : from - 0 ≡ from = omega arith in e) (let e : n - (0 - from) ≡ n = omega arith in e)

sum_start : (c block : List ℕ) (x : Area) → sum_with 0 block 0 c x ≡ sum_of c block x
unfolding sum_with
sum_start c block x = ap (continued 0) (from_start c (area_offset x) (used_in block x)) ∙ sym (checksum-continued (window c (area_offset x) (used_in block x)))

advanced-fresh : (c : List ℕ) → advanced fresh c ≡ left c
unfolding advanced fresh block_with
advanced-fresh c =
    ap (advanced_with fresh c) (ap (splice (zeros sector_bytes) 0) (from_start c block_offset sector_bytes))
    ∙ same_state (0 + length c) (length c) (block_of c) (block_of c) _ _ _ _ (omega arith) refl (sum_start c (block_of c) A) (sum_start c (block_of c) B)

pub block_length : (c : List ℕ) → length (block_of c) ≡ 512
block_length c = length-splice (zeros sector_bytes) 0 (window c block_offset sector_bytes) ∙ length-zeros sector_bytes

pub fresh-left : fresh ≡ left []
fresh-left = sym (advanced-nothing fresh) ∙ advanced-fresh []

-- a piece after bytes leaves what all of them leave
pub advanced-left : (c p : List ℕ) → advanced (left c) p ≡ left (c ++ p)
advanced-left c p = ap (λ (s : Received). advanced s p) (sym (advanced-fresh c)) ∙ (advanced-joined fresh fresh-block c p ∙ advanced-fresh (c ++ p))
  where
    fresh-block : length fresh.block ≡ 512
    fresh-block = ap (λ (s : Received). length s.block) fresh-left ∙ block_length []
