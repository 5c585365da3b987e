-- Laws of patches: one turn of the loop that lays them.
use Prim.Native.Nat.{ℕ, zero, suc, ◌+◌, ◌-◌, ◌≤◌, ◌<◌}
use mathlib.Core.Path.{◌≡◌, refl, ap, ◌∙◌}
use mathlib.Core.List.{List}
use native.Mathlib.Nat.{not-suc-le-zero}
use native.Mathlib.Omega.{arith}
use lib.ListN.{length, drop, length-drop}
use lib.Seq.{take_all, drop-drop}
use Rattle.endian.specs.Bytes.{le, window, splice}
use Rattle.sampling.specs.Laying.{past, patch_offset, patch_length, patch_bytes, next_patch, patches_end, patched}

-- a part of the rest of a list
in_rest : (s : List ℕ) (at i n : ℕ) → window (window s at (length s)) i n ≡ window s (at + i) n
unfolding window
in_rest s at i n =
    let h : length (drop at s) ≤ length s = rw length-drop (omega arith) in
    rw (take_all (length s) (drop at s) h, drop-drop i at s)

-- the place does not go back
pub past-on : (s : List ℕ) (at n : ℕ) → at ≤ past s at n
unfolding past
past-on s at n = omega arith

module _ (s : List ℕ) (at : ℕ) where
  one_end : (left : ℕ) → 0 < left → patches_end s (next_patch s at) (left - 1) ≡ patches_end s at left
  unfolding patches_end
  one_end zero h = absurd (not-suc-le-zero h)
  one_end (suc k) h = ap (patches_end s (next_patch s at)) (let e : suc k - 1 ≡ k = omega arith in e)

  one-laid : (d : List ℕ) (left : ℕ) → 0 < left
      → patched s (next_patch s at) (left - 1) (splice d (patch_offset s at) (patch_bytes s at)) ≡ patched s at left d
  unfolding patched
  one-laid d zero h = absurd (not-suc-le-zero h)
  one-laid d (suc k) h =
      ap (λ (z : ℕ). patched s (next_patch s at) z (splice d (patch_offset s at) (patch_bytes s at))) (let e : suc k - 1 ≡ k = omega arith in e)

  -- the turn, with what its calls answered
  module _ (p v d w : List ℕ) (n o k left : ℕ) (l : 0 < left) (e : p ≡ window s at (length s)) (f : n ≡ le (window p 2 2)) (g : o ≡ le (window p 0 2))
      (h : v ≡ window p 4 n) (i : w ≡ splice d o v) (j : k ≡ past s at (4 + n)) where
    length-is : n ≡ patch_length s at
    unfolding patch_length
    length-is = f ∙ ap le (ap (λ (z : List ℕ). window z 2 2) e ∙ in_rest s at 2 2)

    offset-is : o ≡ patch_offset s at
    unfolding patch_offset
    offset-is = g ∙ ap le (ap (λ (z : List ℕ). window z 0 2) e ∙ (in_rest s at 0 2 ∙ ap (λ (z : ℕ). window s z 2) (let z : at + 0 ≡ at = omega arith in z)))

    bytes-are : v ≡ patch_bytes s at
    unfolding patch_bytes
    bytes-are = h ∙ (ap (λ (z : List ℕ). window z 4 n) e ∙ (in_rest s at 4 n ∙ ap (window s (at + 4)) length-is))

    next-is : k ≡ next_patch s at
    unfolding next_patch
    next-is = j ∙ ap (λ (z : ℕ). past s at (4 + z)) length-is

    pub turn : (patches_end s k (left - 1) ≡ patches_end s at left) × (patched s k (left - 1) w ≡ patched s at left d)
    turn = (ap (λ (z : ℕ). patches_end s z (left - 1)) next-is ∙ one_end left l, rw (i, next-is, offset-is, bytes-are) (one-laid d left l))

-- no patch is left
pub end_none : (s : List ℕ) (at : ℕ) → patches_end s at 0 ≡ at
unfolding patches_end
end_none s at = refl

pub laid_none : (s : List ℕ) (at : ℕ) (d : List ℕ) → patched s at 0 d ≡ d
unfolding patched
laid_none s at d = refl
