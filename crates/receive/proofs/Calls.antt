-- What the calls answer, a law for each return, with the results of what they call as variables.
use Prim.Native.Nat.{ℕ, ◌+◌, ◌-◌, ◌^◌, ◌≤◌, ◌<◌, min}
use mathlib.Core.Path.{◌≡◌, refl, sym, ap, ◌∙◌}
use mathlib.Core.Bool.{Bool, true, false, cond}
use mathlib.Core.List.{List, [], ◌∷◌}
use native.Mathlib.Omega.{arith}
use borrow.Author.Tests.{leb-true}
use lib.ListN.{length, take, drop, length-take, length-drop}
use Rattle.endian.specs.Bytes.{window}
use Rattle.checksum.specs.Crc.{continued}
use Rattle.checksum.proofs.Laws.{continued-nil}
use Rattle.layout.specs.Limits.{record_limit, length_allowed}
use Rattle.layout.specs.Places.{area_offset, copy_bytes}
use Rattle.layout.proofs.Laws.{length_facts}
use Rattle.layout.specs.declared.Area.{Area}
use Rattle.receive.specs.declared.Received.{Received}
use Rattle.receive.specs.Receive.{part, length_in, used_in, sum_with, fits_in}

-- a piece that does not pass the end
pub fits-most : (at n : ℕ) → fits_in at n ≡ true → at + n ≤ copy_bytes
unfolding fits_in
fits-most at n h = leb-true (at + n) copy_bytes h

-- never more than the most
used-most : (block : List ℕ) (x : Area) → used_in block x ≤ record_limit
unfolding used_in
used-most block x = go (length_allowed (length_in block x)) refl
  where
    go : (t : Bool) → length_allowed (length_in block x) ≡ t → cond t (length_in block x) 0 ≤ record_limit
    go true e = (length_facts (length_in block x) e).1
    go false e = omega arith

min_none : (a b d l : ℕ) → a ≤ b → min (b - d) l ≡ 0 → min (a - d) l ≡ 0
min_none a b d l h e = omega arith

-- of a part with nothing in it, a shorter one has nothing in it either
window-empty : (p : List ℕ) (at m n d : ℕ) → m ≤ n → length (window p at (n - d)) ≡ 0 → window p at (m - d) ≡ []
unfolding window
window-empty p at m n d h e = nil (take (m - d) (drop at p)) (lengths (m - d) ∙ min_none m n d (length p - at) h (sym (lengths (n - d)) ∙ e))
  where
    lengths : (k : ℕ) → length (take k (drop at p)) ≡ min k (length p - at)
    lengths k = length-take k (drop at p) ∙ ap (min k) (length-drop at p)

    nil : (l : List ℕ) → length l ≡ 0 → l ≡ []
    nil [] z = refl
    nil (y ∷ l) z = absurd (omega arith)

part-empty : (p : List ℕ) (at from m n : ℕ) → m ≤ n → length (part p at from n) ≡ 0 → part p at from m ≡ []
unfolding part
part-empty p at from m n h e = window-empty p _ m n _ h e

-- an area's checksum: where the piece has nothing of the area, and where it has something
pub sum-none : (sum : ℕ) (block : List ℕ) (at : ℕ) (p : List ℕ) (x : Area) (o n : ℕ) → o ≡ area_offset x → n ≡ record_limit
    → length (part p at o n) ≡ 0 → sum ≡ sum_with sum block at p x
unfolding sum_with
sum-none sum block at p x o n f l e =
    sym
    (ap (continued sum)
    (ap (λ (k : ℕ). part p at k (used_in block x)) (sym f) ∙ part-empty p at o (used_in block x) n (let u : used_in block x ≤ record_limit = used-most block x in omega arith) e)
    ∙ continued-nil sum)

-- how many bytes were taken once a piece fits does not wrap
pub piece-below : (s : Received) (p : List ℕ) (t : Bool) → t ≡ fits_in s.taken (length p) → t ≡ true → s.taken + length p < 2 ^ 64
unfolding copy_bytes record_limit
piece-below s p t f g = let l : s.taken + length p ≤ copy_bytes = fits-most s.taken (length p) (sym f ∙ g) in omega arith
