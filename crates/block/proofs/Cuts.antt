-- A list cut into fields of given widths, and fields joined.
use Prim.Native.Nat.{ℕ, ◌+◌}
use mathlib.Core.Path.{◌≡◌, refl, sym, ap, ap₂, ◌∙◌}
use mathlib.Core.List.{List, [], ◌∷◌, ◌++◌, append_assoc, map, flatten}
use lib.ListN.{length, take, length-append}
use lib.Seq.{take_at, drop_at}
use Rattle.endian.specs.Bytes.{window}
use Rattle.endian.proofs.Parts.{window-append}

-- the parts of b from place `at` on, each with its width
abbrev pub cuts : List ℕ → ℕ → List ℕ → List (List ℕ)
cuts b at [] = []
cuts b at (w ∷ ws) = window b at w ∷ cuts b (at + w) ws

abbrev pub sum : List ℕ → ℕ
sum [] = 0
sum (w ∷ ws) = w + sum ws

pub cons : {A : Type 0} {x y : A} {xs ys : List A} → x ≡ y → xs ≡ ys → ◌≡◌ {A = List A} (x ∷ xs) (y ∷ ys)
cons p q = ap₂ (λ a l. a ∷ l) p q

part : (pre f rest : List ℕ) (at : ℕ) → length pre ≡ at → window (pre ++ (f ++ rest)) at (length f) ≡ f
unfolding window
part pre f rest at e = ap (take (length f)) (drop_at pre (f ++ rest) at e) ∙ take_at f rest (length f) refl

-- cutting what was joined
pub cuts_join : (fs : List (List ℕ)) (pre : List ℕ) (at : ℕ) → length pre ≡ at → cuts (pre ++ flatten fs) at (map length fs) ≡ fs
unfolding flatten
cuts_join [] pre at e = refl
cuts_join (f ∷ fs) pre at e =
    cons (part pre f (flatten fs) at e)
    (ap (λ (b : List ℕ). cuts b (at + length f) (map length fs)) (sym (append_assoc pre f (flatten fs)))
    ∙ cuts_join fs (pre ++ f) (at + length f) (length-append pre f ∙ ap (λ (n : ℕ). n + length f) e))

-- joining what was cut
pub join_cuts : (b : List ℕ) (ws : List ℕ) (at : ℕ) → flatten (cuts b at ws) ≡ window b at (sum ws)
unfolding flatten window
join_cuts b [] at = refl
join_cuts b (w ∷ ws) at = ap (λ (l : List ℕ). window b at w ++ l) (join_cuts b ws (at + w)) ∙ sym (window-append b at w (sum ws))
