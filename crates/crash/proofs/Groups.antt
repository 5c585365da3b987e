-- The stores of groups by their number.
use Prim.Native.Nat.{ℕ, zero, suc, ◌+◌, ◌<◌}
use mathlib.Core.Path.{◌≡◌, refl, sym, ap, ◌∙◌}
use mathlib.Core.List.{List, [], ◌∷◌, ◌++◌, map, flatten}
use native.Mathlib.Decide.{ℕ_discrete}
use native.Mathlib.Nat.{not-suc-le-zero, add-zero}
use native.Mathlib.Omega.{arith}
use lib.ListN.{length, take, get_or, length-append}
use Rattle.crash.specs.Crash.{Store, Groups, stores, group_start, stores_from}

module _ {A : Type 0} (d : A) where
  -- a part of a list by its places
  pub at_left : (s t : List A) (i : ℕ) → i < length s → get_or (s ++ t) i d ≡ get_or s i d
  at_left s t i l = lib.ListN.get_or-append s t d i l

  pub at_right : (s t : List A) (i : ℕ) → get_or (s ++ t) (length s + i) d ≡ get_or t i d
  at_right [] t i = ap (λ (n : ℕ). get_or t n d) (native.Mathlib.Nat.zero-add i)
  at_right (x ∷ s) t i = ap (λ (n : ℕ). get_or (x ∷ (s ++ t)) n d) (native.Mathlib.Nat.suc-add (length s) i) ∙ at_right s t i

pub length_from : (a : ℕ) (c : ℕ → List ℕ) (k : ℕ) → length (stores_from a c k) ≡ k
unfolding stores_from
length_from a c zero = refl
length_from a c (suc k) =
    length-append (stores_from a c k) (record { sector = a + k; content = c k } ∷ [])
    ∙ (ap (λ (n : ℕ). n + 1) (length_from a c k) ∙ (let e : k + 1 ≡ suc k = omega arith in e))

pub at_from : (d : Store) (a : ℕ) (c : ℕ → List ℕ) (k i : ℕ) → i < k → get_or (stores_from a c k) i d ≡ record { sector = a + i; content = c i }
unfolding stores_from
at_from d a c zero i l = absurd (not-suc-le-zero l)
at_from d a c (suc k) i l =
    elim (ℕ_discrete i k) [
      | yes e ↦
          ap (get_or (stores_from a c (suc k)) i) refl
          ∙ (ap (λ (n : ℕ). get_or (stores_from a c k ++ (record { sector = a + k; content = c k } ∷ [])) n d)
          (e ∙ (sym (add-zero k) ∙ ap (λ (n : ℕ). n + 0) (sym (length_from a c k))))
          ∙ (at_right d (stores_from a c k) (record { sector = a + k; content = c k } ∷ []) 0
          ∙ ap (λ (n : ℕ). record { sector = a + n; content = c n }) (sym e)))
      | no e ↦
          let h : i < k = omega arith in
          at_left d (stores_from a c k) (record { sector = a + k; content = c k } ∷ []) i (rw (length_from a c k) h)
          ∙ at_from d a c k i h
    ]

-- a group starts after the sum of the lengths before it
abbrev pub total : List ℕ → ℕ
total [] = 0
total (n ∷ ns) = n + total ns

pub starts : (gs : Groups) (g : ℕ) → group_start gs g ≡ total (take g (map length gs))
unfolding group_start flatten
starts gs zero = refl
starts [] (suc g) = refl
starts (s ∷ gs) (suc g) = length-append s (stores (take g gs)) ∙ ap (λ (n : ℕ). length s + n) (starts gs g)

-- after the last group all stores have landed
pub whole_start : (gs : Groups) → group_start gs (length gs) ≡ length (stores gs)
unfolding group_start
whole_start gs = ap (λ (z : Groups). length (stores z)) (take-length gs)
  where
    take-length : (xs : Groups) → take (length xs) xs ≡ xs
    take-length [] = refl
    take-length (x ∷ xs) = ap (λ (z : Groups). x ∷ z) (take-length xs)
