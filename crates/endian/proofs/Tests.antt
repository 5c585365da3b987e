-- Laws of the tests of lists.
use Prim.Native.Nat.{ℕ, zero, suc, ◌+◌, ◌<◌, ◌≤◌}
use mathlib.Core.Path.{◌≡◌, refl, sym, ap, ap₂, ◌∙◌}
use mathlib.Core.Bool.{Bool, true, false, ◌&&◌, true≢false, and-true, and_assoc}
use mathlib.Core.List.{List, [], ◌∷◌, ◌++◌}
use native.Mathlib.Nat.{not-suc-le-zero, le_of_suc-le-suc}
use native.Mathlib.Numerals.{add-one}
use native.Mathlib.Omega.{arith}
use borrow.Author.Tests.{eqb-true, eq-eqb}
use lib.Dec.{eqb}
use Rattle.std.proofs.Common.{nat_eq}
use lib.ListN.{length, get_or, drop, length-replicate, replicate-append-replicate, drop_of_length-le}
use lib.Pointwise.{pointwise}
use lib.Seq.{drop-cons}
use Rattle.endian.specs.Bytes.{same, all_pass, zeros}

pub and_left : (a b : Bool) → a && b ≡ true → a ≡ true
and_left true b h = refl
and_left false b h = h

pub and_right : (a b : Bool) → a && b ≡ true → b ≡ true
and_right true b h = h
and_right false b h = absurd (true≢false (sym h))

pub and_both : (a b : Bool) → a ≡ true → b ≡ true → a && b ≡ true
and_both a b p q = ap₂ (λ (x y : Bool). x && y) p q

pub same_refl : (s : List ℕ) → same s s ≡ true
unfolding same
same_refl [] = refl
same_refl (x ∷ xs) = and_both (eqb x x) (same xs xs) (eq-eqb x x refl) (same_refl xs)

-- the test says that the lists are equal
pub same_equal : (a b : List ℕ) → same a b ≡ true → a ≡ b
unfolding same
same_equal [] [] h = refl
same_equal [] (y ∷ ys) h = absurd (true≢false (sym h))
same_equal (x ∷ xs) [] h = absurd (true≢false (sym h))
same_equal (x ∷ xs) (y ∷ ys) h =
    ap₂ (λ (z : ℕ) (zs : List ℕ). z ∷ zs) (eqb-true x y (and_left (eqb x y) (same xs ys) h)) (same_equal xs ys (and_right (eqb x y) (same xs ys) h))

pub equal_same : (a b : List ℕ) → a ≡ b → same a b ≡ true
equal_same a b e = ap (same a) (sym e) ∙ same_refl a

-- lists of different lengths differ
pub same_length : (a b : List ℕ) → (length a ≡ length b → ⊥) → same a b ≡ false
unfolding same
same_length [] [] h = absurd (h refl)
same_length [] (y ∷ ys) h = refl
same_length (x ∷ xs) [] h = refl
same_length (x ∷ xs) (y ∷ ys) h = ap (λ (z : Bool). eqb x y && z) (same_length xs ys (λ e. h (ap suc e))) ∙ and_false (eqb x y)
  where
    and_false : (b : Bool) → b && false ≡ false
    and_false true = refl
    and_false false = refl

same-cons : (x y : ℕ) (xs ys : List ℕ) → same (x ∷ xs) (y ∷ ys) ≡ (eqb x y && same xs ys)
unfolding same
same-cons x y xs ys = refl

-- the library's test
pub same-pointwise : (a b : List ℕ) → same a b ≡ pointwise nat_eq a b
unfolding same
same-pointwise [] [] = refl
same-pointwise [] (y ∷ ys) = refl
same-pointwise (x ∷ xs) [] = refl
same-pointwise (x ∷ xs) (y ∷ ys) = ap (λ (z : Bool). eqb x y && z) (same-pointwise xs ys)

module _ (p : ℕ → Bool) where
  all_cons : (x : ℕ) (xs : List ℕ) → all_pass p (x ∷ xs) ≡ (p x && all_pass p xs)
  unfolding all_pass
  all_cons x xs = refl

  pub all_nil : all_pass p [] ≡ true
  unfolding all_pass
  all_nil = refl

  -- As a loop has it that has tested the elements before i, with answer r: one element more, and the end.
  pub all_next : (s : List ℕ) (i : ℕ) (r : Bool) → i < length s → (r && p (get_or s i 0)) && all_pass p (drop (i + 1) s) ≡ (r && all_pass p (drop i s))
  all_next s i r h =
      and_assoc r (p (get_or s i 0)) (all_pass p (drop (i + 1) s))
      ∙ ap (λ (z : Bool). r && z)
      (sym (ap (all_pass p) (drop-cons s i 0 h) ∙ (all_cons (get_or s i 0) (drop (suc i) s) ∙ ap (λ (n : ℕ). p (get_or s i 0) && all_pass p (drop n s)) (sym (add-one i)))))

  pub all_done : (s : List ℕ) (i : ℕ) (r : Bool) → length s ≤ i → r && all_pass p (drop i s) ≡ r
  all_done s i r h = ap (λ (z : List ℕ). r && all_pass p z) (drop_of_length-le s h) ∙ (ap (λ (z : Bool). r && z) all_nil ∙ and-true r)

  -- a list in two parts
  pub all_append : (s t : List ℕ) → all_pass p (s ++ t) ≡ (all_pass p s && all_pass p t)
  unfolding all_pass
  all_append [] t = refl
  all_append (x ∷ xs) t = ap (λ (z : Bool). p x && z) (all_append xs t) ∙ sym (and_assoc (p x) (all_pass p xs) (all_pass p t))

  pub all_at : (s : List ℕ) → all_pass p s ≡ true → (i : ℕ) → i < length s → p (get_or s i 0) ≡ true
  unfolding all_pass
  all_at [] h i k = absurd (not-suc-le-zero k)
  all_at (x ∷ xs) h zero k = and_left (p x) (all_pass p xs) h
  all_at (x ∷ xs) h (suc i) k = all_at xs (and_right (p x) (all_pass p xs) h) i (le_of_suc-le-suc k)

  pub all_of : (s : List ℕ) → ((i : ℕ) → i < length s → p (get_or s i 0) ≡ true) → all_pass p s ≡ true
  unfolding all_pass
  all_of [] h = refl
  all_of (x ∷ xs) h = and_both (p x) (all_pass p xs) (h 0 (omega arith)) (all_of xs (λ i k. h (suc i) (omega arith)))

pub length-zeros : (n : ℕ) → length (zeros n) ≡ n
unfolding zeros
length-zeros n = length-replicate n 0

-- all elements are zero: the list is zeros
pub all_zeros : (s : List ℕ) → all_pass (λ (b : ℕ). eqb b 0) s ≡ true → s ≡ zeros (length s)
unfolding all_pass zeros
all_zeros [] h = refl
all_zeros (x ∷ xs) h =
    ap₂ (λ (z : ℕ) (zs : List ℕ). z ∷ zs) (eqb-true x 0 (and_left (eqb x 0) (all_pass (λ (b : ℕ). eqb b 0) xs) h))
    (all_zeros xs (and_right (eqb x 0) (all_pass (λ (b : ℕ). eqb b 0) xs) h))

pub zeros_all : (n : ℕ) → all_pass (λ (b : ℕ). eqb b 0) (zeros n) ≡ true
unfolding all_pass zeros
zeros_all zero = refl
zeros_all (suc n) = zeros_all n

-- zeros, and then zeros
pub zeros-add : (n m : ℕ) → zeros (n + m) ≡ zeros n ++ zeros m
unfolding zeros
zeros-add n m = sym (replicate-append-replicate n m 0)
