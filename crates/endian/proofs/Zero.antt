-- A number is 0 exactly when its bytes are zero, over any number of bytes.
use Prim.Native.Nat.{ℕ, zero, suc, ◌+◌, ◌*◌, ◌<◌}
use mathlib.Core.Path.{◌≡◌, refl, sym, ap, ◌∙◌}
use mathlib.Core.Bool.{Bool, true, ◌&&◌, and_assoc}
use mathlib.Core.List.{List, [], ◌∷◌, ◌++◌}
use native.Mathlib.Nat.{mod-eq_of_lt, mul-zero, mul-suc, add_comm, not-suc-le-zero}
use native.Mathlib.Omega.{arith}
use borrow.Author.Tests.{eqb-true, eq-eqb, ne_eqb}
use lib.Dec.{eqb}
use lib.ListN.{take, drop, take-append-drop}
use lib.Seq.{drop-drop}
use Rattle.endian.specs.Bytes.{le, window, all_pass, Bytes}
use Rattle.endian.proofs.Parts.{window-append, bytes_window}
use Rattle.endian.proofs.Tests.{and_left, and_right, and_both, all_append}

abbrev is_zero : ℕ → Bool
is_zero b = eqb b 0

-- a sum is 0 where both parts are
sum-zero : (x y : ℕ) → eqb (x + 256 * y) 0 ≡ (eqb x 0 && eqb y 0)
sum-zero zero zero = refl
sum-zero zero (suc y) = ne_eqb (0 + 256 * suc y) 0 (λ e. omega arith) ∙ sym (ne_eqb (suc y) 0 (λ e. omega arith))
sum-zero (suc x) y =
    ne_eqb (suc x + 256 * y) 0 (λ e. omega arith) ∙ sym (ap (λ (z : Bool). z && eqb y 0) (ne_eqb (suc x) 0 (λ e. omega arith)))

-- what is left, and of it the first w bytes
split : (s : List ℕ) (i w : ℕ) → drop i s ≡ window s i w ++ drop (i + w) s
unfolding window
split s i w = sym (ap (λ (z : List ℕ). take w (drop i s) ++ z) (sym (drop-drop w i s)) ∙ take-append-drop w (drop i s))

-- the test of the number is that of each byte
pub le-zero : (s : List ℕ) → Bytes s → eqb (le s) 0 ≡ all_pass (λ (b : ℕ). eqb b 0) s
unfolding le all_pass
le-zero [] b = refl
le-zero (x ∷ xs) b =
    ap (λ (z : ℕ). eqb (z + 256 * le xs) 0) (mod-eq_of_lt (b 0))
    ∙ (sum-zero x (le xs) ∙ ap (λ (z : Bool). eqb x 0 && z) (le-zero xs (λ i. b (suc i))))

-- n numbers of w bytes, one after the other from `at` on
module _ (s : List ℕ) (w : ℕ) (b : Bytes s) where
  row : (at n : ℕ) → all_pass is_zero (window s at (w * suc n)) ≡ (eqb (le (window s at w)) 0 && all_pass is_zero (window s (at + w) (w * n)))
  row at n =
      ap (λ (k : ℕ). all_pass is_zero (window s at k)) (mul-suc w n ∙ add_comm (w * n) w)
      ∙ (ap (all_pass is_zero) (window-append s at w (w * n))
      ∙ (all_append is_zero (window s at w) (window s (at + w) (w * n))
      ∙ ap (λ (z : Bool). z && all_pass is_zero (window s (at + w) (w * n))) (sym (le-zero (window s at w) (bytes_window s at w b)))))

  -- the number at k, counted from `at` and from the one after it
  first : (at : ℕ) → le (window s (at + w * 0) w) ≡ le (window s at w)
  first at = ap (λ (i : ℕ). le (window s i w)) (let e : at + w * 0 ≡ at = rw mul-zero (omega arith) in e)

  after : (at k : ℕ) → le (window s (at + w * suc k) w) ≡ le (window s (at + w + w * k) w)
  after at k = ap (λ (i : ℕ). le (window s i w)) (let e : at + w * suc k ≡ at + w + w * k = rw mul-suc (omega arith) in e)

  -- all are 0: all their bytes are zero
  pub numbers_bytes : (n at : ℕ) → ((k : ℕ) → k < n → le (window s (at + w * k) w) ≡ 0) → all_pass (λ (x : ℕ). eqb x 0) (window s at (w * n)) ≡ true
  unfolding window all_pass
  numbers_bytes zero at h = ap (λ (k : ℕ). all_pass is_zero (window s at k)) (mul-zero w)
  numbers_bytes (suc n) at h =
      row at n
      ∙ and_both (eqb (le (window s at w)) 0) (all_pass is_zero (window s (at + w) (w * n)))
      (eq-eqb (le (window s at w)) 0 (sym (first at) ∙ h 0 (omega arith)))
      (numbers_bytes n (at + w) (λ k l. sym (after at k) ∙ h (suc k) (omega arith)))

  -- and the other way round
  pub bytes_numbers : (n at : ℕ) → all_pass (λ (x : ℕ). eqb x 0) (window s at (w * n)) ≡ true → (k : ℕ) → k < n → le (window s (at + w * k) w) ≡ 0
  bytes_numbers zero at h k l = absurd (not-suc-le-zero l)
  bytes_numbers (suc n) at h zero l =
      first at
      ∙ eqb-true (le (window s at w)) 0 (and_left (eqb (le (window s at w)) 0) (all_pass is_zero (window s (at + w) (w * n))) (sym (row at n) ∙ h))
  bytes_numbers (suc n) at h (suc k) l =
      after at k
      ∙ bytes_numbers n (at + w) (and_right (eqb (le (window s at w)) 0) (all_pass is_zero (window s (at + w) (w * n))) (sym (row at n) ∙ h)) k (omega arith)

-- As a loop has it that has tested the bytes before i, with answer r: the number of w bytes more.
pub zero_next : (s : List ℕ) (i w : ℕ) (r : Bool) → Bytes s
    → (r && eqb (le (window s i w)) 0) && all_pass (λ (b : ℕ). eqb b 0) (drop (i + w) s) ≡ (r && all_pass (λ (b : ℕ). eqb b 0) (drop i s))
zero_next s i w r b =
    and_assoc r (eqb (le (window s i w)) 0) (all_pass is_zero (drop (i + w) s))
    ∙ ap (λ (z : Bool). r && z)
    (ap (λ (z : Bool). z && all_pass is_zero (drop (i + w) s)) (le-zero (window s i w) (bytes_window s i w b))
    ∙ sym (ap (all_pass is_zero) (split s i w) ∙ all_append is_zero (window s i w) (drop (i + w) s)))
