-- Laws of sums over the numbers below a limit.
use Prim.Native.Nat.{ℕ, zero, suc, ◌+◌, ◌-◌, ◌≤◌, ◌<◌, min}
use mathlib.Core.Path.{◌≡◌, sym, ap, ◌∙◌}
use mathlib.Core.Logic.{◌⊎◌, inl, inr}
use native.Mathlib.Decide.{dec_lt}
use native.Mathlib.Nat.{le_refl, eq-or-lt_of_le, le_of_suc-le-suc}
use native.Mathlib.Omega.{arith}
use Rattle.search.specs.Search.{total, within, one}
use Rattle.search.proofs.Search.{in_within, below-within, past-within, total-zero, total-suc, total-same}

pub total-none : (f : ℕ → ℕ) (n : ℕ) → ((i : ℕ) → i < n → f i ≡ 0) → total f n ≡ 0
total-none f zero h = total-zero f
total-none f (suc n) h =
    let r : total f n ≡ 0 = total-none f n (λ i l. h i (let k : i < suc n = omega arith in k)) in
    let e : f n ≡ 0 = h n (le_refl (suc n)) in
    total-suc f n ∙ (let q : total f n + f n ≡ 0 = omega arith in q)

pub total-add : (f g : ℕ → ℕ) (n : ℕ) → total (λ x. f x + g x) n ≡ total f n + total g n
total-add f g zero = total-zero (λ x. f x + g x) ∙ (let a : total f 0 ≡ 0 = total-zero f in let b : total g 0 ≡ 0 = total-zero g in omega arith)
total-add f g (suc n) =
    let r : total (λ x. f x + g x) n ≡ total f n + total g n = total-add f g n in
    let a : total f (suc n) ≡ total f n + f n = total-suc f n in
    let b : total g (suc n) ≡ total g n + g n = total-suc g n in
    total-suc (λ x. f x + g x) n ∙ (let q : total (λ x. f x + g x) n + (f n + g n) ≡ total f (suc n) + total g (suc n) = omega arith in q)

-- the order of two sums
pub total_swap : (f : ℕ → ℕ → ℕ) (m n : ℕ) → total (λ x. total (f x) n) m ≡ total (λ i. total (λ x. f x i) m) n
total_swap f m zero = total-none (λ x. total (f x) 0) m (λ x l. total-zero (f x)) ∙ sym (total-zero (λ i. total (λ x. f x i) m))
total_swap f m (suc n) =
    total-same (λ x. total (f x) (suc n)) (λ x. total (f x) n + f x n) m (λ x l. total-suc (f x) n)
    ∙ (total-add (λ x. total (f x) n) (λ x. f x n) m
    ∙ (ap (λ (z : ℕ). z + total (λ x. f x n) m) (total_swap f m n) ∙ sym (total-suc (λ i. total (λ x. f x i) m) n)))

-- the numbers below n that are in an interval
pub total-within : (a b n : ℕ) → a ≤ b → total (λ x. one (within a b x)) n ≡ min n b - a
total-within a b zero h = total-zero (λ x. one (within a b x)) ∙ (omega arith)
total-within a b (suc n) h =
    let r : total (λ x. one (within a b x)) n ≡ min n b - a = total-within a b n h in
    total-suc (λ x. one (within a b x)) n
    ∙ elim (dec_lt n a) [
      | yes l ↦
          let q : one (within a b n) ≡ 0 = ap one (below-within a b n l) in
          omega arith
      | no l ↦
          elim (dec_lt n b) [
            | yes k ↦
                let q : one (within a b n) ≡ 1 = ap one (in_within a b n (omega arith) k) in
                omega arith
            | no k ↦
                let q : one (within a b n) ≡ 0 = ap one (past-within a b n (omega arith)) in
                omega arith
          ]
    ]

pub total-ones : (f : ℕ → ℕ) (n : ℕ) → ((i : ℕ) → i < n → f i ≡ 1) → total f n ≡ n
total-ones f zero h = total-zero f
total-ones f (suc n) h =
    let r : total f n ≡ n = total-ones f n (λ i l. h i (let k : i < suc n = omega arith in k)) in
    let e : f n ≡ 1 = h n (le_refl (suc n)) in
    total-suc f n ∙ (let q : total f n + f n ≡ suc n = omega arith in q)

-- a part of a sum is at most the sum
pub total-part : (f : ℕ → ℕ) (i n : ℕ) → i ≤ n → total f i ≤ total f n
total-part f i zero h = let e : i ≡ 0 = omega arith in rw e (le_refl (total f 0))
total-part f i (suc n) h = go (total-part f i n) (eq-or-lt_of_le h)
  where
    go : (i ≤ n → total f i ≤ total f n) → (i ≡ suc n) ⊎ (i < suc n) → total f i ≤ total f (suc n)
    go r (inl e) = rw e (le_refl (total f (suc n)))
    go r (inr l) =
        let q : total f i ≤ total f n = r (le_of_suc-le-suc l) in
        let t : total f (suc n) ≡ total f n + f n = total-suc f n in
        omega arith
