-- Laws of tests of all numbers below a limit. Loops cite a law a step; meaning is the other half.
use Prim.Native.Nat.{ℕ, zero, suc, ◌+◌, ◌≤◌, ◌<◌}
use mathlib.Core.Path.{◌≡◌, refl, sym, ap, ◌∙◌}
use mathlib.Core.Bool.{Bool, true, false, cond, not, ◌&&◌, true≢false}
use mathlib.Core.Logic.{◌⊎◌, inl, inr, ⊎_elim}
use native.Mathlib.Nat.{eq-or-lt_of_le, le_of_suc-le-suc, not-suc-le-zero, le_refl}
use native.Mathlib.Numerals.{add-one}
use native.Mathlib.Omega.{arith}
use borrow.Author.Tests.{lt-ltb, le-ltb, le-leb, lt-leb, ltb-true, leb-true, not-true, not-false}
use lib.Dec.{leb, ltb}
use Rattle.endian.proofs.Tests.{and_left, and_right, and_both}
use Rattle.search.specs.Search.{every, least, total, within}

pub and_false-left : (a b : Bool) → a ≡ false → a && b ≡ false
and_false-left a b h = rw h

pub and_false-right : (a b : Bool) → b ≡ false → a && b ≡ false
and_false-right true b h = h
and_false-right false b h = refl

pub not_true-false : (b : Bool) → (b ≡ true → ⊥) → b ≡ false
not_true-false true h = absurd (h refl)
not_true-false false h = refl

pub both : (b : Bool) → b ≡ true → b ≡ false → ⊥
both b h k = true≢false (sym h ∙ k)

-- x in an interval, or not
pub in_within : (a b x : ℕ) → a ≤ x → x < b → within a b x ≡ true
in_within a b x h k = and_both (leb a x) (ltb x b) (le-leb a x h) (lt-ltb x b k)

pub below-within : (a b x : ℕ) → x < a → within a b x ≡ false
below-within a b x h = and_false-left (leb a x) (ltb x b) (lt-leb a x h)

pub past-within : (a b x : ℕ) → b ≤ x → within a b x ≡ false
past-within a b x h = and_false-right (leb a x) (ltb x b) (le-ltb x b h)

pub within_low : (a b x : ℕ) → within a b x ≡ true → a ≤ x
within_low a b x h = leb-true a x (and_left (leb a x) (ltb x b) h)

pub within_high : (a b x : ℕ) → within a b x ≡ true → x < b
within_high a b x h = ltb-true x b (and_right (leb a x) (ltb x b) h)

-- every
pub every-zero : (p : ℕ → Bool) → every p 0 ≡ true
unfolding every
every-zero p = refl

pub every_more : (p : ℕ → Bool) (n : ℕ) → every p n ≡ true → p n ≡ true → every p (n + 1) ≡ true
unfolding every
every_more p n h k = rw (add-one n) (and_both (every p n) (p n) h k)

pub every-at : (p : ℕ → Bool) (n : ℕ) → every p n ≡ true → (i : ℕ) → i < n → p i ≡ true
unfolding every
every-at p zero h i l = absurd (not-suc-le-zero l)
every-at p (suc n) h i l =
    ⊎_elim (λ (e : i ≡ n). ap p e ∙ and_right (every p n) (p n) h) (λ (k : i < n). every-at p n (and_left (every p n) (p n) h) i k)
    (eq-or-lt_of_le (le_of_suc-le-suc l))

pub every_all : (p : ℕ → Bool) (n : ℕ) → ((i : ℕ) → i < n → p i ≡ true) → every p n ≡ true
unfolding every
every_all p zero h = refl
every_all p (suc n) h =
    and_both (every p n) (p n) (every_all p n (λ i l. h i (let k : i < suc n = omega arith in k))) (h n (le_refl (suc n)))

-- a number that fails
pub every-false : (p : ℕ → Bool) (n i : ℕ) → i < n → p i ≡ false → every p n ≡ false
unfolding every
every-false p zero i l h = absurd (not-suc-le-zero l)
every-false p (suc n) i l h =
    ⊎_elim (λ (e : i ≡ n). and_false-right (every p n) (p n) (ap p (sym e) ∙ h))
    (λ (k : i < n). and_false-left (every p n) (p n) (every-false p n i k h)) (eq-or-lt_of_le (le_of_suc-le-suc l))

-- the same tests
pub every-same : (p q : ℕ → Bool) (n : ℕ) → ((i : ℕ) → i < n → p i ≡ q i) → every p n ≡ every q n
unfolding every
every-same p q zero h = refl
every-same p q (suc n) h =
    let r : every p n ≡ every q n = every-same p q n (λ i l. h i (let k : i < suc n = omega arith in k)) in
    rw (r, h n (le_refl (suc n)))

-- As a loop has it that tests i, with answer r, up to n, which is k: a turn passed, a turn that stops it, its end.
pub every-step : (p : ℕ → Bool) (i : ℕ) (r : Bool) → every p i ≡ true → r ≡ p i → not r ≡ false → every p (i + 1) ≡ true
every-step p i r h e t = every_more p i h (sym e ∙ not-false r t)

pub every_stop : (p : ℕ → Bool) (i n k : ℕ) (r : Bool) → i < n → n ≡ k → r ≡ p i → not r ≡ true → false ≡ every p k
every_stop p i n k r l m e t = sym (every-false p k i (let q : i < k = omega arith in q) (sym e ∙ not-true r t))

pub every-done : (p : ℕ → Bool) (i n k : ℕ) → i ≤ n → n ≤ i → n ≡ k → every p i ≡ true → true ≡ every p k
every-done p i n k l m e h =
    let q : i ≡ k = omega arith in
    sym h ∙ ap (every p) q

-- least
pub least_zero : (p : ℕ → Bool) → least p 0 ≡ 0
unfolding least
least_zero p = refl

pub least-suc : (p : ℕ → Bool) (n : ℕ) → least p (suc n) ≡ cond (ltb (least p n) n) (least p n) (cond (p n) n (suc n))
unfolding least
least-suc p n = refl

pub least-le : (p : ℕ → Bool) (n : ℕ) → least p n ≤ n
least-le p zero = rw (least_zero p) (le_refl 0)
least-le p (suc n) = rw (least-suc p n) (go (least p n) (least-le p n) (ltb (least p n) n) (p n))
  where
    go : (m : ℕ) → m ≤ n → (a b : Bool) → cond a m (cond b n (suc n)) ≤ suc n
    go m l true b = omega arith
    go m l false true = omega arith
    go m l false false = omega arith

-- one that was found below n is the lowest below n + 1 too
found : (p : ℕ → Bool) (n : ℕ) → least p n < n → least p (suc n) ≡ least p n
found p n l = rw (least-suc p n, lt-ltb (least p n) n l)

-- none below n
pub least_more : (p : ℕ → Bool) (n : ℕ) → least p n ≡ n → p n ≡ false → least p (n + 1) ≡ n + 1
least_more p n h k =
    let b : n ≤ least p n = omega arith in
    rw (add-one n, least-suc p n, le-ltb (least p n) n b, k)

-- n is the first
here : (p : ℕ → Bool) (n : ℕ) → least p n ≡ n → p n ≡ true → least p (suc n) ≡ n
here p n h k =
    let b : n ≤ least p n = omega arith in
    rw (least-suc p n, le-ltb (least p n) n b, k)

-- once found below k it stays
stays : (p : ℕ → Bool) (i n : ℕ) → least p (suc i) ≡ i → i < n → least p n ≡ i
stays p i zero h l = absurd (not-suc-le-zero l)
stays p i (suc n) h l =
    ⊎_elim (λ (e : i ≡ n). sym (ap (λ (z : ℕ). least p (suc z)) e) ∙ h) (λ (k : i < n).
    let r : least p n ≡ i = stays p i n h k in
    let m : least p n < n = omega arith in
    found p n m ∙ r) (eq-or-lt_of_le (le_of_suc-le-suc l))

-- the search finds i: none below it, and it passes
pub least-found : (p : ℕ → Bool) (i n : ℕ) → least p i ≡ i → p i ≡ true → i < n → least p n ≡ i
least-found p i n h k l = stays p i n (here p i h k) l

-- none passes
pub least-none : (p : ℕ → Bool) (n : ℕ) → ((i : ℕ) → i < n → p i ≡ false) → least p n ≡ n
least-none p zero h = least_zero p
least-none p (suc n) h =
    rw add-one at (least_more p n (least-none p n (λ i l. h i (let k : i < suc n = omega arith in k))) (h n (le_refl (suc n))))

-- what is found passes
pub least-holds : (p : ℕ → Bool) (n : ℕ) → least p n < n → p (least p n) ≡ true
least-holds p zero l = absurd (not-suc-le-zero l)
least-holds p (suc n) l = go (least-holds p n) (p n) refl (eq-or-lt_of_le (least-le p n))
  where
    go : (least p n < n → p (least p n) ≡ true) → (b : Bool) → p n ≡ b → (least p n ≡ n) ⊎ (least p n < n) → p (least p (suc n)) ≡ true
    go r b e (inr k) = ap p (found p n k) ∙ r k
    go r true e (inl k) = ap p (here p n k e) ∙ e
    go r false e (inl k) =
        let m : least p (suc n) ≡ suc n = rw add-one at (least_more p n k e) in
        absurd (omega arith)

-- and nothing below it does
pub least-below : (p : ℕ → Bool) (n i : ℕ) → i < least p n → p i ≡ false
least-below p zero i l = absurd (not-suc-le-zero (rw (least_zero p) at l))
least-below p (suc n) i l = go (least-below p n i) (p n) refl (eq-or-lt_of_le (least-le p n))
  where
    go : (i < least p n → p i ≡ false) → (b : Bool) → p n ≡ b → (least p n ≡ n) ⊎ (least p n < n) → p i ≡ false
    go below b e (inr k) =
        let m : least p (suc n) ≡ least p n = found p n k in
        below (omega arith)
    go below true e (inl k) =
        let m : least p (suc n) ≡ n = here p n k e in
        below (omega arith)
    go below false e (inl k) =
        let m : least p (suc n) ≡ suc n = rw add-one at (least_more p n k e) in
        ⊎_elim (λ (q : i ≡ n). ap p q ∙ e) (λ (q : i < n). below (omega arith))
        (eq-or-lt_of_le (let q : i ≤ n = omega arith in q))

-- the same tests give the same lowest number
pub least-same : (p q : ℕ → Bool) (n : ℕ) → ((i : ℕ) → i < n → p i ≡ q i) → least p n ≡ least q n
least-same p q zero h = least_zero p ∙ sym (least_zero q)
least-same p q (suc n) h =
    let r : least p n ≡ least q n = least-same p q n (λ i l. h i (let k : i < suc n = omega arith in k)) in
    rw (least-suc p n, least-suc q n, r, h n (le_refl (suc n)))

-- total
pub total-zero : (f : ℕ → ℕ) → total f 0 ≡ 0
unfolding total
total-zero f = refl

pub total-suc : (f : ℕ → ℕ) (n : ℕ) → total f (suc n) ≡ total f n + f n
unfolding total
total-suc f n = refl

pub total_more : (f : ℕ → ℕ) (n : ℕ) → total f (n + 1) ≡ total f n + f n
total_more f n = rw (add-one n) (total-suc f n)

pub total-same : (f g : ℕ → ℕ) (n : ℕ) → ((i : ℕ) → i < n → f i ≡ g i) → total f n ≡ total g n
total-same f g zero h = total-zero f ∙ sym (total-zero g)
total-same f g (suc n) h =
    let r : total f n ≡ total g n = total-same f g n (λ i l. h i (let k : i < suc n = omega arith in k)) in
    let e : f n ≡ g n = h n (le_refl (suc n)) in
    rw (total-suc f n, total-suc g n, r, e)
