-- Laws of tests in order. A caller's proof cites one for each test that it passes.
use Prim.Native.Nat.{ℕ, ◌≤◌, ◌<◌}
use mathlib.Core.Path.{◌≡◌, refl, sym, ap, ◌∙◌}
use mathlib.Core.Bool.{Bool, true, false, cond, not, true≢false}
use mathlib.Core.List.{List, [], ◌∷◌, ◌++◌}
use native.Mathlib.Omega.{arith}
use borrow.Author.Tests.{eq-eqb, ne_eqb, not-true, not-false}
use lib.Dec.{eqb}
use mathlib.Core.Logic.{inl, inr}
use Rattle.refusal.specs.Tests.{Test, ◌else_refuse◌, first, AllHold, Fails, Ascending}

pub first-nil : first [] ≡ 0
unfolding first
first-nil = refl

-- a test that holds
pub first-pass : (b : Bool) (n : ℕ) (ts : List Test) → b ≡ true → first ((b else_refuse n) ∷ ts) ≡ first ts
unfolding first
first-pass b n ts h = ap (λ (x : Bool). cond x (first ts) n) h

-- a test that fails
pub first_fail : (b : Bool) (n : ℕ) (ts : List Test) → b ≡ false → first ((b else_refuse n) ∷ ts) ≡ n
unfolding first
first_fail b n ts h = ap (λ (x : Bool). cond x (first ts) n) h

-- every test has a number
abbrev pub Numbered : List Test → Type 0
Numbered [] = Unit {0}
Numbered (t ∷ ts) = (0 < t.otherwise) × Numbered ts

-- then 0 means that all tests hold
pub first_holds : (ts : List Test) → Numbered ts → first ts ≡ 0 → AllHold ts
first_holds [] a e = tt
first_holds (t ∷ ts) a e = go (first_holds ts a.1) t.holds refl
  where
    go : (first ts ≡ 0 → AllHold ts) → (b : Bool) → t.holds ≡ b → AllHold (t ∷ ts)
    go r true p = (p, r (sym (first-pass t.holds t.otherwise ts p) ∙ e))
    go r false p =
        let z : t.otherwise ≡ 0 = sym (first_fail t.holds t.otherwise ts p) ∙ e in
        let l : 0 < t.otherwise = a.0 in
        absurd (omega arith)

-- numbers that ascend are numbers
pub ascending-numbered : (m : ℕ) (ts : List Test) → Ascending m ts → Numbered ts
ascending-numbered m [] a = tt
ascending-numbered m (t ∷ ts) a = (let l : m < t.otherwise = a.0 in omega arith, ascending-numbered t.otherwise ts a.1)

pub first-zero : (m : ℕ) (ts : List Test) → Ascending m ts → first ts ≡ 0 → AllHold ts
first-zero m ts a = first_holds ts (ascending-numbered m ts a)

pub first_all : (ts : List Test) → AllHold ts → first ts ≡ 0
first_all [] h = first-nil
first_all (t ∷ ts) h = first-pass t.holds t.otherwise ts h.0 ∙ first_all ts h.1

-- a test that fails has no number below those of its list
pub fails_above : (m : ℕ) (ts : List Test) → Ascending m ts → (k : ℕ) → Fails ts k → m < k
fails_above m [] a k f = absurd f
fails_above m (t ∷ ts) a k (inl f) =
    let l : m < t.otherwise = a.0 in
    let e : t.otherwise ≡ k = f.1 in
    omega arith
fails_above m (t ∷ ts) a k (inr f) =
    let l : m < t.otherwise = a.0 in
    let g : t.otherwise < k = fails_above t.otherwise ts a.1 k f in
    omega arith

-- given numbers that ascend, the number is the lowest of the tests that fail
pub first-lowest : (m : ℕ) (ts : List Test) → Ascending m ts → 0 < first ts → Fails ts (first ts) × ((k : ℕ) → Fails ts k → first ts ≤ k)
first-lowest m [] a p = absurd (let z : first [] ≡ 0 = first-nil in omega arith)
first-lowest m (t ∷ ts) a p = go (first-lowest t.otherwise ts a.1) t.holds refl
  where
    below : t.holds ≡ false → (k : ℕ) → Fails (t ∷ ts) k → first (t ∷ ts) ≤ k
    below e k (inl f) =
        let n : first (t ∷ ts) ≡ t.otherwise = first_fail t.holds t.otherwise ts e in
        let g : t.otherwise ≡ k = f.1 in
        omega arith
    below e k (inr f) =
        let n : first (t ∷ ts) ≡ t.otherwise = first_fail t.holds t.otherwise ts e in
        let g : t.otherwise < k = fails_above t.otherwise ts a.1 k f in
        omega arith

    later : t.holds ≡ true → ((k : ℕ) → Fails ts k → first ts ≤ k) → (k : ℕ) → Fails (t ∷ ts) k → first (t ∷ ts) ≤ k
    later e h k (inl f) = absurd (true≢false (sym e ∙ f.0))
    later e h k (inr f) = rw (first-pass t.holds t.otherwise ts e) (h k f)

    go : (0 < first ts → Fails ts (first ts) × ((k : ℕ) → Fails ts k → first ts ≤ k))
        → (b : Bool) → t.holds ≡ b → Fails (t ∷ ts) (first (t ∷ ts)) × ((k : ℕ) → Fails (t ∷ ts) k → first (t ∷ ts) ≤ k)
    go h false e = (inl (e, sym (first_fail t.holds t.otherwise ts e)), below e)
    go h true e =
        let n : first (t ∷ ts) ≡ first ts = first-pass t.holds t.otherwise ts e in
        let r : Fails ts (first ts) × ((k : ℕ) → Fails ts k → first ts ≤ k) = h (rw n at p) in
        (inr (rw n r.0), later e r.1)

-- all numbers are below k; then so is the one that is given
abbrev pub Below : ℕ → List Test → Type 0
Below k [] = Unit {0}
Below k (t ∷ ts) = (t.otherwise < k) × Below k ts

pub first_below : (k : ℕ) (ts : List Test) → 0 < k → Below k ts → first ts < k
first_below k [] l a = rw first-nil l
first_below k (t ∷ ts) l a = go (first_below k ts l a.1) t.holds refl
  where
    go : first ts < k → (b : Bool) → t.holds ≡ b → first (t ∷ ts) < k
    go h true e = rw (first-pass t.holds t.otherwise ts e) h
    go h false e = rw (first_fail t.holds t.otherwise ts e) a.0

-- a number that is not the first test's is one of those after it
pub first_other : (b : Bool) (k : ℕ) (ts : List Test) (n : ℕ) → (k ≡ n → ⊥) → first ((b else_refuse k) ∷ ts) ≡ n → first ts ≡ n
first_other true k ts n h e = sym (first-pass true k ts refl) ∙ e
first_other false k ts n h e = absurd (h (sym (first_fail false k ts refl) ∙ e))

-- no test has the number n; then those before the one that gives n hold
abbrev pub Differ : ℕ → List Test → Type 0
Differ n [] = Unit {0}
Differ n (t ∷ ts) = (t.otherwise ≡ n → ⊥) × Differ n ts

pub hold_before : (ts us : List Test) (n : ℕ) → Differ n ts → first (ts ++ us) ≡ n → AllHold ts
hold_before [] us n a e = tt
hold_before (t ∷ ts) us n a e = go (hold_before ts us n a.1) t.holds refl
  where
    go : (first (ts ++ us) ≡ n → AllHold ts) → (b : Bool) → t.holds ≡ b → AllHold (t ∷ ts)
    go h true p = (p, h (sym (first-pass t.holds t.otherwise (ts ++ us) p) ∙ e))
    go h false p = absurd (a.0 (sym (first_fail t.holds t.otherwise (ts ++ us) p) ∙ e))

-- tests that follow other tests: those before them hold
pub first-after : (ts us : List Test) → AllHold ts → first (ts ++ us) ≡ first us
first-after [] us h = refl
first-after (t ∷ ts) us h = first-pass t.holds t.otherwise (ts ++ us) h.0 ∙ first-after ts us h.1

-- a test before them fails
pub first-before : (m : ℕ) (ts us : List Test) → Ascending m ts → (first ts ≡ 0 → ⊥) → first (ts ++ us) ≡ first ts
first-before m [] us a h = absurd (h first-nil)
first-before m (t ∷ ts) us a h = go (first-before t.otherwise ts us a.1) t.holds refl
  where
    go : ((first ts ≡ 0 → ⊥) → first (ts ++ us) ≡ first ts) → (b : Bool) → t.holds ≡ b → first ((t ∷ ts) ++ us) ≡ first (t ∷ ts)
    go r true e =
        first-pass t.holds t.otherwise (ts ++ us) e
        ∙ (r (λ z. h (first-pass t.holds t.otherwise ts e ∙ z)) ∙ sym (first-pass t.holds t.otherwise ts e))
    go r false e = first_fail t.holds t.otherwise (ts ++ us) e ∙ sym (first_fail t.holds t.otherwise ts e)

-- what a call answers that hands the number r of its tests on, or else its values
pub answer_no : {A : Type 0} (value : A) (number : ℕ → A) (r n : ℕ) → r ≡ n → (r ≡ 0 → ⊥) → number r ≡ cond (eqb n 0) value (number n)
answer_no value number r n e h = ap number e ∙ ap (λ (b : Bool). cond b value (number n)) (sym (ne_eqb n 0 (λ z. h (e ∙ z))))

pub answer-yes : {A : Type 0} (value : A) (number : ℕ → A) (r n : ℕ) → r ≡ n → r ≡ 0 → value ≡ cond (eqb n 0) value (number n)
answer-yes value number r n e h = ap (λ (b : Bool). cond b value (number n)) (sym (eq-eqb n 0 (sym e ∙ h)))

-- then 0 means that the tests hold, and those that follow
pub first_split : (ts us : List Test) → Numbered ts → first (ts ++ us) ≡ 0 → (first ts ≡ 0) × (first us ≡ 0)
first_split [] us n h = (first-nil, h)
first_split (t ∷ ts) us n h = go (first_split ts us n.1) t.holds refl
  where
    go : (first (ts ++ us) ≡ 0 → (first ts ≡ 0) × (first us ≡ 0)) → (b : Bool) → t.holds ≡ b → (first (t ∷ ts) ≡ 0) × (first us ≡ 0)
    go r true e =
        let q : (first ts ≡ 0) × (first us ≡ 0) = r (sym (first-pass t.holds t.otherwise (ts ++ us) e) ∙ h) in
        (first-pass t.holds t.otherwise ts e ∙ q.0, q.1)
    go r false e =
        let z : t.otherwise ≡ 0 = sym (first_fail t.holds t.otherwise (ts ++ us) e) ∙ h in
        let l : 0 < t.otherwise = n.0 in
        absurd (omega arith)

-- As code has it, `if !f(x) { return n; }`, with f's answer r: the number is given.
pub refused : (r b : Bool) (n : ℕ) (ts : List Test) → r ≡ b → not r ≡ true → n ≡ first ((b else_refuse n) ∷ ts)
refused r b n ts e t = sym (first_fail b n ts (sym e ∙ not-true r t))

-- The test is passed, and k is what the tests after it give.
pub passed : (r b : Bool) (n : ℕ) (ts : List Test) → r ≡ b → not r ≡ false → (k : ℕ) → k ≡ first ts → k ≡ first ((b else_refuse n) ∷ ts)
passed r b n ts e t k h = h ∙ sym (first-pass b n ts (sym e ∙ not-false r t))
