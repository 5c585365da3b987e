-- Tests that follow other tests.
use Prim.Native.Nat.{ℕ, ◌<◌, ◌≤◌}
use mathlib.Core.Path.{◌≡◌, refl, sym, ◌∙◌}
use mathlib.Core.Bool.{Bool, true, false}
use mathlib.Core.List.{List, [], ◌∷◌, ◌++◌}
use native.Mathlib.Omega.{arith}
use borrow.Author.Tests.{lt-ltb, le-ltb}
use lib.Dec.{ltb, lit<}
use lib.ListN.{length}
use Rattle.refusal.specs.Numbers.{segment_clash, no_segment}
use Rattle.refusal.specs.Tests.{Test, ◌else_refuse◌, first, Ascending}
use Rattle.refusal.proofs.Order.{Numbered, ascending-numbered, first-nil, first-pass, first_fail, first-zero, first-after, first-before, first_below}
use Rattle.layout.specs.declared.Device.{Device}
use Rattle.layout.specs.Limits.{device_tests}
use Rattle.items.specs.Items.{segments}
use Rattle.record.specs.Accept.{content_tests, record_tests}
use Rattle.record.specs.Answers.{position_tests}

pub device-ascending : (d : Device) → Ascending 0 (device_tests d)
device-ascending d = (lit< tt, (lit< tt, (lit< tt, tt)))

pub content_ascending : (d : Device) (s : List ℕ) → Ascending 0 (content_tests d s)
content_ascending d s = (lit< tt, (lit< tt, (lit< tt, (lit< tt, tt))))

pub record_ascending : (d : Device) (s : List ℕ) → Ascending 0 (record_tests d s)
record_ascending d s = (lit< tt, (lit< tt, (lit< tt, (lit< tt, (lit< tt, (lit< tt, (lit< tt, tt)))))))

-- the same of tests that follow those of a record
pub more_no : (d : Device) (s : List ℕ) (us : List Test) (r : ℕ) → r ≡ first (record_tests d s) → (r ≡ 0 → ⊥) → r ≡ first (record_tests d s ++ us)
more_no d s us r e h = e ∙ sym (first-before 0 (record_tests d s) us (record_ascending d s) (λ z. h (e ∙ z)))

pub record_numbered : (d : Device) (s : List ℕ) → Numbered (record_tests d s)
record_numbered d s = ascending-numbered 0 (record_tests d s) (record_ascending d s)

-- tests whose numbers ascend above m give one above m
first_above : (m : ℕ) (ts : List Test) → Ascending m ts → 0 < first ts → m < first ts
first_above m [] a p = absurd (let z : first [] ≡ 0 = first-nil in omega arith)
first_above m (t ∷ ts) a p = go (first_above t.otherwise ts a.1) t.holds refl
  where
    go : (0 < first ts → t.otherwise < first ts) → (b : Bool) → t.holds ≡ b → m < first (t ∷ ts)
    go h false e =
        let n : first (t ∷ ts) ≡ t.otherwise = first_fail t.holds t.otherwise ts e in
        let l : m < t.otherwise = a.0 in
        omega arith
    go h true e =
        let n : first (t ∷ ts) ≡ first ts = first-pass t.holds t.otherwise ts e in
        let r : t.otherwise < first ts = h (let q : 0 < first ts = omega arith in q) in
        let l : m < t.otherwise = a.0 in
        omega arith

-- the test whose number is given fails
pub fails_at : (m : ℕ) (ts us : List Test) (b : Bool) (n : ℕ) → Ascending m (ts ++ ((b else_refuse n) ∷ us)) → first (ts ++ ((b else_refuse n) ∷ us)) ≡ n → b ≡ false
fails_at m [] us false n a e = refl
fails_at m [] us true n a e =
    let f : first us ≡ n = sym (first-pass true n us refl) ∙ e in
    let l : m < n = a.0 in
    let r : n < first us = first_above n us a.1 (let q : 0 < first us = omega arith in q) in
    absurd (omega arith)
fails_at m (t ∷ ts) us b n a e = go (fails_at t.otherwise ts us b n a.1) t.holds refl
  where
    later : (x : ℕ) (qs : List Test) → Ascending x (qs ++ ((b else_refuse n) ∷ us)) → x < n
    later x [] h = h.0
    later x (q ∷ qs) h =
        let i : x < q.otherwise = h.0 in
        let j : q.otherwise < n = later q.otherwise qs h.1 in
        omega arith

    go : (first (ts ++ ((b else_refuse n) ∷ us)) ≡ n → b ≡ false) → (c : Bool) → t.holds ≡ c → b ≡ false
    go h false k =
        let f : first ((t ∷ ts) ++ ((b else_refuse n) ∷ us)) ≡ t.otherwise = first_fail t.holds t.otherwise (ts ++ ((b else_refuse n) ∷ us)) k in
        let l : t.otherwise < n = later t.otherwise ts a.1 in
        absurd (omega arith)
    go h true k = h (sym (first-pass t.holds t.otherwise (ts ++ ((b else_refuse n) ∷ us)) k) ∙ e)
