-- Demand 2, first half, proved.
use Prim.Native.Nat.{ℕ, ◌≤◌, ◌<◌}
use mathlib.Core.Logic.{inl, inr}
use mathlib.Core.Path.{◌≡◌, refl, sym, ap, ◌∙◌}
use mathlib.Core.Bool.{Bool, true, false, ◌&&◌, true≢false}
use mathlib.Core.List.{List, [], ◌∷◌}
use native.Mathlib.Omega.{arith}
use borrow.Author.Tests.{eq-eqb}
use lib.Dec.{eqb, lit≤}
use native.Mathlib.Decide.{ℕ_discrete}
use lib.ListN.{length, drop}
use Rattle.std.proofs.Common.{Err}
use Rattle.refusal.specs.declared.Reason.{Reason}
use Rattle.refusal.specs.Reasons.{refusal_of, number_in}
use Rattle.refusal.specs.Tests.{Test, first, Fails, AllHold}
use Rattle.refusal.proofs.Order.{first-zero, first_all, first-lowest, fails_above}
use Rattle.endian.proofs.Parts.{length-window-fits}
use Rattle.endian.proofs.Tests.{and_both}
use Rattle.block.specs.Block.{pool_of, blockdev_of, fields_of, read_tests, reading}
use Rattle.block.specs.Writing.{write_tests}
use Rattle.block.specs.Entry.{later_than}
use Rattle.block.proofs.Times.{Before, NotAfter, later_facts, not_later_facts}
use Rattle.block.specs.Demand.{Exactly, Applies, NoneApplies, Lowest, WriteAfterRead, ReadAfterWrite, nanoseconds_in, Later}
use Rattle.block.proofs.Readings.{refused_reading_lem, accepted_reading_lem, accepted_none, refused-some, reading-number, reason-from, ascending}
use Rattle.block.proofs.Exactly.{obeys, no_refusal}
use Rattle.block.proofs.Applying.{fails_applies, applies_fails}
use Rattle.block.proofs.Written.{written-accepted, write-ascending, write_sizes}
use Rattle.block.proofs.RoundTrip.{write-back, read_back}

-- a test that fails is not among tests that all hold
some_fails : (ts : List Test) (n : ℕ) → Fails ts n → AllHold ts → ⊥
some_fails [] n f a = f
some_fails (t ∷ ts) n (inl f) a = true≢false (sym a.0 ∙ f.0)
some_fails (t ∷ ts) n (inr f) a = some_fails ts n f a.1

pub exactly : Exactly
exactly b = (λ a. accepted_reading_lem b (no_refusal b a), λ r e. obeys b (accepted_none b r e))

-- a test of 512 bytes that fails is one of 2 to 9
past-size : (b : List ℕ) (n : ℕ) → length b ≡ 512 → Fails (read_tests b) n → 2 ≤ n
past-size b n s (inl f) = absurd (true≢false (sym (eq-eqb (length b) 512 s) ∙ f.0))
past-size b n s (inr f) = fails_above 1 (drop 1 (read_tests b)) (ascending b).1 n f

pub none_applies : NoneApplies
none_applies b = (
  λ a. (
    a.size,
    λ n l c. some_fails (read_tests b) n (applies_fails b n c) (first-zero 0 (read_tests b) (ascending b) (no_refusal b a)),
  ),
  λ h. elim (ℕ_discrete (first (read_tests b)) 0) [
    | yes z ↦ obeys b z
    | no o ↦
        let l : 0 < first (read_tests b) = omega arith in
        let f : Fails (read_tests b) (first (read_tests b)) = (first-lowest 0 (read_tests b) (ascending b) l).0 in
        absurd (h.1 (first (read_tests b)) (past-size b (first (read_tests b)) h.0 f) (fails_applies b (first (read_tests b)) f))
  ],
)

-- no condition has a higher number than 9
applies_most : (b : List ℕ) (n : ℕ) → Applies b n → n ≤ 9
applies_most b n a =
    elim a [
      | inl h ↦ let e : n ≡ 1 = h.0 in omega arith
      | inr (inl h) ↦ let e : n ≡ 2 = h.0 in omega arith
      | inr (inr (inl h)) ↦ let e : n ≡ 3 = h.0 in omega arith
      | inr (inr (inr (inl h))) ↦ let e : n ≡ 4 = h.0 in omega arith
      | inr (inr (inr (inr (inl h)))) ↦ let e : n ≡ 5 = h.0 in omega arith
      | inr (inr (inr (inr (inr (inl h))))) ↦ let e : n ≡ 6 = h.0 in omega arith
      | inr (inr (inr (inr (inr (inr (inl h)))))) ↦ let e : n ≡ 7 = h.0 in omega arith
      | inr (inr (inr (inr (inr (inr (inr (inl h))))))) ↦ let e : n ≡ 8 = h.0 in omega arith
      | inr (inr (inr (inr (inr (inr (inr (inr h))))))) ↦ let e : n ≡ 9 = h.0 in omega arith
    ]

-- the first test that fails has the lowest number whose condition holds
module _ (b : List ℕ) (r : Reason) where
  abbrev n : ℕ
  n = (refusal_of r).number

  refused-lowest : reading b ≡ Err r → Applies b n × ((k : ℕ) → Applies b k → n ≤ k)
  refused-lowest e =
      let f : first (read_tests b) ≡ n = sym (reading-number b) ∙ ap number_in e in
      let z : first (read_tests b) ≡ 0 → ⊥ = refused-some b r e in
      let l : Fails (read_tests b) (first (read_tests b)) × ((k : ℕ) → Fails (read_tests b) k → first (read_tests b) ≤ k) =
      first-lowest 0 (read_tests b) (ascending b) (omega arith) in
      let m : Fails (read_tests b) n × ((k : ℕ) → Fails (read_tests b) k → n ≤ k) = rw f at l in
      (fails_applies b n m.0, λ k a. m.1 k (applies_fails b k a))

  lowest-refused : Applies b n → ((k : ℕ) → Applies b k → n ≤ k) → reading b ≡ Err r
  lowest-refused a h =
      let f : Fails (read_tests b) n = applies_fails b n a in
      let o : first (read_tests b) ≡ 0 → ⊥ = λ z. some_fails (read_tests b) n f (first-zero 0 (read_tests b) (ascending b) z) in
      let l : Fails (read_tests b) (first (read_tests b)) × ((k : ℕ) → Fails (read_tests b) k → first (read_tests b) ≤ k) =
      first-lowest 0 (read_tests b) (ascending b) (omega arith) in
      let x : first (read_tests b) ≤ n = l.1 n f in
      let y : n ≤ first (read_tests b) = h (first (read_tests b)) (fails_applies b (first (read_tests b)) l.0) in
      let m : n ≡ first (read_tests b) = omega arith in
      let t : n ≤ 9 = applies_most b n a in
      refused_reading_lem b o ∙ ap (λ (e : Reason). Err e) (reason-from r (first (read_tests b)) m (λ k. omega arith))

pub lowest : Lowest
lowest b r = (refused-lowest b r, λ a. lowest-refused b r a.0 a.1)

pub write-after-read : WriteAfterRead
write-after-read b out bytes h n =
    let t : AllHold (read_tests b) = first-zero 0 (read_tests b) (ascending b) (no_refusal b h) in
    let z : first (write_tests out (pool_of b) (blockdev_of b) (fields_of b)) ≡ 0 =
    first_all (write_tests out (pool_of b) (blockdev_of b) (fields_of b)) (
      and_both (eqb (length out) 512) (eqb (length (pool_of b)) 32 && eqb (length (blockdev_of b)) 32) (eq-eqb (length out) 512 n)
          (and_both (eqb (length (pool_of b)) 32) (eqb (length (blockdev_of b)) 32)
          (eq-eqb (length (pool_of b)) 32 (length-window-fits b 32 32 (rw h.size (lit≤ tt))))
          (eq-eqb (length (blockdev_of b)) 32 (length-window-fits b 64 32 (rw h.size (lit≤ tt))))),
      (t.1.1.1.0, t.1.1.1.1.1),
    ) in
    (z, sym (written-accepted out (pool_of b) (blockdev_of b) (fields_of b) z) ∙ write-back b bytes h)

pub read-after-write : ReadAfterWrite
read-after-write out p u f s fa fb z =
    let t : AllHold (write_tests out p u f) = first-zero 0 (write_tests out p u f) (write-ascending out p u f) z in
    let sizes : (length out ≡ 512) × (length p ≡ 32) × (length u ≡ 32) = write_sizes out p u f z in
    ap reading (sym (written-accepted out p u f z)) ∙ read_back p u f sizes.1 sizes.2 s fa fb t.1.1 t.1.0

pub later : Later
later t u nt nu = (λ h. more (later_facts t u h), less)
  where
    more : Before u t → nanoseconds_in u < nanoseconds_in t
    more (inl k) = omega arith
    more (inr k) =
        let e : u.seconds ≡ t.seconds = k.0 in
        let l : u.nanoseconds < t.nanoseconds = k.1 in
        omega arith

    less : nanoseconds_in u < nanoseconds_in t → later_than t u ≡ true
    less h = go (later_than t u) refl
      where
        none : NotAfter t u → ⊥
        none (inl k) = omega arith
        none (inr k) =
            let e : t.seconds ≡ u.seconds = k.0 in
            let l : t.nanoseconds ≤ u.nanoseconds = k.1 in
            omega arith

        go : (b : Bool) → later_than t u ≡ b → later_than t u ≡ true
        go true e = e
        go false e = absurd (none (not_later_facts t u e))
