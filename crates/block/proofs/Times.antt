-- The order of times, as callers cite it.
use Prim.Native.Nat.{◌≤◌, ◌<◌}
use mathlib.Core.Path.{◌≡◌, refl, sym, ap, ap₂, ◌∙◌}
use mathlib.Core.Bool.{Bool, true, false, ◌&&◌, ◌||◌, true≢false}
use mathlib.Core.Logic.{◌⊎◌, inl, inr}
use native.Mathlib.Omega.{arith}
use borrow.Author.Tests.{ltb-true, ltb-false, eqb-true, eqb-false, lt-ltb, le-ltb, eq-eqb, ne_eqb}
use lib.Dec.{ltb, eqb}
use Rattle.block.specs.declared.Time.{Time}
use Rattle.std.specs.Ordering.{partial_lt, partial_ordering_then, is_some_and, is_lt}
use Rattle.std.specs.declared.cmp.Ordering.TheVariants.{Less, Equal, Greater}
use Rattle.std.proofs.Common.{Some, cond}
use Rattle.block.specs.contracts.TimePartialOrd.TheImpl as TimePartialOrd
use Rattle.block.specs.Entry.{later_than, same_time}

-- u is before t, by seconds, then nanoseconds
abbrev pub Before : Time → Time → Type 0
Before u t = (u.seconds < t.seconds) ⊎ ((u.seconds ≡ t.seconds) × (u.nanoseconds < t.nanoseconds))

-- t is not after u
abbrev pub NotAfter : Time → Time → Type 0
NotAfter t u = (t.seconds < u.seconds) ⊎ ((t.seconds ≡ u.seconds) × (t.nanoseconds ≤ u.nanoseconds))

module _ (t u : Time) where
  pub later_facts : later_than t u ≡ true → Before u t
  unfolding later_than
  later_facts h = go (ltb u.seconds t.seconds) refl (eqb u.seconds t.seconds) refl (ltb u.nanoseconds t.nanoseconds) refl
    where
      go : (a : Bool) → ltb u.seconds t.seconds ≡ a → (b : Bool) → eqb u.seconds t.seconds ≡ b → (c : Bool) → ltb u.nanoseconds t.nanoseconds ≡ c → Before u t
      go true p b q c r = inl (ltb-true u.seconds t.seconds p)
      go false p true q true r = inr (eqb-true u.seconds t.seconds q, ltb-true u.nanoseconds t.nanoseconds r)
      go false p true q false r = absurd (true≢false (sym h ∙ (ap₂ (λ (x y : Bool). x || (y && ltb u.nanoseconds t.nanoseconds)) p q ∙ r)))
      go false p false q c r = absurd (true≢false (sym h ∙ ap₂ (λ (x y : Bool). x || (y && ltb u.nanoseconds t.nanoseconds)) p q))

  pub not_later_facts : later_than t u ≡ false → NotAfter t u
  unfolding later_than
  not_later_facts h = go (ltb u.seconds t.seconds) refl (eqb u.seconds t.seconds) refl
    where
      go : (a : Bool) → ltb u.seconds t.seconds ≡ a → (b : Bool) → eqb u.seconds t.seconds ≡ b → NotAfter t u
      go true p b q = absurd (true≢false (sym (ap (λ (x : Bool). x || (eqb u.seconds t.seconds && ltb u.nanoseconds t.nanoseconds)) p) ∙ h))
      go false p true q =
          inr (
            sym (eqb-true u.seconds t.seconds q),
            ltb-false u.nanoseconds t.nanoseconds (sym (ap₂ (λ (x y : Bool). x || (y && ltb u.nanoseconds t.nanoseconds)) p q) ∙ h),
          )
      go false p false q =
          let l : t.seconds ≤ u.seconds = ltb-false u.seconds t.seconds p in
          let d : u.seconds ≡ t.seconds → ⊥ = eqb-false u.seconds t.seconds q in
          inl (omega arith)

  pub later_test : Before u t → later_than t u ≡ true
  unfolding later_than
  later_test (inl h) = ap (λ (x : Bool). x || (eqb u.seconds t.seconds && ltb u.nanoseconds t.nanoseconds)) (lt-ltb u.seconds t.seconds h)
  later_test (inr h) =
      let e : u.seconds ≡ t.seconds = h.0 in
      ap₂ (λ (x y : Bool). x || y) (le-ltb u.seconds t.seconds (omega arith))
      (ap₂ (λ (x y : Bool). x && y) (eq-eqb u.seconds t.seconds e) (lt-ltb u.nanoseconds t.nanoseconds h.1))

  pub not_later_test : NotAfter t u → later_than t u ≡ false
  unfolding later_than
  not_later_test (inl h) =
      ap₂ (λ (x y : Bool). x || (y && ltb u.nanoseconds t.nanoseconds)) (le-ltb u.seconds t.seconds (omega arith))
      (ne_eqb u.seconds t.seconds (λ e. let d : u.seconds ≡ t.seconds = e in omega arith))
  not_later_test (inr h) =
      let e : t.seconds ≡ u.seconds = h.0 in
      ap₂ (λ (x y : Bool). x || y) (le-ltb u.seconds t.seconds (omega arith))
      (ap₂ (λ (x y : Bool). x && y) (eq-eqb u.seconds t.seconds (sym e)) (le-ltb u.nanoseconds t.nanoseconds h.1))

  pub same_facts : same_time t u ≡ true → (t.seconds ≡ u.seconds) × (t.nanoseconds ≡ u.nanoseconds)
  unfolding same_time
  same_facts h = go (eqb t.seconds u.seconds) refl
    where
      go : (a : Bool) → eqb t.seconds u.seconds ≡ a → (t.seconds ≡ u.seconds) × (t.nanoseconds ≡ u.nanoseconds)
      go true p = (eqb-true t.seconds u.seconds p, eqb-true t.nanoseconds u.nanoseconds (sym (ap (λ (x : Bool). x && eqb t.nanoseconds u.nanoseconds) p) ∙ h))
      go false p = absurd (true≢false (sym h ∙ ap (λ (x : Bool). x && eqb t.nanoseconds u.nanoseconds) p))

  pub same_test : t.seconds ≡ u.seconds → t.nanoseconds ≡ u.nanoseconds → same_time t u ≡ true
  unfolding same_time
  same_test p q = ap₂ (λ (x y : Bool). x && y) (eq-eqb t.seconds u.seconds p) (eq-eqb t.nanoseconds u.nanoseconds q)

  -- times that differ in a number
  not_same : (t.seconds ≡ u.seconds → t.nanoseconds ≡ u.nanoseconds → ⊥) → same_time t u ≡ false
  not_same d = go (same_time t u) refl
    where
      go : (x : Bool) → same_time t u ≡ x → same_time t u ≡ false
      go true h = absurd (d (same_facts h).0 (same_facts h).1)
      go false h = h

-- a later time is another time
apart : (t u : Time) → later_than t u ≡ true → t.seconds ≡ u.seconds → t.nanoseconds ≡ u.nanoseconds → ⊥
apart t u h p q = go (later_facts t u h)
  where
    go : Before u t → ⊥
    go (inl k) = omega arith
    go (inr k) = let l : u.nanoseconds < t.nanoseconds = k.1 in omega arith

pub later_differs : (t u : Time) → later_than t u ≡ true → same_time t u ≡ false
later_differs t u h = not_same t u (apart t u h)

pub later_differs_back : (t u : Time) → later_than t u ≡ true → same_time u t ≡ false
later_differs_back t u h = not_same u t (λ p q. apart t u h (sym p) (sym q))

-- no time is later than itself
pub never_later : (t : Time) → later_than t t ≡ false
never_later t = not_later_test t t (inr (refl, native.Mathlib.Nat.le_refl t.nanoseconds))

pub later_asym : (t u : Time) → later_than t u ≡ true → later_than u t ≡ false
later_asym t u h = not_later_test u t (go (later_facts t u h))
  where
    go : Before u t → NotAfter u t
    go (inl k) = inl k
    go (inr k) = inr (k.0, native.Mathlib.Nat.le_of_lt k.1)

pub not_later_trans : (a b c : Time) → later_than a b ≡ false → later_than b c ≡ false → later_than a c ≡ false
not_later_trans a b c p q = not_later_test a c (go (not_later_facts a b p) (not_later_facts b c q))
  where
    go : NotAfter a b → NotAfter b c → NotAfter a c
    go (inl h) (inl k) = inl (omega arith)
    go (inl h) (inr k) = inl (let e : b.seconds ≡ c.seconds = k.0 in omega arith)
    go (inr h) (inl k) = inl (let e : a.seconds ≡ b.seconds = h.0 in omega arith)
    go (inr h) (inr k) =
        let m : a.nanoseconds ≤ b.nanoseconds = h.1 in
        let n : b.nanoseconds ≤ c.nanoseconds = k.1 in
        inr (h.0 ∙ k.0, omega arith)

-- the same time is not later
pub same-not_later : (t u : Time) → same_time t u ≡ true → later_than u t ≡ false
same-not_later t u h =
    let s : (t.seconds ≡ u.seconds) × (t.nanoseconds ≡ u.nanoseconds) = same_facts t u h in
    let e : t.nanoseconds ≡ u.nanoseconds = s.1 in
    not_later_test u t (inr (sym s.0, omega arith))

-- the derived comparisons, as callers cite them: u < t, and t == u
pub later_derived : (t u : Time) → partial_lt TimePartialOrd.partial_cmp-value.it u t ≡ later_than t u
unfolding later_than
later_derived t u = go (ltb u.seconds t.seconds) (eqb u.seconds t.seconds) (ltb u.nanoseconds t.nanoseconds) (eqb u.nanoseconds t.nanoseconds)
  where
    go : (a b c d : Bool)
        → is_some_and is_lt (partial_ordering_then (Some (cond a Less (cond b Equal Greater))) (Some (cond c Less (cond d Equal Greater)))) ≡ (a || (b && c))
    go true b c d = refl
    go false true true d = refl
    go false true false true = refl
    go false true false false = refl
    go false false c d = refl

pub same_derived : (t u : Time) → (eqb t.seconds u.seconds && eqb t.nanoseconds u.nanoseconds) ≡ same_time t u
unfolding same_time
same_derived t u = refl
