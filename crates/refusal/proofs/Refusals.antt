-- Laws of what stands beside a number.
use Prim.Native.Nat.{ℕ}
use mathlib.Core.Path.{◌≡◌, refl}
use mathlib.Core.Bool.{Bool, true, false, cond}
use borrow.Author.Tests.{eq-eqb, ne_eqb}
use lib.Dec.{eqb}
use Rattle.refusal.specs.Refusals.{plain, plain_but}

module _ (m a b : ℕ) where
  -- the number itself, the one that says more, and the others
  pub but_number : (n : ℕ) → (plain_but m a b n).number ≡ n
  unfolding plain_but
  but_number n = go (eqb n m)
    where
      go : (c : Bool) → (cond c (record { number = n; first = a; second = b }) (plain n)).number ≡ n
      go true = refl
      go false = refl

  pub but_there : plain_but m a b m ≡ record { number = m; first = a; second = b }
  unfolding plain_but
  but_there = rw (eq-eqb m m refl)

  pub but_other : (n : ℕ) → (n ≡ m → ⊥) → plain_but m a b n ≡ plain n
  unfolding plain_but
  but_other n h = rw (ne_eqb n m h)
