-- The limits as facts about numbers.
use Prim.Native.Nat.{ℕ, ◌%◌, ◌^◌, ◌≤◌, ◌<◌}
use mathlib.Core.Path.{◌≡◌}
use mathlib.Core.Bool.{true, ◌&&◌}
use native.Mathlib.Omega.{arith}
use borrow.Author.Tests.{leb-true, le-leb, eqb-true, eq-eqb}
use lib.Dec.{leb, eqb, lit<}
use Rattle.endian.proofs.Tests.{and_left, and_right, and_both}
use Rattle.layout.specs.Limits.{metadata_allowed, record_limit, length_allowed}

pub metadata_facts : (l : ℕ) → metadata_allowed l ≡ true → (l % 2 ≡ 0) × (2040 ≤ l) × (l ≤ 16384)
metadata_facts l h =
    let k : leb 2040 l && leb l 16384 ≡ true = and_right (eqb (l % 2) 0) (leb 2040 l && leb l 16384) h in (
      eqb-true (l % 2) 0 (and_left (eqb (l % 2) 0) (leb 2040 l && leb l 16384) h),
      leb-true 2040 l (and_left (leb 2040 l) (leb l 16384) k),
      leb-true l 16384 (and_right (leb 2040 l) (leb l 16384) k),
    )

pub metadata_test : (l : ℕ) → l % 2 ≡ 0 → 2040 ≤ l → l ≤ 16384 → metadata_allowed l ≡ true
metadata_test l p q r =
    and_both (eqb (l % 2) 0) (leb 2040 l && leb l 16384) (eq-eqb (l % 2) 0 p)
    (and_both (leb 2040 l) (leb l 16384) (le-leb 2040 l q) (le-leb l 16384 r))

pub length_facts : (n : ℕ) → length_allowed n ≡ true → (1 ≤ n) × (n ≤ record_limit)
unfolding length_allowed
length_facts n h =
    (leb-true 1 n (and_left (leb 1 n) (leb n record_limit) h), leb-true n record_limit (and_right (leb 1 n) (leb n record_limit) h))

pub length_test : (n : ℕ) → 1 ≤ n → n ≤ record_limit → length_allowed n ≡ true
unfolding length_allowed
length_test n p q = and_both (leb 1 n) (leb n record_limit) (le-leb 1 n p) (le-leb n record_limit q)

-- the limit is a number of 32 bits
pub limit_fits : record_limit < 2 ^ 32
unfolding record_limit
limit_fits = lit< tt

pub length-fits : (n : ℕ) → length_allowed n ≡ true → n < 2 ^ 32
length-fits n h =
    let l : n ≤ record_limit = (length_facts n h).1 in
    let m : record_limit < 2 ^ 32 = limit_fits in
    omega arith
