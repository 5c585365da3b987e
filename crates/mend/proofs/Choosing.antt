-- Which case of the definitions applies, by a store's number and the tests before it.
use Prim.Native.Nat.{ℕ, ◌+◌, ◌-◌, ◌≤◌, ◌<◌}
use mathlib.Core.Path.{◌≡◌, refl, subst}
use mathlib.Core.Bool.{true, false}
use mathlib.Core.List.{List}
use borrow.Author.Tests.{lt-ltb, le-ltb, le-leb, lt-leb, eq-eqb, ne_eqb}
use Rattle.std.specs.Prelude.{Option, None, Result, Err}
use Rattle.refusal.specs.declared.Reason.{Reason}
use Rattle.refusal.specs.Reasons.{reason}
use Rattle.refusal.specs.Tests.{first}
use Rattle.layout.specs.Places.{block_sector}
use Rattle.block.specs.declared.BlockFields.{BlockFields}
use Rattle.block.specs.Block.{fields_of}
use Rattle.copy.specs.Copy.{block_in, area_bytes, other_area, other_side}
use Rattle.stores.specs.Stores.{sectors_of, with_entry}
use Rattle.stores.specs.Given.{block_given, block_left, part_given, part_left}
use Rattle.mend.specs.declared.Rewrite.{Rewrite}
use Rattle.mend.specs.Mend.{emptied}
use Rattle.mend.specs.Plan.{plan_stores, stores_in, group_in, flush_after, part_for, rewrite_answer, rewrite_bytes, needed_tests, needed_answer, needed_bytes}

-- the number of stores
pub with_last : (p : Rewrite) → p.last ≡ true → plan_stores p ≡ sectors_of p.bytes + 3
with_last p h = rw h

pub without_last : (p : Rewrite) → p.last ≡ false → plan_stores p ≡ sectors_of p.bytes + 2
without_last p h = rw h

-- the group of a store
module _ (k n i : ℕ) where
  pub past-last : n ≤ i → 4 ≡ group_in k n i
  past-last h = rw (le-ltb i n h)

  module _ (l : i < n) where
    pub in-first : i ≡ 0 → 0 ≡ group_in k n i
    in-first e = rw (lt-ltb i n l, eq-eqb i 0 e)

    module _ (z : i ≡ 0 → ⊥) where
      pub in-record : i ≤ k → 1 ≡ group_in k n i
      in-record h = rw (lt-ltb i n l, ne_eqb i 0 z, le-leb i k h)

      module _ (a : k < i) where
        pub in-second : i ≤ k + 1 → 2 ≡ group_in k n i
        in-second h = rw (lt-ltb i n l, ne_eqb i 0 z, lt-leb i k a, le-leb i (k + 1) h)

        pub in-last : k + 1 < i → 3 ≡ group_in k n i
        in-last h = rw (lt-ltb i n l, ne_eqb i 0 z, lt-leb i k a, lt-leb i (k + 1) h)

-- no flush past the last store
pub flush-past : (m : Result (Option Rewrite) Reason) (i n : ℕ) → n ≡ stores_in m → n ≤ i → false ≡ flush_after m i
flush-past m i n en h = rw (le-ltb i (stores_in m) (subst (λ (z : ℕ). z ≤ i) en h))

-- what store i of a plan answers and leaves: the other block emptied, the record and the block that names it, the kept block
module _ (p : Rewrite) (x : BlockFields) (c out : List ℕ) where
  pub at_start : (rewrite_answer p x c 0 out ≡ block_given (block_sector (other_side p.kept) x.device) (emptied x.device) c out)
      × (rewrite_bytes p x c 0 out ≡ block_left (emptied x.device) c out)
  at_start = (refl, refl)

  module _ (i : ℕ) (z : i ≡ 0 → ⊥) where
    pub at_part : i ≤ sectors_of p.bytes + 1
        → (rewrite_answer p x c i out ≡ part_given (part_for (other_side p.kept) p.area x) (sectors_of p.bytes) c (area_bytes c p.area p.bytes) (i - 1) out)
        × (rewrite_bytes p x c i out ≡ part_left (part_for (other_side p.kept) p.area x) (sectors_of p.bytes) c (area_bytes c p.area p.bytes) (i - 1) out)
    at_part l = (rw (ne_eqb i 0 z, le-leb i (sectors_of p.bytes + 1) l), rw (ne_eqb i 0 z, le-leb i (sectors_of p.bytes + 1) l))

    pub at_end : sectors_of p.bytes + 1 < i
        → (rewrite_answer p x c i out ≡ block_given (block_sector p.kept x.device) (with_entry x (other_area p.area) None) c out)
        × (rewrite_bytes p x c i out ≡ block_left (with_entry x (other_area p.area) None) c out)
    at_end l = (rw (ne_eqb i 0 z, lt-leb i (sectors_of p.bytes + 1) l), rw (ne_eqb i 0 z, lt-leb i (sectors_of p.bytes + 1) l))

-- the tests before it
module _ (p : Rewrite) (f b c : List ℕ) (i : ℕ) (out : List ℕ) where
  pub needed_refused : (n : ℕ) → (n ≡ 0 → ⊥) → first (needed_tests p f b c i out) ≡ n
      → (needed_answer p f b c i out ≡ Err (reason n)) × (needed_bytes p f b c i out ≡ out)
  needed_refused n z e = (rw (e, ne_eqb n 0 z), rw (e, ne_eqb n 0 z))

  pub needed_given : first (needed_tests p f b c i out) ≡ 0
      → (needed_answer p f b c i out ≡ rewrite_answer p (fields_of (block_in c)) c i out)
      × (needed_bytes p f b c i out ≡ rewrite_bytes p (fields_of (block_in c)) c i out)
  needed_given e = (rw e, rw e)
