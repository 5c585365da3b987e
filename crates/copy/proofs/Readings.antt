-- What reading a copy answers, by its size and by what reading its block answered.
use Prim.Native.Nat.{ℕ}
use mathlib.Core.Path.{◌≡◌, refl, ap, ap₂}
use mathlib.Core.Bool.{Bool, true, false, cond}
use mathlib.Core.List.{List}
use borrow.Author.Tests.{eq-eqb}
use lib.ListN.{length}
use Rattle.std.proofs.Common.{Err}
use Rattle.refusal.specs.Numbers.{slice_size}
use Rattle.refusal.specs.Reasons.{reason}
use Rattle.layout.specs.declared.Area.{Area}
use Rattle.layout.specs.declared.Area.TheVariants.{A, B}
use Rattle.layout.specs.Places.{copy_bytes}
use Rattle.block.specs.declared.BlockFields.{BlockFields}
use Rattle.copy.specs.Copy.{is_copy, by_area, other_area, whole, newest, choose, present, present_by, reading_in, sized_reading, mapped, copy_reading_of, copy_reading}

module _ (c : List ℕ) where
  pub reading_unsized : is_copy c ≡ false → sized_reading c ≡ Err (reason slice_size)
  unfolding sized_reading
  reading_unsized h = ap (λ (t : Bool). cond t (reading_in c) (Err (reason slice_size))) h

  pub reading-sized : is_copy c ≡ true → sized_reading c ≡ reading_in c
  unfolding sized_reading
  reading-sized h = ap (λ (t : Bool). cond t (reading_in c) (Err (reason slice_size))) h

  -- the present record by which areas are whole
  pub by_whole : (f : BlockFields) → present_by f (whole c f A) (whole c f B) ≡ present c f
  unfolding present
  by_whole f = ap₂ (λ (s t : Bool). choose f s t (newest f)) (at (newest f)) (at (other_area (newest f)))
    where
      at : (x : Area) → by_area x (whole c f A) (whole c f B) ≡ whole c f x
      at A = refl
      at B = refl

  -- what reading a copy answers, by its size
  pub unsized-read : is_copy c ≡ false → copy_reading c ≡ Err (reason slice_size)
  unfolding copy_reading
  unsized-read h = ap (mapped (copy_reading_of c)) (reading_unsized h)

  pub sized-read : is_copy c ≡ true → copy_reading c ≡ mapped (copy_reading_of c) (reading_in c)
  unfolding copy_reading
  sized-read h = ap (mapped (copy_reading_of c)) (reading-sized h)

-- of a copy by its size: what reading its block answers
pub sized_reading_lem : (c : List ℕ) → length c ≡ copy_bytes → sized_reading c ≡ reading_in c
sized_reading_lem c h = reading-sized c (eq-eqb (length c) copy_bytes h)
