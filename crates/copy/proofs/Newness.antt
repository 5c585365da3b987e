-- The newest entry is whole exactly when the present record is its.
use Prim.Native.Nat.{ℕ}
use mathlib.Core.Path.{◌≡◌, refl}
use mathlib.Core.Bool.{Bool, true, false}
use mathlib.Core.List.{List}
use Rattle.layout.specs.declared.Area.{Area}
use Rattle.layout.specs.declared.Area.TheVariants.{A, B}
use Rattle.block.specs.declared.BlockFields.{BlockFields}
use Rattle.copy.specs.Copy.{other_area, whole, newest, choose, present, same_area, current}

pub area_self : (x : Area) → same_area x x ≡ true
area_self A = refl
area_self B = refl

pub area_other : (x : Area) → same_area (other_area x) x ≡ false
area_other A = refl
area_other B = refl

pub current-whole : (c : List ℕ) (f : BlockFields) → current f (present c f) ≡ whole c f (newest f)
unfolding present
current-whole c f = go (whole c f (newest f)) (whole c f (other_area (newest f)))
  where
    go : (a b : Bool) → current f (choose f a b (newest f)) ≡ a
    go true b = area_self (newest f)
    go false true = area_other (newest f)
    go false false = refl
