-- A copy's present record, by which areas are whole.
use Prim.Native.Nat.{ℕ}
use mathlib.Core.Path.{◌≡◌, refl, sym, ap, ◌∙◌}
use mathlib.Core.Bool.{Bool, true, false, cond, true≢false}
use mathlib.Core.List.{List}
use Rattle.std.proofs.Common.{None}
use Rattle.layout.specs.declared.Area.{Area}
use Rattle.layout.specs.declared.Area.TheVariants.{A, B}
use Rattle.block.specs.declared.Holding.{Holding}
use Rattle.block.specs.declared.BlockFields.{BlockFields}
use Rattle.block.specs.Writing.{holding_of}
use Rattle.copy.specs.declared.Present.{Present}
use Rattle.copy.proofs.Latest.{some-same}
use Rattle.copy.specs.Copy.{present_at, entry_in, other_area, whole, newest, present_from, present}

module _ (c : List ℕ) (f : BlockFields) where
  -- the newest entry's area is whole
  from_newest : (x : Area) → whole c f x ≡ true → present_from c f x ≡ present_at x (holding_of (entry_in f x))
  from_newest x w =
      ap (λ (b : Bool). cond b (present_at x (holding_of (entry_in f x))) (cond (whole c f (other_area x)) (present_at (other_area x) (holding_of (entry_in f (other_area x)))) None)) w

  pub present-newest : (x : Area) (h : Holding) → x ≡ newest f → whole c f x ≡ true → h ≡ holding_of (entry_in f x) → present_at x h ≡ present c f
  unfolding present
  present-newest x h e w k = ap (present_at x) k ∙ (sym (from_newest x w) ∙ ap (present_from c f) e)

  -- which area the present record is in
  pub present-at-newest : (x : Area) (h : Holding) → whole c f (newest f) ≡ true → present c f ≡ present_at x h → newest f ≡ x
  unfolding present
  present-at-newest x h w e = let p : present_at (newest f) (holding_of (entry_in f (newest f))) ≡ present_at x h = sym (from_newest (newest f) w) ∙ e in
      ap (λ (q : Present). q.area) (some-same _ _ p)

  pub present-at_other : (x : Area) → whole c f (newest f) ≡ false → whole c f x ≡ true → other_area (newest f) ≡ x
  present-at_other x w v = go (newest f) x w v
    where
      go : (y x : Area) → whole c f y ≡ false → whole c f x ≡ true → other_area y ≡ x
      go A A w v = absurd (true≢false (sym v ∙ w))
      go A B w v = refl
      go B A w v = refl
      go B B w v = absurd (true≢false (sym v ∙ w))
