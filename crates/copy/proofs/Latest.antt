-- A copy's present record is whole, and none of its whole areas is later.
use Prim.Native.Nat.{ℕ}
use mathlib.Core.Path.{◌≡◌, refl, sym, ap, ap₂, ◌∙◌}
use mathlib.Core.Bool.{Bool, true, false, cond, true≢false}
use mathlib.Core.List.{List}
use native.Mathlib.Omega.{arith}
use Rattle.std.proofs.Common.{Option, Some, None}
use Rattle.layout.specs.declared.Area.{Area}
use Rattle.layout.specs.declared.Area.TheVariants.{A, B}
use Rattle.block.specs.declared.Holding.{Holding}
use Rattle.block.specs.declared.BlockFields.{BlockFields}
use Rattle.block.specs.Entry.{later_than, time_of}
use Rattle.block.specs.Writing.{holding_of}
use Rattle.block.proofs.Times.{never_later, later_asym}
use Rattle.copy.specs.declared.Present.{Present}
use Rattle.copy.specs.Copy.{present_at, entry_in, other_area, whole_entry, whole, newer, newest, present_from, present}

-- the latest whole area of a copy
pub record Latest (c : List ℕ) (f : BlockFields) (x : Area) (h : Holding) : Type 0 where
  pub its_present : present c f ≡ present_at x h
  pub its_whole : whole c f x ≡ true
  pub holds : h ≡ holding_of (entry_in f x)
  pub latest : (y : Area) → whole c f y ≡ true → later_than (time_of (holding_of (entry_in f y))) (time_of h) ≡ false

-- of whole areas' entries, the newer has the later time
newer-later : (a b : Option Holding) (c : List ℕ) (x y : Area) → whole_entry c x a ≡ true → whole_entry c y b ≡ true
    → later_than (time_of (holding_of b)) (time_of (holding_of a)) ≡ newer b a
newer-later None b c x y p q = absurd (true≢false (sym p))
newer-later (Some h) None c x y p q = absurd (true≢false (sym q))
newer-later (Some h) (Some k) c x y p q = refl

pub some-same : {X : Type 0} (p q : X) → Some p ≡ Some q → p ≡ q
some-same p q e = cc

module _ (c : List ℕ) (f : BlockFields) where
  -- the newest entry's area is whole
  of_newest : (t : Bool) → newer f.b f.a ≡ t → whole c f (cond t B A) ≡ true → (y : Area) → whole c f y ≡ true
      → later_than (time_of (holding_of (entry_in f y))) (time_of (holding_of (entry_in f (cond t B A)))) ≡ false
  of_newest true n w A v = later_asym (time_of (holding_of f.b)) (time_of (holding_of f.a)) (newer-later f.a f.b c A B v w ∙ n)
  of_newest true n w B v = never_later (time_of (holding_of f.b))
  of_newest false n w A v = never_later (time_of (holding_of f.a))
  of_newest false n w B v = newer-later f.a f.b c A B w v ∙ n

  -- it is not, so no other whole area is there but the one
  of_other : (x : Area) → whole c f x ≡ false → (y : Area) → whole c f y ≡ true
      → later_than (time_of (holding_of (entry_in f y))) (time_of (holding_of (entry_in f (other_area x)))) ≡ false
  of_other A w A v = absurd (true≢false (sym v ∙ w))
  of_other A w B v = never_later (time_of (holding_of f.b))
  of_other B w A v = never_later (time_of (holding_of f.a))
  of_other B w B v = absurd (true≢false (sym v ∙ w))

  -- what is present where the newest entry is z's, by whether z and the other area are whole
  abbrev presentWith : Area → Bool → Bool → Option Present
  presentWith z s t = cond s (present_at z (holding_of (entry_in f z))) (cond t (present_at (other_area z) (holding_of (entry_in f (other_area z)))) None)

  at_same : (x y : Area) (h k : Holding) → present_at x h ≡ present_at y k → (x ≡ y) × (h ≡ k)
  at_same x y h k e =
      let p : record { area = x; holding = h } ≡ record { area = y; holding = k } = some-same _ _ e in
      (ap (λ (q : Present). q.area) p, ap (λ (q : Present). q.holding) p)

  latest_from : (z : Area) → ((y : Area) → whole c f z ≡ true → whole c f y ≡ true → later_than (time_of (holding_of (entry_in f y))) (time_of (holding_of (entry_in f z))) ≡ false)
      → (x : Area) (h : Holding) → present c f ≡ present_at x h → present_from c f z ≡ present_at x h → Latest c f x h
  latest_from z l x h pe e = go (whole c f z) refl (whole c f (other_area z)) refl
    where
      build : (y : Area) → whole c f y ≡ true → ((w : Area) → whole c f w ≡ true → later_than (time_of (holding_of (entry_in f w))) (time_of (holding_of (entry_in f y))) ≡ false)
          → present_at y (holding_of (entry_in f y)) ≡ present_at x h → Latest c f x h
      build y w m d =
          let p : y ≡ x = (at_same y x (holding_of (entry_in f y)) h d).0 in
          let q : holding_of (entry_in f y) ≡ h = (at_same y x (holding_of (entry_in f y)) h d).1 in
          record {
            its_present = pe;
            its_whole = ap (whole c f) (sym p) ∙ w;
            holds = sym q ∙ ap (λ (v : Area). holding_of (entry_in f v)) p;
            latest = λ v k. ap (λ (i : Holding). later_than (time_of (holding_of (entry_in f v))) (time_of i)) (sym q) ∙ m v k;
          }

      go : (s : Bool) → whole c f z ≡ s → (t : Bool) → whole c f (other_area z) ≡ t → Latest c f x h
      go true p t q = build z p (λ y k. l y p k) (sym (ap (λ (s : Bool). presentWith z s (whole c f (other_area z))) p) ∙ e)
      go false p true q = build (other_area z) q (of_other z p) (sym (ap₂ (presentWith z) p q) ∙ e)
      go false p false q =
          let n : None ≡ present_at x h = sym (ap₂ (presentWith z) p q) ∙ e in
          let o : ◌≡◌ {A = ℕ} 0 1 = cc in
          absurd (omega arith)

  -- a copy's present record is whole, and none of its whole areas is later
  pub present_latest : (x : Area) (h : Holding) → present c f ≡ present_at x h → Latest c f x h
  unfolding present newest
  present_latest x h e = latest_from (newest f) (λ y w v. of_newest (newer f.b f.a) refl w y v) x h e e

  none_from : (z : Area) → present_from c f z ≡ None → (y : Area) → whole c f y ≡ true → ⊥
  none_from z e = go (whole c f z) refl (whole c f (other_area z)) refl
    where
      clash : (y : Area) (h : Holding) → present_at y h ≡ None → ⊥
      clash y h d = let o : ◌≡◌ {A = ℕ} 0 1 = cc in omega arith

      both : (x y : Area) → whole c f x ≡ false → whole c f (other_area x) ≡ false → whole c f y ≡ true → ⊥
      both A A p q v = true≢false (sym v ∙ p)
      both A B p q v = true≢false (sym v ∙ q)
      both B A p q v = true≢false (sym v ∙ q)
      both B B p q v = true≢false (sym v ∙ p)

      go : (s : Bool) → whole c f z ≡ s → (t : Bool) → whole c f (other_area z) ≡ t → (y : Area) → whole c f y ≡ true → ⊥
      go true p t q y v = clash z (holding_of (entry_in f z)) (sym (ap (λ (s : Bool). presentWith z s (whole c f (other_area z))) p) ∙ e)
      go false p true q y v = clash (other_area z) (holding_of (entry_in f (other_area z))) (sym (ap₂ (presentWith z) p q) ∙ e)
      go false p false q y v = both z y p q v

  -- a copy with no present record has no whole area
  pub present-nothing : present c f ≡ None → (y : Area) → whole c f y ≡ true → ⊥
  unfolding present
  present-nothing = none_from (newest f)
