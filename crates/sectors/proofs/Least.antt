-- What matters at most.
use Prim.Native.Nat.{ℕ, ◌+◌, ◌*◌, ◌≤◌, ◌<◌}
use mathlib.Core.Path.{◌≡◌, refl, sym, ap, ap₂, ◌∙◌}
use mathlib.Core.Bool.{Bool, true, false, not, ◌&&◌, ◌||◌}
use mathlib.Core.List.{List}
use native.Mathlib.Omega.{arith}
use borrow.Author.Tests.{ne_eqb, le-ltb}
use Rattle.std.specs.Prelude.{Option, Some, None, Result, Ok, Err}
use Rattle.refusal.specs.declared.Reason.{Reason}
use Rattle.layout.specs.declared.Area.{Area}
use Rattle.layout.specs.declared.Area.TheVariants.{A, B}
use Rattle.block.specs.declared.Holding.{Holding}
use Rattle.block.specs.declared.BlockFields.{BlockFields}
use Rattle.block.specs.declared.Reading.{Reading}
use Rattle.block.specs.Writing.{holding_of}
use Rattle.search.proofs.Search.{and_false-right}
use Rattle.copy.specs.Copy.{entry_in, other_area, whole, newest, sized_reading}
use Rattle.crash.specs.Crash.{area_sectors}
use Rattle.sectors.specs.Sectors.{copy_sectors, area_start, named, named_in, matters_for, newest_whole, matters}
use Rattle.sectors.specs.Demand.{Bounded}
use Rattle.sectors.proofs.Calls.{named-before, named_past}
use Rattle.sectors.proofs.Parts.{header_sectors_lem, a_before_b, b_last, block_there}
use Rattle.sectors.proofs.Alone.{named_there, matters_is}

-- a sector other than the block's that no entry names does not matter
none_for : (v : Result Reading Reason) (w : Bool) (i : ℕ) → (i ≡ 1 → ⊥) → ((f : BlockFields) (x : Area) → named_in f x i ≡ false) → matters_for v w i ≡ false
none_for (Ok r) w i n h = rw (ne_eqb i 1 n, h r.fields (newest r.fields), h r.fields (other_area (newest r.fields))) (and_false-right (not w) false refl)
none_for (Err e) w i n h = ne_eqb i 1 n

none_named : (c : List ℕ) (i : ℕ) → (i ≡ 1 → ⊥) → ((f : BlockFields) (x : Area) → named_in f x i ≡ false) → matters c i ≡ false
unfolding matters
none_named c i = none_for (sized_reading c) (newest_whole c (sized_reading c)) i

header : (c : List ℕ) (i : ℕ) → i < area_start A → (i ≡ 1 → ⊥) → matters c i ≡ false
header c i l n = none_named c i n none
  where
    none : (f : BlockFields) (x : Area) → named_in f x i ≡ false
    none f A = sym (named-before f A i l)
    none f B = let a : area_start B ≡ area_start A + area_sectors = a_before_b in sym (named-before f B i (omega arith))

past : (c : List ℕ) (i : ℕ) → copy_sectors ≤ i → matters c i ≡ false
past c i l = none_named c i (λ e. let t : 1 < copy_sectors = block_there in omega arith) none
  where
    none : (f : BlockFields) (x : Area) → named_in f x i ≡ false
    none f A =
        let a : area_start B ≡ area_start A + area_sectors = a_before_b in
        let b : copy_sectors ≡ area_start B + area_sectors = b_last in
        sym (named_past f A i (omega arith) (omega arith))
    none f B = let b : copy_sectors ≡ area_start B + area_sectors = b_last in sym (named_past f B i (omega arith) (omega arith))

refused : (c : List ℕ) (n : Reason) → sized_reading c ≡ Err n → (i : ℕ) → (i ≡ 1 → ⊥) → matters c i ≡ false
unfolding matters
refused c n e i h = ap (λ (v : Result Reading Reason). matters_for v (newest_whole c v) i) e ∙ ne_eqb i 1 h

-- an area's sector is not the block's, and the other area's entry does not name it
not_block : (x : Area) (j : ℕ) → area_start x + j ≡ 1 → ⊥
not_block A j e = let h : area_start A ≡ 8 = header_sectors_lem in omega arith
not_block B j e = let h : area_start A ≡ 8 = header_sectors_lem in let a : area_start B ≡ area_start A + area_sectors = a_before_b in omega arith

apart : (f : BlockFields) (x : Area) (j : ℕ) → j < area_sectors → named_in f x (area_start (other_area x) + j) ≡ false
apart f A j l =
    let a : area_start B ≡ area_start A + area_sectors = a_before_b in
    sym (named_past f A (area_start B + j) (omega arith) (omega arith))
apart f B j l =
    let a : area_start B ≡ area_start A + area_sectors = a_before_b in
    sym (named-before f B (area_start A + j) (omega arith))

named_not : (e : Option Holding) (j : ℕ) → (holding_of e).bytes ≤ 512 * j → named e j ≡ false
named_not None j l = refl
named_not (Some h) j l = le-ltb (512 * j) h.bytes l

module _ (c : List ℕ) (r : Reading) (a : sized_reading c ≡ Ok r) where
  abbrev f : BlockFields
  f = r.fields

  unnamed : (y : Area) (j : ℕ) → j < area_sectors → (holding_of (entry_in f y)).bytes ≤ 512 * j → matters c (area_start y + j) ≡ false
  unnamed y j l h =
      matters_is c r a (area_start y + j)
      ∙ (ap (λ (t : Bool). t || (named_in f (newest f) (area_start y + j) || (not (whole c f (newest f)) && named_in f (other_area (newest f)) (area_start y + j))))
      (ne_eqb (area_start y + j) 1 (not_block y j))
      ∙ (ap₂ (λ (s t : Bool). s || (not (whole c f (newest f)) && t)) (none y (newest f) h) (none y (other_area (newest f)) h)
      ∙ and_false-right (not (whole c f (newest f))) false refl))
    where
      none : (y x : Area) → (holding_of (entry_in f y)).bytes ≤ 512 * j → named_in f x (area_start y + j) ≡ false
      none A A h = sym (named_there f A j l) ∙ named_not f.a j h
      none A B h = apart f B j l
      none B A h = apart f A j l
      none B B h = sym (named_there f B j l) ∙ named_not f.b j h

  older : whole c f (newest f) ≡ true → (j : ℕ) → j < area_sectors → matters c (area_start (other_area (newest f)) + j) ≡ false
  older w j l =
      matters_is c r a (area_start (other_area (newest f)) + j)
      ∙ (ap₂ (λ (t s : Bool). t || (named_in f (newest f) (area_start (other_area (newest f)) + j) || (not s && named_in f (other_area (newest f)) (area_start (other_area (newest f)) + j))))
      (ne_eqb (area_start (other_area (newest f)) + j) 1 (not_block (other_area (newest f)) j)) w
      ∙ ap (λ (t : Bool). t || false) (apart f (newest f) j l))

pub bounded : Bounded
bounded c = record { header = header c; past = past c; refused = refused c; unnamed = unnamed c; older = older c }
