-- What the calls answer, case by case.
use Prim.Native.Nat.{ℕ, ◌+◌, ◌-◌, ◌*◌, ◌≤◌, ◌<◌}
use mathlib.Core.Path.{◌≡◌, refl, sym, ap, ap₂, ◌∙◌}
use mathlib.Core.Bool.{Bool, true, false}
use mathlib.Core.List.{List}
use native.Mathlib.Decide.{dec_le}
use native.Mathlib.Nat.{zero-add}
use native.Mathlib.Omega.{arith}
use borrow.Author.Tests.{lt-ltb, le-ltb, le-leb, lt-leb}
use lib.Dec.{ltb}
use lib.ListN.{length, get_or}
use Rattle.std.specs.Prelude.{Result, Ok, Err}
use Rattle.std.specs.Bool.{MatchBool}
use Rattle.std.specs.List.{AllWithin, HoldsAt, range_with_len}
use Rattle.std.proofs.lemmas.List.FromFn.{length-range_with_len, get_or-range_with_len}
use Rattle.refusal.specs.declared.Reason.{Reason}
use Rattle.layout.specs.declared.Device.{Device}
use Rattle.layout.specs.declared.Side.{Side}
use Rattle.layout.specs.declared.Area.{Area}
use Rattle.layout.specs.declared.Area.TheVariants.{A, B}
use Rattle.block.specs.declared.BlockFields.{BlockFields}
use Rattle.block.specs.declared.Reading.{Reading}
use Rattle.search.specs.Search.{every}
use Rattle.search.proofs.Search.{every_all, every-false}
use Rattle.copy.specs.declared.PresentReading.{PresentReading}
use Rattle.copy.specs.Copy.{entry_in, mapped, sized_reading, copy_reading_of, copy_reading, present_reading_of}
use Rattle.copy.proofs.Newness.{current-whole}
use Rattle.crash.specs.Crash.{area_sectors}
use Rattle.sectors.specs.Sectors.{copy_sectors, area_start, by_part, below, place_of, sector_at, named, named_in, block_read, current_for, newest_whole, passes, known}

pub below_is : (s n : ℕ) → n < s → n ≡ below s n
unfolding below
below_is s n h = rw (lt-ltb n s h)

-- the three parts of a copy
module _ {T : Type 0} (i : ℕ) (h a b : T) where
  pub in_header : i < area_start A → h ≡ by_part i h a b
  unfolding by_part
  in_header l = rw (lt-ltb i (area_start A) l)

  pub in_a : area_start A ≤ i → i < area_start B → a ≡ by_part i h a b
  unfolding by_part
  in_a l m = rw (le-ltb i (area_start A) l, lt-ltb i (area_start B) m)

  pub in_b : area_start A ≤ i → area_start B ≤ i → b ≡ by_part i h a b
  unfolding by_part
  in_b l m = rw (le-ltb i (area_start A) l, le-ltb i (area_start B) m)

-- a sector that a copy has, and one that it has not
pub at_inside : (s : Side) (d : Device) (i : ℕ) → i < copy_sectors → below d.sectors (place_of s d i) ≡ sector_at s d i
unfolding sector_at
at_inside s d i l = rw (lt-ltb i copy_sectors l)

pub at-past : (s : Side) (d : Device) (i : ℕ) → copy_sectors ≤ i → d.sectors ≡ sector_at s d i
unfolding sector_at
at-past s d i l = rw (le-ltb i copy_sectors l)

-- whether an area's entry names a sector: one before the area, one past what a record can fill of it, one in it
module _ (f : BlockFields) (x : Area) (i : ℕ) where
  pub named-before : i < area_start x → false ≡ named_in f x i
  unfolding named_in
  named-before l = rw (lt-leb (area_start x) i l)

  pub named_past : area_start x ≤ i → area_sectors ≤ i - area_start x → false ≡ named_in f x i
  unfolding named_in
  named_past l m = rw (le-leb (area_start x) i l, le-ltb (i - area_start x) area_sectors m)

  pub named_inside : area_start x ≤ i → i - area_start x < area_sectors → named (entry_in f x) (i - area_start x) ≡ named_in f x i
  unfolding named_in
  named_inside l m = rw (le-leb (area_start x) i l, lt-ltb (i - area_start x) area_sectors m)

-- a test of each number of a range
range_at : (n k : ℕ) → k < length (range_with_len 0 n) → get_or (range_with_len 0 n) k 0 ≡ k
range_at n k l = get_or-range_with_len 0 n k 0 (rw length-range_with_len at l) ∙ zero-add k

pub every_range : (p : ℕ → Bool) (n : ℕ) (r : Bool)
    → MatchBool r (AllWithin (λ i. p i ≡ true) (range_with_len 0 n) 0 (length (range_with_len 0 n)))
    ((k : ℕ) × (k < length (range_with_len 0 n)) × HoldsAt (λ i. p i ≡ false) (range_with_len 0 n) k)
    → r ≡ every p n
every_range p n true h = sym (every_all p n (λ i l. all i (rw (length-range_with_len 0 n) l)))
  where
    all : (i : ℕ) → i < length (range_with_len 0 n) → p i ≡ true
    all i l = ap p (sym (range_at n i l)) ∙ h i 0 (omega arith) l
every_range p n false h =
    sym (every-false p n h.0 (rw (length-range_with_len 0 n) at h.1) (ap p (sym (range_at n h.0 h.1)) ∙ h.2 0))

-- a copy by what reading its block answered, and whether its newest area is whole
module _ (c : List ℕ) where
  current_for_lem : (v : Result Reading Reason) → current_for (mapped present_reading_of (mapped (copy_reading_of c) v)) ≡ newest_whole c v
  current_for_lem (Ok r) = current-whole c r.fields
  current_for_lem (Err e) = refl

  block_read_lem : (v : Result Reading Reason) → block_read (mapped present_reading_of (mapped (copy_reading_of c) v)) ≡ v
  block_read_lem (Ok r) = refl
  block_read_lem (Err e) = refl

  pub known_by : (m : List ℕ) (q : Result PresentReading Reason) → q ≡ mapped present_reading_of (copy_reading c)
      → every (passes (block_read q) (current_for q) m) copy_sectors ≡ known c m
  unfolding known copy_reading
  known_by m q e =
      ap₂ (λ (r : Result Reading Reason) (t : Bool). every (passes r t m) copy_sectors) (ap block_read e ∙ block_read_lem (sized_reading c))
      (ap current_for e ∙ current_for_lem (sized_reading c))

-- the first k sectors, the fewest that have room for n bytes, are those that begin before byte n
pub fewest : (j k n : ℕ) → n ≤ 512 * k → 512 * k < n + 512 → ltb j k ≡ ltb (512 * j) n
fewest j k n l m =
    elim (dec_le n (512 * j)) [
      | yes h ↦ le-ltb j k (omega arith) ∙ sym (le-ltb (512 * j) n h)
      | no h ↦ lt-ltb j k (omega arith) ∙ sym (lt-ltb (512 * j) n (omega arith))
    ]
