-- One copy of which no sector that matters is marked.
use Prim.Native.Nat.{ℕ, ◌+◌, ◌-◌, ◌*◌, ◌≤◌, ◌<◌}
use mathlib.Core.Path.{◌≡◌, refl, sym, ap, ap₂, subst, ◌∙◌}
use mathlib.Core.Bool.{Bool, true, false, not, ◌||◌, or-true}
use mathlib.Core.List.{List}
use native.Mathlib.Omega.{arith}
use borrow.Author.Tests.{lt-ltb}
use lib.Dec.{eqb}
use Rattle.std.specs.Prelude.{Option, Some, None, Result, Ok, Err}
use Rattle.endian.specs.Bytes.{window}
use Rattle.checksum.specs.Crc.{checksum}
use Rattle.refusal.specs.declared.Reason.{Reason}
use Rattle.layout.specs.declared.Area.{Area}
use Rattle.layout.specs.declared.Area.TheVariants.{A, B}
use Rattle.layout.specs.Limits.{record_limit}
use Rattle.layout.specs.Places.{area_offset}
use Rattle.block.specs.declared.Holding.{Holding}
use Rattle.block.specs.declared.BlockFields.{BlockFields}
use Rattle.block.specs.declared.Reading.{Reading}
use Rattle.block.specs.Accepted.{Accepted, Within}
use Rattle.block.specs.Block.{fields_of, accepted_reading, reading}
use Rattle.block.specs.Writing.{holding_of}
use Rattle.block.proofs.Demand.{exactly}
use Rattle.search.specs.Search.{every}
use Rattle.search.proofs.Search.{every-at, every_all, every-false}
use Rattle.copy.specs.declared.Present.{Present}
use Rattle.copy.specs.Copy.{block_in, area_bytes, entry_in, other_area, whole_entry, whole, newest, present_at, choose, present_from, present, reading_in, sized_reading}
use Rattle.copy.proofs.Latest.{present_latest}
use Rattle.copy.proofs.Readings.{sized_reading_lem}
use Rattle.crash.specs.Crash.{area_sectors}
use Rattle.crash.proofs.Copies.{limit_sectors}
use Rattle.sectors.specs.Sectors.{copy_sectors, area_start, named, named_in, matters_for, newest_whole, matters, is_read, passes, known}
use Rattle.sectors.specs.Demand.{Agree, SameArea, SameCopy, Alone, Steady, Meaning, NoneMarked}
use Rattle.sectors.proofs.Calls.{named_inside}
use Rattle.sectors.proofs.Parts.{start_bytes, block_there, area_there, part_same}

-- the entries of an accepted block name no more than a record can have
within_limit : (e : Option Holding) → Within e → (holding_of e).bytes ≤ record_limit
within_limit None w = omega arith
within_limit (Some h) w = w.1

-- the fields of an accepted block
pub fields_of_lem : (b : List ℕ) (r : Reading) → reading b ≡ Ok r → fields_of b ≡ r.fields
fields_of_lem b r e =
    let v : Ok (accepted_reading b) ≡ Ok r = sym ((exactly b).0 ((exactly b).1 r e)) ∙ e in
    let w : accepted_reading b ≡ r = cc in
    ap (λ (z : Reading). z.fields) w

entry_limit : (b : List ℕ) (r : Reading) → reading b ≡ Ok r → (x : Area) → (holding_of (entry_in r.fields x)).bytes ≤ record_limit
entry_limit b r e x = subst (λ (z : BlockFields). (holding_of (entry_in z x)).bytes ≤ record_limit) (fields_of_lem b r e) (go x)
  where
    ok : Accepted b
    ok = (exactly b).1 r e

    go : (x : Area) → (holding_of (entry_in (fields_of b) x)).bytes ≤ record_limit
    go A = within_limit (fields_of b).a ok.entry_a
    go B = within_limit (fields_of b).b ok.entry_b

-- which sectors matter
block_counts : (v : Result Reading Reason) (w : Bool) → matters_for v w 1 ≡ true
block_counts (Ok r) w = refl
block_counts (Err e) w = refl

block_matters : (c : List ℕ) → matters c 1 ≡ true
unfolding matters
block_matters c = block_counts (sized_reading c) (newest_whole c (sized_reading c))

named-used : (e : Option Holding) (j : ℕ) → 512 * j < (holding_of e).bytes → named e j ≡ true
named-used None j l = absurd (omega arith)
named-used (Some h) j l = lt-ltb (512 * j) h.bytes l

pub named_there : (f : BlockFields) (x : Area) (j : ℕ) → j < area_sectors → named (entry_in f x) j ≡ named_in f x (area_start x + j)
named_there f x j l =
    ap (named (entry_in f x)) (let z : j ≡ area_start x + j - area_start x = omega arith in z)
    ∙ named_inside f x (area_start x + j) (omega arith) (omega arith)

-- where the block is accepted: what the newest entry names, and where its area is not whole what the other entry names
newest_counts : (r : Reading) (w : Bool) (i : ℕ) → named_in r.fields (newest r.fields) i ≡ true → matters_for (Ok r) w i ≡ true
newest_counts r w i h = rw h (or-true (eqb i 1))

other_counts : (r : Reading) (i : ℕ) → named_in r.fields (other_area (newest r.fields)) i ≡ true → matters_for (Ok r) false i ≡ true
other_counts r i h =
    ap (λ (t : Bool). eqb i 1 || (named_in r.fields (newest r.fields) i || t)) h
    ∙ (ap (λ (t : Bool). eqb i 1 || t) (or-true (named_in r.fields (newest r.fields) i)) ∙ or-true (eqb i 1))

module _ (c : List ℕ) (r : Reading) (a : sized_reading c ≡ Ok r) (i : ℕ) where
  -- of a copy whose block is accepted
  pub matters_is : matters c i ≡ matters_for (Ok r) (whole c r.fields (newest r.fields)) i
  unfolding matters
  matters_is = ap (λ (v : Result Reading Reason). matters_for v (newest_whole c v) i) a

  newest-matters : named_in r.fields (newest r.fields) i ≡ true → matters c i ≡ true
  newest-matters h = matters_is ∙ newest_counts r (whole c r.fields (newest r.fields)) i h

  other_matters : whole c r.fields (newest r.fields) ≡ false → named_in r.fields (other_area (newest r.fields)) i ≡ true → matters c i ≡ true
  other_matters w h = matters_is ∙ (ap (λ (t : Bool). matters_for (Ok r) t i) w ∙ other_counts r i h)

-- a sector that matters and passes was read
passed : (v : Result Reading Reason) (w : Bool) (m : List ℕ) (i : ℕ) → passes v w m i ≡ true → matters_for v w i ≡ true → is_read m i ≡ true
passed v w m i p h = sym (ap (λ (t : Bool). not t || is_read m i) h) ∙ p

-- a copy is known exactly where each sector that matters was read
known_read : (c m : List ℕ) → known c m ≡ true → (i : ℕ) → i < copy_sectors → matters c i ≡ true → is_read m i ≡ true
unfolding known matters
known_read c m k i l =
    passed (sized_reading c) (newest_whole c (sized_reading c)) m i
    (every-at (passes (sized_reading c) (newest_whole c (sized_reading c)) m) copy_sectors k i l)

read_known : (c m : List ℕ) → ((i : ℕ) → i < copy_sectors → matters c i ≡ true → is_read m i ≡ true) → known c m ≡ true
unfolding known matters
read_known c m h =
    every_all (passes (sized_reading c) (newest_whole c (sized_reading c)) m) copy_sectors
    (λ i l. go (matters_for (sized_reading c) (newest_whole c (sized_reading c)) i) (is_read m i) (h i l))
  where
    go : (t r : Bool) → (t ≡ true → r ≡ true) → not t || r ≡ true
    go true r q = q refl
    go false r q = refl

pub meaning : Meaning
meaning c m = record { known_read = known_read c m; read_known = read_known c m }

-- a block that was not read, and sectors that all were
pub block_none : (c m : List ℕ) → is_read m 1 ≡ false → known c m ≡ false
unfolding known
block_none c m h =
    every-false (passes (sized_reading c) (newest_whole c (sized_reading c)) m) copy_sectors 1 block_there
    (ap₂ (λ (t r : Bool). not t || r) (block_counts (sized_reading c) (newest_whole c (sized_reading c))) h)

pub none_marked : (c m : List ℕ) → NoneMarked m → known c m ≡ true
none_marked c m h = read_known c m (λ i l w. h i l)

pub whole_same : (c e : List ℕ) (x : Area) (n : Option Holding) → area_bytes e x (holding_of n).bytes ≡ area_bytes c x (holding_of n).bytes → whole_entry e x n ≡ whole_entry c x n
whole_same c e x None h = refl
whole_same c e x (Some k) h = ap (λ (s : List ℕ). eqb (checksum s) k.checksum) h

-- what holds of an area and of the other holds of every area
both_areas : (P : Area → Type 0) (x : Area) → P x → P (other_area x) → (y : Area) → P y
both_areas P A p q A = p
both_areas P A p q B = q
both_areas P B p q A = q
both_areas P B p q B = p

same_place : (x y : Area) (h k : Holding) → present_at x h ≡ present_at y k → x ≡ y
same_place x y h k e =
    let p : ◌≡◌ {A = Present} (record { area = x; holding = h }) (record { area = y; holding = k }) = cc in
    ap (λ (z : Present). z.area) p

module _ (m c e : List ℕ) (g : Agree m c e) (k : known c m ≡ true) where
  pub block_bytes_lem : block_in e ≡ block_in c
  block_bytes_lem = g.unmarked 1 block_there (known_read c m k 1 block_there (block_matters c))

  block_same : reading_in e ≡ reading_in c
  block_same = ap reading block_bytes_lem

  sized_here : sized_reading c ≡ reading_in c
  sized_here = sized_reading_lem c g.size

  sized_same : sized_reading e ≡ sized_reading c
  sized_same = sized_reading_lem e g.size_too ∙ (block_same ∙ sym sized_here)

  module _ (r : Reading) (a : reading_in c ≡ Ok r) where
    abbrev f : BlockFields
    f = r.fields

    sized-accepted : sized_reading c ≡ Ok r
    sized-accepted = sized_here ∙ a

    -- an area whose named sectors matter
    area_same : (x : Area) → ((i : ℕ) → named_in f x i ≡ true → matters c i ≡ true) → SameArea c e f x
    area_same x h = part_same c e (area_offset x) (holding_of (entry_in f x)).bytes sector
      where
        sector : (j : ℕ) → 512 * j < (holding_of (entry_in f x)).bytes → window e (area_offset x + 512 * j) 512 ≡ window c (area_offset x + 512 * j) 512
        sector j l =
            let t : (holding_of (entry_in f x)).bytes ≤ record_limit = entry_limit (block_in c) r a x in
            let s : area_sectors * 512 ≡ record_limit = limit_sectors in
            let w : j < area_sectors = omega arith in
            let o : 512 * area_start x ≡ area_offset x = start_bytes x in
            let z : area_offset x + 512 * j ≡ 512 * (area_start x + j) = omega arith in
            ap (λ (n : ℕ). window e n 512) z
            ∙ (g.unmarked (area_start x + j) (area_there x j w)
            (known_read c m k (area_start x + j) (area_there x j w) (h (area_start x + j) (sym (named_there f x j w) ∙ named-used (entry_in f x) j l)))
            ∙ ap (λ (n : ℕ). window c n 512) (sym z))

    newest-same : SameArea c e f (newest f)
    newest-same = area_same (newest f) (newest-matters c r sized-accepted)

    other-same : whole c f (newest f) ≡ false → SameArea c e f (other_area (newest f))
    other-same w = area_same (other_area (newest f)) (λ i. other_matters c r sized-accepted i w)

    newest-whole-same : whole e f (newest f) ≡ whole c f (newest f)
    newest-whole-same = whole_same c e (newest f) (entry_in f (newest f)) newest-same

    present-same : present e f ≡ present c f
    unfolding present
    present-same = go (newest f) newest-whole-same other-same (whole c f (newest f)) refl
      where
        go : (x : Area) → whole e f x ≡ whole c f x → (whole c f x ≡ false → SameArea c e f (other_area x)) → (w : Bool) → whole c f x ≡ w
            → present_from e f x ≡ present_from c f x
        go x s o true h =
            ap (λ (t : Bool). choose f t (whole e f (other_area x)) x) (s ∙ h) ∙ sym (ap (λ (t : Bool). choose f t (whole c f (other_area x)) x) h)
        go x s o false h = ap₂ (λ (p q : Bool). choose f p q x) s (whole_same c e (other_area x) (entry_in f (other_area x)) (o h))

    -- the area of the present record: the newest where that is whole
    at-newest : (y : Area) (h : Holding) → present c f ≡ present_at y h → whole c f (newest f) ≡ true → newest f ≡ y
    unfolding present
    at-newest y h p w =
        same_place (newest f) y (holding_of (entry_in f (newest f))) h
        (sym (ap (λ (t : Bool). choose f t (whole c f (other_area (newest f))) (newest f)) w) ∙ p)

    held_same : (y : Area) (h : Holding) → present c f ≡ present_at y h → SameArea c e f y
    held_same y h p = go (whole c f (newest f)) refl
      where
        go : (w : Bool) → whole c f (newest f) ≡ w → SameArea c e f y
        go true w = subst (SameArea c e f) (at-newest y h p w) newest-same
        go false w = both_areas (SameArea c e f) (newest f) newest-same (other-same w) y

    bytes_same : (y : Area) (h : Holding) → present c f ≡ present_at y h → area_bytes e y h.bytes ≡ area_bytes c y h.bytes
    bytes_same y h p =
        subst (λ (z : Holding). area_bytes e y z.bytes ≡ area_bytes c y z.bytes) (sym (present_latest c f y h p).holds) (held_same y h p)

  copy-same : SameCopy c e
  copy-same =
      record {
        reads = block_same;
        newest_area = newest-same;
        other_area_lem = other-same;
        its_present = present-same;
        bytes = λ r y h a p. bytes_same r a y h p;
      }

  -- what agrees with a known copy is known
  known_too : known e m ≡ true
  unfolding known
  known_too =
      ap (λ (v : Result Reading Reason). every (passes v (newest_whole e v) m) copy_sectors) sized_same
      ∙ (ap (λ (w : Bool). every (passes (sized_reading c) w m) copy_sectors) (go (sized_reading c) (sym sized_here)) ∙ k)
    where
      go : (v : Result Reading Reason) → reading_in c ≡ v → newest_whole e v ≡ newest_whole c v
      go (Ok r) a = newest-whole-same r a
      go (Err n) a = refl

pub alone : Alone
alone m c e g k = copy-same m c e g k

pub steady : Steady
steady m c e g = go (known e m) (known c m) (known_too m e c back) (known_too m c e g)
  where
    back : Agree m e c
    back = record { size = g.size_too; size_too = g.size; unmarked = λ i l r. sym (g.unmarked i l r) }

    go : (p q : Bool) → (p ≡ true → q ≡ true) → (q ≡ true → p ≡ true) → p ≡ q
    go true q h i = sym (h refl)
    go false true h i = i refl
    go false false h i = refl
