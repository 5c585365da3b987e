-- A copy whose later entry is whole holds its record.
use Prim.Native.Nat.{ℕ, ◌+◌, ◌≤◌}
use mathlib.Core.Path.{◌≡◌, refl, sym, ap, ap₂, ◌∙◌}
use mathlib.Core.Bool.{true}
use mathlib.Core.List.{List}
use native.Mathlib.Omega.{arith}
use borrow.Author.Tests.{eqb-true}
use lib.ListN.{length}
use Rattle.std.specs.Prelude.{Option, Some}
use Rattle.endian.proofs.Parts.{length-window-fits}
use Rattle.endian.proofs.Tests.{and_left}
use Rattle.checksum.specs.Crc as Crc
use Rattle.refusal.specs.Tests.{first}
use Rattle.layout.specs.declared.Area.{Area}
use Rattle.layout.specs.declared.Area.TheVariants.{A, B}
use Rattle.layout.specs.Limits.{record_limit, length_allowed, nanoseconds_allowed}
use Rattle.layout.specs.Places.{area_offset, copy_bytes}
use Rattle.layout.proofs.Laws.{length_facts}
use Rattle.block.specs.declared.Time.{Time}
use Rattle.block.specs.declared.Holding.{Holding}
use Rattle.block.specs.Entry.{time_of, entry_allowed}
use Rattle.block.specs.Block.{pool_of, blockdev_of, fields_of, read_tests}
use Rattle.block.proofs.Readings.{accepted_reading_lem}
use Rattle.copy.specs.declared.Present.{Present}
use Rattle.copy.proofs.Latest.{some-same}
use Rattle.copy.specs.Copy.{record_at, present_at, is_copy, block_in, area_bytes, entry_in, whole_entry, whole, newest}
use Rattle.stores.specs.States.{Presents}
use Rattle.stores.proofs.Blocks.{entry_allowed_lem}
use Rattle.stores.proofs.Holding.{held_in, record_in, Holds, whole-used, holds_presents}

-- an area lies within a copy
pub area_fits : (x : Area) → area_offset x + record_limit ≤ copy_bytes
unfolding area_offset copy_bytes
area_fits A = omega arith
area_fits B = omega arith

-- the bytes of a used entry within its limits are a record's
pub used-allowed : (e : Option Holding) (h : Holding) → e ≡ Some h → entry_allowed e ≡ true → length_allowed h.bytes ≡ true
used-allowed e h d w = and_left (length_allowed h.bytes) (nanoseconds_allowed h.nanoseconds) (sym (ap entry_allowed d) ∙ w)

pub used_bytes : (e : Option Holding) (h : Holding) → e ≡ Some h → entry_allowed e ≡ true → h.bytes ≤ record_limit
used_bytes e h d w = (length_facts h.bytes (used-allowed e h d w)).1

module _ (c : List ℕ) (ok : first (read_tests (block_in c)) ≡ 0) (wh : whole c (fields_of (block_in c)) (newest (fields_of (block_in c))) ≡ true) where
  abbrev x : Area
  x = newest (fields_of (block_in c))

  -- the newest entry is used
  pub newest-used : entry_in (fields_of (block_in c)) x ≡ Some (held_in c)
  newest-used = whole-used c x _ wh

  pub newest-small : (held_in c).bytes ≤ record_limit
  newest-small = used_bytes (entry_in (fields_of (block_in c)) x) (held_in c) newest-used (entry_allowed_lem (block_in c) ok x)

  module _ (z : length c ≡ copy_bytes) where
    -- its record has the length and the checksum that the entry says
    long : (held_in c).bytes ≡ length (record_in c)
    long =
        let a : area_offset x + record_limit ≤ copy_bytes = area_fits x in
        let k : (held_in c).bytes ≤ record_limit = newest-small in
        sym (length-window-fits c (area_offset x) (held_in c).bytes (omega arith))

    sum : (held_in c).checksum ≡ Crc.checksum (record_in c)
    sum = sym (eqb-true (Crc.checksum (record_in c)) (held_in c).checksum (sym (ap (whole_entry c x) newest-used) ∙ wh))

pub holds-newest : (c : List ℕ) → length c ≡ copy_bytes → first (read_tests (block_in c)) ≡ 0 → whole c (fields_of (block_in c)) (newest (fields_of (block_in c))) ≡ true
    → Holds c (fields_of (block_in c)) (pool_of (block_in c)) (blockdev_of (block_in c)) (newest (fields_of (block_in c))) (held_in c) (record_in c)
holds-newest c z ok wh =
    record {
      reads = accepted_reading_lem (block_in c) ok;
      area = refl;
      entry = newest-used c ok wh;
      bytes = refl;
      sum = sum c ok wh z;
      long = long c ok wh z;
    }

at_same : (x y : Area) (h k : Holding) → present_at x h ≡ present_at y k → (x ≡ y) × (h ≡ k)
at_same x y h k e = let p : record_at x h ≡ record_at y k = some-same _ _ e in (ap (λ (q : Present). q.area) p, ap (λ (q : Present). q.holding) p)

-- what such a copy presents is that record
pub presents_newest : (c : List ℕ) → is_copy c ≡ true → first (read_tests (block_in c)) ≡ 0 → whole c (fields_of (block_in c)) (newest (fields_of (block_in c))) ≡ true
    → (t : Time) (r : List ℕ) → Presents c t r → (time_of (held_in c) ≡ t) × (record_in c ≡ r)
presents_newest c z ok wh t r p =
    let k : Presents c (time_of (held_in c)) (record_in c) =
    holds_presents (holds-newest c (eqb-true (length c) copy_bytes z) ok wh) z (time_of (held_in c)) refl in
    let e : present_at k.area k.held ≡ present_at p.area p.held = sym k.is ∙ p.is in
    let a : k.area ≡ p.area = (at_same k.area p.area k.held p.held e).0 in
    let h : k.held ≡ p.held = (at_same k.area p.area k.held p.held e).1 in (
      sym k.time ∙ (ap time_of h ∙ p.time),
      sym k.bytes ∙ (ap₂ (λ (y : Area) (w : Holding). area_bytes c y w.bytes) a h ∙ p.bytes),
    )
