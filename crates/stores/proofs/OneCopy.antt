-- One copy of a device after a cut: it holds the old record where its block is old, the new one where its block is new and
-- the area has landed.
use Prim.Native.Nat.{ℕ, suc, ◌+◌, ◌≤◌, ◌<◌}
use mathlib.Core.Path.{◌≡◌, refl, sym, ap, ◌∙◌}
use mathlib.Core.Bool.{true}
use mathlib.Core.List.{List}
use native.Mathlib.Omega.{arith}
use lib.ListN.{length, take}
use Rattle.std.specs.Prelude.{Some, Ok}
use Rattle.checksum.specs.Crc as Crc
use Rattle.refusal.specs.Tests.{first}
use Rattle.layout.specs.declared.Device.{Device}
use Rattle.layout.specs.declared.Side.{Side}
use Rattle.layout.specs.declared.Side.TheVariants.{Front, Back}
use Rattle.layout.specs.declared.Area.{Area}
use Rattle.layout.specs.Limits.{record_limit}
use Rattle.layout.specs.Places.{header_sector, block_sector, area_sector}
use Rattle.block.specs.declared.Holding.{Holding}
use Rattle.block.specs.declared.BlockFields.{BlockFields}
use Rattle.block.specs.Block.{pool_of, blockdev_of, fields_of, read_tests, reading}
use Rattle.block.proofs.Readings.{accepted_reading_lem}
use Rattle.copy.specs.Copy.{block_in, entry_in, whole, newest}
use Rattle.crash.specs.Crash.{Sectors, Sound, gather, area_sectors, copy_from}
use Rattle.crash.proofs.Copies.{length-copy, copy_block, copy_area, gather-same}
use Rattle.stores.proofs.Holding.{held_in, record_in, Holds}
use Rattle.stores.proofs.Whole.{newest-used, newest-small, holds-newest}
use Rattle.stores.proofs.InStep.{Stepped}
use Rattle.stores.proofs.Facts.{renamed}
use Rattle.stores.proofs.Places.{Sizes}

-- the block's sector follows the header's first
pub block_place_lem : (s : Side) (v : Device) → Sizes v → suc (header_sector s v) ≡ block_sector s v
block_place_lem Front v z = refl
block_place_lem Back v z = let h : 2097152 ≤ v.sectors = z.sectors in omega arith

-- a copy read from sectors where a block names a record, and its area begins with the record
pub holds_at : (s : Side) (v : Device) (e : Sectors) → Sound e → Sizes v → {g : BlockFields} {p u : List ℕ} {x : Area} {h : Holding} {r : List ℕ}
    → reading (e (block_sector s v)) ≡ Ok (record { fields = g; pool = p; blockdev = u }) → newest g ≡ x → entry_in g x ≡ Some h
    → h.checksum ≡ Crc.checksum r → h.bytes ≡ length r → h.bytes ≤ record_limit → take h.bytes (gather e (area_sector s x v) area_sectors) ≡ r
    → Holds (copy_from s v e) g p u x h r
holds_at s v e se z {g} {p} {u} {x} {h} {r} rd ar en su lo sm by =
    record {
      reads = ap reading (copy_block s v e se ∙ ap e (block_place_lem s v z)) ∙ rd;
      area = ar;
      entry = en;
      bytes = copy_area s v e se x h.bytes sm ∙ by;
      sum = su;
      long = lo;
    }

module _ (s : Side) (v : Device) (d : Sectors) (sd : Sound d) (z : Sizes v) (ok : first (read_tests (block_in (copy_from s v d))) ≡ 0)
    (wh : whole (copy_from s v d) (fields_of (block_in (copy_from s v d))) (newest (fields_of (block_in (copy_from s v d)))) ≡ true) where
  -- the newest entry is used, and the copy holds its record
  pub used : entry_in (fields_of (block_in (copy_from s v d))) (newest (fields_of (block_in (copy_from s v d)))) ≡ Some (held_in (copy_from s v d))
  used = newest-used (copy_from s v d) ok wh

  held : Holds (copy_from s v d) (fields_of (block_in (copy_from s v d))) (pool_of (block_in (copy_from s v d))) (blockdev_of (block_in (copy_from s v d)))
      (newest (fields_of (block_in (copy_from s v d)))) (held_in (copy_from s v d)) (record_in (copy_from s v d))
  held = holds-newest (copy_from s v d) (length-copy s v d sd) ok wh

  held_small : (held_in (copy_from s v d)).bytes ≤ record_limit
  held_small = newest-small (copy_from s v d) ok wh

  module _ (e : Sectors) (se : Sound e) where
    pub block_of : block_in (copy_from s v e) ≡ e (block_sector s v)
    block_of = copy_block s v e se ∙ ap e (block_place_lem s v z)

    -- the block is old, and so are the sectors of the present area
    old-held : e (block_sector s v) ≡ d (block_sector s v)
        → ((i : ℕ) → i < area_sectors → e (area_sector s (newest (fields_of (block_in (copy_from s v d)))) v + i) ≡ d (area_sector s (newest (fields_of (block_in (copy_from s v d)))) v + i))
        → Holds (copy_from s v e) (fields_of (block_in (copy_from s v d))) (pool_of (block_in (copy_from s v d))) (blockdev_of (block_in (copy_from s v d)))
        (newest (fields_of (block_in (copy_from s v d)))) (held_in (copy_from s v d)) (record_in (copy_from s v d))
    old-held b a =
        let x : Area = newest (fields_of (block_in (copy_from s v d))) in
        let n : ℕ = (held_in (copy_from s v d)).bytes in
        holds_at s v e se z
        (ap reading (b ∙ sym (copy_block s v d sd ∙ ap d (block_place_lem s v z))) ∙ accepted_reading_lem (block_in (copy_from s v d)) ok) refl used held.sum held.long
        held_small (ap (take n) (gather-same e d (area_sector s x v) area_sectors a) ∙ sym (copy_area s v d sd x n held_small))

-- of copies in step, a side whose block and present area still stand holds the front's record
pub stepped-held : (v : Device) (d : Sectors) → Sound d → Sizes v → Stepped (λ (w : Side). copy_from w v d)
    → (w : Side) (e : Sectors) → Sound e → e (block_sector w v) ≡ d (block_sector w v)
    → ((i : ℕ) → i < area_sectors → e (area_sector w (newest (fields_of (block_in (copy_from w v d)))) v + i) ≡ d (area_sector w (newest (fields_of (block_in (copy_from w v d)))) v + i))
    → Holds (copy_from w v e) (fields_of (block_in (copy_from w v d))) (pool_of (block_in (copy_from Front v d))) (blockdev_of (block_in (copy_from Front v d)))
    (newest (fields_of (block_in (copy_from w v d)))) (held_in (copy_from w v d)) (record_in (copy_from Front v d))
stepped-held v d sd z k w e se b a = renamed (k.pool w) (k.blockdev w) (k.records w) (old-held w v d sd z (k.accepted w) (k.newest-whole w) e se b a)
