-- A side's copy after a new block and the record's sectors have landed there holds the new record.
use Prim.Native.Nat.{ℕ, ◌+◌, ◌^◌, ◌≤◌, ◌<◌}
use mathlib.Core.Path.{◌≡◌, refl, ap, ◌∙◌}
use mathlib.Core.Bool.{true}
use mathlib.Core.List.{List}
use lib.ListN.{length}
use Rattle.std.specs.Prelude.{Some}
use Rattle.refusal.specs.Tests.{first}
use Rattle.layout.specs.declared.Device.{Device}
use Rattle.layout.specs.declared.Side.{Side}
use Rattle.layout.specs.declared.Area.{Area}
use Rattle.layout.specs.Limits.{record_limit, length_allowed, nanoseconds_allowed}
use Rattle.layout.specs.Places.{block_sector, area_sector}
use Rattle.layout.proofs.Laws.{length_facts}
use Rattle.block.specs.declared.Time.{Time}
use Rattle.block.specs.Entry.{later_than, time_of}
use Rattle.block.specs.Block.{pool_of, blockdev_of, fields_of, read_tests, reading}
use Rattle.copy.specs.Copy.{block_in, entry_in, whole, newest}
use Rattle.crash.specs.Crash.{Sectors, Sound, area_sectors, copy_from}
use Rattle.stores.specs.Stores.{sectors_of, sector_of, holding_for, with_entry}
use Rattle.update.specs.Update.{spare, new_block}
use Rattle.stores.proofs.Holding.{held_in, Holds, newest-changed, entry-changed}
use Rattle.update.proofs.NewBlock.{new_reads}
use Rattle.stores.proofs.Places.{Sizes}
use Rattle.stores.proofs.Padding.{gather_record, sectors-within}
use Rattle.stores.proofs.OneCopy.{used, holds_at}

module _ (s : Side) (v : Device) (d : Sectors) (sd : Sound d) (z : Sizes v) (ok : first (read_tests (block_in (copy_from s v d))) ≡ 0)
    (wh : whole (copy_from s v d) (fields_of (block_in (copy_from s v d))) (newest (fields_of (block_in (copy_from s v d)))) ≡ true) where
  held-used : entry_in (fields_of (block_in (copy_from s v d))) (newest (fields_of (block_in (copy_from s v d)))) ≡ Some (held_in (copy_from s v d))
  held-used = used s v d sd z ok wh

  module _ (e : Sectors) (se : Sound e) where
    -- the block is new, and the record's sectors have landed
    pub new-held : (t : Time) (r : List ℕ) → t.seconds < 2 ^ 64 → nanoseconds_allowed t.nanoseconds ≡ true → length_allowed (length r) ≡ true
        → later_than t (time_of (held_in (copy_from s v d))) ≡ true
        → e (block_sector s v) ≡ new_block (copy_from s v d) t r
        → ((i : ℕ) → i < sectors_of (length r) → e (area_sector s (spare (copy_from s v d)) v + i) ≡ sector_of r i)
        → Holds (copy_from s v e) (with_entry (fields_of (block_in (copy_from s v d))) (spare (copy_from s v d)) (Some (holding_for t r)))
        (pool_of (block_in (copy_from s v d))) (blockdev_of (block_in (copy_from s v d))) (spare (copy_from s v d)) (holding_for t r) r
    new-held t r fits ns len later b a =
        let y : Area = spare (copy_from s v d) in
        let l : length r ≤ record_limit = (length_facts (length r) len).1 in
        holds_at s v e se z
        (ap reading b ∙ new_reads (copy_from s v d) ok (held_in (copy_from s v d)) held-used t r fits ns len later)
        (newest-changed (fields_of (block_in (copy_from s v d))) (newest (fields_of (block_in (copy_from s v d)))) (held_in (copy_from s v d)) (holding_for t r) held-used later)
        (entry-changed (fields_of (block_in (copy_from s v d))) y (Some (holding_for t r))) refl refl l
        (gather_record e r (area_sector s y v) area_sectors (sectors-within (length r) l) a)
