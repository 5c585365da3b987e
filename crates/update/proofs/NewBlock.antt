-- The new block of a copy is accepted.
use Prim.Native.Nat.{ℕ, ◌^◌, ◌<◌}
use mathlib.Core.Path.{◌≡◌, ap, ◌∙◌}
use mathlib.Core.Bool.{true, not}
use mathlib.Core.List.{List}
use lib.ListN.{length}
use Rattle.std.specs.Prelude.{Option, Some, Ok}
use Rattle.endian.proofs.Tests.{and_both}
use Rattle.checksum.proofs.Laws.{checksum-below}
use Rattle.refusal.specs.Tests.{first}
use Rattle.layout.specs.declared.Area.{Area}
use Rattle.layout.specs.declared.Area.TheVariants.{A, B}
use Rattle.layout.specs.Limits.{length_allowed, nanoseconds_allowed}
use Rattle.block.specs.declared.Time.{Time}
use Rattle.block.specs.declared.Holding.{Holding}
use Rattle.block.specs.declared.BlockFields.{BlockFields}
use Rattle.block.specs.Entry.{later_than, time_of, entry_allowed, different_times, entries_allowed}
use Rattle.block.specs.Block.{pool_of, blockdev_of, fields_of, read_tests, reading}
use Rattle.block.specs.Writing.{write_tests, written}
use Rattle.block.specs.Demand.{EntryFits}
use Rattle.block.proofs.Times.{later_differs, later_differs_back}
use Rattle.copy.specs.Copy.{block_in, entry_in, other_area, newest}
use Rattle.stores.specs.Stores.{holding_for, with_entry}
use Rattle.update.specs.Update.{spare, new_block}
use Rattle.stores.proofs.Blocks.{entry_allowed_lem, entry_in-fits, again_reads, again-writes, again-written, device_kept}

-- a copy whose block is accepted, and whose newest entry is used: its new block is accepted with the changed numbers
module _ (c : List ℕ) (ok : first (read_tests (block_in c)) ≡ 0) (h : Holding) (used : entry_in (fields_of (block_in c)) (newest (fields_of (block_in c))) ≡ Some h)
    (t : Time) (r : List ℕ) (fits : t.seconds < 2 ^ 64) (ns : nanoseconds_allowed t.nanoseconds ≡ true) (len : length_allowed (length r) ≡ true)
    (later : later_than t (time_of h) ≡ true) where
  new-allowed : entry_allowed (Some (holding_for t r)) ≡ true
  new-allowed = and_both (length_allowed (length r)) (nanoseconds_allowed t.nanoseconds) len ns

  -- an entry that stands beside a used one, later than it
  changed-allowed : (f : BlockFields) (x : Area) → entry_in f x ≡ Some h → entry_allowed (entry_in f x) ≡ true
      → entries_allowed (with_entry f (other_area x) (Some (holding_for t r))).a (with_entry f (other_area x) (Some (holding_for t r))).b ≡ true
  changed-allowed f A e q =
      and_both (entry_allowed f.a) _ q
      (and_both (entry_allowed (Some (holding_for t r))) _ new-allowed
      (ap (λ (z : Option Holding). different_times z (Some (holding_for t r))) e ∙ ap not (later_differs_back t (time_of h) later)))
  changed-allowed f B e q =
      and_both (entry_allowed (Some (holding_for t r))) _ new-allowed
      (and_both (entry_allowed f.b) _ q (ap (different_times (Some (holding_for t r))) e ∙ ap not (later_differs t (time_of h) later)))

  changed-fits : (f : BlockFields) (x : Area) → EntryFits (entry_in f x)
      → EntryFits (with_entry f (other_area x) (Some (holding_for t r))).a × EntryFits (with_entry f (other_area x) (Some (holding_for t r))).b
  changed-fits f A q = (q, (fits, checksum-below r))
  changed-fits f B q = ((fits, checksum-below r), q)

  allowed : entries_allowed (with_entry (fields_of (block_in c)) (spare c) (Some (holding_for t r))).a (with_entry (fields_of (block_in c)) (spare c) (Some (holding_for t r))).b ≡ true
  allowed = changed-allowed (fields_of (block_in c)) (newest (fields_of (block_in c))) used (entry_allowed_lem (block_in c) ok (newest (fields_of (block_in c))))

  both_fit : EntryFits (with_entry (fields_of (block_in c)) (spare c) (Some (holding_for t r))).a
      × EntryFits (with_entry (fields_of (block_in c)) (spare c) (Some (holding_for t r))).b
  both_fit = changed-fits (fields_of (block_in c)) (newest (fields_of (block_in c))) (entry_in-fits (block_in c) (newest (fields_of (block_in c))))

  pub new_reads : reading (new_block c t r)
      ≡ Ok (record {
        fields = with_entry (fields_of (block_in c)) (spare c) (Some (holding_for t r));
        pool = pool_of (block_in c);
        blockdev = blockdev_of (block_in c);
      })
  unfolding new_block
  new_reads =
      again_reads (block_in c) ok (with_entry (fields_of (block_in c)) (spare c) (Some (holding_for t r)))
      (device_kept (fields_of (block_in c)) (spare c) (Some (holding_for t r))) allowed both_fit.0 both_fit.1

  module _ (out : List ℕ) (room : length out ≡ 512) where
    pub new-writes : first (write_tests out (pool_of (block_in c)) (blockdev_of (block_in c)) (with_entry (fields_of (block_in c)) (spare c) (Some (holding_for t r)))) ≡ 0
    new-writes =
        again-writes (block_in c) ok (with_entry (fields_of (block_in c)) (spare c) (Some (holding_for t r)))
        (device_kept (fields_of (block_in c)) (spare c) (Some (holding_for t r))) allowed both_fit.0 both_fit.1 out room

    pub new-written : written out (pool_of (block_in c)) (blockdev_of (block_in c)) (with_entry (fields_of (block_in c)) (spare c) (Some (holding_for t r))) ≡ new_block c t r
    unfolding new_block
    new-written =
        again-written (block_in c) ok (with_entry (fields_of (block_in c)) (spare c) (Some (holding_for t r)))
        (device_kept (fields_of (block_in c)) (spare c) (Some (holding_for t r))) allowed both_fit.0 both_fit.1 out room
