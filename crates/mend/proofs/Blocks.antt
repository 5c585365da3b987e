-- The blocks that a mend stores: each is accepted, and the writer takes it.
use Prim.Native.Nat.{ℕ}
use mathlib.Core.Path.{◌≡◌, refl, ap}
use mathlib.Core.Bool.{true, cond}
use mathlib.Core.List.{List}
use lib.ListN.{length}
use Rattle.std.specs.Prelude.{Option, Some, None, Ok}
use Rattle.endian.proofs.Tests.{and_both}
use Rattle.refusal.specs.Tests.{first}
use Rattle.layout.specs.declared.Device.{Device}
use Rattle.layout.specs.declared.Area.{Area}
use Rattle.layout.specs.declared.Area.TheVariants.{A, B}
use Rattle.block.specs.declared.Holding.{Holding}
use Rattle.block.specs.declared.BlockFields.{BlockFields}
use Rattle.block.specs.Entry.{entry_allowed, entries_allowed}
use Rattle.block.specs.Block.{pool_of, blockdev_of, fields_of, read_tests, reading}
use Rattle.block.specs.Writing.{write_tests, written}
use Rattle.block.specs.Demand.{EntryFits}
use Rattle.block.proofs.Readings.{accepted_none, accepted-length}
use Rattle.copy.specs.Copy.{block_in, entry_in, other_area, newer, newest, device_in}
use Rattle.stores.specs.Stores.{with_entry}
use Rattle.stores.proofs.Blocks.{entry_allowed_lem, entry_in-fits, again_reads, again-writes, again-written}
use Rattle.mend.specs.Mend.{block_like, emptied, refilled, blanked}

-- numbers that may stand in a block of a copy's device
pub record Right (c : List ℕ) (g : BlockFields) : Type 0 where
  pub same : g.device ≡ device_in c
  pub allowed : entries_allowed g.a g.b ≡ true
  pub fits_a : EntryFits g.a
  pub fits_b : EntryFits g.b

-- one entry is unused
beside_none : (e : Option Holding) → entry_allowed e ≡ true → entries_allowed e None ≡ true
beside_none None h = refl
beside_none (Some k) h = and_both (entry_allowed (Some k)) true h refl

none_beside : (e : Option Holding) → entry_allowed e ≡ true → entries_allowed None e ≡ true
none_beside e h = and_both (entry_allowed e) true h refl

module _ (c : List ℕ) (ok : first (read_tests (block_in c)) ≡ 0) where
  pub right-empty : Right c (emptied (device_in c))
  right-empty = record { same = refl; allowed = refl; fits_a = tt; fits_b = tt }

  pub right-filled : (x : Area) → Right c (refilled (device_in c) (entry_in (fields_of (block_in c)) x))
  right-filled x =
      record {
        same = refl;
        allowed = beside_none (entry_in (fields_of (block_in c)) x) (entry_allowed_lem (block_in c) ok x);
        fits_a = entry_in-fits (block_in c) x;
        fits_b = tt;
      }

  right_blank_at : (y : Area) → Right c (with_entry (fields_of (block_in c)) y None)
  right_blank_at A =
      record { same = refl; allowed = none_beside (fields_of (block_in c)).b (entry_allowed_lem (block_in c) ok B); fits_a = tt; fits_b = entry_in-fits (block_in c) B }
  right_blank_at B =
      record { same = refl; allowed = beside_none (fields_of (block_in c)).a (entry_allowed_lem (block_in c) ok A); fits_a = entry_in-fits (block_in c) A; fits_b = tt }

  pub right_blank : Right c (blanked (fields_of (block_in c)))
  right_blank = right_blank_at (newest (fields_of (block_in c)))

  module _ (g : BlockFields) (k : Right c g) where
    pub like-reads : reading (block_like c g) ≡ Ok (record { fields = g; pool = pool_of (block_in c); blockdev = blockdev_of (block_in c) })
    unfolding block_like
    like-reads = again_reads (block_in c) ok g k.same k.allowed k.fits_a k.fits_b

    pub like-size : length (block_like c g) ≡ 512
    like-size = accepted-length (block_like c g) (accepted_none (block_like c g) _ like-reads)

    module _ (out : List ℕ) (room : length out ≡ 512) where
      pub like-writes : first (write_tests out (pool_of (block_in c)) (blockdev_of (block_in c)) g) ≡ 0
      like-writes = again-writes (block_in c) ok g k.same k.allowed k.fits_a k.fits_b out room

      pub like-written : written out (pool_of (block_in c)) (blockdev_of (block_in c)) g ≡ block_like c g
      unfolding block_like
      like-written = again-written (block_in c) ok g k.same k.allowed k.fits_a k.fits_b out room

-- which entry is the newest where one is unused
pub newest-filled : (v : Device) (e : Option Holding) → newest (refilled v e) ≡ A
unfolding newest
newest-filled v e = refl

blank_at : (f : BlockFields) (y : Area) (h : Holding) → entry_in f (other_area y) ≡ Some h → newest (with_entry f y None) ≡ other_area y
unfolding newest
blank_at f A h e = ap (λ (z : Option Holding). cond (newer z None) B A) e
blank_at f B h e = refl

pub newest-blanked : (f : BlockFields) (h : Holding) → entry_in f (other_area (newest f)) ≡ Some h → newest (blanked f) ≡ other_area (newest f)
newest-blanked f h e = blank_at f (newest f) h e

-- the other entry stays
other_entry : (f : BlockFields) (y : Area) (e : Option Holding) → entry_in (with_entry f y e) (other_area y) ≡ entry_in f (other_area y)
other_entry f A e = refl
other_entry f B e = refl

pub entry-blanked : (f : BlockFields) → entry_in (blanked f) (other_area (newest f)) ≡ entry_in f (other_area (newest f))
entry-blanked f = other_entry f (newest f) None
