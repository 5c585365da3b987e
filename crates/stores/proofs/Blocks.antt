-- A block that is written again with other entries is accepted.
use Prim.Native.Nat.{ℕ, ◌+◌, ◌^◌, ◌<◌}
use mathlib.Core.Path.{◌≡◌, refl, sym, ap, subst, ◌∙◌}
use mathlib.Core.Bool.{Bool, true, false, cond, ◌&&◌}
use mathlib.Core.List.{List}
use native.Mathlib.Omega.{arith}
use borrow.Author.Tests.{eq-eqb}
use lib.Dec.{eqb}
use lib.ListN.{length}
use Rattle.std.specs.Prelude.{Option, Some, None, Ok}
use Rattle.endian.specs.Bytes.{window}
use Rattle.endian.proofs.Numbers.{le_bound}
use Rattle.endian.proofs.Parts.{length-window, length-window-fits}
use Rattle.endian.proofs.Tests.{and_left, and_right, and_both}
use Rattle.refusal.specs.Tests.{first, AllHold}
use Rattle.refusal.proofs.Order.{first-zero, first_all}
use Rattle.layout.specs.declared.Device.{Device}
use Rattle.layout.specs.declared.Area.{Area}
use Rattle.layout.specs.declared.Area.TheVariants.{A, B}
use Rattle.layout.specs.Limits.{size_allowed, metadata_allowed, reserved_allowed}
use Rattle.block.specs.declared.Holding.{Holding}
use Rattle.block.specs.declared.BlockFields.{BlockFields}
use Rattle.block.specs.Entry.{entry_of, entry_allowed, entries_allowed}
use Rattle.block.specs.Block.{number, device_of, pool_of, blockdev_of, entry_at, fields_of, limit_tests, read_tests, reading}
use Rattle.block.specs.Writing.{block_of, write_tests, written}
use Rattle.block.specs.Demand.{EntryFits}
use Rattle.block.proofs.Readings.{ascending, accepted-length}
use Rattle.block.proofs.Written.{written-accepted}
use Rattle.block.proofs.RoundTrip.{read_back}
use Rattle.copy.specs.Copy.{entry_in}
use Rattle.stores.specs.Stores.{with_entry}

-- the numbers of any bytes fit their widths
pub number_fits : (b : List ℕ) (at n : ℕ) → number b at n < 256 ^ n
number_fits b at n = le_bound (window b at n) n (length-window b at n)

entry-fits : (s n u c : ℕ) → s < 2 ^ 64 → c < 2 ^ 32 → EntryFits (entry_of s n u c)
unfolding entry_of
entry-fits s n u c hs hc = go (eqb s 0 && (eqb n 0 && (eqb u 0 && eqb c 0)))
  where
    go : (x : Bool) → EntryFits (cond x None (Some (record { seconds = s; nanoseconds = n; bytes = u; checksum = c })))
    go true = tt
    go false = (hs, hc)

entry_at-fits : (b : List ℕ) (at : ℕ) → EntryFits (entry_at b at)
entry_at-fits b at = entry-fits (number b at 8) (number b (at + 8) 4) (number b (at + 12) 4) (number b (at + 16) 4) (number_fits b at 8) (number_fits b (at + 16) 4)

-- both entries of accepted numbers
entries_allowed_lem : (b : List ℕ) → first (read_tests b) ≡ 0 → (entry_allowed (fields_of b).a ≡ true) × (entry_allowed (fields_of b).b ≡ true)
entries_allowed_lem b ok =
    let w : entries_allowed (fields_of b).a (fields_of b).b ≡ true = (first-zero 0 (read_tests b) (ascending b) ok).1.1.1.1.1.1.1.1.0 in (
      and_left (entry_allowed (fields_of b).a) _ w,
      and_left (entry_allowed (fields_of b).b) _ (and_right (entry_allowed (fields_of b).a) _ w),
    )

-- both entries of an accepted block are within their limits
pub entry_allowed_lem : (b : List ℕ) → first (read_tests b) ≡ 0 → (x : Area) → entry_allowed (entry_in (fields_of b) x) ≡ true
entry_allowed_lem b ok A = (entries_allowed_lem b ok).0
entry_allowed_lem b ok B = (entries_allowed_lem b ok).1

pub entry_in-fits : (b : List ℕ) (x : Area) → EntryFits (entry_in (fields_of b) x)
entry_in-fits b A = entry_at-fits b 96
entry_in-fits b B = entry_at-fits b 128

-- an accepted block, written again with its identity and its device numbers, and entries that may stand there
module _ (b : List ℕ) (ok : first (read_tests b) ≡ 0) (g : BlockFields) (same : g.device ≡ device_of b) (w : entries_allowed g.a g.b ≡ true)
    (fa : EntryFits g.a) (fb : EntryFits g.b) where
  tests : AllHold (read_tests b)
  tests = first-zero 0 (read_tests b) (ascending b) ok

  size : size_allowed g.device.sectors ≡ true
  size = ap (λ (v : Device). size_allowed v.sectors) same ∙ tests.1.1.1.0

  limits : AllHold (limit_tests (pool_of b) (blockdev_of b) g)
  limits = (
    tests.1.1.1.1.1.0,
    (ap (λ (v : Device). metadata_allowed v.metadata) same ∙ tests.1.1.1.1.1.1.0, (ap (λ (v : Device). reserved_allowed v.reserved) same ∙ tests.1.1.1.1.1.1.1.0, (w, tt))),
  )

  -- it is read back
  pub again_reads : reading (block_of (pool_of b) (blockdev_of b) g) ≡ Ok (record { fields = g; pool = pool_of b; blockdev = blockdev_of b })
  again_reads =
      let n : length b ≡ 512 = accepted-length b ok in
      read_back (pool_of b) (blockdev_of b) g (length-window-fits b 32 32 (omega arith)) (length-window-fits b 64 32 (omega arith))
      (subst (λ (v : Device). v.sectors < 2 ^ 64) (sym same) (number_fits b 20 8)) fa fb limits size

  -- the writer takes it, and leaves it in 512 lent bytes
  module _ (out : List ℕ) (room : length out ≡ 512) where
    pub again-writes : first (write_tests out (pool_of b) (blockdev_of b) g) ≡ 0
    again-writes =
        let n : length b ≡ 512 = accepted-length b ok in
        let p : length (pool_of b) ≡ 32 = length-window-fits b 32 32 (omega arith) in
        let u : length (blockdev_of b) ≡ 32 = length-window-fits b 64 32 (omega arith) in
        first_all (write_tests out (pool_of b) (blockdev_of b) g) (
          and_both (eqb (length out) 512) _ (eq-eqb (length out) 512 room)
              (and_both (eqb (length (pool_of b)) 32) (eqb (length (blockdev_of b)) 32) (eq-eqb (length (pool_of b)) 32 p) (eq-eqb (length (blockdev_of b)) 32 u)),
          (size, limits),
        )

    pub again-written : written out (pool_of b) (blockdev_of b) g ≡ block_of (pool_of b) (blockdev_of b) g
    again-written = sym (written-accepted out (pool_of b) (blockdev_of b) g again-writes)

-- a changed entry leaves the device numbers
pub device_kept : (f : BlockFields) (y : Area) (e : Option Holding) → (with_entry f y e).device ≡ f.device
device_kept f A e = refl
device_kept f B e = refl
