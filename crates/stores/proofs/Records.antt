-- The stores of a record.
use Prim.Native.Nat.{ℕ, ◌+◌, ◌<◌}
use mathlib.Core.Path.{◌≡◌}
use mathlib.Core.List.{List}
use lib.ListN.{length, get_or}
use Rattle.crash.specs.Crash.{Store}
use Rattle.crash.proofs.Groups.{length_from, at_from}
use Rattle.stores.specs.Stores.{sectors_of, sector_of, record_stores}

pub length_record : (a : ℕ) (r : List ℕ) → length (record_stores a r) ≡ sectors_of (length r)
unfolding record_stores
length_record a r = length_from a (sector_of r) (sectors_of (length r))

pub at_record : (n : Store) (a : ℕ) (r : List ℕ) (i : ℕ) → i < sectors_of (length r) → get_or (record_stores a r) i n ≡ record { sector = a + i; content = sector_of r i }
unfolding record_stores
at_record n a r i l = at_from n a (sector_of r) (sectors_of (length r)) i l
