-- What stores are made of: a record's sectors, a block, an entry. docs/FORMAT.md, 'Updates'.
use Rattle.std.specs.Prelude.{ℕ, ◌+◌, ◌-◌, ◌*◌, ◌/◌, List, [], ◌∷◌, ◌++◌, length, Option}
use Rattle.endian.specs.Bytes.{window, zeros}
use Rattle.checksum.specs.Crc as Crc
use Rattle.layout.specs.declared.Device.{Device}
use Rattle.layout.specs.declared.Side.{Side}
use Rattle.layout.specs.declared.Area.{Area}
use Rattle.layout.specs.declared.Area.TheVariants.{A, B}
use Rattle.layout.specs.Limits.{sector_bytes}
use Rattle.layout.specs.Places.{block_sector}
use Rattle.block.specs.declared.Time.{Time}
use Rattle.block.specs.declared.Holding.{Holding}
use Rattle.block.specs.declared.BlockFields.{BlockFields}
use Rattle.crash.specs.Crash.{Store, stores_from}

-- k = ceiling(length / 512)
unfoldable pub sectors_of : ℕ → ℕ
sectors_of n = (n + (sector_bytes - 1)) / sector_bytes

-- sector j of a record, the last one filled with zeros
unfoldable pub sector_of : List ℕ → ℕ → List ℕ
sector_of r j = window r (sector_bytes * j) sector_bytes ++ zeros (sector_bytes - length (window r (sector_bytes * j) sector_bytes))

-- what the new entry says
abbrev pub holding_for : Time → List ℕ → Holding
holding_for t r = record { seconds = t.seconds; nanoseconds = t.nanoseconds; bytes = length r; checksum = Crc.checksum r }

-- a block's numbers with one entry changed
abbrev pub with_entry : BlockFields → Area → Option Holding → BlockFields
with_entry f A e = record { device = f.device; a = e; b = f.b }
with_entry f B e = record { device = f.device; a = f.a; b = e }

-- the stores of a record from sector a on
unfoldable pub record_stores : ℕ → List ℕ → List Store
record_stores a r = stores_from a (sector_of r) (sectors_of (length r))

-- the one store of a side's signature block
abbrev pub block_store : Side → Device → List ℕ → List Store
block_store w v b = record { sector = block_sector w v; content = b } ∷ []
