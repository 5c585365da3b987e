-- Document 01's 'accepted' signature block, as a plain conjunction read off its table and limits, with no order of tests.
-- The theorem `exactly` of `proofs/Demand.antt` says that reading accepts these blocks and no others.
use Rattle.std.specs.Prelude.{ℕ, ◌%◌, ◌≤◌, ◌<◌, ◌≡◌, ◌⊎◌, List, length, get_or, Option, Some, None}
use Rattle.endian.specs.Bytes.{window, zeros}
use Rattle.checksum.specs.Crc as Crc
use Rattle.layout.specs.Limits.{record_limit, most_nanoseconds}
use Rattle.block.specs.declared.Holding.{Holding}
use Rattle.block.specs.Block.{signature_bytes, number, pool_of, blockdev_of, entry_at}

-- hex is 0-9 and a-f only
abbrev pub Hex : ℕ → Type 0
Hex x = ((48 ≤ x) × (x ≤ 57)) ⊎ ((97 ≤ x) × (x ≤ 102))

-- each of the 32 bytes of a UUID is hex
abbrev pub HexBytes : List ℕ → Type 0
HexBytes s = (i : ℕ) → i < length s → Hex (get_or s i 0)

-- used bytes of a used entry 1 to the record limit, nanoseconds at most 999,999,999
abbrev pub Within : Option Holding → Type 0
Within None = Unit {0}
Within (Some h) = (1 ≤ h.bytes) × (h.bytes ≤ record_limit) × (h.nanoseconds ≤ most_nanoseconds)

-- two used entries have different times
abbrev pub Apart : Option Holding → Option Holding → Type 0
Apart None e = Unit {0}
Apart (Some h) None = Unit {0}
Apart (Some h) (Some k) = h.seconds ≡ k.seconds → h.nanoseconds ≡ k.nanoseconds → ⊥

pub record Accepted (b : List ℕ) : Type 0 where
  pub size : length b ≡ 512
  pub checksum : number b 0 4 ≡ Crc.checksum (window b 4 508)
  pub signature : window b 4 16 ≡ signature_bytes
  pub sectors : 2097152 ≤ number b 20 8
  pub flags : window b 28 4 ≡ zeros 4
  pub pool : HexBytes (pool_of b)
  pub device : HexBytes (blockdev_of b)
  pub entry_a : Within (entry_at b 96)
  pub zero_116 : window b 116 12 ≡ zeros 12
  pub entry_b : Within (entry_at b 128)
  pub times : Apart (entry_at b 96) (entry_at b 128)
  pub zero_148 : window b 148 12 ≡ zeros 12
  pub metadata_even : number b 160 4 % 2 ≡ 0
  pub metadata_least : 2040 ≤ number b 160 4
  pub metadata_most : number b 160 4 ≤ 16384
  pub reserved : number b 164 4 ≤ 65536
  pub zero_168 : window b 168 344 ≡ zeros 344
