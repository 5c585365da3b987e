-- Demand 2, first half, as statements about what `read` and `write` answer; acceptance by the refusals' conditions, the test of zero fields and the
-- order of times, by what they mean.
-- `Offsets` is proved in `proofs/Offsets.antt`, `ZeroMeaning` in `proofs/Applying.antt`, the others in `proofs/Demand.antt`.
use Rattle.std.specs.Prelude.{ℕ, ◌+◌, ◌*◌, ◌%◌, ◌^◌, ◌≤◌, ◌<◌, ◌≡◌, ◌⊎◌, ◌↔◌, true, List, [], ◌∷◌, length, get_or, take, drop, Option, Some, None, Result, Ok, Err}
use Rattle.layout.specs.Limits.{most_nanoseconds}
use Rattle.endian.specs.Bytes.{Bytes, le, window}
use Rattle.checksum.specs.Crc as Crc
use Rattle.refusal.specs.declared.Reason.{Reason}
use Rattle.refusal.specs.Reasons.{refusal_of}
use Rattle.refusal.specs.Tests.{first}
use Rattle.block.specs.declared.Holding.{Holding}
use Rattle.block.specs.declared.Time.{Time}
use Rattle.block.specs.declared.BlockFields.{BlockFields}
use Rattle.block.specs.declared.Reading.{Reading}
use Rattle.block.specs.Entry.{later_than}
use Rattle.block.specs.Block.{signature_bytes, number, pool_of, blockdev_of, entry_at, fields_of, all_zero, reading, accepted_reading}
use Rattle.block.specs.Accepted.{HexBytes, Within, Apart, Accepted}
use Rattle.block.specs.Writing.{holding_of, write_tests, written}

-- A signature block is accepted exactly when it obeys the published layout and the format's limits.
abbrev pub Exactly : Type 0
Exactly =
    (b : List ℕ)
    → (Accepted b → reading b ≡ Ok (accepted_reading b))
    × ((r : Reading) → reading b ≡ Ok r → Accepted b)

-- What the answer a says of the block b, by the offsets and sizes of the table.
pub record ByOffset (b : List ℕ) (a : Result Reading Reason) : Type 0 where
  pub signature : take 16 (drop 4 b) ≡ 33 ∷ 83 ∷ 116 ∷ 114 ∷ 97 ∷ 48 ∷ 116 ∷ 105 ∷ 115 ∷ 134 ∷ 255 ∷ 2 ∷ 94 ∷ 65 ∷ 114 ∷ 104 ∷ []
  pub said : Reading
  pub accepted : a ≡ Ok said
  pub pool : said.pool ≡ take 32 (drop 32 b)
  pub blockdev : said.blockdev ≡ take 32 (drop 64 b)
  -- the n bytes at an offset, as a number
  pub numbers : (at n : ℕ) → number b at n ≡ le (take n (drop at b))
  -- S, L, R
  pub sectors : said.fields.device.sectors ≡ number b 20 8
  pub metadata : said.fields.device.metadata ≡ number b 160 4
  pub reserved : said.fields.device.reserved ≡ number b 164 4
  -- area a: seconds, nanoseconds, used bytes, CRC32; of an unused entry all zero
  pub a_seconds : (holding_of said.fields.a).seconds ≡ number b 96 8
  pub a_nanoseconds : (holding_of said.fields.a).nanoseconds ≡ number b 104 4
  pub a_bytes : (holding_of said.fields.a).bytes ≡ number b 108 4
  pub a_checksum : (holding_of said.fields.a).checksum ≡ number b 112 4
  -- area b
  pub b_seconds : (holding_of said.fields.b).seconds ≡ number b 128 8
  pub b_nanoseconds : (holding_of said.fields.b).nanoseconds ≡ number b 136 4
  pub b_bytes : (holding_of said.fields.b).bytes ≡ number b 140 4
  pub b_checksum : (holding_of said.fields.b).checksum ≡ number b 144 4

-- Each field of an accepted block is read from its place.
abbrev pub Offsets : Type 0
Offsets = (b : List ℕ) → Accepted b → ByOffset b (reading b)

-- each byte is zero
abbrev pub ZeroBytes : List ℕ → Type 0
ZeroBytes s = (i : ℕ) → i < length s → get_or s i 0 ≡ 0

-- `all_zero`, the test of the flags and of each zero field, passes exactly when each element is zero; and, where they are bytes, exactly when each
-- number is 0 that they make, eight bytes to a number.
pub record ZeroMeaning : Type 0 where
  pub bytes : (s : List ℕ) → (all_zero s ≡ true ↔ ZeroBytes s)
  -- as many numbers as begin within s; the last may have fewer bytes
  pub numbers : (s : List ℕ) → Bytes s → (all_zero s ≡ true ↔ ((k : ℕ) → 8 * k < length s → number s (8 * k) 8 ≡ 0))
  -- the field of 344 bytes, at the end of a block: exactly when bytes 168 to 511 are zero
  pub trailing : (b : List ℕ) → length b ≡ 512 → (all_zero (window b 168 344) ≡ true ↔ ((i : ℕ) → 168 ≤ i → i < 512 → get_or b i 0 ≡ 0))
  -- the same field as 43 numbers; where b is shorter than a block, the bytes that are not there count as zero
  pub trailing_numbers : (b : List ℕ) → Bytes b → (all_zero (window b 168 344) ≡ true ↔ ((k : ℕ) → k < 43 → number b (168 + 8 * k) 8 ≡ 0))

-- the condition of refusal n, 1 to 9, in the words of the table
abbrev pub Applies : List ℕ → ℕ → Type 0
Applies b n =
    -- a size other than the block's
    ((n ≡ 1) × ¬ (length b ≡ 512))
    -- the signature bytes differ
    ⊎ (((n ≡ 2) × ¬ (window b 4 16 ≡ signature_bytes))
    -- the CRC is wrong
    ⊎ (((n ≡ 3) × ¬ (number b 0 4 ≡ Crc.checksum (window b 4 508)))
    -- S is below 2,097,152
    ⊎ (((n ≡ 4) × (number b 20 8 < 2097152))
    -- the flags or a zero field are not zero
    ⊎ (((n ≡ 5) × ¬ (ZeroBytes (window b 28 4) × (ZeroBytes (window b 116 12) × (ZeroBytes (window b 148 12) × ZeroBytes (window b 168 344)))))
    -- a UUID has a byte that is not hex
    ⊎ (((n ≡ 6) × ¬ (HexBytes (pool_of b) × HexBytes (blockdev_of b)))
    -- L is odd, or not within its limits
    ⊎ (((n ≡ 7) × ¬ ((number b 160 4 % 2 ≡ 0) × ((2040 ≤ number b 160 4) × (number b 160 4 ≤ 16384))))
    -- R is above its limit
    ⊎ (((n ≡ 8) × (65536 < number b 164 4))
    -- an entry is not within its limits, or two used entries have one time
    ⊎ ((n ≡ 9) × ¬ (Within (entry_at b 96) × (Within (entry_at b 128) × Apart (entry_at b 96) (entry_at b 128)))))))))))

-- A list is `Accepted` exactly when it is 512 bytes and none of the conditions of 2 to 9 holds.
abbrev pub NoneApplies : Type 0
NoneApplies = (b : List ℕ) → (Accepted b ↔ ((length b ≡ 512) × ((n : ℕ) → 2 ≤ n → ¬ Applies b n)))

-- A block is refused with a reason exactly when the condition of its number holds and none with a lower number does.
abbrev pub Lowest : Type 0
Lowest =
    (b : List ℕ) (r : Reason)
    → (reading b ≡ Err r ↔ (Applies b (refusal_of r).number × ((k : ℕ) → Applies b k → (refusal_of r).number ≤ k)))

-- Writing what was read gives the same 512 bytes.
abbrev pub WriteAfterRead : Type 0
WriteAfterRead =
    (b out : List ℕ) → Bytes b → Accepted b → length out ≡ 512
    → (first (write_tests out (pool_of b) (blockdev_of b) (fields_of b)) ≡ 0) × (written out (pool_of b) (blockdev_of b) (fields_of b) ≡ b)

-- numbers as the machine's types have them, where no limit of the format is narrower
abbrev pub EntryFits : Option Holding → Type 0
EntryFits None = Unit {0}
EntryFits (Some h) = (h.seconds < 2 ^ 64) × (h.checksum < 2 ^ 32)

-- Reading what was written gives the same fields.
abbrev pub ReadAfterWrite : Type 0
ReadAfterWrite =
    (out p u : List ℕ) (f : BlockFields) → f.device.sectors < 2 ^ 64 → EntryFits f.a → EntryFits f.b
    → first (write_tests out p u f) ≡ 0
    → reading (written out p u f) ≡ Ok (record { fields = f; pool = p; blockdev = u })

-- a time in nanoseconds
abbrev pub nanoseconds_in : Time → ℕ
nanoseconds_in t = 1000000000 * t.seconds + t.nanoseconds

-- Of two times within the limit, one is later than the other exactly when it is more nanoseconds.
abbrev pub Later : Type 0
Later =
    (t u : Time) → t.nanoseconds ≤ most_nanoseconds → u.nanoseconds ≤ most_nanoseconds
    → (later_than t u ≡ true → nanoseconds_in u < nanoseconds_in t) × (nanoseconds_in u < nanoseconds_in t → later_than t u ≡ true)
