-- What the calls give: a block or a sector of a record for a device sector, and a record laid into a lent copy.
use Rattle.std.specs.Prelude.{ℕ, ◌+◌, ◌-◌, ◌*◌, Bool, cond, ◌&&◌, List, [], ◌∷◌, ◌++◌, leb, ltb, eqb, length, Result, Ok, Err}
use Rattle.endian.specs.Bytes.{window, zeros, splice}
use Rattle.refusal.specs.Numbers.{slice_size, record_length, no_such_store}
use Rattle.refusal.specs.declared.Reason.{Reason}
use Rattle.refusal.specs.Reasons.{reason, answer}
use Rattle.refusal.specs.Tests.{Test, ◌else_refuse◌, first}
use Rattle.layout.specs.declared.Device.{Device}
use Rattle.layout.specs.declared.Area.{Area}
use Rattle.layout.specs.Limits.{sector_bytes, length_allowed, device_tests}
use Rattle.layout.specs.Places.{area_offset}
use Rattle.block.specs.declared.BlockFields.{BlockFields}
use Rattle.block.specs.Block.{pool_of, blockdev_of}
use Rattle.block.specs.Writing.{write_tests, written}
use Rattle.copy.specs.Copy.{is_copy, block_in}
use Rattle.discovery.specs.Discovery.{sized}
use Rattle.stores.specs.declared.Part.{Part}
use Rattle.stores.specs.Stores.{sectors_of}

-- a sector of the record and zeros after it; zeros alone where it has no room
abbrev pub sector_in : List ℕ → ℕ → List ℕ → List ℕ
sector_in r j out = splice (zeros (length out)) 0 (window r (sector_bytes * j) sector_bytes)

-- sector a + j has a number: it is at most 2^64 - 1
abbrev pub within : ℕ → ℕ → Bool
within a j = leb a (18446744073709551615 - j)

-- a block with these numbers and the UUIDs of a copy's block, to sector s: the sector and the bytes
abbrev pub block_answer : ℕ → BlockFields → List ℕ → List ℕ → Result ℕ Reason
block_answer s g c out = answer (first (write_tests out (pool_of (block_in c)) (blockdev_of (block_in c)) g)) s

abbrev pub block_bytes : BlockFields → List ℕ → List ℕ → List ℕ
block_bytes g c out = written out (pool_of (block_in c)) (blockdev_of (block_in c)) g

-- the same where c may have another size: 1 then
abbrev pub block_given : ℕ → BlockFields → List ℕ → List ℕ → Result ℕ Reason
block_given s g c out = cond (is_copy c) (block_answer s g c out) (Err (reason slice_size))

abbrev pub block_left : BlockFields → List ℕ → List ℕ → List ℕ
block_left g c out = cond (is_copy c) (block_bytes g c out) out

-- store j of one side's k + 1: the sector and the bytes
abbrev pub part_answer : Part → ℕ → List ℕ → ℕ → List ℕ → Result ℕ Reason
part_answer p k c j out =
    cond (ltb j k) (cond (within p.area j) (Ok (p.area + j)) (Err (reason no_such_store)))
    (block_answer p.block p.fields c out)

abbrev pub part_bytes : Part → ℕ → List ℕ → List ℕ → ℕ → List ℕ → List ℕ
part_bytes p k c r j out =
    cond (ltb j k) (cond (within p.area j) (sector_in r j out) out)
    (block_bytes p.fields c out)

-- the same of any slices: 1 for another size, 15 for a length that no record has, 23 past the block
abbrev pub part_tests : ℕ → List ℕ → List ℕ → ℕ → List ℕ → List Test
part_tests k c r j out =
    (is_copy c && eqb (length out) sector_bytes else_refuse slice_size) ∷ (length_allowed (length r) else_refuse record_length) ∷ (leb j k else_refuse no_such_store) ∷ []

abbrev pub part_given : Part → ℕ → List ℕ → List ℕ → ℕ → List ℕ → Result ℕ Reason
part_given p k c r j out = cond (eqb (first (part_tests k c r j out)) 0) (part_answer p k c j out) (Err (reason (first (part_tests k c r j out))))

abbrev pub part_left : Part → ℕ → List ℕ → List ℕ → ℕ → List ℕ → List ℕ
part_left p k c r j out = cond (eqb (first (part_tests k c r j out)) 0) (part_bytes p k c r j out) out

-- The tests of store i of a plan for a record of n bytes with k stores: two copies and room for 512 bytes; the record that is lent or kept
-- has a length m that a record may have, and it is the plan's; the store is one of them; the device numbers v of the copy that it is
-- worked out from are allowed.
abbrev pub plan_tests : List ℕ → List ℕ → ℕ → ℕ → ℕ → ℕ → ℕ → Device → List Test
plan_tests f b room m n i k v =
    (sized f b && eqb room sector_bytes else_refuse slice_size)
    ∷ (length_allowed m else_refuse record_length)
    ∷ (eqb m n else_refuse slice_size)
    ∷ (ltb i k else_refuse no_such_store)
    ∷ device_tests v

-- the slices have their sizes: two copies, and 512 bytes
abbrev pub lent_right : List ℕ → List ℕ → List ℕ → Bool
lent_right f b out = sized f b && eqb (length out) sector_bytes

-- a record laid into a copy's area: its bytes at the area's offset, its last sector filled with zeros
abbrev pub lay_tests : List ℕ → List ℕ → List Test
lay_tests c r = (is_copy c else_refuse slice_size) ∷ (length_allowed (length r) else_refuse record_length) ∷ []

unfoldable pub laid : List ℕ → Area → List ℕ → List ℕ
laid c x r =
    cond (eqb (first (lay_tests c r)) 0) (splice c (area_offset x) (r ++ zeros (sectors_of (length r) * sector_bytes - length r))) c
