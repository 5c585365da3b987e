-- Formatting: its refusals and what it leaves. docs/FORMAT.md, 'Formatting'.
use Rattle.std.specs.Prelude.{ℕ, cond, ◌&&◌, List, ◌∷◌, eqb, length, Some, None}
use Rattle.endian.specs.Bytes.{splice, all_pass, zeros}
use Rattle.refusal.specs.Numbers.{slice_size, device_size, uuid_byte, metadata_size, reserved_size, area_entry}
use Rattle.refusal.specs.Tests.{Test, ◌else_refuse◌, first}
use Rattle.layout.specs.declared.Device.{Device}
use Rattle.layout.specs.declared.Area.TheVariants.{A}
use Rattle.layout.specs.Limits.{size_allowed, metadata_allowed, reserved_allowed, nanoseconds_allowed, block_offset}
use Rattle.layout.specs.Places.{copy_bytes}
use Rattle.block.specs.declared.Time.{Time}
use Rattle.block.specs.declared.BlockFields.{BlockFields}
use Rattle.block.specs.Block.{is_hex}
use Rattle.block.specs.Writing.{block_of}
use Rattle.record.specs.Accept.{content_tests}
use Rattle.discovery.specs.Discovery.{sized}
use Rattle.stores.specs.Stores.{holding_for}
use Rattle.stores.specs.Given.{laid}

-- 4, 6 to 9 (9 for nanoseconds only), 15 and 17 to 19: device numbers, UUIDs of the pool and the block device, time, record
abbrev pub value_tests : Device → List ℕ → List ℕ → Time → List ℕ → List Test
value_tests v p u t r =
    (size_allowed v.sectors else_refuse device_size)
    ∷ (all_pass is_hex p && all_pass is_hex u else_refuse uuid_byte)
    ∷ (metadata_allowed v.metadata else_refuse metadata_size)
    ∷ (reserved_allowed v.reserved else_refuse reserved_size)
    ∷ (nanoseconds_allowed t.nanoseconds else_refuse area_entry)
    ∷ content_tests v r

-- 1 before them: both copies have the size of one, each UUID has 32 bytes
abbrev pub format_tests : List ℕ → List ℕ → Device → List ℕ → List ℕ → Time → List ℕ → List Test
format_tests f b v p u t r = (sized f b && (eqb (length p) 32 && eqb (length u) 32) else_refuse slice_size) ∷ value_tests v p u t r

-- the refusal number of formatting the copies f and b; 0 where it is not refused
unfoldable pub format_number : List ℕ → List ℕ → Device → List ℕ → List ℕ → Time → List ℕ → ℕ
format_number f b v p u t r = first (format_tests f b v p u t r)

-- the block's numbers: area a is used, area b is not
abbrev pub first_fields : Device → Time → List ℕ → BlockFields
first_fields v t r = record { device = v; a = Some (holding_for t r); b = None }

-- the copy that formatting leaves, front and back the same: zeros, the signature block in sector 1, the record in area a
unfoldable pub formatted_copy : Device → List ℕ → List ℕ → Time → List ℕ → List ℕ
formatted_copy v p u t r = laid (splice (zeros copy_bytes) block_offset (block_of p u (first_fields v t r))) A r

-- what a lent copy c holds after formatting f and b: that, or what was there
unfoldable pub formatted : List ℕ → List ℕ → List ℕ → Device → List ℕ → List ℕ → Time → List ℕ → List ℕ
formatted c f b v p u t r = cond (eqb (format_number f b v p u t r) 0) (formatted_copy v p u t r) c
