-- Patches and segments laid into bytes, and the room for input.
use Rattle.std.specs.Prelude.{ℕ, zero, suc, ◌+◌, max, min, List, length}
use Rattle.endian.specs.Bytes.{le, window, splice}
use Rattle.segments.specs.declared.Segment.{Segment}
use Rattle.items.specs.Making.{segment_bytes, place}

-- the most bytes of input
abbrev pub input_bytes : ℕ
input_bytes = 131072

-- the place n bytes after `at`, or the end of s where that comes first; a place past the end stays
unfoldable pub past : List ℕ → ℕ → ℕ → ℕ
past s at n = max at (min (at + n) (length s))

-- a patch at place `at` of s: its offset in 2 bytes, its length in 2, and its bytes
unfoldable pub patch_offset : List ℕ → ℕ → ℕ
patch_offset s at = le (window s at 2)

unfoldable pub patch_length : List ℕ → ℕ → ℕ
patch_length s at = le (window s (at + 2) 2)

unfoldable pub patch_bytes : List ℕ → ℕ → List ℕ
patch_bytes s at = window s (at + 4) (patch_length s at)

-- where the next one begins
unfoldable pub next_patch : List ℕ → ℕ → ℕ
next_patch s at = past s at (4 + patch_length s at)

-- where n patches end, the first of which is at place `at` of s
unfoldable pub patches_end : List ℕ → ℕ → ℕ → ℕ
patches_end s at zero = at
patches_end s at (suc n) = patches_end s (next_patch s at) n

-- d with them laid over it, one after the other
unfoldable pub patched : List ℕ → ℕ → ℕ → List ℕ → List ℕ
patched s at zero d = d
patched s at (suc n) d = patched s (next_patch s at) n (splice d (patch_offset s at) (patch_bytes s at))

-- s with a segment at position i of the record that it begins with
unfoldable pub segment_put : List ℕ → ℕ → Segment → List ℕ
segment_put s i g = splice s (min (place s i) (length s)) (segment_bytes g)
