-- Which number bytes make, which bytes a number has, and when it is 0, in other words than the definitions of `le` and `to_le`. `proofs/Demand.antt`
-- proves it. Of what is read it is said of bytes only: `le` takes each element modulo 256, so that the list of the one element 256 makes 0 as well.
use Rattle.std.specs.Prelude.{ℕ, ◌/◌, ◌%◌, ◌^◌, ◌<◌, ◌≡◌, ◌↔◌, List, length, get_or}
use Rattle.endian.specs.Bytes.{le, to_le, zeros, Bytes}

-- The byte at place i is the number's digit i to the base 256, the lowest at place 0: of bytes that are read, where the digits past the last
-- byte are 0, and of what is written, n bytes, which have the n lowest digits.
pub record LittleEndian : Type 0 where
  pub reads : (s : List ℕ) → Bytes s → (i : ℕ) → (le s / 256 ^ i) % 256 ≡ get_or s i 0
  pub writes : (n v i : ℕ) → i < n → get_or (to_le n v) i 0 ≡ (v / 256 ^ i) % 256
  pub width : (n v : ℕ) → length (to_le n v) ≡ n

-- Bytes make the number 0 exactly when all of them are zero, however many there are.
abbrev pub Zero : Type 0
Zero = (s : List ℕ) → Bytes s → (le s ≡ 0 ↔ s ≡ zeros (length s))
