-- What the checksum is, without its algorithm: the remainder of a division by the polynomial, values that others have published; then pieces,
-- the width, and changes that are always noticed. What the polynomial and such a division are says `shifts`, `specs/Demand.antt`.
-- `proofs/Demand.antt` proves it.
use Rattle.std.specs.Prelude.{ℕ, zero, suc, ◌*◌, ◌^◌, ◌≤◌, ◌<◌, ◌≡◌, Bool, List, [], ◌∷◌, ◌++◌, length, replicate}
use Rattle.std.specs.Int.Bits.{bit_xor}
use Rattle.endian.specs.Bytes.{Bytes, le}
use Rattle.shifts.specs.Demand.{Divided, Quotient}
use Rattle.checksum.specs.Crc.{checksum, continued}

-- The dividend of bytes: their bits, 32 zeros behind them, the first 32 of all these inverted. The first bit, the lowest of the first byte, is the
-- lowest of the number, and has the highest power.
abbrev pub dividend : List ℕ → ℕ
dividend s = bit_xor (le s) 0xFFFF_FFFF

-- The checksum is the remainder, inverted, once all bits of the bytes are divided: there is a quotient with that remainder, and every
-- quotient has it.
pub record Remainder : Type 0 where
  pub some : (s : List ℕ) → Quotient (8 * length s) (dividend s) (bit_xor (checksum s) 0xFFFF_FFFF)
  pub any : (s : List ℕ) (q : List Bool) (r : ℕ) → Divided (8 * length s) (dividend s) q r → checksum s ≡ bit_xor r 0xFFFF_FFFF

-- k, k + 1, and so on, n of them
abbrev pub ascending : ℕ → ℕ → List ℕ
ascending zero k = []
ascending (suc n) k = k ∷ ascending n (suc k)

-- the n numbers below n, from the highest down to 0
abbrev pub descending : ℕ → List ℕ
descending zero = []
descending (suc n) = n ∷ descending n

-- Check values: of no bytes; of "123456789", by which catalogues of CRCs name this one; and those of RFC 3720, appendix B.4, which prints their
-- bytes lowest first.
pub record Published : Type 0 where
  pub nothing : checksum [] ≡ 0
  pub digits : checksum (ascending 9 49) ≡ 0xE3069283
  pub zeros : checksum (replicate 32 0) ≡ 0x8A9136AA
  pub ones : checksum (replicate 32 255) ≡ 0x62A8AB43
  pub up : checksum (ascending 32 0) ≡ 0x46DD794E
  pub down : checksum (descending 32) ≡ 0x113FDB5C
  -- a read command of 48 bytes
  pub command :
      checksum
      (0x01 ∷ 0xC0 ∷ 0 ∷ 0 ∷ 0 ∷ 0 ∷ 0 ∷ 0 ∷ 0 ∷ 0 ∷ 0 ∷ 0 ∷ 0 ∷ 0 ∷ 0 ∷ 0
      ∷ 0x14 ∷ 0 ∷ 0 ∷ 0 ∷ 0 ∷ 0 ∷ 0x04 ∷ 0 ∷ 0 ∷ 0 ∷ 0 ∷ 0x14 ∷ 0 ∷ 0 ∷ 0 ∷ 0x18
      ∷ 0x28 ∷ 0 ∷ 0 ∷ 0 ∷ 0 ∷ 0 ∷ 0 ∷ 0 ∷ 0x02 ∷ 0 ∷ 0 ∷ 0 ∷ 0 ∷ 0 ∷ 0 ∷ 0 ∷ [])
      ≡ 0xD9963A56

-- A slice may come in pieces, cut between any two bytes.
pub record Pieces : Type 0 where
  pub begun : (s : List ℕ) → checksum s ≡ continued 0 s
  pub further : (a b : List ℕ) → checksum (a ++ b) ≡ continued (checksum a) b
  pub onward : (c : ℕ) (a b : List ℕ) → continued c (a ++ b) ≡ continued (continued c a) b

-- A checksum is 32 bits wide.
abbrev pub Width : Type 0
Width = (s : List ℕ) → checksum s < 2 ^ 32

-- Every number of 32 bits is the checksum of four bytes, and of no other four. So `Pieces` says what `continued` gives for every such number.
pub record Four (c : ℕ) : Type 0 where
  pub four : List ℕ
  pub bytes : Bytes four
  pub many : length four ≡ 4
  pub sum : checksum four ≡ c
  pub alone : (s : List ℕ) → Bytes s → length s ≡ 4 → checksum s ≡ c → s ≡ four

abbrev pub Reached : Type 0
Reached = (c : ℕ) → c < 2 ^ 32 → Four c

-- A change within 32 bits in a row is noticed: bytes s and t, of one length, that differ only in bits k to k + 31 (bits 0 to 7 are those of the
-- first byte, from its lowest up, bits 8 to 15 those of the second) and have the same checksum are the same.
abbrev pub Noticed : Type 0
Noticed =
    (s t : List ℕ) → Bytes s → Bytes t → length s ≡ length t
    → (k d : ℕ) → d < 2 ^ 32 → bit_xor (le s) (le t) ≡ d * 2 ^ k
    → checksum s ≡ checksum t → s ≡ t

-- Nor does a change within four bytes in a row go unnoticed, wherever they are: x and y, of one length, between the same bytes.
abbrev pub FourBytes : Type 0
FourBytes =
    (a x y b : List ℕ) → Bytes x → Bytes y → length x ≡ length y → length x ≤ 4
    → checksum (a ++ (x ++ b)) ≡ checksum (a ++ (y ++ b)) → x ≡ y

-- But one within 33 bits may: five bytes that are the polynomial with all its powers, and five zeros.
abbrev pub Unnoticed : Type 0
Unnoticed = checksum (0xF1 ∷ 0x76 ∷ 0xEC ∷ 0x05 ∷ 0x01 ∷ []) ≡ checksum (replicate 5 0)
