-- What holds of the words, in other terms. `proofs/Demand.antt` proves it.
use Rattle.std.specs.Prelude.{ℕ, ◌≤◌, ◌<◌, ◌≡◌, Bool, true, ◌&&◌, leb, length, take}
use Rattle.endian.specs.Bytes.{all_pass}
use Rattle.refusal.specs.Words.{known, line_of, most_bytes, words_of}

-- an ASCII character that can be printed, or a blank
abbrev pub is_printed : ℕ → Bool
is_printed c = leb 32 c && leb c 126

-- Every number says something, in printable characters that fit with a zero after them, and a caller reads just that. No two known numbers say the same, nor
-- do a known one and one that is not; those that are not known all say the same.
pub record Saying : Type 0 where
  pub some : (n : ℕ) → 0 < length (line_of n)
  pub room : (n : ℕ) → length (line_of n) < most_bytes
  pub printed : (n : ℕ) → all_pass is_printed (line_of n) ≡ true
  pub read : (n : ℕ) → take (words_of n).used (words_of n).bytes ≡ line_of n
  pub whole : (n : ℕ) → length (words_of n).bytes ≡ most_bytes
  pub apart : (m n : ℕ) → m < known → m < n → line_of m ≡ line_of n → ⊥
  pub rest : (m n : ℕ) → known ≤ m → known ≤ n → line_of m ≡ line_of n
