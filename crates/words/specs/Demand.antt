-- What holds of the words, in other terms. `proofs/Demand.antt` proves it.
use Rattle.std.specs.Prelude.{Some, None, ℕ, ◌+◌, ◌-◌, ◌*◌, ◌^◌, ◌≤◌, ◌<◌, ◌≡◌, true, cond, ◌&&◌, ◌⊎◌, List, [], ◌∷◌, ◌++◌, map, leb, length}
use Rattle.refusal.specs.Words.{ascii}
use Rattle.endian.specs.Bytes.{all_pass}
use Rattle.text.specs.Decimal.{decimal, value, is_digit}
use Rattle.block.specs.Block.{is_hex}
use Rattle.words.specs.Words.{number_of, sectors_of, kind_of, lower, uuid_of}

-- Every number of 64 bits is read back from its decimal digits.
abbrev pub ReadBack : Type 0
ReadBack = (n : ℕ) → n < 2 ^ 64 → number_of (decimal n) ≡ Some n

-- A word that says a number is that number's digits, leading zeros or none.
abbrev pub DigitsAlone : Type 0
DigitsAlone = (s : List ℕ) (n : ℕ) → number_of s ≡ Some n → (0 < length s) × (all_pass is_digit s ≡ true) × (value s ≡ n) × (n < 2 ^ 64)

-- Every word of digits says the number that they make, leading zeros or none, where it is below 2^64, and else nothing.
-- No other word says a number.
pub record Numbers : Type 0 where
  -- digits of a number below 2^64 say it
  pub below : (s : List ℕ) → 0 < length s → all_pass is_digit s ≡ true → value s < 2 ^ 64 → number_of s ≡ Some (value s)
  -- digits of any other say nothing
  pub above : (s : List ℕ) → 0 < length s → all_pass is_digit s ≡ true → 2 ^ 64 ≤ value s → number_of s ≡ None
  -- a zero in front changes nothing
  pub leading : (s : List ℕ) → 0 < length s → number_of (48 ∷ s) ≡ number_of s
  -- nothing but digits says a number
  pub only : DigitsAlone

-- A number is a size in sectors, and with K, M, G or T behind it twice, 2^11, 2^21 or 2^31 times as many, where they fit.
abbrev pub Sizes : Type 0
Sizes =
    ((n : ℕ) → n < 2 ^ 64 → sectors_of (decimal n) ≡ Some n)
    × ((n : ℕ) → n * 2 < 2 ^ 64 → sectors_of (decimal n ++ (75 ∷ [])) ≡ Some (n * 2))
    × ((n : ℕ) → n * 2 ^ 11 < 2 ^ 64 → sectors_of (decimal n ++ (77 ∷ [])) ≡ Some (n * 2 ^ 11))
    × ((n : ℕ) → n * 2 ^ 21 < 2 ^ 64 → sectors_of (decimal n ++ (71 ∷ [])) ≡ Some (n * 2 ^ 21))
    × ((n : ℕ) → n * 2 ^ 31 < 2 ^ 64 → sectors_of (decimal n ++ (84 ∷ [])) ≡ Some (n * 2 ^ 31))

-- a word of the digits d and the letter c behind them, which says x, as many units of u sectors as the digits say
pub record Lettered (s : List ℕ) (x : ℕ) (d : List ℕ) (c u : ℕ) : Type 0 where
  pub word : s ≡ d ++ (c ∷ [])
  pub says : x ≡ value d * u

-- a word that is a size of x sectors: digits alone, or digits and one of the letters K, M, G and T
pub record Size (s : List ℕ) (x : ℕ) : Type 0 where
  pub d : List ℕ
  pub some : 0 < length d
  pub digits : all_pass is_digit d ≡ true
  pub form :
      ((s ≡ d) × (x ≡ value d))
      ⊎ (Lettered s x d 75 2 ⊎ (Lettered s x d 77 (2 ^ 11) ⊎ (Lettered s x d 71 (2 ^ 21) ⊎ Lettered s x d 84 (2 ^ 31))))
  pub below : x < 2 ^ 64

-- The sizes are exactly these: no other letter, nothing in front, leading zeros or none, and no product is cut to 64 bits.
pub record SizesOnly : Type 0 where
  -- a word that is read is a size, of so many sectors
  pub only : (s : List ℕ) (x : ℕ) → sectors_of s ≡ Some x → Size s x
  -- a size is read, and as that
  pub every : (s : List ℕ) (x : ℕ) → Size s x → sectors_of s ≡ Some x

-- a word that names kind k: its name or its digit
abbrev pub Names : List ℕ → ℕ → Type 0
Names s k =
    ((k ≡ 1) × ((s ≡ ascii "thin-metadata") ⊎ (s ≡ ascii "1")))
    ⊎ (((k ≡ 2) × ((s ≡ ascii "thin-data") ⊎ (s ≡ ascii "2")))
    ⊎ (((k ≡ 3) × ((s ≡ ascii "spare") ⊎ (s ≡ ascii "3")))
    ⊎ ((k ≡ 4) × ((s ≡ ascii "metadata-volume") ⊎ (s ≡ ascii "4")))))

-- The four names and the four digits are kinds 1 to 4, and every other word is none.
pub record Kinds : Type 0 where
  -- the name and the digit of a kind say it
  pub named : (s : List ℕ) (k : ℕ) → Names s k → kind_of s ≡ Some k
  -- a word that says a kind is its name or its digit
  pub only : (s : List ℕ) (k : ℕ) → kind_of s ≡ Some k → Names s k
  -- a word that names none says none
  pub other : (s : List ℕ) → ((k : ℕ) → Names s k → ⊥) → kind_of s ≡ None

-- 32 hex digits in small letters come back as they are, also where dashes stand between them.
abbrev pub Digits : Type 0
Digits =
    (s : List ℕ) → length s ≡ 32 → all_pass is_hex s ≡ true → uuid_of s ≡ Some s

abbrev pub Dashes : Type 0
Dashes =
    (a b c d e : List ℕ) → length a ≡ 8 → length b ≡ 4 → length c ≡ 4 → length d ≡ 4 → length e ≡ 12
    → uuid_of (a ++ (45 ∷ (b ++ (45 ∷ (c ++ (45 ∷ (d ++ (45 ∷ e)))))))) ≡ uuid_of (a ++ (b ++ (c ++ (d ++ e))))

-- a word of five parts with four dashes between them, of 8, 4, 4, 4 and 12 characters, and what is left without the dashes
pub record Form (s j : List ℕ) : Type 0 where
  pub a : List ℕ
  pub b : List ℕ
  pub c : List ℕ
  pub d : List ℕ
  pub e : List ℕ
  pub long_a : length a ≡ 8
  pub long_b : length b ≡ 4
  pub long_c : length c ≡ 4
  pub long_d : length d ≡ 4
  pub long_e : length e ≡ 12
  pub word : s ≡ a ++ (45 ∷ (b ++ (45 ∷ (c ++ (45 ∷ (d ++ (45 ∷ e)))))))
  pub left : j ≡ a ++ (b ++ (c ++ (d ++ e)))

-- a word that says the UUID u: 32 small hex digits, which are the word's own or those of its form, in small letters
pub record Says (s u : List ℕ) : Type 0 where
  pub long : length u ≡ 32
  pub hex : all_pass is_hex u ≡ true
  pub own : (u ≡ map lower s) ⊎ ((j : List ℕ) × Form s j × (u ≡ map lower j))

-- a small letter a to f as a capital
abbrev pub upper : ℕ → ℕ
upper c = cond (leb 97 c && leb c 102) (c - 32) c

-- The UUIDs are exactly these.
pub record Uuids : Type 0 where
  -- a UUID that is given is one that the word says
  pub only : (s u : List ℕ) → uuid_of s ≡ Some u → Says s u
  -- a UUID that a word says is given
  pub every : (s u : List ℕ) → Says s u → uuid_of s ≡ Some u
  -- where the word says none, none is given
  pub none : (s : List ℕ) → ((u : List ℕ) → Says s u → ⊥) → uuid_of s ≡ None
  -- a word in capitals says the same
  pub capitals : (s : List ℕ) → uuid_of (map upper s) ≡ uuid_of s
  -- small means: A to F are a to f, and every other character is as it was
  pub small : (c : ℕ) → 65 ≤ c → c ≤ 70 → lower c ≡ c + 32
  pub below : (c : ℕ) → c < 65 → lower c ≡ c
  pub above : (c : ℕ) → 70 < c → lower c ≡ c
