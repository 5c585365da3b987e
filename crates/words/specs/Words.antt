-- Words of a command line and what they say. Characters are ASCII bytes.
use Rattle.std.specs.Prelude.{Some, None, Option, ℕ, ◌+◌, ◌-◌, ◌*◌, ◌^◌, Bool, cond, ◌&&◌, ◌||◌, List, [], ◌∷◌, ◌++◌, map, leb, ltb, eqb, length, get_or, take}
use Rattle.endian.specs.Bytes.{window, same, all_pass}
use Rattle.text.specs.Decimal.{value_after, is_digit}
use Rattle.block.specs.Block.{is_hex}

-- what a decimal digit stands for
unfoldable pub digit_of : ℕ → Option ℕ
digit_of c = cond (is_digit c) (Some (c - 48)) None

-- what digits say after those that make v: their number, where it is below 2^64
unfoldable pub number_after : ℕ → List ℕ → Option ℕ
number_after v s = cond (all_pass is_digit s && ltb (value_after v s) (2 ^ 64)) (Some (value_after v s)) None

-- the number that a word says: digits alone, one at least
unfoldable pub number_of : List ℕ → Option ℕ
number_of s = cond (ltb 0 (length s)) (number_after 0 s) None

-- the sectors in the unit that a letter names, K, M, G or T: 2^10, 2^20, 2^30 or 2^40 bytes
unfoldable pub unit_of : ℕ → Option ℕ
unit_of c =
    cond (eqb c 75) (Some (2 ^ 1)) (cond (eqb c 77) (Some (2 ^ 11)) (cond (eqb c 71) (Some (2 ^ 21)) (cond (eqb c 84) (Some (2 ^ 31)) None)))

-- a number times u, where it is below 2^64
unfoldable pub times_of : ℕ → Option ℕ → Option ℕ
times_of u (Some n) = cond (ltb (n * u) (2 ^ 64)) (Some (n * u)) None
times_of u None = None

-- a word's last character, 0 where it has none
abbrev pub last : List ℕ → ℕ
last s = get_or s (length s - 1) 0

-- the sectors that a size says, given the unit that its last character names: a number of sectors, or of units
unfoldable pub size_of : List ℕ → Option ℕ → Option ℕ
size_of s (Some u) = times_of u (number_of (take (length s - 1) s))
size_of s None = number_of s

abbrev pub sectors_of : List ℕ → Option ℕ
sectors_of s = size_of s (unit_of (last s))

-- "thin-metadata", "thin-data", "spare", "metadata-volume"
abbrev pub thin_metadata : List ℕ
thin_metadata = 116 ∷ 104 ∷ 105 ∷ 110 ∷ 45 ∷ 109 ∷ 101 ∷ 116 ∷ 97 ∷ 100 ∷ 97 ∷ 116 ∷ 97 ∷ []

abbrev pub thin_data : List ℕ
thin_data = 116 ∷ 104 ∷ 105 ∷ 110 ∷ 45 ∷ 100 ∷ 97 ∷ 116 ∷ 97 ∷ []

abbrev pub spare : List ℕ
spare = 115 ∷ 112 ∷ 97 ∷ 114 ∷ 101 ∷ []

abbrev pub metadata_volume : List ℕ
metadata_volume = 109 ∷ 101 ∷ 116 ∷ 97 ∷ 100 ∷ 97 ∷ 116 ∷ 97 ∷ 45 ∷ 118 ∷ 111 ∷ 108 ∷ 117 ∷ 109 ∷ 101 ∷ []

-- the kind of a segment by its name or its number, 1 to 4
unfoldable pub kind_of : List ℕ → Option ℕ
kind_of s =
    cond (same s thin_metadata || same s (49 ∷ [])) (Some 1)
    (cond (same s thin_data || same s (50 ∷ [])) (Some 2)
    (cond (same s spare || same s (51 ∷ [])) (Some 3) (cond (same s metadata_volume || same s (52 ∷ [])) (Some 4) None)))

-- a dash at place i
unfoldable pub dash : List ℕ → ℕ → Bool
dash s i = eqb (get_or s i 0) 45

-- 36 characters, with a dash where the form 8-4-4-4-12 has one
unfoldable pub dashed : List ℕ → Bool
dashed s = eqb (length s) 36 && ((dash s 8 && dash s 13) && (dash s 18 && dash s 23))

-- what that form has between its dashes
unfoldable pub joined : List ℕ → List ℕ
joined s = window s 0 8 ++ window s 9 4 ++ window s 14 4 ++ window s 19 4 ++ window s 24 12

-- a word with its dashes taken out
unfoldable pub undashed : List ℕ → List ℕ
undashed s = cond (dashed s) (joined s) s

-- a capital A to F small
unfoldable pub lower : ℕ → ℕ
lower c = cond (leb 65 c && leb c 70) (c + 32) c

-- the UUID of 32 characters, where all are hex digits
unfoldable pub hex_uuid : List ℕ → Option (List ℕ)
hex_uuid d = cond (all_pass is_hex d) (Some d) None

-- the UUID that a word says: 32 hex digits, with dashes or with none, in small letters or in capitals
unfoldable pub uuid_of : List ℕ → Option (List ℕ)
uuid_of s = cond (eqb (length (undashed s)) 32) (hex_uuid (map lower (undashed s))) None
