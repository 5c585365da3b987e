-- The words of each refusal number: the table of docs/FORMAT.md, 'Refusal numbers', line by line. Where its line names a limit's value, the words do not.
use Rattle.std.specs.Prelude.{ℕ, List, [], ◌∷◌, length, get_or}
use Prim.Native.Char.{code}
use Prim.Native.String.{String, [] as none, ◌∷◌ as ◌then◌}
use Rattle.endian.specs.Bytes.{splice, zeros}
use Rattle.refusal.specs.declared.Words.{Words}

-- 0, 1, 2 and so on
abbrev pub table : List String
table =
    "nothing is refused"
    ∷ "a lent slice has the wrong size, or is too small for the answer"
    ∷ "the 16 signature bytes differ"
    ∷ "the block's CRC differs"
    ∷ "S too small"
    ∷ "flags or a zero field not zero"
    ∷ "a UUID byte not allowed"
    ∷ "L not allowed"
    ∷ "R not allowed"
    ∷ "an area entry breaks a limit, or both used entries have one time"
    ∷ "neither copy's block is accepted"
    ∷ "both accepted; S, L, R or a UUID differ"
    ∷ "no whole record in any accepted copy"
    ∷ "the newest whole records of the two copies have one time and different bytes"
    ∷ "update time not later than the present record's"
    ∷ "record length 0 or over the limit"
    ∷ "update asked while the copies are not in step"
    ∷ "record malformed, or a kind not known"
    ∷ "a segment empty or not wholly in the data range; or 0 sectors asked for"
    ∷ "two segments share a sector"
    ∷ "no free run is long enough"
    ∷ "the record already holds the most segments"
    ∷ "no segment has that position"
    ∷ "no store has that number"
    ∷ "moving the head would lose its low water mark"
    ∷ []

-- how many numbers the table has: those below are known
abbrev pub known : ℕ
known = length table

-- any other number
abbrev pub not_known : String
not_known = "a number that is not known"

-- a text's bytes in ASCII
abbrev pub ascii : String → List ℕ
ascii none = []
ascii (c then s) = code c ∷ ascii s

-- the line of number n
unfoldable pub line_of : ℕ → List ℕ
line_of n = ascii (get_or table n not_known)

-- the most bytes that words have
abbrev pub most_bytes : ℕ
most_bytes = 80

-- words as they are answered: their bytes and then zeros, and how many they are
abbrev pub laid : List ℕ → Words
laid w = record { bytes = splice (zeros most_bytes) 0 w; used = length w }

-- the words of number n
abbrev pub words_of : ℕ → Words
words_of n = laid (line_of n)
