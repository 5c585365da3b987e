-- Lists of bytes: the number that bytes make, the bytes of a number, a part of a list, a list laid over another.
-- Where an element is read as a byte it is taken as `b % 256`, so that each definition has a value at every list.
use Rattle.std.specs.Prelude.{ℕ, zero, suc, ◌+◌, ◌*◌, ◌/◌, ◌%◌, ◌<◌, Bool, true, false, cond, ◌&&◌, List, [], ◌∷◌, ◌++◌, leb, eqb, length, get_or, take, drop, replicate}

-- the number whose bytes, lowest first, are the list's
unfoldable pub le : List ℕ → ℕ
le [] = 0
le (b ∷ bs) = b % 256 + 256 * le bs

-- the n lowest bytes of v, lowest first
unfoldable pub to_le : ℕ → ℕ → List ℕ
to_le zero v = []
to_le (suc n) v = v % 256 ∷ to_le n (v / 256)

-- the n elements of s from place `at` on, or as many of them as there are
unfoldable pub window : List ℕ → ℕ → ℕ → List ℕ
window s at n = take n (drop at s)

-- n elements from place `at` on lie within s
unfoldable pub fits : List ℕ → ℕ → ℕ → Bool
fits s at n = leb (at + n) (length s)

-- s with v laid over it from place `at` on; s itself where v does not fit there
unfoldable pub splice : List ℕ → ℕ → List ℕ → List ℕ
splice s at v = cond (fits s at (length v)) (take at s ++ (v ++ drop (at + length v) s)) s

-- what a write of n elements at place `at` of s answers: 0, or number 1 where they do not fit
unfoldable pub write_number : List ℕ → ℕ → ℕ → ℕ
write_number s at n = cond (fits s at n) 0 1

-- each element of s is a byte
abbrev pub Bytes : List ℕ → Type 0
Bytes s = (i : ℕ) → get_or s i 0 < 256

-- the two lists are the same
unfoldable pub same : List ℕ → List ℕ → Bool
same [] [] = true
same [] (y ∷ ys) = false
same (x ∷ xs) [] = false
same (x ∷ xs) (y ∷ ys) = eqb x y && same xs ys

-- each element passes the test p
unfoldable pub all_pass : (ℕ → Bool) → List ℕ → Bool
all_pass p [] = true
all_pass p (x ∷ xs) = p x && all_pass p xs

-- n zeros
unfoldable pub zeros : ℕ → List ℕ
zeros n = replicate n 0
