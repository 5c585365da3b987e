-- Laws of little-endian numbers, over any number of bytes.
use Prim.Native.Nat.{ℕ, zero, suc, ◌+◌, ◌*◌, ◌/◌, ◌%◌, ◌^◌, ◌≤◌, ◌<◌}
use mathlib.Core.Path.{◌≡◌, refl, sym, ap, ◌∙◌}
use mathlib.Core.List.{List, [], ◌∷◌, ◌++◌}
use native.Mathlib.Nat.{mod-lt, mod-eq_of_lt, mod-mod, pow-suc, pow-le-pow_right, lt_of_lt_of_le, mul_comm, mul_assoc, zero-div, div-one, div-div-eq-div-mul, not-suc-le-zero, le_of_suc-le-suc}
use native.Mathlib.Omega.{arith}
use lib.Dec.{lit<}
use lib.ListN.{length, get_or, drop}
use lib.Seq.{drop-cons}
use lib.Arith.{mod-mul}
use Rattle.endian.specs.Bytes.{le, to_le, Bytes}

byte : (b : ℕ) → b % 256 < 256
byte b = mod-lt b (lit< tt)

pow_pos : (n : ℕ) → 0 < 256 ^ n
pow_pos zero = lit< tt
pow_pos (suc n) = rw pow-suc (omega (arith, pow_pos n))

-- n bytes make a number below 256 ^ n
pub le_below : (s : List ℕ) → le s < 256 ^ length s
unfolding le
le_below [] = lit< tt
le_below (b ∷ bs) = rw pow-suc (omega (arith, le_below bs, byte b))

-- the same where only a bound on the number of bytes is known
pub le_bound : (s : List ℕ) (n : ℕ) → length s ≤ n → le s < 256 ^ n
le_bound s n h = lt_of_lt_of_le (le_below s) (pow-le-pow_right (lit< tt) h)

pub le-nil : le [] ≡ 0
unfolding le
le-nil = refl

pub le-cons : (b : ℕ) (s : List ℕ) → le (b ∷ s) ≡ b % 256 + 256 * le s
unfolding le
le-cons b s = refl

-- the number of what is left, by its first byte and what is left after that
pub le-drop : (s : List ℕ) (i : ℕ) → i < length s → get_or s i 0 < 256 → le (drop i s) ≡ le (drop (i + 1) s) * 256 + get_or s i 0
le-drop s i h b = rw (drop-cons s i 0 h, le-cons, native.Mathlib.Numerals.add-one i, mod-eq_of_lt b) (omega arith)

pub to_le-zero : (v : ℕ) → to_le 0 v ≡ []
unfolding to_le
to_le-zero v = refl

pub to_le-suc : (n v : ℕ) → to_le (suc n) v ≡ v % 256 ∷ to_le n (v / 256)
unfolding to_le
to_le-suc n v = refl

pub length-to_le : (n v : ℕ) → length (to_le n v) ≡ n
unfolding to_le
length-to_le zero v = refl
length-to_le (suc n) v = ap suc (length-to_le n (v / 256))

-- n bytes hold the lowest bytes of v
pub le-to_le-mod : (n v : ℕ) → le (to_le n v) ≡ v % 256 ^ n
unfolding le to_le
le-to_le-mod zero v = sym (native.Mathlib.Nat.mod-one v)
le-to_le-mod (suc n) v =
    rw (pow-suc, mod-mul v (pow_pos n) (lit< tt), ← le-to_le-mod n (v / 256), mod-mod) (omega arith)

-- reading what was written
pub le-to_le : (n v : ℕ) → v < 256 ^ n → le (to_le n v) ≡ v
le-to_le n v h = le-to_le-mod n v ∙ mod-eq_of_lt h

low : (x y : ℕ) → x < 256 → (x + 256 * y) % 256 ≡ x
low x y h = omega arith

high : (x y : ℕ) → x < 256 → (x + 256 * y) / 256 ≡ y
high x y h = omega arith

-- writing what was read
pub to_le-le : (s : List ℕ) → Bytes s → to_le (length s) (le s) ≡ s
unfolding le to_le
to_le-le [] b = refl
to_le-le (x ∷ xs) b =
    rw (low (x % 256) (le xs) (byte x), high (x % 256) (le xs) (byte x), mod-eq_of_lt (b 0), to_le-le xs (λ i. b (suc i)))

-- digit i + 1 of a number is digit i of what is left without its lowest
higher : (v i : ℕ) → v / 256 ^ suc i % 256 ≡ v / 256 / 256 ^ i % 256
higher v i =
    ap (λ (z : ℕ). v / z % 256) (pow-suc 256 i ∙ mul_comm (256 ^ i) 256) ∙ ap (λ (z : ℕ). z % 256) (sym (div-div-eq-div-mul v 256 (256 ^ i)))

-- the byte at place i is digit i, of what is read and of what is written
pub le-digit : (s : List ℕ) → Bytes s → (i : ℕ) → le s / 256 ^ i % 256 ≡ get_or s i 0
unfolding le
le-digit [] b i = ap (λ (z : ℕ). z % 256) (zero-div (256 ^ i))
le-digit (x ∷ xs) b zero = rw (div-one, low (x % 256) (le xs) (byte x)) (mod-eq_of_lt (b 0))
le-digit (x ∷ xs) b (suc i) =
    higher (x % 256 + 256 * le xs) i
    ∙ (ap (λ (z : ℕ). z / 256 ^ i % 256) (high (x % 256) (le xs) (byte x)) ∙ le-digit xs (λ j. b (suc j)) i)

pub to_le-digit : (n v i : ℕ) → i < n → get_or (to_le n v) i 0 ≡ v / 256 ^ i % 256
unfolding to_le
to_le-digit zero v i h = absurd (not-suc-le-zero h)
to_le-digit (suc n) v zero h = sym (ap (λ (z : ℕ). z % 256) (div-one v))
to_le-digit (suc n) v (suc i) h = to_le-digit n (v / 256) i (le_of_suc-le-suc h) ∙ sym (higher v i)

mul_shuffle : (p x : ℕ) → p * 256 * x ≡ 256 * (p * x)
mul_shuffle p x = rw (mul_comm p 256, mul_assoc 256 p x)

-- bytes that follow each other
pub le-append : (a b : List ℕ) → le (a ++ b) ≡ le a + 256 ^ length a * le b
unfolding le
le-append [] b = omega arith
le-append (x ∷ xs) b = rw (le-append xs b, pow-suc) (omega (arith, mul_shuffle (256 ^ length xs) (le b)))

pub to_le_bytes : (n v : ℕ) → Bytes (to_le n v)
unfolding to_le
to_le_bytes zero v i = lit< tt
to_le_bytes (suc n) v zero = byte v
to_le_bytes (suc n) v (suc i) = to_le_bytes n (v / 256) i
