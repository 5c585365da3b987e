-- The laws that callers cite: the checksum in pieces, and its width.
use Prim.Native.Nat.{ℕ, zero, suc, ◌+◌, ◌*◌, ◌%◌, ◌^◌, ◌≤◌, ◌<◌}
use mathlib.Core.Path.{◌≡◌, refl, sym, ap, ◌∙◌}
use mathlib.Core.List.{List, [], ◌∷◌, ◌++◌, append_assoc, flatten}
use native.Mathlib.Nat.{mod-lt, lt_of_lt_of_le, suc-mul}
use native.Mathlib.Omega.{arith}
use lib.Dec.{lit<, lit≤}
use native.Mathlib.Numerals.{add-one}
use lib.ListN.{length, get_or, take, drop, take-append-drop, drop_of_length-le}
use lib.Seq.{drop-cons, drop-drop}
use lib.Bits.{bit_xor, xor_comm, xor_zero_r, xor_self, xor_lt, xor_shifted}
use Rattle.std.specs.Simd.{first_chunks}
use Rattle.endian.specs.Bytes.{le}
use Rattle.endian.proofs.Numbers.{le-nil, le-cons}
use Rattle.shifts.specs.Shifts.{shifts}
use Rattle.checksum.specs.Crc.{absorb, register, invert, checksum, continued}
use Rattle.shifts.proofs.Xor.{xor_assoc}
use Rattle.shifts.proofs.Laws.{shifts_none, shifts-xor, shifts-add, shifts_scaled, shifts-below}

pub register-nil : (c : ℕ) → register c [] ≡ c
unfolding register
register-nil c = refl

pub register-append : (c : ℕ) (a b : List ℕ) → register c (a ++ b) ≡ register (register c a) b
unfolding register
register-append c [] b = refl
register-append c (x ∷ xs) b = register-append (absorb c x) xs b

register-cons : (c b : ℕ) (s : List ℕ) → register c (b ∷ s) ≡ register (absorb c b) s
unfolding register
register-cons c b s = refl

-- one byte, then the others
pub register-drop : (c : ℕ) (s : List ℕ) (i : ℕ) → i < length s → register c (drop i s) ≡ register (absorb c (get_or s i 0)) (drop (i + 1) s)
register-drop c s i h =
    ap (register c) (drop-cons s i 0 h)
    ∙ (register-cons c (get_or s i 0) (drop (suc i) s) ∙ ap (λ (k : ℕ). register (absorb c (get_or s i 0)) (drop k s)) (sym (add-one i)))

-- the chunks of n bytes, then the others, are all bytes
pub chunks-rest : (n k : ℕ) (s : List ℕ) → flatten (first_chunks n k s) ++ drop (k * n) s ≡ s
unfolding flatten
chunks-rest n zero s = ap (λ (m : ℕ). drop m s) (let e : 0 * n ≡ 0 = omega arith in e)
chunks-rest n (suc k) s =
    let e : suc k * n ≡ n + k * n = rw suc-mul (omega arith) in
    append_assoc (take n s) (flatten (first_chunks n k (drop n s))) (drop (suc k * n) s)
    ∙ (ap (λ (l : List ℕ). take n s ++ (flatten (first_chunks n k (drop n s)) ++ l)) (ap (λ (m : ℕ). drop m s) e ∙ sym (drop-drop (k * n) n s))
    ∙ (ap (λ (l : List ℕ). take n s ++ l) (chunks-rest n k (drop n s)) ∙ take-append-drop n s))

-- one chunk, then the others and t
pub register-chunk : (c : ℕ) (es : List (List ℕ)) (i : ℕ) (t : List ℕ) → i < length es
    → register c (flatten (drop i es) ++ t) ≡ register (register c (get_or es i [])) (flatten (drop (i + 1) es) ++ t)
unfolding flatten
register-chunk c es i t h =
    rw (drop-cons es i [] h, add-one i)
    (ap (register c) (append_assoc (get_or es i []) (flatten (drop (suc i) es)) t)
    ∙ register-append c (get_or es i []) (flatten (drop (suc i) es) ++ t))

-- all chunks are passed
pub register-chunks : (c : ℕ) (es : List (List ℕ)) (i : ℕ) (t : List ℕ) → length es ≤ i → register c (flatten (drop i es) ++ t) ≡ register c t
unfolding flatten
register-chunks c es i t h = rw (drop_of_length-le es h)

-- all bytes are passed
pub register-end : (c : ℕ) (s : List ℕ) (i : ℕ) → length s ≤ i → register c (drop i s) ≡ c
register-end c s i h = ap (register c) (drop_of_length-le s h) ∙ register-nil c

pub absorb-shifts : (c b : ℕ) → absorb c b ≡ shifts 8 (bit_xor c (b % 256))
unfolding absorb
absorb-shifts c b = refl

-- eight bits leave, with more bytes behind them
absorbed : (c w l : ℕ) → w < 256 → shifts 8 (bit_xor c (w + 256 * l)) ≡ bit_xor (shifts 8 (bit_xor c w)) l
absorbed c w l h =
    let f : w + 256 * l ≡ l * 256 + w = omega arith in
    ap (λ (x : ℕ). shifts 8 (bit_xor c x)) (f ∙ (sym (xor_shifted l 8 w h) ∙ xor_comm (l * 256) w))
    ∙ (ap (shifts 8) (sym (xor_assoc c w (l * 256)))
    ∙ (shifts-xor 8 (bit_xor c w) (l * 256) ∙ ap (bit_xor (shifts 8 (bit_xor c w))) (shifts_scaled 8 l)))

-- as one number: all bytes are added to the register, then all their bits leave it
pub register-le : (s : List ℕ) (c : ℕ) → register c s ≡ shifts (8 * length s) (bit_xor c (le s))
register-le [] c = register-nil c ∙ (sym (xor_zero_r c) ∙ (ap (bit_xor c) (sym le-nil) ∙ sym (shifts_none (bit_xor c (le [])))))
register-le (b ∷ bs) c =
    let f : 8 + 8 * length bs ≡ 8 * suc (length bs) = omega arith in
    register-cons c b bs
    ∙ (register-le bs (absorb c b)
    ∙ (ap (shifts (8 * length bs))
    (ap (λ (x : ℕ). bit_xor x (le bs)) (absorb-shifts c b)
    ∙ (sym (absorbed c (b % 256) (le bs) (mod-lt b (lit< tt))) ∙ ap (λ (x : ℕ). shifts 8 (bit_xor c x)) (sym (le-cons b bs))))
    ∙ (sym (shifts-add 8 (8 * length bs) (bit_xor c (le (b ∷ bs)))) ∙ ap (λ (n : ℕ). shifts n (bit_xor c (le (b ∷ bs)))) f)))

absorb-below : (c b : ℕ) → c < 2 ^ 32 → absorb c b < 2 ^ 32
absorb-below c b h =
    rw (absorb-shifts c b)
    (shifts-below 8 (bit_xor c (b % 256))
    (xor_lt 32 c (b % 256) h (lt_of_lt_of_le (mod-lt b (lit< tt)) (lit≤ tt))))

pub register-below : (c : ℕ) (s : List ℕ) → c < 2 ^ 32 → register c s < 2 ^ 32
register-below c [] h = rw (register-nil c) h
register-below c (b ∷ bs) h = rw (register-cons c b bs) (register-below (absorb c b) bs (absorb-below c b h))

invert-below : (c : ℕ) → c < 2 ^ 32 → invert c < 2 ^ 32
unfolding invert
invert-below c h = xor_lt 32 c 0xFFFF_FFFF h (lit< tt)

pub invert-twice : (c : ℕ) → invert (invert c) ≡ c
unfolding invert
invert-twice c = xor_assoc c 0xFFFF_FFFF 0xFFFF_FFFF ∙ (ap (bit_xor c) (xor_self 0xFFFF_FFFF) ∙ xor_zero_r c)

-- a checksum is 32 bits wide
pub checksum-below : (s : List ℕ) → checksum s < 2 ^ 32
unfolding checksum
checksum-below s = invert-below _ (register-below _ s (lit< tt))

pub continued-below : (c : ℕ) (s : List ℕ) → c < 2 ^ 32 → continued c s < 2 ^ 32
unfolding continued
continued-below c s h = invert-below (register (invert c) s) (register-below (invert c) s (invert-below c h))

-- begun at the checksum of no bytes
pub checksum-continued : (s : List ℕ) → checksum s ≡ continued 0 s
unfolding checksum continued invert
checksum-continued s = refl

pub continued-nil : (c : ℕ) → continued c [] ≡ c
unfolding continued
continued-nil c = ap invert (register-nil (invert c)) ∙ invert-twice c

-- two pieces, one after the other
pub continued-append : (c : ℕ) (a b : List ℕ) → continued c (a ++ b) ≡ continued (continued c a) b
unfolding continued
continued-append c a b =
    ap invert (register-append (invert c) a b ∙ ap (λ (x : ℕ). register x b) (sym (invert-twice (register (invert c) a))))

-- the checksum of a ++ b is that of b from where a ended
pub checksum-append : (a b : List ℕ) → checksum (a ++ b) ≡ continued (checksum a) b
checksum-append a b =
    checksum-continued (a ++ b) ∙ (continued-append 0 a b ∙ ap (λ (x : ℕ). continued x b) (sym (checksum-continued a)))
