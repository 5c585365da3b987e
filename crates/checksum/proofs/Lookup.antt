-- From single bits to table lookup, several at a time.
use Prim.Native.Nat.{ℕ, ◌+◌, ◌*◌, ◌/◌, ◌%◌, ◌^◌, ◌<◌}
use mathlib.Core.Path.{◌≡◌, refl, sym, ap, ap₂, ◌∙◌}
use mathlib.Core.List.{List}
use native.Mathlib.Nat.{mod-lt, mod-eq_of_lt, div-div-eq-div-mul, zero-add}
use native.Mathlib.Omega.{arith}
use lib.ListN.{length}
use lib.Pow.{split, pow_pos}
use lib.Bits.{bit_xor, xor_comm, xor_block, xor_lt, xor_zero_l}
use Rattle.endian.specs.Bytes.{le, window}
use Rattle.endian.proofs.Numbers.{le-append, le_bound}
use Rattle.endian.proofs.Parts.{window-append, length-window, length-window-fits, window_rest}
use Rattle.shifts.specs.Shifts.{shifts}
use Rattle.checksum.specs.Crc.{absorb, register}
use Rattle.shifts.proofs.Laws.{shifts_none, shifts_split}
use Rattle.checksum.proofs.Laws.{register-le, absorb-shifts}

-- the lowest k bits, then the others
more : (k n x y a rest : ℕ) → x / 2 ^ k ≡ y → a ≡ shifts (k + n) (x % 2 ^ k) → shifts n y ≡ rest → shifts (k + n) x ≡ bit_xor a rest
more k n x y a rest f p q =
    ap (shifts (k + n)) (sym (split x k))
    ∙ (shifts_split k n (x % 2 ^ k) (x / 2 ^ k) (mod-lt x (pow_pos k))
    ∙ (xor_comm (shifts n (x / 2 ^ k)) (shifts (k + n) (x % 2 ^ k)) ∙ ap₂ bit_xor (sym p) (ap (shifts n) f ∙ q)))

-- all 32 bits of x, byte by byte, with n bits behind each of them
pub word_law : (n x : ℕ) → x < 2 ^ 32 → (a b c d : ℕ)
    → a ≡ shifts (8 + (8 + (8 + (8 + n)))) (x % 256) → b ≡ shifts (8 + (8 + (8 + n))) (x / 256 % 256)
    → c ≡ shifts (8 + (8 + n)) (x / 65536 % 256) → d ≡ shifts (8 + n) (x / 16777216 % 256)
    → bit_xor a (bit_xor b (bit_xor c d)) ≡ shifts (8 + (8 + (8 + (8 + n)))) x
word_law n x h a b c d pa pb pc pd =
    sym
    (more 8 (8 + (8 + (8 + n))) x (x / 256) a _ refl pa
    (more 8 (8 + (8 + n)) (x / 256) (x / 65536) b _ (div-div-eq-div-mul x 256 256) pb
    (more 8 (8 + n) (x / 65536) (x / 16777216) c d (div-div-eq-div-mul x 65536 256) pc
    (sym (pd ∙ ap (shifts (8 + n)) (mod-eq_of_lt (omega arith)))))))

-- one byte
pub one_law : (c b x p q : ℕ) → b < 256 → x ≡ bit_xor c b → p ≡ shifts 8 (x % 16) → q ≡ shifts 4 (x / 16 % 16)
    → bit_xor p (bit_xor q (x / 256)) ≡ absorb c b
one_law c b x p q h e f g =
    sym
    (absorb-shifts c b
    ∙ (ap (λ (y : ℕ). shifts 8 (bit_xor c y)) (mod-eq_of_lt h)
    ∙ (ap (shifts 8) (sym e)
    ∙ more 4 4 x (x / 16) p _ refl f (more 4 0 (x / 16) (x / 256) q (x / 256) (div-div-eq-div-mul x 16 16) g (shifts_none (x / 256))))))

-- eight bytes: the first four with the register, the others by themselves
pub eight_law : (c : ℕ) (s : List ℕ) (x : ℕ) → c < 2 ^ 32 → length s ≡ 8 → x ≡ bit_xor c (le (window s 0 4))
    → bit_xor (shifts 64 x) (shifts 32 (le (window s 4 4))) ≡ register c s
eight_law c s x hc h e =
    let lo : ℕ = le (window s 0 4) in
    let hi : ℕ = le (window s 4 4) in
    let hl : lo < 2 ^ 32 = le_bound (window s 0 4) 4 (length-window s 0 4) in
    let l : length (window s 0 4) ≡ 4 = length-window-fits s 0 4 (omega arith) in
    let v : le s ≡ hi * 4294967296 + lo =
    ap le (sym (window_rest s 0 8 (omega arith)) ∙ window-append s 0 4 4)
    ∙ (le-append (window s 0 4) (window s 4 4) ∙ (ap (λ (k : ℕ). lo + 256 ^ k * hi) l ∙ omega arith)) in
    let w : bit_xor c (hi * 4294967296 + lo) ≡ hi * 4294967296 + x =
    ap (λ (y : ℕ). bit_xor y (hi * 4294967296 + lo)) (sym (zero-add c))
    ∙ (xor_block 32 0 hi c lo hc hl ∙ ap₂ (λ (p q : ℕ). p * 4294967296 + q) (xor_zero_l hi) (sym e)) in
    sym
    (register-le s c
    ∙ (ap₂ (λ (k y : ℕ). shifts (8 * k) (bit_xor c y)) h v
    ∙ (ap (shifts 64) w ∙ (shifts_split 32 32 x hi (rw e (xor_lt 32 c lo hc hl)) ∙ xor_comm (shifts 32 hi) (shifts 64 x)))))
