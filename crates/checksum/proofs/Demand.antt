-- The claims of `specs/Demand.antt`.
use Prim.Native.Nat.{ℕ, zero, suc, ◌+◌, ◌*◌, ◌-◌, ◌^◌, ◌<◌}
use mathlib.Core.Path.{◌≡◌, refl, sym, ap, ap₂, ◌∙◌}
use mathlib.Core.List.{List, ◌++◌}
use native.Mathlib.Omega.{arith}
use native.Mathlib.Decide.{dec_le}
use native.Mathlib.Nat.{mul_comm, mul-one, mul-suc, mul_assoc, zero-mul}
use lib.Dec.{lit<}
use lib.ListN.{length}
use lib.Pow.{pow-add, pow_pos}
use lib.Bits.{bit_xor, xor_comm, xor_zero_l, xor_self, xor_lt}
use Rattle.endian.specs.Bytes.{Bytes, le, to_le}
use Rattle.endian.proofs.Numbers.{length-to_le, le_bound, le-to_le, to_le-le, to_le_bytes}
use Rattle.shifts.specs.Shifts.{polynomial, shift, shifts}
use Rattle.shifts.specs.Demand.{Origin}
use Rattle.checksum.specs.Crc.{absorb, register, invert, checksum}
use Rattle.checksum.specs.Demand.{dividend, Remainder, Published, Pieces, Width, Reached, Noticed, FourBytes, Unnoticed}
use Rattle.shifts.proofs.Xor.{xor_same}
use Rattle.shifts.proofs.Laws.{regroup, shifts-xor, shifts-add, shifts_scaled, shifts-nothing}
use Rattle.shifts.proofs.Demand.{division, reversible}
use Rattle.checksum.proofs.Laws.{register-append, register-le, register-below, invert-twice, checksum-below, checksum-continued, checksum-append, continued-append}

back : (x : ℕ) → bit_xor (bit_xor x 0xFFFF_FFFF) 0xFFFF_FFFF ≡ x
unfolding invert
back x = invert-twice x

start : (s : List ℕ) → register 0xFFFF_FFFF s ≡ shifts (8 * length s) (dividend s)
start s = register-le s 0xFFFF_FFFF ∙ ap (shifts (8 * length s)) (xor_comm 0xFFFF_FFFF (le s))

inverted : (s : List ℕ) → bit_xor (checksum s) 0xFFFF_FFFF ≡ shifts (8 * length s) (dividend s)
unfolding checksum invert
inverted s = back (register 0xFFFF_FFFF s) ∙ start s

pub remainder : Remainder
remainder =
    record {
      some = λ s.
          let q = division.some (8 * length s) (dividend s) in
          record {
            quotient = q.quotient;
            divided = record { bits = q.divided.bits; left = q.divided.left ∙ ap (λ (x : ℕ). x * 2 ^ (8 * length s)) (sym (inverted s)) };
          };
      any = λ s q r d.
          sym (back (checksum s))
          ∙ ap (λ (x : ℕ). bit_xor x 0xFFFF_FFFF) (inverted s ∙ sym (division.any (8 * length s) (dividend s) q r d));
    }

pub published : Published
unfolding polynomial shift shifts absorb register invert checksum
published = record { nothing = refl; digits = refl; zeros = refl; ones = refl; up = refl; down = refl; command = refl }

pub pieces : Pieces
pieces = record { begun = checksum-continued; further = checksum-append; onward = continued-append }

pub width : Width
width = checksum-below

pub unnoticed : Unnoticed
unfolding polynomial shift shifts absorb register invert checksum
unnoticed = refl

-- what the difference of two numbers leaves, where both, added to one register, leave the same
apart : (n c a b : ℕ) → shifts n (bit_xor c a) ≡ shifts n (bit_xor c b) → shifts n (bit_xor a b) ≡ 0
apart n c a b e =
    ap (shifts n)
    (sym (xor_zero_l (bit_xor a b)) ∙ (ap (λ (x : ℕ). bit_xor x (bit_xor a b)) (sym (xor_self c)) ∙ sym (regroup c a c b)))
    ∙ (shifts-xor n (bit_xor c a) (bit_xor c b)
    ∙ (ap (λ (x : ℕ). bit_xor x (shifts n (bit_xor c b))) e ∙ xor_self (shifts n (bit_xor c b))))

-- two slices of one length, from one register to one register
joined : (c : ℕ) (s t : List ℕ) → length s ≡ length t → register c s ≡ register c t → shifts (8 * length s) (bit_xor (le s) (le t)) ≡ 0
joined c s t l e =
    apart (8 * length s) c (le s) (le t)
    (sym (register-le s c) ∙ (e ∙ (register-le t c ∙ ap (λ (n : ℕ). shifts (8 * n) (bit_xor c (le t))) (sym l))))

-- the same bytes take two registers to two
parted : (c d : ℕ) (s : List ℕ) → c < 2 ^ 32 → d < 2 ^ 32 → register c s ≡ register d s → c ≡ d
parted c d s p q e =
    xor_same c d
    (shifts-nothing (8 * length s) (bit_xor c d) (xor_lt 32 c d p q)
    (apart (8 * length s) (le s) c d
    (ap (shifts (8 * length s)) (xor_comm (le s) c)
    ∙ (sym (register-le s c) ∙ (e ∙ (register-le s d ∙ ap (shifts (8 * length s)) (xor_comm d (le s))))))))

numbered : (s t : List ℕ) → Bytes s → Bytes t → length s ≡ length t → le s ≡ le t → s ≡ t
numbered s t p q l e = sym (to_le-le s p) ∙ (ap₂ to_le l e ∙ to_le-le t q)

factor : (d p : ℕ) → 0 < p → d * p ≡ 0 → d ≡ 0
factor zero p h e = refl
factor (suc d) p h e =
    let f : suc d * p ≡ p * d + p = mul_comm (suc d) p ∙ mul-suc p d in
    omega arith

scaled : (n k d : ℕ) → d < 2 ^ 32 → shifts n (d * 2 ^ k) ≡ 0 → d ≡ 0
scaled n k d h e =
    elim (dec_le k n) [
      | yes p ↦
          let f : k + (n - k) ≡ n = omega arith in
          shifts-nothing (n - k) d h
          (ap (shifts (n - k)) (sym (shifts_scaled k d))
          ∙ (sym (shifts-add k (n - k) (d * 2 ^ k)) ∙ (ap (λ (m : ℕ). shifts m (d * 2 ^ k)) f ∙ e)))
      | no p ↦
          let f : k - n + n ≡ k = omega arith in
          factor d (2 ^ (k - n)) (pow_pos (k - n))
          (sym (shifts_scaled n (d * 2 ^ (k - n)))
          ∙ (ap (shifts n)
          (mul_assoc d (2 ^ (k - n)) (2 ^ n) ∙ ap (λ (x : ℕ). d * x) (sym (pow-add 2 (k - n) n) ∙ ap (λ (m : ℕ). 2 ^ m) f))
          ∙ e))
    ]

registers : (s t : List ℕ) → checksum s ≡ checksum t → register 0xFFFF_FFFF s ≡ register 0xFFFF_FFFF t
unfolding checksum
registers s t e = sym (invert-twice (register 0xFFFF_FFFF s)) ∙ (ap invert e ∙ invert-twice (register 0xFFFF_FFFF t))

pub noticed : Noticed
noticed s t p q l k d h f e =
    let z : d ≡ 0 =
    scaled (8 * length s) k d h (ap (shifts (8 * length s)) (sym f) ∙ joined 0xFFFF_FFFF s t l (registers s t e)) in
    numbered s t p q l (xor_same (le s) (le t) (f ∙ (ap (λ (x : ℕ). x * 2 ^ k) z ∙ zero-mul (2 ^ k))))

pub four_bytes : FourBytes
four_bytes a x y b p q l m e =
    let c : ℕ = register 0xFFFF_FFFF a in
    let w : c < 2 ^ 32 = register-below 0xFFFF_FFFF a (lit< tt) in
    let whole : (z : List ℕ) → register 0xFFFF_FFFF (a ++ (z ++ b)) ≡ register (register c z) b =
    λ z. register-append 0xFFFF_FFFF a (z ++ b) ∙ register-append c z b in
    let f : register c x ≡ register c y =
    parted (register c x) (register c y) b (register-below c x w) (register-below c y w)
    (sym (whole x) ∙ (registers (a ++ (x ++ b)) (a ++ (y ++ b)) e ∙ whole y)) in
    numbered x y p q l
    (xor_same (le x) (le y)
    (shifts-nothing (8 * length x) (bit_xor (le x) (le y)) (xor_lt 32 (le x) (le y) (le_bound x 4 m) (le_bound y 4 (rw (sym l) m)))
    (joined c x y l f)))

word : (s : List ℕ) → length s ≡ 4 → le s < 2 ^ 32
word s h = le_bound s 4 (omega arith)

-- four bytes as the number that they make
four-sum : (x : ℕ) → x < 2 ^ 32 → checksum (to_le 4 (bit_xor x 0xFFFF_FFFF)) ≡ bit_xor (shifts 32 x) 0xFFFF_FFFF
four-sum x h =
    let s : List ℕ = to_le 4 (bit_xor x 0xFFFF_FFFF) in
    let e : dividend s ≡ x =
    ap (λ (y : ℕ). bit_xor y 0xFFFF_FFFF) (le-to_le 4 (bit_xor x 0xFFFF_FFFF) (xor_lt 32 x 0xFFFF_FFFF h (lit< tt))) ∙ back x in
    sym (back (checksum s))
    ∙ ap (λ (y : ℕ). bit_xor y 0xFFFF_FFFF)
    (inverted s ∙ ap₂ (λ (n y : ℕ). shifts (8 * n) y) (length-to_le 4 (bit_xor x 0xFFFF_FFFF)) e)

pub reached : Reached
reached c h =
    let o : Origin 32 (bit_xor c 0xFFFF_FFFF) = reversible 32 (bit_xor c 0xFFFF_FFFF) (xor_lt 32 c 0xFFFF_FFFF h (lit< tt)) in
    let x : List ℕ = to_le 4 (bit_xor o.from 0xFFFF_FFFF) in
    let b : Bytes x = to_le_bytes 4 (bit_xor o.from 0xFFFF_FFFF) in
    let l : length x ≡ 4 = length-to_le 4 (bit_xor o.from 0xFFFF_FFFF) in
    let e : checksum x ≡ c =
    four-sum o.from o.width ∙ (ap (λ (y : ℕ). bit_xor y 0xFFFF_FFFF) o.leaves ∙ back c) in
    record {
      four = x;
      bytes = b;
      many = l;
      sum = e;
      alone = λ s p m f.
          let d : ℕ = bit_xor (le s) (le x) in
          noticed s x p b (m ∙ sym l) 0 d (xor_lt 32 (le s) (le x) (word s m) (word x l)) (sym (mul-one d)) (f ∙ sym e);
    }
