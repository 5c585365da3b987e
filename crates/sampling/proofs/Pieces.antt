-- Laws of pieces: there is room for each of them in a text; the digits that a number has.
use Prim.Native.Nat.{ℕ, zero, suc, ◌+◌, ◌-◌, ◌/◌, ◌%◌, ◌^◌, ◌≤◌, ◌<◌}
use mathlib.Core.Path.{◌≡◌, refl, sym, ap, ◌∙◌}
use mathlib.Core.Bool.{Bool, true, false, cond, ◌&&◌}
use mathlib.Core.List.{List, [], ◌∷◌, ◌++◌, append_assoc, append-nil}
use native.Mathlib.Decide.{dec_le}
use native.Mathlib.Nat.{pow-le-pow_right, lt_of_lt_of_le, not-le_of_lt}
use native.Mathlib.Omega.{arith}
use lib.Dec.{lit<, lit≤, eqb}
use lib.ListN.{length, take, length-append}
use Rattle.io.specs.Digits.{hex_digit_ascii, last_digits, IsDigitCount}
use Rattle.refusal.specs.declared.Refusal.{Refusal}
use Rattle.text.specs.Decimal.{decimal}
use Rattle.text.specs.Text.{capacity, added}
use Rattle.text.proofs.Decimals.{length_digits}
use Rattle.text.proofs.Texts.{added-fits}
use Rattle.sampling.specs.Pieces.{spaced_number, added_number, added_beside, beside_piece, refused_word, refusal_piece, hex, spaced_sum}

-- what one number takes at most
number-length : (n : ℕ) → length (spaced_number n) ≤ 21
unfolding spaced_number
number-length n = omega (arith, length_digits 20 n)

pub number_fits : (t : List ℕ) (n : ℕ) → length t + 21 ≤ capacity → added_number t n ≡ t ++ spaced_number n
unfolding added_number spaced_number
number_fits t n h =
    let l : length (t ++ (32 ∷ [])) ≡ length t + 1 = length-append t (32 ∷ []) in
    ap (λ (u : List ℕ). added u (decimal n)) (added-fits t (32 ∷ []) (omega arith))
    ∙ (added-fits (t ++ (32 ∷ [])) (decimal n) (omega (arith, length_digits 20 n)) ∙ append_assoc t (32 ∷ []) (decimal n))

both_fit : (t : List ℕ) (r : Refusal) (b : Bool) → length t + 42 ≤ capacity
    → cond b t (added_number (added_number t r.first) r.second) ≡ t ++ cond b [] (spaced_number r.first ++ spaced_number r.second)
both_fit t r true h = sym (append-nil t)
both_fit t r false h =
    let l : length (t ++ spaced_number r.first) ≡ length t + length (spaced_number r.first) = length-append t (spaced_number r.first) in
    ap (λ (u : List ℕ). added_number u r.second) (number_fits t r.first (omega arith))
    ∙ (number_fits (t ++ spaced_number r.first) r.second (omega (arith, number-length r.first))
    ∙ append_assoc t (spaced_number r.first) (spaced_number r.second))

pub beside-fits : (t : List ℕ) (r : Refusal) → length t + 42 ≤ capacity → added_beside t r ≡ t ++ beside_piece r
unfolding added_beside beside_piece
beside-fits t r h = both_fit t r (eqb r.first 0 && eqb r.second 0) h

-- the fewest digits, w at least, that hold a number which w digits hold are w
fewest_is : (w n k : ℕ) → n < 16 ^ w → IsDigitCount 16 w n k → k ≡ w
fewest_is w n k h (l, m, f) =
    elim (dec_le k w) [
      | yes g ↦ omega arith
      | no g ↦ absurd (not-le_of_lt (lt_of_lt_of_le h (pow-le-pow_right (lit< tt) (let q : w ≤ k - 1 = omega arith in q))) (f (omega arith)))
    ]

length-hex : (k n : ℕ) → length (last_digits 16 k n) ≡ k
length-hex zero n = refl
length-hex (suc k) n = length-append (last_digits 16 k (n / 16)) (hex_digit_ascii (n % 16) ∷ []) ∙ (let e : length (last_digits 16 k (n / 16)) ≡ k = length-hex k (n / 16) in omega arith)

-- what the digits of a number are in as many places as hold it
pub hex_is : (w n k : ℕ) (out : List ℕ) → n < 16 ^ w → IsDigitCount 16 w n k → take k out ≡ last_digits 16 k n → take k out ≡ hex w n
unfolding hex
hex_is w n k out h f e = e ∙ ap (λ (v : ℕ). last_digits 16 v n) (fewest_is w n k h f)

pub hex-fits : (t : List ℕ) (w n : ℕ) → length t + w ≤ capacity → added t (hex w n) ≡ t ++ hex w n
unfolding hex
hex-fits t w n h = added-fits t (last_digits 16 w n) (omega (arith, length-hex w n))

pub sum_fits : (c : ℕ) → added (added [] (32 ∷ [])) (hex 8 c) ≡ spaced_sum c
unfolding spaced_sum
sum_fits c = ap (λ (u : List ℕ). added u (hex 8 c)) (added-fits [] (32 ∷ []) (lit≤ tt)) ∙ hex-fits (32 ∷ []) 8 c (lit≤ tt)

-- the word, the number, and what stands beside it
pub refused-fits : (r : Refusal) → added_beside (added_number (added [] refused_word) r.number) r ≡ refusal_piece r
unfolding refusal_piece
refused-fits r =
    let l : length (refused_word ++ spaced_number r.number) ≡ length refused_word + length (spaced_number r.number) = length-append refused_word (spaced_number r.number) in
    ap (λ (u : List ℕ). added_beside u r)
    (ap (λ (u : List ℕ). added_number u r.number) (added-fits [] refused_word (lit≤ tt)) ∙ number_fits refused_word r.number (lit≤ tt))
    ∙ (beside-fits (refused_word ++ spaced_number r.number) r (omega (arith, number-length r.number)) ∙ append_assoc refused_word (spaced_number r.number) (beside_piece r))
