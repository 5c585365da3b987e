-- What holds of the words, proved: tests of every number up to the first past the table, which are computed.
use Prim.Native.Nat.{ℕ, zero, suc, ◌+◌, ◌≤◌, ◌<◌}
use mathlib.Core.Path.{◌≡◌, refl, sym, ap, ◌∙◌}
use mathlib.Core.Bool.{Bool, true, false, not, ◌&&◌, ◌||◌, true≢false}
use mathlib.Core.List.{List}
use native.Mathlib.Decide.{dec_le}
use native.Mathlib.Omega.{arith}
use borrow.Author.Tests.{leb-true, lt-leb}
use lib.Dec.{leb}
use lib.ListN.{length, take, drop, length-replicate, get_or-eq_default}
use lib.Seq.{take_at}
use Rattle.endian.specs.Bytes.{same, all_pass, zeros}
use Rattle.endian.proofs.Tests.{and_left, and_right, equal_same}
use Rattle.endian.proofs.Parts.{splice-fits, length-splice}
use Rattle.refusal.specs.Words.{table, known, not_known, ascii, line_of, most_bytes, words_of}
use Rattle.refusal.specs.Demand.{is_printed, Saying}

-- the test p holds of every number below k
unfoldable every : (ℕ → Bool) → ℕ → Bool
every p zero = true
every p (suc k) = p k && every p k

every_one : (p : ℕ → Bool) (k n : ℕ) → every p k ≡ true → n < k → p n ≡ true
unfolding every
every_one p zero n h l = absurd (omega arith)
every_one p (suc k) n h l =
    elim (dec_le k n) [
      | yes g ↦ ap p (let e : n ≡ k = omega arith in e) ∙ and_left (p k) (every p k) h
      | no g ↦ every_one p k n (and_right (p k) (every p k) h) (omega arith)
    ]

-- a number past the table
past-line : (n : ℕ) → known ≤ n → line_of n ≡ ascii not_known
unfolding line_of
past-line n h = ap ascii (get_or-eq_default table not_known h)

rest : (m n : ℕ) → known ≤ m → known ≤ n → line_of m ≡ line_of n
rest m n h k = past-line m h ∙ sym (past-line n k)

-- a test that holds of the lines of the table and of the first number past it holds of all
any-line : (q : List ℕ → Bool) → every (λ n. q (line_of n)) (suc known) ≡ true → (n : ℕ) → q (line_of n) ≡ true
any-line q h n =
    elim (dec_le known n) [
      | yes g ↦ ap q (rest n known (omega arith) (omega arith)) ∙ every_one (λ k. q (line_of k)) (suc known) known h (omega arith)
      | no g ↦ every_one (λ k. q (line_of k)) (suc known) n h (omega arith)
    ]

some : (n : ℕ) → 0 < length (line_of n)
unfolding every line_of
some n = leb-true 1 (length (line_of n)) (any-line (λ s. leb 1 (length s)) refl n)

room : (n : ℕ) → length (line_of n) < most_bytes
unfolding every line_of
room n = leb-true (suc (length (line_of n))) most_bytes (any-line (λ s. leb (suc (length s)) most_bytes) refl n)

printed : (n : ℕ) → all_pass is_printed (line_of n) ≡ true
unfolding every line_of all_pass
printed n = any-line (all_pass is_printed) refl n

whole : (n : ℕ) → length (words_of n).bytes ≡ most_bytes
unfolding zeros
whole n = length-splice (zeros most_bytes) 0 (line_of n) ∙ length-replicate {A = ℕ} most_bytes 0

read : (n : ℕ) → take (words_of n).used (words_of n).bytes ≡ line_of n
unfolding zeros
read n =
    let l : length (zeros most_bytes) ≡ most_bytes = length-replicate {A = ℕ} most_bytes 0 in
    let h : length (line_of n) < most_bytes = room n in
    ap (take (length (line_of n))) (splice-fits (zeros most_bytes) 0 (line_of n) (omega arith))
    ∙ take_at (line_of n) (drop (0 + length (line_of n)) (zeros most_bytes)) (length (line_of n)) refl

-- m is not below k, or their lines differ
unlike : ℕ → ℕ → Bool
unlike m k = leb k m || not (same (line_of m) (line_of k))

all_unlike : every (λ m. every (unlike m) (suc known)) known ≡ true
unfolding every unlike line_of same
all_unlike = refl

unlike_lines : (a b : Bool) → a ≡ false → b ≡ true → a || not b ≡ true → ⊥
unlike_lines a b f t h = true≢false (sym h ∙ (ap (λ z. z || not b) f ∙ ap not t))

below : (m n : ℕ) → m < known → n < suc known → m < n → line_of m ≡ line_of n → ⊥
unfolding unlike
below m n h k l e =
    unlike_lines (leb n m) (same (line_of m) (line_of n)) (lt-leb n m l) (equal_same (line_of m) (line_of n) e)
    (every_one (unlike m) (suc known) n (every_one (λ i. every (unlike i) (suc known)) known m all_unlike h) k)

apart : (m n : ℕ) → m < known → m < n → line_of m ≡ line_of n → ⊥
apart m n h l e =
    elim (dec_le known n) [
      | yes g ↦ below m known h (omega arith) (omega arith) (e ∙ rest n known (omega arith) (omega arith))
      | no g ↦ below m n h (omega arith) l e
    ]

pub saying : Saying
saying = record { some = some; room = room; printed = printed; read = read; whole = whole; apart = apart; rest = rest }
