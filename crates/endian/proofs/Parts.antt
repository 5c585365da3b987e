-- Laws of a part of a list and of a list laid over another.
use Prim.Native.Nat.{ℕ, zero, suc, ◌+◌, ◌-◌, ◌≤◌, ◌<◌}
use mathlib.Core.Path.{◌≡◌, refl, sym, ap, ◌∙◌}
use mathlib.Core.List.{List, [], ◌∷◌, ◌++◌, append_assoc, append-nil}
use native.Mathlib.Decide.{dec_le}
use native.Mathlib.Nat.{not-suc-le-zero}
use native.Mathlib.Omega.{arith}
use lib.Dec.{lit<}
use borrow.Author.Tests.{le-leb, lt-leb, leb-true, leb-false}
use mathlib.Core.Bool.{true, false}
use lib.ListN.{length, take, drop, length-append, length-take, length-drop, take-append-drop, drop_of_length-le}
use lib.Seq.{take_all, take-nil, drop-drop, take-take, take-add, take_at, drop_at, take-append-le, drop-append-le, get_or-drop, length-take-le}
use Rattle.endian.specs.Bytes.{window, fits, splice, write_number, Bytes}

pub length-window : (s : List ℕ) (at n : ℕ) → length (window s at n) ≤ n
unfolding window
length-window s at n = simp length-take (omega arith)

pub length-window-fits : (s : List ℕ) (at n : ℕ) → at + n ≤ length s → length (window s at n) ≡ n
unfolding window
length-window-fits s at n h = simp (length-take, length-drop) (omega arith)

pub window-past : (s : List ℕ) (at n : ℕ) → length s ≤ at → window s at n ≡ []
unfolding window
window-past s at n h = rw (drop_of_length-le s h, take-nil)

pub window_rest : (s : List ℕ) (at n : ℕ) → length s ≤ at + n → window s at n ≡ drop at s
unfolding window
window_rest s at n h = take_all n (drop at s) (simp length-drop (omega arith))

-- the part as it is lent, by its two ends
pub window-part : (s : List ℕ) (at n : ℕ) → take (at + n - at) (drop at s) ≡ window s at n
unfolding window
window-part s at n = ap (λ (k : ℕ). take k (drop at s)) (let e : at + n - at ≡ n = omega arith in e)

-- two parts that follow each other
pub window-append : (s : List ℕ) (at n m : ℕ) → window s at (n + m) ≡ window s at n ++ window s (at + n) m
unfolding window
window-append s at n m = rw (take-add, drop-drop n at s)

pub splice-fits : (s : List ℕ) (at : ℕ) (v : List ℕ) → at + length v ≤ length s
    → splice s at v ≡ take at s ++ (v ++ drop (at + length v) s)
unfolding splice fits
splice-fits s at v h = rw (le-leb (at + length v) (length s) h)

-- a middle part that was lent and came back as v
pub splice-part : (s : List ℕ) (at n : ℕ) (v : List ℕ) → at + n ≤ length s → length v ≡ n
    → take at s ++ (v ++ drop (at + n - at) (drop at s)) ≡ splice s at v
splice-part s at n v h e =
    let k : at + (at + n - at) ≡ at + length v = omega arith in
    rw (drop-drop (at + n - at) at s, k) (sym (splice-fits s at v (omega arith)))

-- as many elements as there are, laid over all of them
pub splice-whole : (s v : List ℕ) → length v ≡ length s → splice s 0 v ≡ v
splice-whole s v e =
    splice-fits s 0 v (omega arith)
    ∙ (ap (λ (l : List ℕ). v ++ l) (drop_of_length-le s (let h : length s ≤ 0 + length v = omega arith in h)) ∙ append-nil v)

pub splice-short : (s : List ℕ) (at : ℕ) (v : List ℕ) → length s < at + length v → splice s at v ≡ s
unfolding splice fits
splice-short s at v h = rw (lt-leb (at + length v) (length s) h)

pub write-fits : (s : List ℕ) (at n : ℕ) → at + n ≤ length s → write_number s at n ≡ 0
unfolding write_number fits
write-fits s at n h = rw (le-leb (at + n) (length s) h)

pub write-short : (s : List ℕ) (at n : ℕ) → length s < at + n → write_number s at n ≡ 1
unfolding write_number fits
write-short s at n h = rw (lt-leb (at + n) (length s) h)

pub length-splice : (s : List ℕ) (at : ℕ) (v : List ℕ) → length (splice s at v) ≡ length s
length-splice s at v =
    elim (dec_le (at + length v) (length s)) [
      | yes h ↦ rw (splice-fits s at v h) (simp (length-append, length-take, length-drop) (omega arith))
      | no h ↦ ap length (splice-short s at v (omega arith))
    ]

module _ (s : List ℕ) (at : ℕ) (v : List ℕ) (h : at + length v ≤ length s) where
  head-length : length (take at s) ≡ at
  head-length = length-take-le at s (omega arith)

  -- what was laid is there
  pub window-splice : window (splice s at v) at (length v) ≡ v
  unfolding window
  window-splice = rw (splice-fits s at v h, drop_at (take at s) (v ++ drop (at + length v) s) at head-length, take_at v (drop (at + length v) s) (length v) refl)

-- a part of the first m elements
front : (i n m : ℕ) (l : List ℕ) → i + n ≤ m → take n (drop i (take m l)) ≡ take n (drop i l)
front zero n m l h = take-take n m l (omega arith)
front (suc i) n zero l h = absurd (let z : 1 ≤ 0 = omega arith in not-suc-le-zero z)
front (suc i) n (suc m) [] h = refl
front (suc i) n (suc m) (x ∷ l) h = front i n m l (omega arith)

back : (s : List ℕ) (k i : ℕ) → k ≤ i → drop i s ≡ drop (i - k) (drop k s)
back s k i h = ap (λ z. drop z s) (let e : i ≡ k + (i - k) = omega arith in e) ∙ sym (drop-drop (i - k) k s)

-- what lies before it is as it was
pub window-before : (s : List ℕ) (at : ℕ) (v : List ℕ) (i n : ℕ) → i + n ≤ at → window (splice s at v) i n ≡ window s i n
unfolding window
window-before s at v i n k =
    elim (dec_le (at + length v) (length s)) [
      | yes h ↦
          let e : length (take at s) ≡ at = length-take-le at s (omega arith) in
          rw
          (splice-fits s at v h, drop-append-le i (take at s) (v ++ drop (at + length v) s) (omega arith), take-append-le n (drop i (take at s)) (v ++ drop (at + length v) s) (simp length-drop (omega arith)))
          (front i n at s k)
      | no h ↦ ap (λ z. take n (drop i z)) (splice-short s at v (omega arith))
    ]

-- and what lies after it
pub window-after : (s : List ℕ) (at : ℕ) (v : List ℕ) (i n : ℕ) → at + length v ≤ i → window (splice s at v) i n ≡ window s i n
unfolding window
window-after s at v i n k =
    elim (dec_le (at + length v) (length s)) [
      | yes h ↦
          ap (take n)
          (ap (drop i) (splice-fits s at v h ∙ sym (append_assoc (take at s) v (drop (at + length v) s)))
          ∙ (back ((take at s ++ v) ++ drop (at + length v) s) (at + length v) i k
          ∙ (ap (drop (i - (at + length v)))
          (drop_at (take at s ++ v) (drop (at + length v) s) (at + length v)
          (rw (length-append, length-take-le at s (let l : at ≤ length s = omega arith in l))))
          ∙ sym (back s (at + length v) i k))))
      | no h ↦ ap (λ z. take n (drop i z)) (splice-short s at v (omega arith))
    ]

rejoin : (n : ℕ) (l : List ℕ) → take n l ++ drop (length (take n l)) l ≡ l
rejoin zero l = refl
rejoin (suc n) [] = refl
rejoin (suc n) (x ∷ l) = ap (λ z. x ∷ z) (rejoin n l)

-- laying a part over itself
pub splice-window : (s : List ℕ) (at n : ℕ) → splice s at (window s at n) ≡ s
unfolding window
splice-window s at n =
    elim (dec_le at (length s)) [
      | yes h ↦
          splice-fits s at (take n (drop at s)) (simp (length-take, length-drop) (omega arith))
          ∙ (ap (λ z. take at s ++ (take n (drop at s) ++ z)) (sym (drop-drop (length (take n (drop at s))) at s))
          ∙ (ap (λ z. take at s ++ z) (rejoin n (drop at s)) ∙ take-append-drop at s))
      | no h ↦ splice-short s at (take n (drop at s)) (omega arith)
    ]

-- a part of a part
pub window-window : (s : List ℕ) (at n i m : ℕ) → i + m ≤ n → window (window s at n) i m ≡ window s (at + i) m
unfolding window
window-window s at n i m h = rw (front i m n (drop at s) h, drop-drop i at s)

bytes_take : (n : ℕ) (s : List ℕ) → Bytes s → Bytes (take n s)
bytes_take zero s b i = lit< tt
bytes_take (suc n) [] b i = lit< tt
bytes_take (suc n) (x ∷ s) b zero = b 0
bytes_take (suc n) (x ∷ s) b (suc i) = bytes_take n s (λ j. b (suc j)) i

bytes_drop : (n : ℕ) (s : List ℕ) → Bytes s → Bytes (drop n s)
bytes_drop n s b i = rw get_or-drop (b (n + i))

pub bytes_window : (s : List ℕ) (at n : ℕ) → Bytes s → Bytes (window s at n)
unfolding window
bytes_window s at n b = bytes_take n (drop at s) (bytes_drop at s b)

pub bytes_append : (s t : List ℕ) → Bytes s → Bytes t → Bytes (s ++ t)
bytes_append [] t b d i = d i
bytes_append (x ∷ s) t b d zero = b 0
bytes_append (x ∷ s) t b d (suc i) = bytes_append s t (λ j. b (suc j)) d i

pub bytes_splice : (s : List ℕ) (at : ℕ) (v : List ℕ) → Bytes s → Bytes v → Bytes (splice s at v)
bytes_splice s at v b d =
    elim (dec_le (at + length v) (length s)) [
      | yes h ↦
          rw (splice-fits s at v h)
          (bytes_append (take at s) (v ++ drop (at + length v) s) (bytes_take at s b)
          (bytes_append v (drop (at + length v) s) d (bytes_drop (at + length v) s b)))
      | no h ↦ rw (splice-short s at v (let l : length s < at + length v = omega arith in l)) b
    ]

-- what a write answers, true or false, says of the room
pub fits-true : (s : List ℕ) (at n : ℕ) → true ≡ fits s at n → at + n ≤ length s
unfolding fits
fits-true s at n h = leb-true (at + n) (length s) (sym h)

pub fits-false : (s : List ℕ) (at n : ℕ) → false ≡ fits s at n → length s < at + n
unfolding fits
fits-false s at n h = leb-false (at + n) (length s) (sym h)

-- what a write leaves: where its n elements do not fit, and where they do, w being what came back of the part lent
pub unstored : (s : List ℕ) (at n : ℕ) (v : List ℕ) → length v ≡ n → fits s at n ≡ false → s ≡ splice s at v
unfolding splice
unstored s at n v e h = rw (e, h)

pub stored : (s : List ℕ) (at n : ℕ) (v w : List ℕ) → length v ≡ n → w ≡ v → at + n ≤ length s
    → take at s ++ (w ++ drop (at + n - at) (drop at s)) ≡ splice s at v
stored s at n v w e k h = splice-part s at n w h (ap length k ∙ e) ∙ ap (splice s at) k

-- v written right after u
pub splice_next : (s : List ℕ) (at : ℕ) (u v : List ℕ) (k : ℕ) → k ≡ at + length u → k + length v ≤ length s
    → splice (splice s at u) k v ≡ splice s at (u ++ v)
splice_next s at u v k e h =
    let f : at + length u ≤ length s = omega arith in
    let g : at + length (u ++ v) ≤ length s = rw length-append (omega arith) in
    let l : length (take at s) ≡ at = length-take-le at s (omega arith) in
    let p : length (take at s ++ u) ≡ k = rw (length-append, l) (sym e) in
    let t : splice s at u ≡ (take at s ++ u) ++ drop k s =
    splice-fits s at u f
    ∙ (sym (append_assoc (take at s) u (drop (at + length u) s)) ∙ ap (λ (z : ℕ). (take at s ++ u) ++ drop z s) (sym e)) in
    let n : k + length v ≤ length (splice s at u) = rw (length-splice s at u) h in
    splice-fits (splice s at u) k v n
    ∙ (ap (λ (z : List ℕ). take k z ++ (v ++ drop (k + length v) z)) t
    ∙ (ap (λ (z : List ℕ). z ++ (v ++ drop (k + length v) ((take at s ++ u) ++ drop k s))) (take_at (take at s ++ u) (drop k s) k p)
    ∙ (ap (λ (z : List ℕ). (take at s ++ u) ++ (v ++ z))
    (sym (drop-drop (length v) k ((take at s ++ u) ++ drop k s))
    ∙ (ap (drop (length v)) (drop_at (take at s ++ u) (drop k s) k p) ∙ drop-drop (length v) k s))
    ∙ (append_assoc (take at s) u (v ++ drop (k + length v) s)
    ∙ (ap (λ (z : List ℕ). take at s ++ z) (sym (append_assoc u v (drop (k + length v) s)))
    ∙ (ap (λ (z : ℕ). take at s ++ ((u ++ v) ++ drop z s))
    (let q : k + length v ≡ at + length (u ++ v) = rw length-append (omega arith) in q)
    ∙ sym (splice-fits s at (u ++ v) g)))))))
