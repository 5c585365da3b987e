-- Laws of the segments that are handed on in a table of numbers.
use Prim.Native.Nat.{ℕ, zero, suc, ◌+◌, ◌-◌, ◌*◌, ◌≤◌, ◌<◌, min}
use mathlib.Core.Path.{◌≡◌, refl, sym, ap, ap₂, ◌∙◌}
use mathlib.Core.List.{List, [], ◌∷◌, ◌++◌}
use native.Mathlib.Nat.{not-suc-le-zero}
use native.Mathlib.Numerals.{add-one}
use native.Mathlib.Omega.{arith}
use lib.ListN.{length, take, drop, set, length-append, length-take, length-drop}
use lib.Seq.{take-suc, take_at, drop-append-add, drop-drop, get_or-drop, sets, sets-eq}
use Rattle.segments.specs.declared.Segment.{Segment}
use Rattle.segments.specs.Segments.{none, nth}
use Rattle.record.specs.Answers.{segment_values, all_values}

-- the numbers of segments: of none, of some and then others, and how many they are
pub values_none : all_values [] ≡ []
unfolding all_values
values_none = refl

pub values_append : (xs ys : List Segment) → all_values (xs ++ ys) ≡ all_values xs ++ all_values ys
unfolding all_values
values_append [] ys = refl
values_append (g ∷ xs) ys = ap (λ (l : List ℕ). g.kind ∷ g.start ∷ g.sectors ∷ l) (values_append xs ys)

pub values_one : (g : Segment) → all_values (g ∷ []) ≡ segment_values g
unfolding all_values
values_one g = refl

pub values_length : (gs : List Segment) → length (all_values gs) ≡ 3 * length gs
unfolding all_values
values_length [] = refl
values_length (g ∷ gs) =
    let e : length (all_values gs) ≡ 3 * length gs = values_length gs in
    let f : suc (suc (suc (length (all_values gs)))) ≡ 3 * suc (length gs) = omega arith in
    f

-- the numbers of the segment at i, with any numbers after them all
pub values_at : (gs : List Segment) (i : ℕ) (rest : List ℕ) → i < length gs → take 3 (drop (3 * i) (all_values gs ++ rest)) ≡ segment_values (nth gs i)
unfolding all_values
values_at [] i rest l = absurd (not-suc-le-zero l)
values_at (g ∷ gs) zero rest l = refl
values_at (g ∷ gs) (suc i) rest l =
    ap (λ (k : ℕ). take 3 (drop k (all_values (g ∷ gs) ++ rest))) (let z : 3 * suc i ≡ suc (suc (suc (3 * i))) = omega arith in z)
    ∙ values_at gs i rest (omega arith)

-- a table t with the first i of the segments gs at its start
abbrev pub laid : List Segment → ℕ → List ℕ → List ℕ
laid gs i t = all_values (take i gs) ++ drop (3 * i) t

pub laid_none : (gs : List Segment) (t : List ℕ) → laid gs 0 t ≡ t
laid_none gs t = ap (λ (l : List ℕ). l ++ t) values_none

module _ (gs : List Segment) (i : ℕ) (t : List ℕ) where
  first-length : i ≤ length gs → length (all_values (take i gs)) ≡ 3 * i
  first-length l =
      let a : length (take i gs) ≡ min i (length gs) = length-take i gs in
      values_length (take i gs) ∙ omega arith

  pub laid-length : i ≤ length gs → 3 * i ≤ length t → length (laid gs i t) ≡ length t
  laid-length l m =
      let a : length (all_values (take i gs)) ≡ 3 * i = first-length l in
      let b : length (drop (3 * i) t) ≡ length t - 3 * i = length-drop (3 * i) t in
      length-append (all_values (take i gs)) (drop (3 * i) t) ∙ omega arith

  -- one more
  pub first_more : i < length gs → all_values (take (i + 1) gs) ≡ all_values (take i gs) ++ segment_values (nth gs i)
  first_more l =
      ap (λ (k : ℕ). all_values (take k gs)) (add-one i)
      ∙ (ap all_values (take-suc gs i none l)
      ∙ (values_append (take i gs) (nth gs i ∷ [])
      ∙ ap (λ (z : List ℕ). all_values (take i gs) ++ z) (values_one (nth gs i))))

  rest_more : i ≤ length gs → drop (3 * i + 3) (laid gs i t) ≡ drop (3 * (i + 1)) t
  rest_more l =
      ap (λ (k : ℕ). drop (k + 3) (laid gs i t)) (sym (first-length l))
      ∙ (drop-append-add (all_values (take i gs)) (drop (3 * i) t) 3
      ∙ (drop-drop 3 (3 * i) t
      ∙ ap (λ (k : ℕ). drop k t) (let z : 3 * i + 3 ≡ 3 * (i + 1) = omega arith in z)))

  pub laid_more : i < length gs → 3 * (i + 1) ≤ length t → sets (laid gs i t) (3 * i) (segment_values (nth gs i)) ≡ laid gs (i + 1) t
  laid_more l m =
      let n : length (laid gs i t) ≡ length t = laid-length (omega arith) (omega arith) in
      let f : 3 * i + 3 ≤ length (laid gs i t) = omega arith in
      sets-eq (segment_values (nth gs i)) (laid gs i t) (3 * i) f
      ∙ ap₂ (λ (x y : List ℕ). x ++ y)
      (ap (λ (x : List ℕ). x ++ segment_values (nth gs i)) (take_at (all_values (take i gs)) (drop (3 * i) t) (3 * i) (first-length (omega arith)))
      ∙ sym (first_more l))
      (rest_more (omega arith))

-- the three numbers of a segment stored one by one
abbrev pub stored : List ℕ → ℕ → Segment → List ℕ
stored q i g = set (set (set q (3 * i) g.kind) (3 * i + 1) g.start) (3 * i + 2) g.sectors

stored_sets : (q : List ℕ) (i : ℕ) (g : Segment) → stored q i g ≡ sets q (3 * i) (segment_values g)
stored_sets q i g =
    ap₂ (λ (j k : ℕ). set (set (set q (3 * i) g.kind) j g.start) k g.sectors)
    (let z : 3 * i + 1 ≡ suc (3 * i) = omega arith in z)
    (let z : 3 * i + 2 ≡ suc (suc (3 * i)) = omega arith in z)

-- a turn of the loop that stores segments from position p on in a table that was t: it is q after i of them
module _ (gs : List Segment) (p i : ℕ) (t q : List ℕ) (there : p + i < length gs) (room : 3 * (i + 1) ≤ length t) (e : q ≡ laid (drop p gs) i t) where
  pub handing-next : stored q i (nth gs (p + i)) ≡ laid (drop p gs) (i + 1) t
  handing-next =
      let d : length (drop p gs) ≡ length gs - p = length-drop p gs in
      ap₂ (λ (x : List ℕ) (z : Segment). stored x i z) e (sym (get_or-drop p gs i none))
      ∙ (stored_sets (laid (drop p gs) i t) i (nth (drop p gs) i) ∙ laid_more (drop p gs) i t (omega arith) room)
