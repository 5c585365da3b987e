-- Laws of a list whose first elements are laid over by another's, one at a time, and of runs as plain numbers.
use Prim.Native.Nat.{ℕ, zero, suc, ◌+◌, ◌*◌, ◌≤◌, ◌<◌}
use mathlib.Core.Path.{◌≡◌, refl, sym, ap, ap₂, ◌∙◌}
use mathlib.Core.List.{List, [], ◌∷◌, ◌++◌}
use native.Mathlib.Nat.{le_of_suc-le-suc, not-suc-le-zero}
use native.Mathlib.Omega.{arith}
use native.Mathlib.Numerals.{add-one}
use lib.Seq.{take_all}
use lib.ListN.{length, get_or, take, drop, set, length-append, length-take, length-drop}
use Rattle.runs.specs.declared.Run.{Run}
use Rattle.runs.specs.Runs.{no_run, run_at}
use Rattle.allocation.specs.Tables.{numbers_of}

module _ {A : Type 0} where
  -- t with the first i elements of s laid over its first
  abbrev pub laid : ℕ → List A → List A → List A
  laid i s t = take i s ++ drop i t

  pub laid-length : (i : ℕ) (s t : List A) → i ≤ length s → i ≤ length t → length (laid i s t) ≡ length t
  laid-length i s t l m = length-append (take i s) (drop i t) ∙ omega (arith, length-take i s, length-drop i t)

  -- one more
  pub laid_next : (i : ℕ) (s t : List A) (a d : A) → i < length s → i < length t → a ≡ get_or s i d → set (laid i s t) i a ≡ laid (suc i) s t
  laid_next i [] t a d l m e = absurd (not-suc-le-zero l)
  laid_next i (x ∷ s) [] a d l m e = absurd (not-suc-le-zero m)
  laid_next zero (x ∷ s) (y ∷ t) a d l m e = ap (λ (z : A). z ∷ t) e
  laid_next (suc i) (x ∷ s) (y ∷ t) a d l m e = ap (λ (z : List A). x ∷ z) (laid_next i s t a d (le_of_suc-le-suc l) (le_of_suc-le-suc m) e)

-- runs as numbers: how many, the two of run i, and those of the first i
pub numbers-length : (rs : List Run) → length (numbers_of rs) ≡ 2 * length rs
unfolding numbers_of
numbers-length [] = refl
numbers-length (r ∷ rs) =
    let e : length (numbers_of rs) ≡ 2 * length rs = numbers-length rs in
    let f : suc (suc (length (numbers_of rs))) ≡ 2 * suc (length rs) = omega arith in
    f

twice : (i : ℕ) → 2 * suc i ≡ suc (suc (2 * i))
twice i = omega arith

numbers_start : (rs : List Run) (i : ℕ) → get_or (numbers_of rs) (2 * i) 0 ≡ (run_at rs i).start
unfolding numbers_of
numbers_start [] i = refl
numbers_start (r ∷ rs) zero = refl
numbers_start (r ∷ rs) (suc i) = ap (λ (k : ℕ). get_or (numbers_of (r ∷ rs)) k 0) (twice i) ∙ numbers_start rs i

numbers-sectors : (rs : List Run) (i : ℕ) → get_or (numbers_of rs) (suc (2 * i)) 0 ≡ (run_at rs i).sectors
unfolding numbers_of
numbers-sectors [] i = refl
numbers-sectors (r ∷ rs) zero = refl
numbers-sectors (r ∷ rs) (suc i) = ap (λ (k : ℕ). get_or (numbers_of (r ∷ rs)) (suc k) 0) (twice i) ∙ numbers-sectors rs i

-- the two of run i, with any numbers after them all
pub numbers-at : (rs : List Run) (i : ℕ) (rest : List ℕ) → i < length rs → take 2 (drop (2 * i) (numbers_of rs ++ rest)) ≡ (run_at rs i).start ∷ (run_at rs i).sectors ∷ []
unfolding numbers_of
numbers-at [] i rest l = absurd (not-suc-le-zero l)
numbers-at (r ∷ rs) zero rest l = refl
numbers-at (r ∷ rs) (suc i) rest l =
    ap (λ (k : ℕ). take 2 (drop k (numbers_of (r ∷ rs) ++ rest))) (twice i) ∙ numbers-at rs i rest (le_of_suc-le-suc l)

pub numbers-first : (rs : List Run) (i : ℕ) → take (2 * i) (numbers_of rs) ≡ numbers_of (take i rs)
unfolding numbers_of
numbers-first [] zero = refl
numbers-first [] (suc i) = ap (λ (k : ℕ). take k []) (twice i)
numbers-first (r ∷ rs) zero = refl
numbers-first (r ∷ rs) (suc i) =
    ap (λ (k : ℕ). take k (numbers_of (r ∷ rs))) (twice i) ∙ ap (λ (l : List ℕ). r.start ∷ r.sectors ∷ l) (numbers-first rs i)

-- the first of what is left after i, and nothing left
pub drop_next : (rs : List Run) (i : ℕ) (x : Run) (xs : List Run) → drop i rs ≡ x ∷ xs → (i < length rs) × ((x ≡ run_at rs i) × (drop (suc i) rs ≡ xs))
drop_next [] zero x xs h = let z : ◌≡◌ {A = ℕ} 0 1 = cc in absurd (omega arith)
drop_next [] (suc i) x xs h = let z : ◌≡◌ {A = ℕ} 0 1 = cc in absurd (omega arith)
drop_next (r ∷ rs) zero x xs h = (omega arith, ((let e : x ≡ r = cc in e), (let f : rs ≡ xs = cc in f)))
drop_next (r ∷ rs) (suc i) x xs h =
    let n : (i < length rs) × ((x ≡ run_at rs i) × (drop (suc i) rs ≡ xs)) = drop_next rs i x xs h in
    let l : i < length rs = n.0 in
    (omega arith, (n.1.0, n.1.1))

pub drop_none : (rs : List Run) (i : ℕ) → drop i rs ≡ [] → length rs ≤ i
drop_none rs i h =
    let e : length (drop i rs) ≡ 0 = ap length h in
    omega (arith, length-drop i rs)

-- a turn of the loop that stores gaps, and its end
pub run_stored : (rs xs t q : List Run) (i : ℕ) (x : Run) → drop i rs ≡ x ∷ xs → i < length t → q ≡ laid i rs t
    → (i + 1 ≤ length rs) × ((xs ≡ drop (i + 1) rs) × (set q i x ≡ laid (i + 1) rs t))
run_stored rs xs t q i x h l e =
    let n : (i < length rs) × ((x ≡ run_at rs i) × (drop (suc i) rs ≡ xs)) = drop_next rs i x xs h in
    let m : i < length rs = n.0 in
    rw add-one (omega arith, (sym n.1.1, ap (λ (z : List Run). set z i x) e ∙ laid_next i rs t x no_run m l n.1.0))

pub runs_stored : (rs t q : List Run) (i : ℕ) → length rs ≤ i → i ≤ length rs → q ≡ laid i rs t → q ≡ rs ++ drop (length rs) t
runs_stored rs t q i l m e =
    e ∙ ap₂ (λ (x y : List Run). x ++ y) (take_all i rs l) (ap (λ (k : ℕ). drop k t) (let z : i ≡ length rs = omega arith in z))

pub numbers_stored : (rs xs : List Run) (t q : List ℕ) (i : ℕ) (x : Run) → drop i rs ≡ x ∷ xs → 2 * i + 1 < length t → q ≡ laid (2 * i) (numbers_of rs) t
    → (i + 1 ≤ length rs) × ((xs ≡ drop (i + 1) rs) × (set (set q (2 * i) x.start) (2 * i + 1) x.sectors ≡ laid (2 * (i + 1)) (numbers_of rs) t))
numbers_stored rs xs t q i x h l e =
    let n : (i < length rs) × ((x ≡ run_at rs i) × (drop (suc i) rs ≡ xs)) = drop_next rs i x xs h in
    let m : i < length rs = n.0 in
    let k : length (numbers_of rs) ≡ 2 * length rs = numbers-length rs in (
      omega arith,
      (
        sym n.1.1 ∙ ap (λ (j : ℕ). drop j rs) (let z : suc i ≡ i + 1 = omega arith in z),
        ap₂ (λ (y : List ℕ) (j : ℕ). set y j x.sectors)
            (ap (λ (y : List ℕ). set y (2 * i) x.start) e
            ∙ laid_next (2 * i) (numbers_of rs) t x.start 0 (omega arith) (omega arith) (ap (λ (y : Run). y.start) n.1.0 ∙ sym (numbers_start rs i)))
            (let z : 2 * i + 1 ≡ suc (2 * i) = omega arith in z)
            ∙ (laid_next (suc (2 * i)) (numbers_of rs) t x.sectors 0 (omega arith) (omega arith) (ap (λ (y : Run). y.sectors) n.1.0 ∙ sym (numbers-sectors rs i))
            ∙ ap (λ (j : ℕ). laid j (numbers_of rs) t) (let z : suc (suc (2 * i)) ≡ 2 * (i + 1) = omega arith in z)),
      ),
    )

pub all_numbers : (rs : List Run) (t q : List ℕ) (i : ℕ) → length rs ≤ i → i ≤ length rs → q ≡ laid (2 * i) (numbers_of rs) t
    → q ≡ numbers_of rs ++ drop (2 * length rs) t
all_numbers rs t q i l m e =
    let k : length (numbers_of rs) ≡ 2 * length rs = numbers-length rs in
    e ∙ ap₂ (λ (x y : List ℕ). x ++ y) (take_all (2 * i) (numbers_of rs) (omega arith)) (ap (λ (j : ℕ). drop (2 * j) t) (let z : i ≡ length rs = omega arith in z))
