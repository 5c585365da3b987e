-- A record's sectors, one after the other, begin with the record.
use Prim.Native.Nat.{ℕ, zero, suc, ◌+◌, ◌-◌, ◌*◌, ◌/◌, ◌%◌, ◌≤◌, ◌<◌}
use mathlib.Core.Path.{◌≡◌, refl, sym, ap, ap₂, ◌∙◌}
use mathlib.Core.List.{List, ◌++◌, append_assoc}
use native.Mathlib.Decide.{dec_le}
use native.Mathlib.Nat.{add-zero, add-suc, suc-add}
use native.Mathlib.Omega.{arith}
use lib.Dec.{lit<}
use Rattle.std.specs.Prelude.{min}
use Rattle.std.proofs.lemmas.Grind.{div_ceil_times}
use lib.ListN.{length, take, drop, length-append, drop_of_length-le, take-append-drop}
use lib.Seq.{take_at, take-append-add, drop-drop, drop_at}
use Rattle.endian.specs.Bytes.{window, zeros, splice}
use Rattle.endian.proofs.Parts.{window_rest, length-window, splice-fits}
use Rattle.endian.proofs.Tests.{length-zeros, zeros-add}
use Rattle.layout.specs.Limits.{record_limit}
use Rattle.crash.specs.Crash.{Sectors, gather, area_sectors}
use Rattle.crash.proofs.Copies.{limit_sectors, limit_small}
use Rattle.stores.specs.Stores.{sectors_of, sector_of}
use Rattle.stores.specs.Given.{sector_in}

pub length_sector : (r : List ℕ) (j : ℕ) → length (sector_of r j) ≡ 512
unfolding sector_of
length_sector r j =
    let l : length (window r (512 * j) 512) ≤ 512 = length-window r (512 * j) 512 in
    length-append (window r (512 * j) 512) (zeros (512 - length (window r (512 * j) 512)))
    ∙ (ap (λ (n : ℕ). length (window r (512 * j) 512) + n) (length-zeros (512 - length (window r (512 * j) 512))) ∙ omega arith)

-- the record has room in its sectors
pub sectors-enough : (n : ℕ) → n ≤ 512 * sectors_of n
unfolding sectors_of
sectors-enough n = omega arith

pub sectors-most : (n m : ℕ) → n ≤ m * 512 → sectors_of n ≤ m
unfolding sectors_of
sectors-most n m h = omega arith

-- a record within the limit fills an area at most, and at most 1020 sectors
pub sectors-within : (n : ℕ) → n ≤ record_limit → sectors_of n ≤ area_sectors
sectors-within n h = let m : area_sectors * 512 ≡ record_limit = limit_sectors in sectors-most n area_sectors (omega arith)

pub sectors_few : (n : ℕ) → n ≤ record_limit → sectors_of n ≤ 1020
sectors_few n h = let a : area_sectors ≤ 1020 = limit_small in let b : sectors_of n ≤ area_sectors = sectors-within n h in omega arith

pub padded-within : (n : ℕ) → n ≤ record_limit → sectors_of n * 512 ≤ record_limit
padded-within n h = let m : area_sectors * 512 ≡ record_limit = limit_sectors in let b : sectors_of n ≤ area_sectors = sectors-within n h in omega arith

-- sectors as the code counts them: the whole ones, and one more for what is left
pub sectors_rounded : (n : ℕ) → n / 512 + min 1 (n % 512) ≡ sectors_of n
unfolding sectors_of
sectors_rounded n = omega (arith, div_ceil_times n 512 (lit< tt))

pub sectors-least : (n : ℕ) → 1 ≤ n → 1 ≤ sectors_of n
unfolding sectors_of
sectors-least n h = omega arith

-- a whole sector, and the last one
sector_whole : (r : List ℕ) (j : ℕ) → 512 * j + 512 ≤ length r → sector_of r j ≡ take 512 (drop (512 * j) r)
unfolding sector_of window zeros
sector_whole r j h =
    let l : length (take 512 (drop (512 * j) r)) ≡ 512 = length-window-fits' in
    ap (λ (n : ℕ). take 512 (drop (512 * j) r) ++ lib.ListN.replicate (512 - n) 0) l ∙ mathlib.Core.List.append-nil (take 512 (drop (512 * j) r))
  where
    length-window-fits' : length (take 512 (drop (512 * j) r)) ≡ 512
    length-window-fits' = simp (lib.ListN.length-take, lib.ListN.length-drop) (omega arith)

sector_last : (r : List ℕ) (j : ℕ) → length r ≤ 512 * j + 512
    → sector_of r j ≡ drop (512 * j) r ++ zeros (512 - length (drop (512 * j) r))
unfolding sector_of
sector_last r j h = ap (λ (w : List ℕ). w ++ zeros (512 - length w)) (window_rest r (512 * j) 512 h)

module _ (d : Sectors) (r : List ℕ) where
  from : (m s j : ℕ) → ((i : ℕ) → i < m → d (s + i) ≡ sector_of r (j + i)) → length r ≤ 512 * (j + m)
      → (rest : List ℕ) → take (length r - 512 * j) (gather d s m ++ rest) ≡ drop (512 * j) r
  unfolding gather
  from zero s j h l rest =
      let z : length r - 512 * j ≡ 0 = omega arith in
      ap (λ (n : ℕ). take n rest) z ∙ sym (drop_of_length-le r (let k : length r ≤ 512 * j = omega arith in k))
  from (suc m) s j h l rest =
      let first : d s ≡ sector_of r j = ap d (sym (add-zero s)) ∙ (h 0 (omega arith) ∙ ap (sector_of r) (add-zero j)) in
      let later : (i : ℕ) → i < m → d (suc s + i) ≡ sector_of r (suc j + i) =
      λ i k. ap d (suc-add s i ∙ sym (add-suc s i)) ∙ (h (suc i) (omega arith) ∙ ap (sector_of r) (add-suc j i ∙ sym (suc-add j i))) in
      elim (dec_le (512 * j + 512) (length r)) [
        | yes w ↦
            let t : List ℕ = take 512 (drop (512 * j) r) in
            let e : length t ≡ 512 = simp (lib.ListN.length-take, lib.ListN.length-drop) (omega arith) in
            let n : length r - 512 * j ≡ length t + (length r - 512 * suc j) = omega arith in
            ap₂ take n (ap (λ (q : List ℕ). (q ++ gather d (suc s) m) ++ rest) (first ∙ sector_whole r j w) ∙ append_assoc t (gather d (suc s) m) rest)
            ∙ (take-append-add t (gather d (suc s) m ++ rest) (length r - 512 * suc j)
            ∙ (ap (λ (q : List ℕ). t ++ q) (from m (suc s) (suc j) later (omega arith) rest ∙ (ap (λ (q : ℕ). drop q r) (let o : 512 * suc j ≡ 512 * j + 512 = omega arith in o) ∙ sym (drop-drop 512 (512 * j) r)))
            ∙ take-append-drop 512 (drop (512 * j) r)))
        | no w ↦
            let t : List ℕ = drop (512 * j) r in
            let n : length r - 512 * j ≡ length t = sym (lib.ListN.length-drop (512 * j) r) in
            ap₂ take n
            (ap (λ (q : List ℕ). (q ++ gather d (suc s) m) ++ rest) (first ∙ sector_last r j (omega arith))
            ∙ (append_assoc (t ++ zeros (512 - length t)) (gather d (suc s) m) rest ∙ append_assoc t (zeros (512 - length t)) (gather d (suc s) m ++ rest)))
            ∙ take_at t (zeros (512 - length t) ++ (gather d (suc s) m ++ rest)) (length t) refl
      ]

gather_split : (d : Sectors) (s n m : ℕ) → gather d s (n + m) ≡ gather d s n ++ gather d (s + n) m
unfolding gather
gather_split d s zero m = ap₂ (gather d) (sym (add-zero s)) (native.Mathlib.Nat.zero-add m)
gather_split d s (suc n) m =
    ap (gather d s) (suc-add n m)
    ∙ (ap (λ (q : List ℕ). d s ++ q) (gather_split d (suc s) n m ∙ ap (λ (i : ℕ). gather d (suc s) n ++ gather d i m) (suc-add s n ∙ sym (add-suc s n)))
    ∙ sym (append_assoc (d s) (gather d (suc s) n) (gather d (s + suc n) m)))

-- sectors that hold a record begin with it
pub gather_record : (d : Sectors) (r : List ℕ) (s m : ℕ) → sectors_of (length r) ≤ m → ((i : ℕ) → i < sectors_of (length r) → d (s + i) ≡ sector_of r i)
    → take (length r) (gather d s m) ≡ r
gather_record d r s m l h =
    let k : ℕ = sectors_of (length r) in
    let e : m ≡ k + (m - k) = omega arith in
    let b : length r ≤ 512 * k = sectors-enough (length r) in
    ap₂ take (let z : length r ≡ length r - 512 * 0 = omega arith in z) (ap (gather d s) e ∙ gather_split d s k (m - k))
    ∙ from d r k s 0 (λ i w. h i w ∙ ap (sector_of r) (sym (native.Mathlib.Nat.zero-add i))) (let z : 0 + sectors_of (length r) ≡ sectors_of (length r) = omega arith in omega arith) (gather d (s + k) (m - k))

-- zeros that begin with a list
pub zeros-begun : (n : ℕ) (v : List ℕ) → length v ≤ n → splice (zeros n) 0 v ≡ v ++ zeros (n - length v)
zeros-begun n v l =
    let k : ℕ = n - length v in
    let e : n ≡ length v + (n - length v) = omega arith in
    let q : length (zeros n) ≡ n = length-zeros n in
    splice-fits (zeros n) 0 v (omega arith)
    ∙ ap (λ (y : List ℕ). v ++ y)
    (ap₂ drop (native.Mathlib.Nat.zero-add (length v)) (ap zeros e ∙ zeros-add (length v) (n - length v))
    ∙ drop_at (zeros (length v)) (zeros (n - length v)) (length v) (length-zeros (length v)))

-- 512 lent bytes, zeroed and then begun with a record's part, are that sector of the record
pub sector_laid : (r : List ℕ) (j : ℕ) (out : List ℕ) → length out ≡ 512 → sector_in r j out ≡ sector_of r j
unfolding sector_of
sector_laid r j out e =
    ap (λ (n : ℕ). splice (zeros n) 0 (window r (512 * j) 512)) e ∙ zeros-begun 512 (window r (512 * j) 512) (length-window r (512 * j) 512)
