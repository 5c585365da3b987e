-- A record's sectors and a laid record, byte by byte.
use Prim.Native.Nat.{ℕ, ◌+◌, ◌-◌, ◌*◌, ◌≤◌, ◌<◌}
use mathlib.Core.Path.{◌≡◌, sym, ap, ap₂, ◌∙◌}
use mathlib.Core.Bool.{Bool, cond}
use mathlib.Core.List.{List, ◌++◌}
use native.Mathlib.Decide.{dec_lt}
use native.Mathlib.Omega.{arith}
use borrow.Author.Tests.{eqb-true, eq-eqb}
use lib.Dec.{lit<}
use lib.ListN.{length, get_or, take, drop, get_or-replicate, get_or-eq_default, get_or-append, length-take, length-append}
use lib.Seq.{get_or-append-add, get_or-take, get_or-drop}
use Rattle.endian.specs.Bytes.{window, zeros, splice}
use Rattle.endian.proofs.Parts.{splice-fits, length-splice}
use Rattle.endian.proofs.Tests.{length-zeros}
use Rattle.refusal.specs.Tests.{first, Ascending}
use Rattle.refusal.proofs.Order.{first-zero}
use Rattle.layout.specs.Limits.{record_limit}
use Rattle.layout.specs.Places.{area_offset, copy_bytes}
use Rattle.layout.proofs.Laws.{length_facts}
use Rattle.stores.specs.Stores.{sectors_of, sector_of}
use Rattle.stores.specs.Given.{lay_tests, laid}
use Rattle.stores.specs.Demand.{Fewest, Sectoring, Lays, Laying}
use Rattle.stores.proofs.Padding.{length_sector, sectors-enough, padded-within}
use Rattle.stores.proofs.Whole.{area_fits}

pub fewest : Fewest
unfolding sectors_of
fewest n = (omega arith, omega arith)

zero-at : (n i : ℕ) → get_or (zeros n) i 0 ≡ 0
unfolding zeros
zero-at n i =
    let l : length (zeros n) ≡ n = length-zeros n in
    elim (dec_lt i n) [
      | yes h ↦ get_or-replicate n i 0 0 h
      | no h ↦ get_or-eq_default (zeros n) 0 (omega arith)
    ]

-- zeros behind a list are what `get_or` says past its end
byte_padded : (s : List ℕ) (n i : ℕ) → get_or (s ++ zeros n) i 0 ≡ get_or s i 0
byte_padded s n i =
    elim (dec_lt i (length s)) [
      | yes h ↦ get_or-append s (zeros n) 0 i h
      | no h ↦
          ap (λ (j : ℕ). get_or (s ++ zeros n) j 0) (let e : i ≡ length s + (i - length s) = omega arith in e)
          ∙ (get_or-append-add s (zeros n) (i - length s) 0 ∙ (zero-at n (i - length s) ∙ sym (get_or-eq_default s 0 (omega arith))))
    ]

pub sectoring : Sectoring
unfolding sector_of window
sectoring r j =
    record {
      size = length_sector r j;
      byte = λ i h.
          byte_padded (take 512 (drop (512 * j) r)) (512 - length (take 512 (drop (512 * j) r))) i
          ∙ (get_or-take 512 (drop (512 * j) r) i 0 h ∙ get_or-drop (512 * j) r i 0);
    }

-- a list laid over another
module _ (c : List ℕ) (at : ℕ) (v : List ℕ) (fits : at + length v ≤ length c) where
  front : length (take at c) ≡ at
  front = length-take at c ∙ omega arith

  laid_in : (i : ℕ) → i < length v → get_or (splice c at v) (at + i) 0 ≡ get_or v i 0
  laid_in i h =
      ap₂ (λ (s : List ℕ) (n : ℕ). get_or s (n + i) 0) (splice-fits c at v fits) (sym front)
      ∙ (get_or-append-add (take at c) (v ++ drop (at + length v) c) i 0 ∙ get_or-append v (drop (at + length v) c) 0 i h)

  laid-before : (i : ℕ) → i < at → get_or (splice c at v) i 0 ≡ get_or c i 0
  laid-before i h =
      let l : length (take at c) ≡ at = front in
      ap (λ (s : List ℕ). get_or s i 0) (splice-fits c at v fits)
      ∙ (get_or-append (take at c) (v ++ drop (at + length v) c) 0 i (omega arith) ∙ get_or-take at c i 0 h)

  laid-after : (i : ℕ) → at + length v ≤ i → get_or (splice c at v) i 0 ≡ get_or c i 0
  laid-after i h =
      let n : ℕ = i - (at + length v) in
      let e : i ≡ at + (length v + (i - (at + length v))) = omega arith in
      let o : at + length v + (i - (at + length v)) ≡ i = omega arith in
      ap₂ (λ (s : List ℕ) (k : ℕ). get_or s k 0) (splice-fits c at v fits) e
      ∙ (ap (λ (k : ℕ). get_or (take at c ++ (v ++ drop (at + length v) c)) (k + (length v + (i - (at + length v)))) 0) (sym front)
      ∙ (get_or-append-add (take at c) (v ++ drop (at + length v) c) (length v + (i - (at + length v))) 0
      ∙ (get_or-append-add v (drop (at + length v) c) (i - (at + length v)) 0
      ∙ (get_or-drop (at + length v) c (i - (at + length v)) 0 ∙ ap (λ (k : ℕ). get_or c k 0) o))))

  laid_other : (i : ℕ) → (at ≤ i → i < at + length v → ⊥) → get_or (splice c at v) i 0 ≡ get_or c i 0
  laid_other i out =
      elim (dec_lt i at) [
        | yes h ↦ laid-before i h
        | no h ↦
            elim (dec_lt i (at + length v)) [
              | yes k ↦ absurd (out (omega arith) k)
              | no k ↦ laid-after i (omega arith)
            ]
      ]

pub laying : Laying
unfolding laid
laying c x r e = go
  where
    ascending : Ascending 0 (lay_tests c r)
    ascending = (lit< tt, (lit< tt, tt))

    long : length c ≡ copy_bytes
    long = eqb-true (length c) copy_bytes (first-zero 0 (lay_tests c r) ascending e).0

    n : ℕ
    n = sectors_of (length r) * 512

    v : List ℕ
    v = r ++ zeros (n - length r)

    enough : length r ≤ n
    enough = let h : length r ≤ 512 * sectors_of (length r) = sectors-enough (length r) in omega arith

    size : length v ≡ n
    size =
        let l : length r ≤ n = enough in
        length-append r (zeros (n - length r)) ∙ (ap (λ (k : ℕ). length r + k) (length-zeros (n - length r)) ∙ omega arith)

    fits : area_offset x + length v ≤ length c
    fits =
        let s : n ≤ record_limit = padded-within (length r) (length_facts (length r) (first-zero 0 (lay_tests c r) ascending e).1.0).1 in
        let a : area_offset x + record_limit ≤ copy_bytes = area_fits x in
        let l : length c ≡ copy_bytes = long in
        let z : length v ≡ n = size in
        omega arith

    stored : laid c x r ≡ splice c (area_offset x) v
    stored = ap (λ (q : Bool). cond q (splice c (area_offset x) v) c) (eq-eqb (first (lay_tests c r)) 0 e)

    go : Lays c x r
    go =
        record {
          size = ap length stored ∙ length-splice c (area_offset x) v;
          filled = λ i h.
              let z : length v ≡ n = size in
              ap (λ (s : List ℕ). get_or s (area_offset x + i) 0) stored ∙ (laid_in c (area_offset x) v fits i (omega arith) ∙ byte_padded r (n - length r) i);
          other = λ i out.
              ap (λ (s : List ℕ). get_or s i 0) stored
              ∙ laid_other c (area_offset x) v fits i (λ a b. out a (let z : length v ≡ n = size in omega arith));
        }
