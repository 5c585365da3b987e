-- A block with one entry changed keeps every other byte but the CRC's.
use Prim.Native.Nat.{ℕ, ◌+◌, ◌-◌, ◌≤◌, ◌<◌}
use mathlib.Core.Path.{◌≡◌, refl, sym, ap, ap₂, ◌∙◌}
use mathlib.Core.List.{List, [], ◌∷◌, ◌++◌, append_assoc, flatten}
use native.Mathlib.Decide.{dec_le}
use native.Mathlib.Omega.{arith}
use lib.ListN.{length, get_or, length-append, get_or-append}
use lib.Seq.{get_or-append-add}
use Rattle.std.specs.Prelude.{Option, Some}
use Rattle.endian.specs.Bytes.{to_le, zeros}
use Rattle.endian.proofs.Numbers.{length-to_le}
use Rattle.endian.proofs.Parts.{length-window-fits}
use Rattle.endian.proofs.Tests.{length-zeros}
use Rattle.checksum.specs.Crc.{checksum}
use Rattle.layout.specs.declared.Area.{Area}
use Rattle.layout.specs.declared.Area.TheVariants.{A, B}
use Rattle.block.specs.declared.Holding.{Holding}
use Rattle.block.specs.declared.BlockFields.{BlockFields}
use Rattle.block.specs.Block.{signature_bytes, pool_of, blockdev_of, fields_of}
use Rattle.block.specs.Writing.{holding_of, body_fields, block_of}
use Rattle.block.proofs.Written.{written-accepted}
use Rattle.block.proofs.Demand.{write-after-read}
use Rattle.copy.specs.Copy.{block_in, entry_in}
use Rattle.stores.specs.Stores.{holding_for, with_entry}
use Rattle.update.specs.Update.{spare, new_block}
use Rattle.update.specs.Demand.{entry_place, Changing}

-- a part replaced by one of the same length: outside it the lists are the same
outside : (x m n q : List ℕ) (i : ℕ) → length m ≡ length n → (length x ≤ i → i < length x + length m → ⊥)
    → get_or (x ++ (m ++ q)) i 0 ≡ get_or (x ++ (n ++ q)) i 0
outside x m n q i e out =
    elim (dec_le (length x) i) [
      | no h ↦ get_or-append x (m ++ q) 0 i (omega arith) ∙ sym (get_or-append x (n ++ q) 0 i (omega arith))
      | yes h ↦
          elim (dec_le (length x + length m) i) [
            | no k ↦ absurd (out h (omega arith))
            | yes k ↦
                after x m q i k ∙ (ap (λ (l : ℕ). get_or q (i - (length x + l)) 0) e ∙ sym (after x n q i (omega arith)))
          ]
    ]
  where
    after : (x m q : List ℕ) (i : ℕ) → length x + length m ≤ i → get_or (x ++ (m ++ q)) i 0 ≡ get_or q (i - (length x + length m)) 0
    after x m q i h =
        ap₂ (λ (s : List ℕ) (j : ℕ). get_or s j 0) (sym (append_assoc x m q))
        (let j : i ≡ length x + length m + (i - (length x + length m)) = omega arith in j ∙ ap (λ (n : ℕ). n + (i - (length x + length m))) (sym (length-append x m)))
        ∙ get_or-append-add (x ++ m) q (i - (length x + length m)) 0

-- lists joined in two steps
join_append : (xs ys : List (List ℕ)) → flatten (xs ++ ys) ≡ flatten xs ++ flatten ys
unfolding flatten
join_append [] ys = refl
join_append (x ∷ xs) ys = ap (◌++◌ x) (join_append xs ys) ∙ sym (append_assoc x (flatten xs) (flatten ys))

three : (x m z : List ℕ) → length (x ++ (m ++ (z ++ []))) ≡ length x + (length m + (length z + 0))
three x m z =
    length-append x (m ++ (z ++ []))
    ∙ ap (◌+◌ (length x)) (length-append m (z ++ []) ∙ ap (◌+◌ (length m)) (length-append z []))

-- the fields before area a's entry, an entry, the zeros between the two, and the fields after area b's
abbrev entry_fields : Option Holding → List (List ℕ)
entry_fields e = to_le 8 (holding_of e).seconds ∷ to_le 4 (holding_of e).nanoseconds ∷ to_le 4 (holding_of e).bytes ∷ to_le 4 (holding_of e).checksum ∷ []

length-entry : (e : Option Holding) → length (flatten (entry_fields e)) ≡ 20
unfolding flatten
length-entry e = simp (length-append, length-to_le)

module _ (p u : List ℕ) (hp : length p ≡ 32) (hu : length u ≡ 32) (f : BlockFields) where
  abbrev before : List (List ℕ)
  before = signature_bytes ∷ to_le 8 f.device.sectors ∷ zeros 4 ∷ p ∷ u ∷ []

  abbrev last : List (List ℕ)
  last = zeros 12 ∷ to_le 4 f.device.metadata ∷ to_le 4 f.device.reserved ∷ zeros 344 ∷ []

  length_before : length (flatten before) ≡ 92
  unfolding flatten signature_bytes
  length_before = simp (length-append, length-to_le, length-zeros, hp, hu)

  -- what stands before an area's entry, and after it
  abbrev head : Area → List (List ℕ)
  head A = before
  head B = before ++ (entry_fields f.a ++ (zeros 12 ∷ []))

  abbrev tail : Area → List (List ℕ)
  tail A = zeros 12 ∷ (entry_fields f.b ++ last)
  tail B = last

  length-head : (y : Area) → 4 + length (flatten (head y)) ≡ entry_place y
  unfolding flatten
  length-head A = ap (◌+◌ 4) length_before
  length-head B =
      ap (λ (s : List ℕ). 4 + length s) (join_append before (entry_fields f.a ++ (zeros 12 ∷ [])) ∙ ap (◌++◌ (flatten before)) (join_append (entry_fields f.a) (zeros 12 ∷ [])))
      ∙ (let a : length (flatten before) ≡ 92 = length_before in
      let b : length (flatten (entry_fields f.a)) ≡ 20 = length-entry f.a in
      let z : length (zeros 12) ≡ 12 = length-zeros 12 in
      let t : length (flatten before ++ (flatten (entry_fields f.a) ++ (zeros 12 ++ []))) ≡ length (flatten before) + (length (flatten (entry_fields f.a)) + (length (zeros 12) + 0)) =
      three (flatten before) (flatten (entry_fields f.a)) (zeros 12) in
      omega arith)

  laid : (y : Area) (e : Option Holding) → body_fields p u (with_entry f y e) ≡ head y ++ (entry_fields e ++ tail y)
  laid A e = refl
  laid B e = refl

  -- two blocks that differ in one entry
  same_outside : (y : Area) (e g : Option Holding) (i : ℕ) → 4 ≤ i → (entry_place y ≤ i → i < entry_place y + 20 → ⊥)
      → get_or (block_of p u (with_entry f y e)) i 0 ≡ get_or (block_of p u (with_entry f y g)) i 0
  unfolding block_of
  same_outside y e g i h out =
      body (checksum (flatten (body_fields p u (with_entry f y e)))) e ∙ (middle ∙ sym (body (checksum (flatten (body_fields p u (with_entry f y g)))) g))
    where
      body : (c : ℕ) (e : Option Holding) → get_or (to_le 4 c ++ flatten (body_fields p u (with_entry f y e))) i 0
          ≡ get_or (flatten (head y) ++ (flatten (entry_fields e) ++ flatten (tail y))) (i - 4) 0
      body c e =
          let l : length (to_le 4 c) ≡ 4 = length-to_le 4 c in
          ap (λ (j : ℕ). get_or (to_le 4 c ++ flatten (body_fields p u (with_entry f y e))) j 0) (let j : i ≡ length (to_le 4 c) + (i - 4) = omega arith in j)
          ∙ (get_or-append-add (to_le 4 c) (flatten (body_fields p u (with_entry f y e))) (i - 4) 0
          ∙ ap (λ (s : List ℕ). get_or s (i - 4) 0)
          (ap flatten (laid y e) ∙ (join_append (head y) (entry_fields e ++ tail y) ∙ ap (◌++◌ (flatten (head y))) (join_append (entry_fields e) (tail y)))))

      middle : get_or (flatten (head y) ++ (flatten (entry_fields e) ++ flatten (tail y))) (i - 4) 0 ≡ get_or (flatten (head y) ++ (flatten (entry_fields g) ++ flatten (tail y))) (i - 4) 0
      middle =
          let a : 4 + length (flatten (head y)) ≡ entry_place y = length-head y in
          let b : length (flatten (entry_fields e)) ≡ 20 = length-entry e in
          outside (flatten (head y)) (flatten (entry_fields e)) (flatten (entry_fields g)) (flatten (tail y)) (i - 4) (length-entry e ∙ sym (length-entry g))
          (λ k l. out (omega arith) (omega arith))

-- an entry put back
put_back : (f : BlockFields) (y : Area) → with_entry f y (entry_in f y) ≡ f
put_back f A = refl
put_back f B = refl

pub changing : Changing
unfolding new_block
changing c t r i bytes accepted h out =
    let b : List ℕ = block_in c in
    let n : length (block_in c) ≡ 512 = accepted.size in
    let w : block_of (pool_of (block_in c)) (blockdev_of (block_in c)) (fields_of (block_in c)) ≡ block_in c =
    written-accepted (block_in c) (pool_of (block_in c)) (blockdev_of (block_in c)) (fields_of (block_in c)) (write-after-read (block_in c) (block_in c) bytes accepted n).0
    ∙ (write-after-read (block_in c) (block_in c) bytes accepted n).1 in
    same_outside (pool_of (block_in c)) (blockdev_of (block_in c)) (length-window-fits (block_in c) 32 32 (omega arith)) (length-window-fits (block_in c) 64 32 (omega arith))
    (fields_of (block_in c)) (spare c) (Some (holding_for t r)) (entry_in (fields_of (block_in c)) (spare c)) i h out
    ∙ ap (λ (s : List ℕ). get_or s i 0)
    (ap (block_of (pool_of (block_in c)) (blockdev_of (block_in c))) (put_back (fields_of (block_in c)) (spare c)) ∙ w)
