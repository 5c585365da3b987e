-- The stores of a mend: which number goes to which sector.
use Prim.Native.Nat.{ℕ, zero, suc, ◌+◌, ◌≤◌, ◌<◌}
use mathlib.Core.Path.{◌≡◌, refl, sym, ap, subst, ◌∙◌}
use mathlib.Core.Bool.{Bool, true, false}
use mathlib.Core.List.{List, [], ◌∷◌, ◌++◌, map, flatten}
use native.Mathlib.Decide.{dec_lt, ℕ_discrete}
use native.Mathlib.Nat.{add-zero}
use native.Mathlib.Omega.{arith}
use lib.ListN.{length, take, get_or, length-append}
use Rattle.layout.specs.declared.Side.{Side}
use Rattle.layout.specs.declared.Area.{Area}
use Rattle.layout.specs.declared.Area.TheVariants.{A}
use Rattle.layout.specs.Places.{block_sector, area_sector}
use Rattle.block.specs.Block.{fields_of}
use Rattle.copy.specs.Copy.{block_in, entry_in, other_side, device_in}
use Rattle.crash.specs.Crash.{Store, Groups, stores, store_in, group_start}
use Rattle.crash.proofs.Groups.{at_left, at_right, total, starts}
use Rattle.stores.specs.Stores.{sectors_of, sector_of, record_stores, block_store}
use Rattle.stores.proofs.Records.{length_record, at_record}
use Rattle.mend.specs.Mend.{block_like, emptied, refilled, blanked, later_whole, last_group, rewriting}

abbrev none : Store
none = record { sector = 0; content = [] }

module _ (w : Side) (c : List ℕ) (x : Area) (r : List ℕ) where
  abbrev k : ℕ
  k = sectors_of (length r)

  abbrev groups : Groups
  groups = rewriting w c x r

  abbrev block_place : Side → List ℕ → Store
  block_place s b = record { sector = block_sector s (device_in c); content = b }

  abbrev theRecord : List Store
  theRecord = record_stores (area_sector (other_side w) A (device_in c)) r

  -- the three blocks that are stored
  abbrev pub empty_block : List ℕ
  empty_block = block_like c (emptied (device_in c))

  abbrev pub filledBlock : List ℕ
  filledBlock = block_like c (refilled (device_in c) (entry_in (fields_of (block_in c)) x))

  abbrev pub blankBlock : List ℕ
  blankBlock = block_like c (blanked (fields_of (block_in c)))

  listed : stores groups ≡ block_place (other_side w) empty_block ∷ (theRecord ++ (block_place (other_side w) filledBlock ∷ stores (last_group w c)))
  unfolding flatten rewriting
  listed = refl

  long : length theRecord ≡ k
  long = length_record (area_sector (other_side w) A (device_in c)) r

  pub at_first : store_in groups 0 ≡ block_place (other_side w) empty_block
  unfolding store_in
  at_first = ap (λ (s : List Store). get_or s 0 none) listed

  pub at_sector : (i : ℕ) → i < k → store_in groups (suc i) ≡ record { sector = area_sector (other_side w) A (device_in c) + i; content = sector_of r i }
  unfolding store_in
  at_sector i l =
      let m : length theRecord ≡ k = long in
      ap (λ (s : List Store). get_or s (suc i) none) listed
      ∙ (at_left none theRecord (block_place (other_side w) filledBlock ∷ stores (last_group w c)) i (omega arith)
      ∙ at_record none (area_sector (other_side w) A (device_in c)) r i l)

  -- what stands after the record
  after_record : (i : ℕ) → store_in groups (suc (k + i)) ≡ get_or (block_place (other_side w) filledBlock ∷ stores (last_group w c)) i none
  unfolding store_in
  after_record i =
      ap (λ (s : List Store). get_or s (suc (k + i)) none) listed
      ∙ (ap (λ (n : ℕ). get_or (theRecord ++ (block_place (other_side w) filledBlock ∷ stores (last_group w c))) (n + i) none) (sym long)
      ∙ at_right none theRecord (block_place (other_side w) filledBlock ∷ stores (last_group w c)) i)

  pub at_second : store_in groups (suc k) ≡ block_place (other_side w) filledBlock
  at_second = ap (λ (n : ℕ). store_in groups (suc n)) (sym (add-zero k)) ∙ after_record 0

  count : length (stores groups) ≡ k + 2 + length (stores (last_group w c))
  count =
      ap length listed
      ∙ (ap suc (length-append theRecord (block_place (other_side w) filledBlock ∷ stores (last_group w c)) ∙ ap (λ (n : ℕ). n + suc (length (stores (last_group w c)))) long)
      ∙ (let n : ℕ = length (stores (last_group w c)) in let e : suc (k + suc n) ≡ k + 2 + n = omega arith in e))

  -- at least the first three groups
  pub at_least : k + 2 ≤ length (stores groups)
  at_least = let e : length (stores groups) ≡ k + 2 + length (stores (last_group w c)) = count in omega arith

  group_lengths : map length groups ≡ 1 ∷ k ∷ 1 ∷ map length (last_group w c)
  unfolding rewriting
  group_lengths = ap (λ (n : ℕ). 1 ∷ n ∷ 1 ∷ map length (last_group w c)) long

  group_starts : (g : ℕ) → group_start groups g ≡ total (take g (1 ∷ k ∷ 1 ∷ map length (last_group w c)))
  group_starts g = starts groups g ∙ ap (λ (ns : List ℕ). total (take g ns)) group_lengths

  -- no last store
  module _ (h : later_whole c ≡ true) where
    last_none : last_group w c ≡ []
    unfolding last_group
    last_none = rw h

    pub count-whole : length (stores groups) ≡ k + 2
    unfolding flatten
    count-whole = count ∙ (ap (λ (g : Groups). k + 2 + length (stores g)) last_none ∙ add-zero (k + 2))

  -- one last store
  module _ (h : later_whole c ≡ false) where
    last_one : last_group w c ≡ block_store w (device_in c) blankBlock ∷ []
    unfolding last_group
    last_one = rw h

    pub count-blank : length (stores groups) ≡ k + 3
    unfolding flatten
    count-blank =
        count ∙ (ap (λ (g : Groups). k + 2 + length (stores g)) last_one ∙ (let e : k + 2 + 1 ≡ k + 3 = omega arith in e))

    pub at_last : store_in groups (suc (suc k)) ≡ block_place w blankBlock
    unfolding flatten
    at_last =
        ap (λ (n : ℕ). store_in groups (suc n)) (let e : suc k ≡ k + 1 = omega arith in e)
        ∙ (after_record 1 ∙ ap (λ (g : Groups). get_or (block_place (other_side w) filledBlock ∷ stores g) 1 none) last_one)

  -- where the groups start: the fourth ends with the last store, whether it has one or none
  pub start_one : group_start groups 1 ≡ 1
  start_one = group_starts 1

  pub start_two : group_start groups 2 ≡ k + 1
  start_two = group_starts 2 ∙ omega arith

  pub start_three : group_start groups 3 ≡ k + 2
  start_three = group_starts 3 ∙ omega arith

  pub start_four : group_start groups 4 ≡ length (stores groups)
  start_four = go (later_whole c) refl
    where
      go : (t : Bool) → later_whole c ≡ t → group_start groups 4 ≡ length (stores groups)
      go true h =
          group_starts 4
          ∙ (ap (λ (z : Groups). total (take 4 (1 ∷ k ∷ 1 ∷ map length z))) (last_none h) ∙ ((let e : 1 + (k + (1 + 0)) ≡ k + 2 = omega arith in e) ∙ sym (count-whole h)))
      go false h =
          group_starts 4
          ∙ (ap (λ (z : Groups). total (take 4 (1 ∷ k ∷ 1 ∷ map length z))) (last_one h) ∙ ((let e : 1 + (k + (1 + (1 + 0))) ≡ k + 3 = omega arith in e) ∙ sym (count-blank h)))

  -- what holds of the first, of the record's sectors, of the second and of the last holds of every store
  pub by_store : (P : ℕ → Type 0) → P 0 → ((i : ℕ) → i < k → P (suc i)) → P (suc k) → (later_whole c ≡ false → P (suc (suc k)))
      → (j : ℕ) → j < length (stores groups) → P j
  by_store P first sector second last zero l = first
  by_store P first sector second last (suc i) l =
      elim (dec_lt i k) [
        | yes a ↦ sector i a
        | no a ↦
            elim (ℕ_discrete k i) [
              | yes e ↦ subst (λ (n : ℕ). P (suc n)) e second
              | no e ↦ past (omega arith) (later_whole c) refl
            ]
      ]
    where
      past : k < i → (t : Bool) → later_whole c ≡ t → P (suc i)
      past a true h =
          let m : length (stores groups) ≡ k + 2 = count-whole h in
          absurd (omega arith)
      past a false h =
          let m : length (stores groups) ≡ k + 3 = count-blank h in
          subst (λ (n : ℕ). P (suc n)) (let e : suc k ≡ i = omega arith in e) (last h)
