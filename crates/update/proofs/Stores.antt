-- The stores of an update, by side: which number goes to which sector.
use Prim.Native.Nat.{ℕ, zero, suc, ◌+◌, ◌-◌, ◌≤◌, ◌<◌}
use mathlib.Core.Path.{◌≡◌, refl, sym, ap, ap₂, subst, ◌∙◌}
use mathlib.Core.List.{List, [], ◌∷◌, ◌++◌, append_assoc, map, flatten}
use native.Mathlib.Decide.{dec_le, ℕ_discrete}
use native.Mathlib.Nat.{zero-add, add-zero, le_refl}
use native.Mathlib.Omega.{arith}
use lib.ListN.{length, take, get_or, length-append}
use Rattle.layout.specs.declared.Device.{Device}
use Rattle.layout.specs.declared.Side.{Side}
use Rattle.layout.specs.declared.Side.TheVariants.{Front, Back}
use Rattle.layout.specs.Places.{block_sector, area_sector}
use Rattle.block.specs.declared.Time.{Time}
use Rattle.crash.specs.Crash.{Store, Groups, stores, store_in, group_start}
use Rattle.crash.proofs.Groups.{total, starts, at_left, at_right}
use Rattle.copy.specs.Copy.{device_in}
use Rattle.stores.specs.Stores.{sectors_of, sector_of, record_stores, block_store}
use Rattle.update.specs.Update.{spare, new_block, side_groups, update_groups}
use Rattle.update.specs.declared.Plan.{Plan}
use Rattle.update.specs.Plan.{sectors_in, group_of}
use Rattle.update.proofs.Choosing.{in_front_area, in_front_block, in_back_area, in_back_block}
use Rattle.stores.proofs.Padding.{length_sector}
use Rattle.stores.proofs.Records.{length_record, at_record}
use Rattle.stores.proofs.Places.{Sizes, near, area_near, block_near, block_apart, same_side}
use Rattle.stores.proofs.OneSide as OneSide

-- with k sectors: the number of a group's first store, and of a side's
abbrev pub starting : ℕ → ℕ → ℕ
starting k g = total (take g (k ∷ 1 ∷ k ∷ 1 ∷ []))

abbrev pub begin : ℕ → Side → ℕ
begin k Front = 0
begin k Back = k + 1

within : (k : ℕ) (w : Side) → begin k w + k < k + 1 + k + 1
within k Front = omega arith
within k Back = omega arith

-- what holds of each side's stores holds of every store
pub by_side : (k : ℕ) (P : ℕ → Type 0) → ((w : Side) (i : ℕ) → i ≤ k → P (begin k w + i)) → (j : ℕ) → j < k + 1 + k + 1 → P j
by_side k P h j l =
    elim (dec_le j k) [
      | yes a ↦ subst P (zero-add j) (h Front j a)
      | no a ↦ subst P (let e : k + 1 + (j - (k + 1)) ≡ j = omega arith in e) (h Back (j - (k + 1)) (omega arith))
    ]

-- the groups have k stores, one, k and one
module _ (f b : List ℕ) (t : Time) (r : List ℕ) where
  group_lengths : map length (update_groups f b t r) ≡ sectors_of (length r) ∷ 1 ∷ sectors_of (length r) ∷ 1 ∷ []
  unfolding update_groups
  group_lengths = rw (length_record, length_record)

  -- and there are four
  pub groups_four : length (update_groups f b t r) ≡ 4
  unfolding update_groups
  groups_four = refl

  pub group_starts : (g : ℕ) → group_start (update_groups f b t r) g ≡ starting (sectors_of (length r)) g
  group_starts g = starts (update_groups f b t r) g ∙ ap (λ (ns : List ℕ). total (take g ns)) group_lengths

  -- what a plan of as many sectors says of a group's stores
  pub grouped : (p : Plan) → sectors_of (length r) ≡ sectors_in p → (g i : ℕ) → g < 4 → group_start (update_groups f b t r) g ≤ i
      → i < group_start (update_groups f b t r) (suc g) → group_of p i ≡ g
  grouped p e g i h a b = go g h (subst (λ (n : ℕ). n ≤ i) (group_starts g) a) (subst (λ (n : ℕ). i < n) (group_starts (suc g)) b)
    where
      go : (g : ℕ) → g < 4 → starting (sectors_of (length r)) g ≤ i → i < starting (sectors_of (length r)) (suc g) → group_of p i ≡ g
      go zero h a b = in_front_area p i (omega arith)
      go (suc zero) h a b = in_front_block p i (omega arith)
      go (suc (suc zero)) h a b = in_back_area p i (omega arith) (omega arith)
      go (suc (suc (suc zero))) h a b = in_back_block p i (omega arith) (omega arith)
      go (suc (suc (suc (suc g)))) h a b = absurd (let o : ◌≡◌ {A = ℕ} 0 1 = omega arith in omega arith)

-- the copies of the two sides, on the device that the front one is of
module _ (c : Side → List ℕ) (t : Time) (r : List ℕ) (v : Device) (at : device_in (c Front) ≡ v) where
  abbrev k : ℕ
  k = sectors_of (length r)

  abbrev groups : Groups
  groups = update_groups (c Front) (c Back) t r

  abbrev none : Store
  none = record { sector = 0; content = [] }

  -- a side's record, its block and the two together
  abbrev areaPart : Side → List Store
  areaPart w = record_stores (area_sector w (spare (c w)) v) r

  abbrev blockPart : Side → List Store
  blockPart w = block_store w v (new_block (c w) t r)

  abbrev part : Side → List Store
  part w = areaPart w ++ blockPart w

  length_part : (w : Side) → length (part w) ≡ k + 1
  length_part w = length-append (areaPart w) (blockPart w) ∙ ap (λ (n : ℕ). n + 1) (length_record (area_sector w (spare (c w)) v) r)

  -- the front's stores, then the back's
  sides : stores groups ≡ part Front ++ part Back
  unfolding update_groups flatten
  sides =
      ap (λ (u : Device). stores (side_groups Front u (c Front) t r ++ side_groups Back u (c Back) t r)) at
      ∙ sym (append_assoc (areaPart Front) (blockPart Front) (part Back))

  pub count : length (stores groups) ≡ k + 1 + k + 1
  count =
      ap length sides
      ∙ (length-append (part Front) (part Back)
      ∙ (ap₂ ◌+◌ (length_part Front) (length_part Back) ∙ (let e : k + 1 + (k + 1) ≡ k + 1 + k + 1 = omega arith in e)))

  at_side : (w : Side) (j : ℕ) → j ≤ k → store_in groups (begin k w + j) ≡ get_or (part w) j none
  unfolding store_in
  at_side Front j l =
      let m : length (part Front) ≡ k + 1 = length_part Front in
      ap₂ (λ (s : List Store) (n : ℕ). get_or s n none) sides (zero-add j) ∙ at_left none (part Front) (part Back) j (omega arith)
  at_side Back j l =
      ap₂ (λ (s : List Store) (n : ℕ). get_or s (n + j) none) sides (sym (length_part Front)) ∙ at_right none (part Front) (part Back) j

  -- a side's k stores to its area, and the one to its block
  side_area : (w : Side) (i : ℕ) → i < k → store_in groups (begin k w + i) ≡ record { sector = area_sector w (spare (c w)) v + i; content = sector_of r i }
  side_area w i l =
      let m : length (areaPart w) ≡ k = length_record (area_sector w (spare (c w)) v) r in
      at_side w i (omega arith) ∙ (at_left none (areaPart w) (blockPart w) i (omega arith) ∙ at_record none (area_sector w (spare (c w)) v) r i l)

  side_block : (w : Side) → store_in groups (begin k w + k) ≡ record { sector = block_sector w v; content = new_block (c w) t r }
  side_block w =
      at_side w k (le_refl k)
      ∙ (ap (λ (n : ℕ). get_or (part w) n none) (sym (add-zero k) ∙ ap (λ (n : ℕ). n + 0) (sym (length_record (area_sector w (spare (c w)) v) r)))
      ∙ at_right none (areaPart w) (blockPart w) 0)

  -- every store has 512 bytes, where the new blocks have
  pub stored_size : ((w : Side) → length (new_block (c w) t r) ≡ 512) → (j : ℕ) → j < k + 1 + k + 1 → length (store_in groups j).content ≡ 512
  stored_size h =
      by_side k (λ (j : ℕ). length (store_in groups j).content ≡ 512) (λ w i m.
      elim (ℕ_discrete i k) [
        | yes e ↦ rw (e, side_block w) (h w)
        | no e ↦ rw (side_area w i (omega arith)) (length_sector r i)
      ])

  module _ (z : Sizes v) (small : k ≤ 1020) where
    -- a side's stores are near it
    near-stores : (w : Side) (i : ℕ) → i ≤ k → near w v (store_in groups (begin k w + i)).sector
    near-stores w i l =
        elim (ℕ_discrete i k) [
          | yes e ↦ rw (e, side_block w) (block_near v z w)
          | no e ↦ rw (side_area w i (omega arith)) (area_near v z w (spare (c w)) i (omega arith))
        ]

    -- and no others
    own : (w : Side) (j : ℕ) → j < k + 1 + k + 1 → near w v (store_in groups j).sector → (begin k w ≤ j) × (j ≤ begin k w + k)
    own w =
        by_side k (λ (j : ℕ). near w v (store_in groups j).sector → (begin k w ≤ j) × (j ≤ begin k w + k)) (λ u i m n.
        subst (λ (s : Side). (begin k s ≤ begin k u + i) × (begin k u + i ≤ begin k s + k))
        (same_side v z u w (store_in groups (begin k u + i)).sector (near-stores u i m) n) (omega arith, omega arith))

    pub side : (w : Side) → OneSide.Side (store_in groups) (k + 1 + k + 1) (begin k w) k (area_sector w (spare (c w)) v) (block_sector w v) r (new_block (c w) t r) (near w v)
    side w =
        record {
          within = within k w;
          area = side_area w;
          block = side_block w;
          own = own w;
          near_area = λ i l. area_near v z w (spare (c w)) i (omega arith);
          near_block = block_near v z w;
          block_apart = λ i l e. block_apart v z w (spare (c w)) i (omega arith) e;
        }
