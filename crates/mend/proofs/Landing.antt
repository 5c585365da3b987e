-- What the stores of a mend leave on the device, all landed.
use Prim.Native.Nat.{ℕ, suc, ◌+◌, ◌-◌, ◌≤◌, ◌<◌}
use mathlib.Core.Path.{◌≡◌, refl, sym, ap, ap₂, subst, ◌∙◌}
use mathlib.Core.Bool.{true, false, true≢false}
use mathlib.Core.Logic.{◌⊎◌, inl, inr}
use mathlib.Core.List.{List, ◌++◌}
use native.Mathlib.Nat.{zero-add}
use native.Mathlib.Omega.{arith}
use lib.ListN.{length, take}
use Rattle.std.specs.Prelude.{Option, Some, Ok}
use Rattle.layout.specs.declared.Device.{Device}
use Rattle.layout.specs.declared.Side.{Side}
use Rattle.layout.specs.declared.Side.TheVariants.{Front, Back}
use Rattle.layout.specs.declared.Area.{Area}
use Rattle.layout.specs.declared.Area.TheVariants.{A, B}
use Rattle.layout.specs.Places.{header_sector, block_sector, area_sector}
use Rattle.block.specs.declared.Holding.{Holding}
use Rattle.block.specs.declared.BlockFields.{BlockFields}
use Rattle.block.specs.declared.Reading.{Reading}
use Rattle.block.specs.Block.{pool_of, blockdev_of, fields_of, reading}
use Rattle.block.proofs.Readings.{accepted_reading_lem}
use Rattle.copy.specs.Copy.{block_in, entry_in, other_area, other_side, newest, device_in}
use Rattle.crash.specs.Crash.{Sectors, Sound, Store, Groups, stores, store_in, put, landed, all_landed, gather, area_sectors, copy_from}
use Rattle.crash.proofs.Landing.{landed_old, landed-last, landed-size, landed-first}
use Rattle.crash.proofs.Copies.{limit_small, copy_block, copy_area, gather-same}
use Rattle.stores.specs.Stores.{sectors_of, sector_of}
use Rattle.stores.proofs.Padding.{gather_record, sectors-within, sectors_few, length_sector}
use Rattle.stores.proofs.Places.{Sizes, sizes_accepted, near, area_near, block_near, block_apart, other_side_lem}
use Rattle.stores.proofs.OneSide as OneSide
use Rattle.stores.proofs.Holding.{Holds}
use Rattle.stores.proofs.OneCopy.{block_place_lem, holds_at}
use Rattle.mend.specs.Mend.{emptied, refilled, blanked, later_whole, rewriting}
use Rattle.mend.proofs.Kept.{Kept, kept_small}
use Rattle.mend.proofs.Stores.{empty_block, filledBlock, blankBlock, at_first, at_sector, at_second, at_last, at_least, count-blank, by_store}
use Rattle.mend.proofs.Blocks.{right-empty, right-filled, right_blank, like-reads, like-size, newest-filled, newest-blanked, entry-blanked}

-- the sectors of a side's header are on that side
header_near : (v : Device) (s : Side) (i : ℕ) → i < 8 → near s v (header_sector s v + i)
header_near v Front i l = omega arith
header_near v Back i l = omega arith

-- the copy of side w on a device, with a record that its block names, is kept
module _ (w : Side) (v : Device) (d : Sectors) (sd : Sound d) (placed : device_in (copy_from w v d) ≡ v) (x : Area) (h : Holding) (r : List ℕ)
    (kept : Kept (copy_from w v d) x h r) where
  abbrev c : List ℕ
  c = copy_from w v d

  abbrev fields : BlockFields
  fields = fields_of (block_in c)

  abbrev k : ℕ
  k = sectors_of (length r)

  abbrev groups : Groups
  groups = rewriting w c x r

  abbrev st : ℕ → Store
  st = store_in groups

  abbrev all : ℕ
  all = length (stores groups)

  abbrev end : Sectors
  end = all_landed groups d

  sizes : Sizes v
  sizes = subst Sizes placed (sizes_accepted (block_in c) kept.accepted)

  tiny : k ≤ 1020
  tiny = sectors_few (length r) (kept_small kept)

  -- the stores, at the places of v
  abbrev block_at : Side → List ℕ → Store
  block_at s b = record { sector = block_sector s v; content = b }

  pub first-at : st 0 ≡ block_at (other_side w) (empty_block w c x r)
  first-at = at_first w c x r ∙ ap (λ (u : Device). record { sector = block_sector (other_side w) u; content = empty_block w c x r }) placed

  pub sector_at_lem : (i : ℕ) → i < k → st (suc i) ≡ record { sector = area_sector (other_side w) A v + i; content = sector_of r i }
  sector_at_lem i l = at_sector w c x r i l ∙ ap (λ (u : Device). record { sector = area_sector (other_side w) A u + i; content = sector_of r i }) placed

  pub second_at : st (suc k) ≡ block_at (other_side w) (filledBlock w c x r)
  second_at = at_second w c x r ∙ ap (λ (u : Device). record { sector = block_sector (other_side w) u; content = filledBlock w c x r }) placed

  pub last-at : later_whole c ≡ false → st (suc (suc k)) ≡ block_at w (blankBlock w c x r)
  last-at n = at_last w c x r n ∙ ap (λ (u : Device). record { sector = block_sector w u; content = blankBlock w c x r }) placed

  -- every store but the last goes near the other side, the last to the kept block
  abbrev Goes : ℕ → Type 0
  Goes j = ((j ≤ suc k) × near (other_side w) v (st j).sector) ⊎ ((later_whole c ≡ false) × ((st j).sector ≡ block_sector w v) × (j ≡ suc (suc k)))

  goes : (j : ℕ) → j < all → Goes j
  goes =
      by_store w c x r Goes (inl (omega arith, rw first-at (block_near v sizes (other_side w))))
      (λ i m. inl (omega arith, rw (sector_at_lem i m) (let b : k ≤ 1020 = tiny in area_near v sizes (other_side w) A i (omega arith))))
      (inl (omega arith, rw second_at (block_near v sizes (other_side w)))) (λ n. inr (n, ap (λ (s : Store). s.sector) (last-at n), refl))

  stored_size : (j : ℕ) → j < all → length (st j).content ≡ 512
  stored_size =
      by_store w c x r (λ (j : ℕ). length (st j).content ≡ 512)
      (rw first-at (like-size c kept.accepted (emptied (device_in c)) (right-empty c kept.accepted))) (λ i m. rw (sector_at_lem i m) (length_sector r i))
      (rw second_at (like-size c kept.accepted (refilled (device_in c) (entry_in fields x)) (right-filled c kept.accepted x)))
      (λ n. rw (last-at n) (like-size c kept.accepted (blanked fields) (right_blank c kept.accepted)))

  pub some_sound : (j : ℕ) → j ≤ all → Sound (landed st j d)
  some_sound j l = record { size = landed-size st d sd.size j (λ i m. stored_size i (omega arith)) }

  pub end_sound : Sound end
  end_sound = some_sound all (omega arith)

  -- until the last store of all the kept side stays
  stays : (j : ℕ) → j < all → (n : ℕ) → near w v n → landed st j d n ≡ d n
  stays j l n a = landed_old st d j n (λ i m e. go i m (goes i (omega arith)) e)
    where
      go : (i : ℕ) → i < j → Goes i → n ≡ (st i).sector → ⊥
      go i m (inl q) e = other_side_lem v sizes w n a (subst (near (other_side w) v) (sym e) q.1)
      go i m (inr q) e =
          let u : all ≡ k + 3 = count-blank w c x r q.0 in
          let z : i ≡ suc (suc k) = q.2 in
          omega arith

  pub stays_copy : (j : ℕ) → j < all → copy_from w v (landed st j d) ≡ c
  unfolding copy_from
  stays_copy j l =
      let a : area_sectors ≤ 1020 = limit_small in
      ap₂ ◌++◌ (gather-same (landed st j d) d (header_sector w v) 8 (λ i m. stays j l (header_sector w v + i) (header_near v w i m)))
      (ap₂ ◌++◌ (gather-same (landed st j d) d (area_sector w A v) area_sectors (λ i m. stays j l (area_sector w A v + i) (area_near v sizes w A i (omega arith))))
      (gather-same (landed st j d) d (area_sector w B v) area_sectors (λ i m. stays j l (area_sector w B v + i) (area_near v sizes w B i (omega arith)))))

  -- the kept side: all but its block stays
  pub kept_sector : (n : ℕ) → near w v n → (n ≡ block_sector w v → ⊥) → end n ≡ d n
  kept_sector n a b = landed_old st d all n (λ j l e. go (goes j l) e)
    where
      go : {j : ℕ} → Goes j → n ≡ (st j).sector → ⊥
      go (inl q) e = other_side_lem v sizes w n a (subst (near (other_side w) v) (sym e) q.1)
      go (inr q) e = b (e ∙ q.1)

  pub kept_block : later_whole c ≡ true → end (block_sector w v) ≡ d (block_sector w v)
  kept_block n = landed_old st d all (block_sector w v) (λ j l e. go (goes j l) e)
    where
      go : {j : ℕ} → Goes j → block_sector w v ≡ (st j).sector → ⊥
      go (inl q) e = other_side_lem v sizes w (block_sector w v) (block_near v sizes w) (subst (near (other_side w) v) (sym e) q.1)
      go (inr q) e = true≢false (sym n ∙ q.0)

  pub blank_block : later_whole c ≡ false → end (block_sector w v) ≡ blankBlock w c x r
  blank_block n =
      let e : all ≡ k + 3 = count-blank w c x r n in
      landed-last st d all (suc (suc k)) (block_sector w v) (omega arith) (sym (ap (λ (s : Store). s.sector) (last-at n)))
      (λ j a b q. let z : ◌≡◌ {A = ℕ} 0 1 = omega arith in omega arith)
      ∙ ap (λ (s : Store). s.content) (last-at n)

  -- the other side: after the first store a record goes to area a, and a block after it
  abbrev pub later : ℕ → Store
  later i = st (suc i)

  pub other : (n : ℕ) → suc n ≡ all → OneSide.Side later n 0 k (area_sector (other_side w) A v) (block_sector (other_side w) v) r (filledBlock w c x r) (near (other_side w) v)
  other n e =
      let m : k + 2 ≤ all = at_least w c x r in
      let b : k ≤ 1020 = tiny in
      record {
        within = omega arith;
        area = λ i l. ap later (zero-add i) ∙ sector_at_lem i l;
        block = ap later (zero-add k) ∙ second_at;
        own = λ j l q. (omega arith, go (goes (suc j) (omega arith)) q);
        near_area = λ i l. area_near v sizes (other_side w) A i (omega arith);
        near_block = block_near v sizes (other_side w);
        block_apart = λ i l. block_apart v sizes (other_side w) A i (omega arith);
      }
    where
      go : {j : ℕ} → Goes (suc j) → near (other_side w) v (st (suc j)).sector → j ≤ 0 + k
      go (inl p) q = omega (arith, p.0)
      go (inr p) q = absurd (other_side_lem v sizes w (block_sector w v) (block_near v sizes w) (subst (near (other_side w) v) p.1 q))

  -- what stands on the other side in the end
  other_end : (n q : ℕ) → suc n ≡ all → end q ≡ landed later n (put d (st 0)) q
  other_end n q e = ap (λ (i : ℕ). landed st i d q) (sym e) ∙ landed-first st d n q

  pub filled_block : end (block_sector (other_side w) v) ≡ filledBlock w c x r
  filled_block =
      let m : k + 2 ≤ all = at_least w c x r in
      let n : ℕ = all - 1 in
      let e : suc n ≡ all = omega arith in
      other_end n (block_sector (other_side w) v) e ∙ OneSide.block-landed (other n e) (put d (st 0)) n (omega arith) (omega arith)

  pub filled_area : (i : ℕ) → i < k → end (area_sector (other_side w) A v + i) ≡ sector_of r i
  filled_area i l =
      let m : k + 2 ≤ all = at_least w c x r in
      let n : ℕ = all - 1 in
      let e : suc n ≡ all = omega arith in
      other_end n (area_sector (other_side w) A v + i) e ∙ OneSide.area-landed (other n e) (put d (st 0)) i n l (omega arith) (omega arith)

  -- both copies hold the record
  abbrev pub pool : List ℕ
  pool = pool_of (block_in c)

  abbrev pub blockdev : List ℕ
  blockdev = blockdev_of (block_in c)

  abbrev pub HeldIn : Side → Sectors → BlockFields → Area → Type 0
  HeldIn s e g y = Holds (copy_from s v e) g pool blockdev y h r

  abbrev read_as : BlockFields → Reading
  read_as g = record { fields = g; pool = pool; blockdev = blockdev }

  pub other_holds : HeldIn (other_side w) end (refilled (device_in c) (Some h)) A
  other_holds =
      holds_at (other_side w) v end end_sound sizes
      (ap reading filled_block
      ∙ (like-reads c kept.accepted (refilled (device_in c) (entry_in fields x)) (right-filled c kept.accepted x)
      ∙ ap (λ (e : Option Holding). Ok (read_as (refilled (device_in c) e))) kept.entry))
      (newest-filled (device_in c) (Some h)) refl kept.sum kept.long kept.small
      (ap (λ (n : ℕ). take n (gather end (area_sector (other_side w) A v) area_sectors)) kept.long
      ∙ gather_record end r (area_sector (other_side w) A v) area_sectors (sectors-within (length r) (kept_small kept)) filled_area)

  -- the kept area is as it was
  kept_area : take h.bytes (gather end (area_sector w x v) area_sectors) ≡ r
  kept_area =
      ap (take h.bytes)
      (gather-same end d (area_sector w x v) area_sectors (λ i l.
      let a : area_sectors ≤ 1020 = limit_small in
      kept_sector (area_sector w x v + i) (area_near v sizes w x i (omega arith)) (block_apart v sizes w x i (omega arith))))
      ∙ (sym (copy_area w v d sd x h.bytes kept.small) ∙ kept.bytes)

  was : block_in c ≡ d (block_sector w v)
  was = copy_block w v d sd ∙ ap d (block_place_lem w v sizes)

  pub kept_whole : later_whole c ≡ true → HeldIn w end fields x
  kept_whole n =
      holds_at w v end end_sound sizes
      (ap reading (kept_block n ∙ sym was) ∙ accepted_reading_lem (block_in c) kept.accepted)
      (kept.in_newest n) kept.entry kept.sum kept.long kept.small kept_area

  pub kept_blank : later_whole c ≡ false → HeldIn w end (blanked fields) x
  kept_blank n =
      let o : other_area (newest fields) ≡ x = kept.in_other n in
      let en : entry_in fields (other_area (newest fields)) ≡ Some h = ap (entry_in fields) o ∙ kept.entry in
      holds_at w v end end_sound sizes
      (ap reading (blank_block n) ∙ like-reads c kept.accepted (blanked fields) (right_blank c kept.accepted))
      (newest-blanked fields h en ∙ o) (ap (entry_in (blanked fields)) (sym o) ∙ (entry-blanked fields ∙ en)) kept.sum kept.long kept.small kept_area
