-- The calls give the stores of both copies, and what these leave on a device.
use Prim.Native.Nat.{ℕ, zero, suc, ◌+◌, ◌-◌, ◌*◌, ◌≤◌, ◌<◌}
use mathlib.Core.Path.{◌≡◌, refl, sym, ap, ap₂, subst, ◌∙◌}
use mathlib.Core.Logic.{◌⊎◌, inl, inr, ◌↔◌}
use mathlib.Core.Bool.{true}
use mathlib.Core.List.{List, ◌++◌}
use native.Mathlib.Decide.{dec_le}
use borrow.Author.Tests.{ne_eqb}
use native.Mathlib.Omega.{arith}
use Rattle.std.proofs.lemmas.Bool.Decides.{nat_tests}
use lib.ListN.{length}
use Rattle.endian.specs.Bytes.{zeros}
use Rattle.endian.proofs.Parts.{length-window-fits}
use Rattle.endian.proofs.Tests.{length-zeros}
use Rattle.refusal.specs.Tests.{first, AllHold}
use Rattle.refusal.proofs.Order.{first-zero, first_all}
use Rattle.layout.specs.declared.Device.{Device}
use Rattle.layout.specs.declared.Side.{Side}
use Rattle.layout.specs.declared.Side.TheVariants.{Front, Back}
use Rattle.layout.specs.declared.Area.{Area}
use Rattle.layout.specs.declared.Area.TheVariants.{A}
use Rattle.layout.specs.Limits.{device_tests}
use Rattle.layout.specs.Places.{header_sector, area_sector, reserved_sector, copy_bytes}
use Rattle.block.specs.declared.Time.{Time}
use Rattle.discovery.specs.Discovery.{copy_on}
use Rattle.crash.specs.Crash.{Sectors, Sound, Store, store_in, group_start, landed, Stored, Cut, all_landed, area_sectors, copy_from}
use Rattle.crash.proofs.Copies.{limit_small, length-copy}
use Rattle.crash.proofs.Landing.{landed_old, landed-new, landed-size}
use Rattle.std.specs.Prelude.{Ok}
use Rattle.refusal.specs.Refusals.{plain}
use Rattle.refusal.proofs.Reasons.{err_other}
use Rattle.stores.specs.Given.{lent_right}
use Rattle.stores.specs.States.{Ready}
use Rattle.stores.proofs.Choosing.{lent_right_lem}
use Rattle.stores.proofs.Places.{Sizes, sizes_allowed, near, area_near, same_side}
use Rattle.sectors.specs.Sectors.{copy_sectors, area_start, place_of, sector_at}
use Rattle.sectors.specs.Apply.{offset_of}
use Rattle.sectors.specs.Demand.{nth_sector}
use Rattle.sectors.proofs.Parts.{header_sectors_lem, copy_bytes_lem}
use Rattle.sectors.proofs.Placed.{by_place, at_place, placed}
use Rattle.sectors.proofs.Demand.{all_read, sizes}
use Rattle.sectors.proofs.Applying.{place-offset}
use Rattle.format.specs.Format.{formatted_copy, formatted}
use Rattle.format.specs.Writing.{by_group, format_groups, store_count, areas_sectors, group_at, position_of, flush_after, sector_on, store_tests, store_answer, store_left}
use Rattle.format.specs.Demand.{Writes, Storing, InCopy, Lands, Landing, CutLeaves, Cutting, Becoming, Refusing}
use Rattle.format.proofs.Checking.{Taken, taken}
use Rattle.format.proofs.Choosing.{both_copies, past_last, some_areas, no_flush, device-ascending, store_there, store_past}
use Rattle.format.proofs.Numbering.{copy_parts, base, turned_header, turned_areas, turned_below, number, number-below, by_store, number-position, sector_on_lem, bytes_on_lem, joined_at, all_stores, at-number, starting, groups_four, group_starts, starts_rise}
use Rattle.format.proofs.Demand.{length-formatted}
use Rattle.format.proofs.Exactly.{leaving}
use Rattle.format.proofs.Starting.{starting as start-from}

-- the groups of the stores, by number
module _ (v : Device) (f b : List ℕ) where
  by_group_lem : (g i : ℕ) → g < 4 → starting v f b g ≤ i → i < starting v f b (suc g) → group_at i ≡ g
  unfolding by_group areas_sectors store_count
  by_group_lem zero i h l m = grind (arith, nat_tests, copy_parts)
  by_group_lem (suc zero) i h l m = grind (arith, nat_tests, copy_parts)
  by_group_lem (suc (suc zero)) i h l m = grind (arith, nat_tests, copy_parts)
  by_group_lem (suc (suc (suc zero))) i h l m = grind (arith, nat_tests, copy_parts)
  by_group_lem (suc (suc (suc (suc g)))) i h l m = absurd (omega arith)

  -- where a group ends the next one begins
  next_group : (g i : ℕ) → g < 4 → i ≡ starting v f b (suc g) → group_at i ≡ suc g
  unfolding by_group areas_sectors store_count
  next_group zero i h e = grind (arith, nat_tests, copy_parts, some_areas)
  next_group (suc zero) i h e = grind (arith, nat_tests, copy_parts, some_areas)
  next_group (suc (suc zero)) i h e = grind (arith, nat_tests, copy_parts, some_areas)
  next_group (suc (suc (suc zero))) i h e = grind (arith, nat_tests, copy_parts, some_areas)
  next_group (suc (suc (suc (suc g)))) i h e = absurd (omega arith)

  grouped : (g i : ℕ) → g < 4 → group_start (format_groups v f b) g ≤ i → i < group_start (format_groups v f b) (suc g) → group_at i ≡ g
  grouped g i h l m = by_group_lem g i h (omega (arith, group_starts v f b g)) (omega (arith, group_starts v f b (suc g)))

  -- a flush after the last store of a group, and after no other
  flushed : (g i : ℕ) → g < 4 → group_start (format_groups v f b) g ≤ i → i < group_start (format_groups v f b) (suc g)
      → (flush_after i ≡ true ↔ suc i ≡ group_start (format_groups v f b) (suc g))
  flushed g i h l m = (
    λ t. grind (arith, nat_tests, grouped g i h l m, grouped g (suc i) h),
    λ e. grind (arith, nat_tests, grouped g i h l m, next_group g (suc i) h, group_starts v f b (suc g)),
  )

-- where sectors lie depends on no device's bytes: zeros will do
abbrev blank : Sectors
blank n = zeros 512

blank_sound : Sound blank
blank_sound = record { size = λ n. length-zeros 512 }

-- every sector of both copies is one of the stores
each_position : (p : ℕ) → p < store_count → (i : ℕ) × ((i < store_count) × (position_of i ≡ p))
each_position p l =
    elim (dec_le copy_sectors p) [
      | no a ↦
          let k : p < copy_sectors = omega arith in
          (number Front p, (number-below Front p k, number-position Front p k ∙ omega arith))
      | yes a ↦
          let k : p - copy_sectors < copy_sectors = omega (arith, both_copies) in
          (number Back (p - copy_sectors), (number-below Back (p - copy_sectors) k, number-position Back (p - copy_sectors) k ∙ omega arith))
    ]

module _ (v : Device) (f b : List ℕ) (ok : first (device_tests v) ≡ 0) (nf : length f ≡ copy_bytes) (nb : length b ≡ copy_bytes) where
  abbrev st : ℕ → Store
  st = store_in (format_groups v f b)

  -- the copies by side
  length-on : (w : Side) → length (copy_on w f b) ≡ copy_bytes
  length-on Front = nf
  length-on Back = nb

  -- the store of a sector of both copies
  its_sector : (w : Side) (k : ℕ) → k < copy_sectors → (st (number w k)).sector ≡ place_of w v k
  its_sector w k l = ap (λ (s : Store). s.sector) (at-number v f b w k l)

  its_content : (w : Side) (k : ℕ) → k < copy_sectors → (st (number w k)).content ≡ nth_sector (copy_on w f b) k
  its_content w k l = ap (λ (s : Store). s.content) (at-number v f b w k l)

  full : (w : Side) (k : ℕ) → k < copy_sectors → length (nth_sector (copy_on w f b) k) ≡ 512
  full w k l = length-window-fits (copy_on w f b) (512 * k) 512 (omega (arith, length-on w, copy_bytes_lem))

  on_device_lem : (w : Side) (k : ℕ) → k < copy_sectors → place_of w v k ≡ sector_at w v k
  on_device_lem w k l = at_place w v blank ok blank_sound k l

  stored_size : (i : ℕ) → i < store_count → length (st i).content ≡ 512
  stored_size = by_store (λ (i : ℕ). length (st i).content ≡ 512) (λ w k l. ap length (its_content w k l) ∙ full w k l)

  contents : (i : ℕ) → i < store_count → (st i).content ≡ nth_sector (f ++ b) (position_of i)
  contents =
      by_store (λ (i : ℕ). (st i).content ≡ nth_sector (f ++ b) (position_of i)) (λ w k l.
      rw (number-position w k l, joined_at f b w k l nf) (its_content w k l))

  lent : (out : List ℕ) → length out ≡ 512 → lent_right f b out ≡ true
  lent out room = lent_right_lem f b out (sizes f b nf nb) room

  -- what a store answers and leaves
  gives : (i : ℕ) (out : List ℕ) → i < store_count → length out ≡ 512 → (store_answer v f b i out ≡ Ok (st i).sector) × (store_left v f b i out ≡ (st i).content)
  gives i out l room =
      by_store (λ (i : ℕ). i < store_count → (store_answer v f b i out ≡ Ok (st i).sector) × (store_left v f b i out ≡ (st i).content)) (λ w k m q.
      let z : first (store_tests v f b (number w k) out) ≡ 0 = store_there v f b (number w k) out (lent out room) ok q in (
        rw (z, number-position w k m, sector_on_lem v w k m, its_sector w k m, on_device_lem w k m),
        rw (z, number-position w k m, bytes_on_lem f b w k m, its_content w k m),
      )) i l l

  writes : Writes v f b
  writes =
      record {
        count = sym (all_stores v f b);
        four = groups_four v f b;
        grouped = grouped v f b;
        flushed = flushed v f b;
        store = gives;
        position = contents;
        each = each_position;
        no_group = λ i l. past_last i 0 1 2 3 4 l;
        no_flush = no_flush;
        no_position = λ i l. past_last i _ _ _ _ store_count l;
        no_store = λ i out l room.
            let z : first (store_tests v f b i out) ≡ 23 = store_past v f b i out (lent out room) ok l in
            (rw z, rw z);
      }

  -- allowed numbers
  allowed : Sizes v
  allowed = let a : AllHold (device_tests v) = first-zero 0 (device_tests v) (device-ascending v) ok in sizes_allowed v a.0 a.1.0

  -- a side's sectors are near it
  near_place : (w : Side) (k : ℕ) → k < copy_sectors → near w v (place_of w v k)
  near_place w = by_place w v (λ (k n : ℕ). near w v n) (header w) (λ x j l. area_near v allowed w x j (omega (arith, limit_small)))
    where
      header : (w : Side) (k : ℕ) → k < area_start A → near w v (header_sector w v + k)
      header Front k l = omega (arith, header_sectors_lem)
      header Back k l = omega (arith, header_sectors_lem)

  -- a sector of a copy is stored to by one store alone
  alone : (w : Side) (k : ℕ) → k < copy_sectors → (i : ℕ) → i < store_count → place_of w v k ≡ (st i).sector → i ≡ number w k
  alone w k l =
      by_store (λ (i : ℕ). place_of w v k ≡ (st i).sector → i ≡ number w k) (λ u m q e.
      let z : place_of w v k ≡ place_of u v m = e ∙ its_sector u m q in
      let s : u ≡ w = same_side v allowed u w (place_of u v m) (near_place u m q) (subst (near w v) z (near_place w k l)) in
      let y : place_of w v k ≡ place_of w v m = z ∙ ap (λ (t : Side). place_of t v m) s in
      let o : 512 * k ≡ 512 * m = sym (place-offset v ok w k l) ∙ (ap (offset_of w v) y ∙ place-offset v ok w m q) in
      ap₂ number s (let x : m ≡ k = omega arith in x))

  module _ (d : Sectors) (h : Sound d) where
    abbrev all : Sectors
    all = landed st store_count d

    sector-landed : (w : Side) (k : ℕ) → k < copy_sectors → all (place_of w v k) ≡ nth_sector (copy_on w f b) k
    sector-landed w k l =
        landed-new st d store_count (number w k) (place_of w v k) (number-below w k l) (sym (its_sector w k l)) (alone w k l) ∙ its_content w k l

    sound-all : Sound all
    sound-all = record { size = landed-size st d h.size store_count stored_size }

    copies-all : (w : Side) → copy_from w v all ≡ copy_on w f b
    copies-all w =
        sym
        ((placed w v all ok sound-all).is (zeros copy_sectors) (copy_on w f b)
        (record { size = length-on w; unmarked = λ k l m. sym (ap all (sym (on_device_lem w k l)) ∙ sector-landed w k l) }) all_read.zero_marks)

  -- a sector of a copy is the header's or an area's
  in_copy : (w : Side) (k : ℕ) → k < copy_sectors
      → ((j : ℕ) × ((j < 8) × (place_of w v k ≡ header_sector w v + j))) ⊎ ((x : Area) × ((j : ℕ) × ((j < area_sectors) × (place_of w v k ≡ area_sector w x v + j))))
  in_copy w =
      by_place w v
      (λ (k n : ℕ). ((j : ℕ) × ((j < 8) × (n ≡ header_sector w v + j))) ⊎ ((x : Area) × ((j : ℕ) × ((j < area_sectors) × (n ≡ area_sector w x v + j)))))
      (λ k l. let e : area_start A ≡ 8 = header_sectors_lem in inl (k, (omega arith, refl))) (λ x j l. inr (x, (j, (l, refl))))

  place-below : (w : Side) (k : ℕ) → k < copy_sectors → place_of w v k < v.sectors
  place-below w k l =
      subst (λ (n : ℕ). n < v.sectors) (sym (on_device_lem w k l)) ((placed w v blank ok blank_sound).there k l)

  places : (i : ℕ) → i < store_count → InCopy v (st i)
  places =
      by_store (λ (i : ℕ). InCopy v (st i)) (λ w k l.
      subst (InCopy v) (sym (at-number v f b w k l)) (record { side = w; place = in_copy w k l; below = place-below w k l; size = full w k l }))

  -- what lies between the copies is stored to by none
  apart : (w : Side) (n : ℕ) → near w v n → reserved_sector Front v ≤ n → n < area_sector Back A v → ⊥
  apart Front n a p q = omega arith
  apart Back n a p q = omega arith

  between : (d : Sectors) (i n : ℕ) → i ≤ store_count → reserved_sector Front v ≤ n → n < area_sector Back A v → landed st i d n ≡ d n
  between d i n l p q =
      landed_old st d i n (λ j m e.
      by_store (λ (j : ℕ). n ≡ (st j).sector → ⊥) (λ w k t z. apart w n (subst (near w v) (sym (z ∙ its_sector w k t)) (near_place w k t)) p q) j (omega arith) e)

  -- a cut in group g
  module _ (g : ℕ) (d e : Sectors) (four : g < 4) (h : Sound d) (cut : Cut st (starting v f b g) (starting v f b (suc g)) d e) where
    ends : starting v f b (suc g) ≤ store_count
    ends = omega (arith, copy_parts, both_copies, starts_rise v f b (suc g) 4 (omega arith))

    -- a sector that the running group does not store to, and that is the same before and after it
    settled : (n : ℕ) (c : List ℕ) → landed st (starting v f b g) d n ≡ c → landed st (starting v f b (suc g)) d n ≡ c
        → (Stored st (starting v f b g) (starting v f b (suc g)) n → ⊥) → e n ≡ c
    settled n c p q s = go (cut.each n)
      where
        go : (e n ≡ landed st (starting v f b g) d n)
            ⊎ ((e n ≡ landed st (starting v f b (suc g)) d n) ⊎ ((n ≡ cut.wild) × Stored st (starting v f b g) (starting v f b (suc g)) n)) → e n ≡ c
        go (inl z) = z ∙ p
        go (inr (inl z)) = z ∙ q
        go (inr (inr z)) = absurd (s z.1)

    -- a sector whose store belongs to a later group is as it was
    kept : (w : Side) (k : ℕ) → k < copy_sectors → starting v f b (suc g) ≤ number w k → e (place_of w v k) ≡ d (place_of w v k)
    kept w k l m =
        let a : starting v f b (suc g) ≤ store_count = ends in
        let r : starting v f b g ≤ starting v f b (suc g) = starts_rise v f b g (suc g) (omega arith) in
        settled (place_of w v k) (d (place_of w v k))
        (landed_old st d (starting v f b g) (place_of w v k) (λ i y z. omega (arith, alone w k l i (omega arith) z)))
        (landed_old st d (starting v f b (suc g)) (place_of w v k) (λ i y z. omega (arith, alone w k l i (omega arith) z)))
        (λ s. omega (arith, alone w k l s.0 (omega (arith, s.2)) (sym s.3), s.2))

    -- one whose store belongs to an earlier group is as stored
    done : (w : Side) (k : ℕ) → k < copy_sectors → number w k < starting v f b g → e (place_of w v k) ≡ nth_sector (copy_on w f b) k
    done w k l m =
        let a : starting v f b (suc g) ≤ store_count = ends in
        let r : starting v f b g ≤ starting v f b (suc g) = starts_rise v f b g (suc g) (omega arith) in
        settled (place_of w v k) (nth_sector (copy_on w f b) k)
        (landed-new st d (starting v f b g) (number w k) (place_of w v k) m (sym (its_sector w k l)) (λ i y z. alone w k l i (omega arith) z) ∙ its_content w k l)
        (landed-new st d (starting v f b (suc g)) (number w k) (place_of w v k) (omega arith) (sym (its_sector w k l)) (λ i y z. alone w k l i (omega arith) z)
        ∙ its_content w k l)
        (λ s. omega (arith, alone w k l s.0 (omega (arith, s.2)) (sym s.3), s.1))

    -- the same of the copies
    is-kept : (w : Side) (k : ℕ) → k < copy_sectors → starting v f b (suc g) ≤ number w k → nth_sector (copy_from w v e) k ≡ nth_sector (copy_from w v d) k
    is-kept w k l m =
        (placed w v e ok cut.sound).sector k l
        ∙ (ap e (sym (on_device_lem w k l)) ∙ (kept w k l m ∙ (ap d (on_device_lem w k l) ∙ sym ((placed w v d ok h).sector k l))))

    is-done : (w : Side) (k : ℕ) → k < copy_sectors → number w k < starting v f b g → nth_sector (copy_from w v e) k ≡ nth_sector (copy_on w f b) k
    is-done w k l m = (placed w v e ok cut.sound).sector k l ∙ (ap e (sym (on_device_lem w k l)) ∙ done w k l m)

    -- a copy by its sectors
    by-sectors : (w : Side) (c : List ℕ) → length c ≡ copy_bytes → ((k : ℕ) → k < copy_sectors → nth_sector (copy_from w v e) k ≡ nth_sector c k) → copy_from w v e ≡ c
    by-sectors w c n same =
        sym
        ((placed w v e ok cut.sound).is (zeros copy_sectors) c
        (record { size = n; unmarked = λ k l m. sym (same k l) ∙ (placed w v e ok cut.sound).sector k l }) all_read.zero_marks)

    -- a side's areas are a group, and so is its header
    areas-before : (w : Side) (n : ℕ) → n < 4 → starting v f b n ≡ base w + areas_sectors
        → ((k : ℕ) → k < 8 → nth_sector (copy_from w v e) k ≡ nth_sector (copy_from w v d) k)
        ⊎ ((k : ℕ) → 8 ≤ k → k < copy_sectors → nth_sector (copy_from w v e) k ≡ nth_sector (copy_on w f b) k)
    areas-before w n m q =
        elim (dec_le (suc g) n) [
          | yes y ↦ inl (λ k l. is-kept w k (omega (arith, copy_parts)) (omega (arith, turned_header k (omega (arith, header_sectors_lem)), starts_rise v f b (suc g) n y)))
          | no y ↦
              inr (λ k l p. is-done w k p (omega (arith, copy_parts, header_sectors_lem, turned_areas k (omega (arith, header_sectors_lem)), starts_rise v f b n g (omega arith))))
        ]

    back-before : (copy_from Front v e ≡ copy_from Front v d) ⊎ (copy_from Back v e ≡ b)
    back-before =
        elim (dec_le (suc g) 2) [
          | yes y ↦
              inl (by-sectors Front (copy_from Front v d) (length-copy Front v d h) (λ k l. is-kept Front k l (omega (arith, copy_parts, starts_rise v f b (suc g) 2 y))))
          | no y ↦ inr (by-sectors Back b nb (λ k l. is-done Back k l (omega (arith, copy_parts, turned_below k l, starts_rise v f b 2 g (omega arith)))))
        ]

    cut-leaves : CutLeaves v f b d e
    cut-leaves = record { areas_first = first_of; back-first = back-before }
      where
        first_of : (s : Side)
            → ((k : ℕ) → k < 8 → nth_sector (copy_from s v e) k ≡ nth_sector (copy_from s v d) k)
            ⊎ ((k : ℕ) → 8 ≤ k → k < copy_sectors → nth_sector (copy_from s v e) k ≡ nth_sector (copy_on s f b) k)
        first_of Front = areas-before Front 3 (omega arith) (omega (arith, copy_parts))
        first_of Back = areas-before Back 1 (omega arith) (omega arith)

  lands : Lands v f b
  lands =
      record {
        places = places;
        between = between;
        sound = λ d h. subst (λ (n : ℕ). Sound (landed st n d)) (sym (all_stores v f b)) (sound-all d h);
        copies = λ d h w. ap (λ (n : ℕ). copy_from w v (landed st n d)) (all_stores v f b) ∙ copies-all d h w;
      }

pub storing : Storing
storing v f b ok nf nb = writes v f b ok nf nb

pub landing : Landing
landing v f b ok nf nb = lands v f b ok nf nb

pub cutting : Cutting
cutting v f b ok nf nb g d e four h cut =
    cut-leaves v f b ok nf nb g d e four h
    (subst (λ (n : ℕ). Cut (store_in (format_groups v f b)) (starting v f b g) n d e) (group_starts v f b (suc g))
    (subst (λ (n : ℕ). Cut (store_in (format_groups v f b)) n (group_start (format_groups v f b) (suc g)) d e) (group_starts v f b g) cut))

-- the two copies that formatting leaves
module _ {f b : List ℕ} {v : Device} {p u : List ℕ} {t : Time} {r : List ℕ} (k : Taken f b v p u t r) where
  abbrev c : List ℕ
  c = formatted_copy v p u t r

  device-taken : first (device_tests v) ≡ 0
  device-taken = first_all (device_tests v) (k.size, (k.metadata, (k.reserved, tt)))

  its_lands : Lands v c c
  its_lands = lands v c c device-taken (length-formatted k) (length-formatted k)

  each_copy : (d : Sectors) → Sound d → (s : Side) → copy_from s v (all_landed (format_groups v c c) d) ≡ c
  each_copy d h Front = its_lands.copies d h Front
  each_copy d h Back = its_lands.copies d h Back

pub becoming : Becoming
becoming f b v p u t r ts vs e d h =
    let k : Taken f b v p u t r = taken f b v p u t r e in
    let c : List ℕ = formatted_copy v p u t r in
    let q : Ready v (all_landed (format_groups v c c) d) t r =
    start-from f b v p u t r ts vs e (all_landed (format_groups v c c) d) ((its_lands k).sound d h) (each_copy k d h) in
    subst (λ (z : List ℕ). Ready v (all_landed (format_groups v z (formatted b f b v p u t r)) d) t r) (sym ((leaving f f b v p u t r).done e))
    (subst (λ (z : List ℕ). Ready v (all_landed (format_groups v c z) d) t r) (sym ((leaving b f b v p u t r).done e)) q)

pub refusing : Refusing
refusing v f b i out e h =
    rw (ne_eqb (first (store_tests v f b i out)) 0 (err_other (first (store_tests v f b i out)) (plain (first (store_tests v f b i out))) (sector_on v (position_of i)) e h))
