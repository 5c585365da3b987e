-- Where each device sector lies in a copy, and a store that is applied to copies in memory as it lands on the device.
use Prim.Native.Nat.{ℕ, zero, suc, ◌+◌, ◌-◌, ◌*◌, ◌%◌, ◌≤◌, ◌<◌}
use mathlib.Core.Path.{◌≡◌, refl, sym, ap, ap₂, ◌∙◌}
use mathlib.Core.Logic.{◌⊎◌, inl, inr}
use mathlib.Core.Bool.{Bool, true, false, cond, ◌&&◌}
use mathlib.Core.List.{List}
use native.Mathlib.Decide.{dec_le, ℕ_discrete}
use native.Mathlib.Omega.{arith}
use borrow.Author.Tests.{lt-leb, le-leb, le-ltb, eq-eqb, ne_eqb}
use lib.Dec.{ltb, eqb}
use lib.ListN.{length}
use Rattle.endian.specs.Bytes.{window, splice, zeros}
use Rattle.endian.proofs.Parts.{splice-short, length-splice, window-splice, window-before, window-after}
use Rattle.endian.proofs.Tests.{and_both}
use Rattle.refusal.specs.Tests.{first}
use Rattle.refusal.proofs.Order.{first-pass}
use Rattle.layout.specs.declared.Device.{Device}
use Rattle.layout.specs.declared.Side.{Side}
use Rattle.layout.specs.declared.Side.TheVariants.{Front, Back}
use Rattle.layout.specs.declared.Area.{Area}
use Rattle.layout.specs.declared.Area.TheVariants.{A, B}
use Rattle.layout.specs.Limits.{device_tests}
use Rattle.layout.specs.Places.{header_sector, area_sector, area_offset, copy_bytes}
use Rattle.layout.specs.Demand.{Allowed}
use Rattle.layout.proofs.Demand.{exactly}
use Rattle.discovery.specs.Discovery.{sized, copy_on}
use Rattle.crash.specs.Crash.{Sectors, Sound, Store, put, landed, area_sectors, copy_from}
use Rattle.crash.proofs.Copies.{limit_small, length-copy}
use Rattle.crash.proofs.Landing.{landed-size}
use Rattle.sectors.specs.Sectors.{copy_sectors, area_start, place_of, sector_at}
use Rattle.sectors.specs.Apply.{among, offset_of, applied_to, apply_tests, applied, applied_first}
use Rattle.sectors.specs.Demand.{nth_sector, PlacedOn, Applying, Following, Refusing}
use Rattle.sectors.proofs.Calls.{in_header, in_a, in_b}
use Rattle.sectors.proofs.Offsets.{among_there, among_facts, offset_header, offset_a, offset_b, offset_none}
use Rattle.sectors.proofs.Parts.{header_sectors_lem, a_before_b, b_last, start_bytes, copy_bytes_lem, area_there}
use Rattle.sectors.proofs.Placed.{by_place, at_place, placed}
use Rattle.sectors.proofs.Demand.{all_read, sizes}

-- a sector outside a run of sectors
among_out : (a k n : ℕ) → (a ≤ n → n < a + k → ⊥) → among a k n ≡ false
unfolding among
among_out a k n h =
    elim (dec_le a n) [
      | no p ↦ ap (λ (t : Bool). t && ltb (n - a) k) (lt-leb a n (omega arith))
      | yes p ↦
          elim (dec_le (a + k) n) [
            | yes q ↦ ap₂ ◌&&◌ (le-leb a n p) (le-ltb (n - a) k (omega arith))
            | no q ↦ absurd (h p (omega arith))
          ]
    ]

module _ (v : Device) (ok : first (device_tests v) ≡ 0) where
  allowed : Allowed v
  allowed = (exactly v).0 ok

  -- an area's sectors are not the header's, and area b's are not area a's
  not_header : (w : Side) (x : Area) (j : ℕ) → j < area_sectors → among (header_sector w v) 8 (area_sector w x v + j) ≡ false
  not_header w x j l =
      among_out (header_sector w v) 8 (area_sector w x v + j)
      (each w x limit_small allowed.sectors allowed.metadata_even allowed.metadata_least allowed.metadata_most)
    where
      each : (w : Side) (x : Area) → area_sectors ≤ 1020 → 2097152 ≤ v.sectors → v.metadata % 2 ≡ 0 → 2040 ≤ v.metadata → v.metadata ≤ 16384
          → header_sector w v ≤ area_sector w x v + j → area_sector w x v + j < header_sector w v + 8 → ⊥
      each Front A m s e a b p q = omega arith
      each Front B m s e a b p q = omega arith
      each Back A m s e a b p q = omega arith
      each Back B m s e a b p q = omega arith

  not_a : (w : Side) (j : ℕ) → j < area_sectors → among (area_sector w A v) area_sectors (area_sector w B v + j) ≡ false
  not_a w j l =
      among_out (area_sector w A v) area_sectors (area_sector w B v + j)
      (each w limit_small allowed.sectors allowed.metadata_even allowed.metadata_least allowed.metadata_most)
    where
      each : (w : Side) → area_sectors ≤ 1020 → 2097152 ≤ v.sectors → v.metadata % 2 ≡ 0 → 2040 ≤ v.metadata → v.metadata ≤ 16384
          → area_sector w A v ≤ area_sector w B v + j → area_sector w B v + j < area_sector w A v + area_sectors → ⊥
      each Front m s e a b p q = omega arith
      each Back m s e a b p q = omega arith

  -- where the sectors of each part lie in a copy
  header_offset : (w : Side) (i : ℕ) → i < area_start A → offset_of w v (header_sector w v + i) ≡ 512 * i
  header_offset w i l =
      let e : area_start A ≡ 8 = header_sectors_lem in
      offset_header w v (header_sector w v + i) (among_there (header_sector w v) 8 (header_sector w v + i) (omega arith) (omega arith)) ∙ omega arith

  area_bytes_lem : (x : Area) (a j : ℕ) → area_offset x + 512 * (a + j - a) ≡ 512 * (area_start x + j)
  area_bytes_lem x a j = let o : 512 * area_start x ≡ area_offset x = start_bytes x in omega arith

  its_own : (w : Side) (x : Area) (j : ℕ) → j < area_sectors → among (area_sector w x v) area_sectors (area_sector w x v + j) ≡ true
  its_own w x j l = among_there (area_sector w x v) area_sectors (area_sector w x v + j) (omega arith) (omega arith)

  area_offset_lem : (w : Side) (x : Area) (j : ℕ) → j < area_sectors → offset_of w v (area_sector w x v + j) ≡ 512 * (area_start x + j)
  area_offset_lem w A j l =
      offset_a w v (area_sector w A v + j) (not_header w A j l) (its_own w A j l) ∙ area_bytes_lem A (area_sector w A v) j
  area_offset_lem w B j l =
      offset_b w v (area_sector w B v + j) (not_header w B j l) (not_a w j l) (its_own w B j l) ∙ area_bytes_lem B (area_sector w B v) j

  -- sector i of a copy lies at byte 512 i of it
  pub place-offset : (w : Side) (i : ℕ) → i < copy_sectors → offset_of w v (place_of w v i) ≡ 512 * i
  place-offset w = by_place w v (λ (i n : ℕ). offset_of w v n ≡ 512 * i) (header_offset w) (area_offset_lem w)

  -- the places of each part
  header_place : (w : Side) (i : ℕ) → i < area_start A → place_of w v i ≡ header_sector w v + i
  header_place w i l = sym (in_header i (header_sector w v + i) (area_sector w A v + (i - area_start A)) (area_sector w B v + (i - area_start B)) l)

  area_place : (w : Side) (x : Area) (j : ℕ) → j < area_sectors → place_of w v (area_start x + j) ≡ area_sector w x v + j
  area_place w A j l =
      let b : area_start B ≡ area_start A + area_sectors = a_before_b in
      sym
      (in_a (area_start A + j) (header_sector w v + (area_start A + j)) (area_sector w A v + (area_start A + j - area_start A)) (area_sector w B v + (area_start A + j - area_start B))
      (omega arith) (omega arith))
      ∙ ap (λ (z : ℕ). area_sector w A v + z) (let e : area_start A + j - area_start A ≡ j = omega arith in e)
  area_place w B j l =
      let b : area_start B ≡ area_start A + area_sectors = a_before_b in
      sym
      (in_b (area_start B + j) (header_sector w v + (area_start B + j)) (area_sector w A v + (area_start B + j - area_start A)) (area_sector w B v + (area_start B + j - area_start B))
      (omega arith) (omega arith))
      ∙ ap (λ (z : ℕ). area_sector w B v + z) (let e : area_start B + j - area_start B ≡ j = omega arith in e)

  -- a device sector lies at the end of a copy, where it is none of its sectors, or is one of them
  abbrev Lies : Side → ℕ → Type 0
  Lies w n = (offset_of w v n ≡ copy_bytes) ⊎ ((i : ℕ) × ((i < copy_sectors) × ((offset_of w v n ≡ 512 * i) × (place_of w v i ≡ n))))

  one_of : (w : Side) (n i m : ℕ) → i < copy_sectors → place_of w v i ≡ m → m ≡ n → Lies w n
  one_of w n i m l p e = inr (i, (l, (ap (offset_of w v) (sym (p ∙ e)) ∙ place-offset w i l, p ∙ e)))

  pub lies : (w : Side) (n : ℕ) → Lies w n
  lies w n =
      header (among (header_sector w v) 8 n) refl (among (area_sector w A v) area_sectors n) refl (among (area_sector w B v) area_sectors n) refl
    where
      header-there : area_start A ≤ copy_sectors
      header-there = let a : area_start B ≡ area_start A + area_sectors = a_before_b in let b : copy_sectors ≡ area_start B + area_sectors = b_last in omega arith

      area : (x : Area) → among (area_sector w x v) area_sectors n ≡ true → Lies w n
      area x e =
          let l : area_sector w x v ≤ n = (among_facts (area_sector w x v) area_sectors n e).0 in
          let m : n - area_sector w x v < area_sectors = (among_facts (area_sector w x v) area_sectors n e).1 in
          one_of w n (area_start x + (n - area_sector w x v)) (area_sector w x v + (n - area_sector w x v)) (area_there x (n - area_sector w x v) m)
          (area_place w x (n - area_sector w x v) m) (omega arith)

      header : (t : Bool) → among (header_sector w v) 8 n ≡ t → (a : Bool) → among (area_sector w A v) area_sectors n ≡ a
          → (b : Bool) → among (area_sector w B v) area_sectors n ≡ b → Lies w n
      header true p a q b r =
          let l : header_sector w v ≤ n = (among_facts (header_sector w v) 8 n p).0 in
          let m : n - header_sector w v < 8 = (among_facts (header_sector w v) 8 n p).1 in
          let e : area_start A ≡ 8 = header_sectors_lem in
          let t : area_start A ≤ copy_sectors = header-there in
          one_of w n (n - header_sector w v) (header_sector w v + (n - header_sector w v)) (omega arith) (header_place w (n - header_sector w v) (omega arith)) (omega arith)
      header false p true q b r = area A q
      header false p false q true r = area B r
      header false p false q false r = inl (offset_none w v n p q r)

module _ (v : Device) (ok : first (device_tests v) ≡ 0) (d : Sectors) (h : Sound d) (n : ℕ) (c : List ℕ) (long : length c ≡ 512) where
  abbrev after : Sectors
  after = put d (record { sector = n; content = c })

  -- the device after the store
  hit : (m : ℕ) → m ≡ n → after m ≡ c
  hit m e = ap (λ (t : Bool). cond t c (d m)) (eq-eqb m n e)

  miss : (m : ℕ) → (m ≡ n → ⊥) → after m ≡ d m
  miss m e = ap (λ (t : Bool). cond t c (d m)) (ne_eqb m n e)

  sound_after : Sound after
  sound_after =
      record {
        size = λ m.
            elim (ℕ_discrete m n) [
              | yes e ↦ ap length (hit m e) ∙ long
              | no e ↦ ap length (miss m e) ∙ h.size m
            ];
      }

  module _ (w : Side) where
    abbrev copy : List ℕ
    copy = copy_from w v d

    is_read : PlacedOn w v d
    is_read = placed w v d ok h

    -- a sector that is not the store's keeps its bytes
    beside : (i : ℕ) → i < copy_sectors → (sector_at w v i ≡ n → ⊥) → nth_sector (applied_to w v n c copy) i ≡ nth_sector copy i
    beside i l e = go (lies v ok w n)
      where
        go : Lies v ok w n → nth_sector (applied_to w v n c copy) i ≡ nth_sector copy i
        go (inl o) =
            let z : length copy ≡ copy_bytes = length-copy w v d h in
            ap (λ (q : List ℕ). nth_sector q i) (splice-short copy (offset_of w v n) c (omega arith))
        go (inr q) =
            let j : ℕ = q.0 in
            let o : offset_of w v n ≡ 512 * j = q.1.1.0 in
            elim (dec_le j i) [
              | yes a ↦
                  elim (ℕ_discrete j i) [
                    | yes z ↦ absurd (e (sym (at_place w v d ok h i l) ∙ (ap (place_of w v) (sym z) ∙ q.1.1.1)))
                    | no z ↦ window-after copy (offset_of w v n) c (512 * i) 512 (omega arith)
                  ]
              | no a ↦ window-before copy (offset_of w v n) c (512 * i) 512 (omega arith)
            ]

    -- and the store's has those that are stored
    stored : (i : ℕ) → i < copy_sectors → sector_at w v i ≡ n → nth_sector (applied_to w v n c copy) i ≡ c
    stored i l e =
        let z : length copy ≡ copy_bytes = length-copy w v d h in
        let b : copy_sectors * 512 ≡ copy_bytes = copy_bytes_lem in
        let o : offset_of w v n ≡ 512 * i = ap (offset_of w v) (sym (at_place w v d ok h i l ∙ e)) ∙ place-offset v ok w i l in
        ap₂ (λ (p q : ℕ). window (splice copy p c) (512 * i) q) o (sym long) ∙ window-splice copy (512 * i) c (omega arith)

    sector-after : (i : ℕ) → i < copy_sectors → nth_sector (applied_to w v n c copy) i ≡ after (sector_at w v i)
    sector-after i l =
        elim (ℕ_discrete (sector_at w v i) n) [
          | yes e ↦ stored i l e ∙ sym (hit (sector_at w v i) e)
          | no e ↦ beside i l e ∙ (is_read.sector i l ∙ sym (miss (sector_at w v i) e))
        ]

    copy-after : applied_to w v n c copy ≡ copy_from w v after
    copy-after =
        (placed w v after ok sound_after).is (zeros copy_sectors) (applied_to w v n c copy)
        (record { size = length-splice copy (offset_of w v n) c ∙ length-copy w v d h; unmarked = λ i l m. sector-after i l }) all_read.zero_marks

-- a call with two copies by their size and a sector's bytes is not refused
call_taken : (v : Device) → first (device_tests v) ≡ 0 → (c f b : List ℕ) → length c ≡ 512 → length f ≡ copy_bytes → length b ≡ copy_bytes → first (apply_tests v c f b) ≡ 0
call_taken v ok c f b p q r =
    first-pass (sized f b && eqb (length c) 512) 1 (device_tests v) (and_both (sized f b) (eqb (length c) 512) (sizes f b q r) (eq-eqb (length c) 512 p)) ∙ ok

-- and applies the store
call_leaves : (w : Side) (v : Device) (n : ℕ) (c f b : List ℕ) → first (apply_tests v c f b) ≡ 0 → applied w v n c f b ≡ applied_to w v n c (copy_on w f b)
unfolding applied
call_leaves w v n c f b e = ap (λ (t : Bool). cond t (applied_to w v n c (copy_on w f b)) (copy_on w f b)) (eq-eqb (first (apply_tests v c f b)) 0 e)

pub refusing : Refusing
unfolding applied
refusing w v n c f b e = ap (λ (t : Bool). cond t (applied_to w v n c (copy_on w f b)) (copy_on w f b)) (ne_eqb (first (apply_tests v c f b)) 0 e)

-- the copies of a device by side
of_device : (w : Side) (v : Device) (d : Sectors) → copy_on w (copy_from Front v d) (copy_from Back v d) ≡ copy_from w v d
of_device Front v d = refl
of_device Back v d = refl

pub applying : Applying
applying v d s ok h long =
    record {
      taken = taken;
      leaves = λ w.
          call_leaves w v s.sector s.content (copy_from Front v d) (copy_from Back v d) taken
          ∙ (ap (applied_to w v s.sector s.content) (of_device w v d) ∙ copy-after v ok d h s.sector s.content long w);
      each = copy-after v ok d h s.sector s.content long;
    }
  where
    taken : first (apply_tests v s.content (copy_from Front v d) (copy_from Back v d)) ≡ 0
    taken = call_taken v ok s.content (copy_from Front v d) (copy_from Back v d) long (length-copy Front v d h) (length-copy Back v d h)

module _ (v : Device) (d : Sectors) (st : ℕ → Store) (ok : first (device_tests v) ≡ 0) (h : Sound d) where
  abbrev copies : ℕ → Side → List ℕ
  copies i w = applied_first v st i (copy_from Front v d) (copy_from Back v d) w

  abbrev Long : ℕ → Type 0
  Long i = (j : ℕ) → j < i → length (st j).content ≡ 512

  sound_landed : (i : ℕ) → Long i → Sound (landed st i d)
  sound_landed i long = record { size = landed-size st d h.size i long }

  copies_follow : (i : ℕ) → Long i → (w : Side) → copies i w ≡ copy_from w v (landed st i d)
  unfolding applied_first landed
  copies_follow zero long w = of_device w v d
  copies_follow (suc i) long w =
      let early : Long i = λ j l. long j (omega arith) in
      ap₂ (λ (f b : List ℕ). applied w v (st i).sector (st i).content f b) (copies_follow i early Front) (copies_follow i early Back)
      ∙ (applying v (landed st i d) (st i) ok (sound_landed i early) (long i (omega arith))).leaves w

  none-refused : (i : ℕ) → Long i → (j : ℕ) → j < i → first (apply_tests v (st j).content (copies j Front) (copies j Back)) ≡ 0
  none-refused i long j l =
      let early : Long j = λ k m. long k (omega arith) in
      ap₂ (λ (f b : List ℕ). first (apply_tests v (st j).content f b)) (copies_follow j early Front) (copies_follow j early Back)
      ∙ (applying v (landed st j d) (st j) ok (sound_landed j early) (long j l)).taken

pub following : Following
following v d st i ok h long = record { taken = none-refused v d st ok h i long; leaves = copies_follow v d st ok h i long }
