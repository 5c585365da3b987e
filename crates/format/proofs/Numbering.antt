-- The stores that write two copies, by side and sector: which number each has, and what it stores where.
use Prim.Native.Nat.{ℕ, zero, suc, ◌+◌, ◌-◌, ◌*◌, ◌≤◌, ◌<◌}
use mathlib.Core.Path.{◌≡◌, refl, sym, ap, subst, ◌∙◌}
use mathlib.Core.Bool.{cond}
use mathlib.Core.List.{List, [], ◌∷◌, ◌++◌, append_assoc, append-nil, map, flatten}
use native.Mathlib.Decide.{dec_le}
use native.Mathlib.Nat.{zero-add}
use native.Mathlib.Omega.{arith}
use Rattle.std.proofs.lemmas.Bool.Decides.{nat_tests}
use lib.Dec.{ltb}
use lib.ListN.{length, take, drop, get_or, length-append}
use lib.Seq.{drop_at, drop-drop, take-append-le, drop-append-le}
use Rattle.endian.specs.Bytes.{window}
use Rattle.layout.specs.declared.Device.{Device}
use Rattle.layout.specs.declared.Side.{Side}
use Rattle.layout.specs.declared.Side.TheVariants.{Front, Back}
use Rattle.layout.specs.declared.Area.{Area}
use Rattle.layout.specs.declared.Area.TheVariants.{A, B}
use Rattle.layout.specs.Places.{header_sector, area_sector, area_offset, copy_bytes}
use Rattle.discovery.specs.Discovery.{copy_on}
use Rattle.crash.specs.Crash.{Store, Groups, stores, store_in, group_start, area_sectors}
use Rattle.crash.proofs.Groups.{total, starts, at_left, at_right, length_from, at_from}
use Rattle.sectors.specs.Sectors.{copy_sectors, area_start, place_of, sector_at}
use Rattle.sectors.specs.Demand.{nth_sector}
use Rattle.sectors.proofs.Parts.{header_sectors_lem, a_before_b, b_last, start_bytes, copy_bytes_lem}
use Rattle.sectors.proofs.Placed.{by_place}
use Rattle.format.specs.Writing.{by_group, part_stores, header_stores, areas_stores, format_groups, store_count, areas_sectors, position_of, sector_on, bytes_on}
use Rattle.format.proofs.Choosing.{areas_split, both_copies}

-- the areas' sectors are those of the two, and a copy's are the header's and theirs
pub areas_two : areas_sectors ≡ area_sectors + area_sectors
areas_two = omega (arith, areas_split, a_before_b, b_last)

pub copy_parts : copy_sectors ≡ areas_sectors + 8
copy_parts = omega (arith, areas_split, header_sectors_lem)

-- the stores before a side's, and the sectors of both copies before it
abbrev pub base : Side → ℕ
base Front = copy_sectors
base Back = 0

abbrev pub begin : Side → ℕ
begin Front = 0
begin Back = copy_sectors

-- the number of the store of sector k among its side's, and among all
unfoldable pub turned : ℕ → ℕ
turned k = cond (ltb k (area_start A)) (areas_sectors + k) (k - area_start A)

abbrev pub number : Side → ℕ → ℕ
number w k = base w + turned k

pub turned_header : (k : ℕ) → k < area_start A → turned k ≡ areas_sectors + k
unfolding turned
turned_header k l = grind (arith, nat_tests)

pub turned_areas : (k : ℕ) → area_start A ≤ k → turned k ≡ k - area_start A
unfolding turned
turned_areas k l = grind (arith, nat_tests)

pub turned_below : (k : ℕ) → k < copy_sectors → turned k < copy_sectors
unfolding turned
turned_below k l = grind (arith, nat_tests, copy_parts, header_sectors_lem)

pub number-below : (w : Side) (k : ℕ) → k < copy_sectors → number w k < store_count
number-below Front k l = omega (arith, both_copies, turned_below k l)
number-below Back k l = omega (arith, both_copies, turned_below k l)

-- every number is a sector's
sector_of_lem : (m : ℕ) → m < copy_sectors → (k : ℕ) × ((k < copy_sectors) × (turned k ≡ m))
sector_of_lem m l =
    elim (dec_le areas_sectors m) [
      | yes a ↦ (m - areas_sectors, (omega (arith, copy_parts), grind (arith, copy_parts, header_sectors_lem, turned_header)))
      | no a ↦ (area_start A + m, (omega (arith, copy_parts, header_sectors_lem), grind (arith, turned_areas)))
    ]

-- what holds of each side's sectors holds of every store
pub by_store : (P : ℕ → Type 0) → ((w : Side) (k : ℕ) → k < copy_sectors → P (number w k)) → (i : ℕ) → i < store_count → P i
by_store P h i l =
    elim (dec_le copy_sectors i) [
      | no a ↦
          let q : (k : ℕ) × ((k < copy_sectors) × (turned k ≡ i)) = sector_of_lem i (omega arith) in
          subst P (let e : turned q.0 ≡ i = q.1.1 in let z : 0 + turned q.0 ≡ i = omega arith in z) (h Back q.0 q.1.0)
      | yes a ↦
          let q : (k : ℕ) × ((k < copy_sectors) × (turned k ≡ i - copy_sectors)) = sector_of_lem (i - copy_sectors) (omega (arith, both_copies)) in
          subst P (let e : turned q.0 ≡ i - copy_sectors = q.1.1 in let z : copy_sectors + turned q.0 ≡ i = omega arith in z) (h Front q.0 q.1.0)
    ]

-- which sector of both copies it is
pub number-position : (w : Side) (k : ℕ) → k < copy_sectors → position_of (number w k) ≡ begin w + k
unfolding by_group turned areas_sectors store_count
number-position Front k l = grind (arith, nat_tests, copy_parts, header_sectors_lem)
number-position Back k l = grind (arith, nat_tests, copy_parts, header_sectors_lem)

-- where it lies on the device, and its bytes
pub sector_on_lem : (v : Device) (w : Side) (k : ℕ) → k < copy_sectors → sector_on v (begin w + k) ≡ sector_at w v k
sector_on_lem v Front k l = grind (arith, nat_tests)
sector_on_lem v Back k l = grind (arith, nat_tests)

pub bytes_on_lem : (f b : List ℕ) (w : Side) (k : ℕ) → k < copy_sectors → bytes_on f b (begin w + k) ≡ nth_sector (copy_on w f b) k
bytes_on_lem f b Front k l = grind (arith, nat_tests)
bytes_on_lem f b Back k l = grind (arith, nat_tests)

-- a sector of the two copies, one after the other
pub joined_at : (f b : List ℕ) (w : Side) (k : ℕ) → k < copy_sectors → length f ≡ copy_bytes → nth_sector (f ++ b) (begin w + k) ≡ nth_sector (copy_on w f b) k
unfolding window
joined_at f b Front k l n =
    let c : copy_sectors * 512 ≡ copy_bytes = copy_bytes_lem in
    rw (zero-add k, drop-append-le (512 * k) f b (omega arith)) (take-append-le 512 (drop (512 * k) f) b (simp lib.ListN.length-drop (omega arith)))
joined_at f b Back k l n =
    let c : copy_sectors * 512 ≡ copy_bytes = copy_bytes_lem in
    let e : 512 * (copy_sectors + k) ≡ length f + 512 * k = omega arith in
    rw (e, ← drop-drop (512 * k) (length f) (f ++ b), drop_at f b (length f) refl)

-- a sum of more numbers is no less
rises : (ns : List ℕ) (g h : ℕ) → g ≤ h → total (take g ns) ≤ total (take h ns)
rises ns zero h l = omega arith
rises [] (suc g) h l = omega arith
rises (n ∷ ns) (suc g) zero l = absurd (omega arith)
rises (n ∷ ns) (suc g) (suc h) l = omega (arith, rises ns g h (omega arith))

module _ (v : Device) (f b : List ℕ) where
  abbrev pub groups : Groups
  groups = format_groups v f b

  abbrev pub none : Store
  none = record { sector = 0; content = [] }

  -- a side's areas, its header, and the two together
  abbrev areaPart : Side → Area → List Store
  areaPart w x = part_stores (area_sector w x v) (area_offset x) area_sectors (copy_on w f b)

  abbrev areas : Side → List Store
  areas w = areas_stores w v (copy_on w f b)

  abbrev header : Side → List Store
  header w = header_stores w v (copy_on w f b)

  abbrev part : Side → List Store
  part w = areas w ++ header w

  length_area : (w : Side) (x : Area) → length (areaPart w x) ≡ area_sectors
  length_area w x = length_from (area_sector w x v) _ area_sectors

  length_areas : (w : Side) → length (areas w) ≡ areas_sectors
  length_areas w = omega (arith, length-append (areaPart w A) (areaPart w B), length_area w A, length_area w B, areas_two)

  length_header : (w : Side) → length (header w) ≡ 8
  length_header w = length_from (header_sector w v) _ 8

  length_part : (w : Side) → length (part w) ≡ copy_sectors
  length_part w = omega (arith, length-append (areas w) (header w), length_areas w, length_header w, copy_parts)

  -- the back's stores, then the front's
  sides : stores groups ≡ part Back ++ part Front
  unfolding format_groups flatten
  sides = simp (append-nil, append_assoc)

  pub all_stores : length (stores groups) ≡ store_count
  all_stores = ap length sides ∙ omega (arith, length-append (part Back) (part Front), length_part Back, length_part Front, both_copies)

  at_side : (w : Side) (j : ℕ) → j < copy_sectors → store_in groups (base w + j) ≡ get_or (part w) j none
  unfolding store_in
  at_side Back j l = rw (sides, zero-add j) (at_left none (part Back) (part Front) j (omega (arith, length_part Back)))
  at_side Front j l = rw (sides, ← length_part Back) (at_right none (part Back) (part Front) j)

  -- sector j of a side's areas, and of its header
  at_areas : (w : Side) (j : ℕ) → j < areas_sectors → store_in groups (base w + j) ≡ get_or (areas w) j none
  at_areas w j l = at_side w j (omega (arith, copy_parts)) ∙ at_left none (areas w) (header w) j (omega (arith, length_areas w))

  -- sector k of a copy's header
  at_header : (w : Side) (k : ℕ) → k < area_start A → store_in groups (number w k) ≡ record { sector = header_sector w v + k; content = nth_sector (copy_on w f b) k }
  at_header w k l =
      rw (turned_header k l)
      (at_side w (areas_sectors + k) (omega (arith, copy_parts, header_sectors_lem))
      ∙ (ap (λ (m : ℕ). get_or (part w) (m + k) none) (sym (length_areas w))
      ∙ (at_right none (areas w) (header w) k
      ∙ (at_from none (header_sector w v) _ 8 k (omega (arith, header_sectors_lem))
      ∙ ap (λ (m : ℕ). record { sector = header_sector w v + k; content = window (copy_on w f b) m 512 }) (zero-add (512 * k))))))

  -- sector j of an area
  area_store : (w : Side) (x : Area) (j : ℕ) → j < area_sectors → get_or (areaPart w x) j none ≡ record { sector = area_sector w x v + j; content = nth_sector (copy_on w f b) (area_start x + j) }
  area_store w x j l =
      let e : area_offset x + 512 * j ≡ 512 * (area_start x + j) = omega (arith, start_bytes x) in
      at_from none (area_sector w x v) _ area_sectors j l ∙ (ap (λ (m : ℕ). record { sector = area_sector w x v + j; content = window (copy_on w f b) m 512 }) e)

  at_area : (w : Side) (x : Area) (j : ℕ) → j < area_sectors
      → store_in groups (number w (area_start x + j)) ≡ record { sector = area_sector w x v + j; content = nth_sector (copy_on w f b) (area_start x + j) }
  at_area w A j l =
      let e : turned (area_start A + j) ≡ j = grind (arith, turned_areas) in
      rw e
      (at_areas w j (omega (arith, areas_two)) ∙ (at_left none (areaPart w A) (areaPart w B) j (omega (arith, length_area w A)) ∙ area_store w A j l))
  at_area w B j l =
      let e : turned (area_start B + j) ≡ area_sectors + j = grind (arith, turned_areas, a_before_b) in
      rw e
      (at_areas w (area_sectors + j) (omega (arith, areas_two))
      ∙ (ap (λ (m : ℕ). get_or (areas w) (m + j) none) (sym (length_area w A)) ∙ (at_right none (areaPart w A) (areaPart w B) j ∙ area_store w B j l)))

  -- of either
  pub at-number : (w : Side) (k : ℕ) → k < copy_sectors → store_in groups (number w k) ≡ record { sector = place_of w v k; content = nth_sector (copy_on w f b) k }
  at-number w =
      by_place w v (λ (k n : ℕ). store_in groups (number w k) ≡ record { sector = n; content = nth_sector (copy_on w f b) k }) (at_header w) (at_area w)

  -- the groups have as many stores as the areas have sectors, the header, the areas and the header
  abbrev pub starting : ℕ → ℕ
  starting g = total (take g (areas_sectors ∷ 8 ∷ areas_sectors ∷ 8 ∷ []))

  group_lengths : map length groups ≡ areas_sectors ∷ 8 ∷ areas_sectors ∷ 8 ∷ []
  unfolding format_groups
  group_lengths = rw (length_areas Back, length_header Back, length_areas Front, length_header Front)

  pub groups_four : length groups ≡ 4
  unfolding format_groups
  groups_four = refl

  pub group_starts : (g : ℕ) → group_start groups g ≡ starting g
  group_starts g = starts groups g ∙ ap (λ (ns : List ℕ). total (take g ns)) group_lengths

  -- and each starts no earlier than those before it
  pub starts_rise : (g h : ℕ) → g ≤ h → starting g ≤ starting h
  starts_rise g h l = rises (areas_sectors ∷ 8 ∷ areas_sectors ∷ 8 ∷ []) g h l
