-- The sectors of a copy on the device.
use Prim.Native.Nat.{ℕ, zero, suc, ◌+◌, ◌-◌, ◌*◌, ◌%◌, ◌≤◌, ◌<◌}
use mathlib.Core.Path.{◌≡◌, sym, ap, subst, ◌∙◌}
use mathlib.Core.List.{List, [], ◌++◌, append_assoc, append-nil}
use native.Mathlib.Decide.{dec_le}
use native.Mathlib.Nat.{not-suc-le-zero, le_refl, add-zero, add-suc, suc-add}
use native.Mathlib.Omega.{arith}
use borrow.Author.Tests.{leb-true}
use lib.Dec.{lit<}
use lib.ListN.{length, take, drop}
use lib.Seq.{take_all, take_at, drop_at, drop-drop}
use Rattle.endian.specs.Bytes.{window}
use Rattle.endian.proofs.Parts.{window-window, window_rest}
use Rattle.refusal.specs.Tests.{first, AllHold}
use Rattle.refusal.proofs.Order.{first-zero}
use Rattle.layout.specs.declared.Device.{Device}
use Rattle.layout.specs.declared.Side.{Side}
use Rattle.layout.specs.declared.Side.TheVariants.{Front, Back}
use Rattle.layout.specs.declared.Area.{Area}
use Rattle.layout.specs.declared.Area.TheVariants.{A, B}
use Rattle.layout.specs.Limits.{device_tests, record_limit}
use Rattle.layout.specs.Places.{header_sector, area_sector, area_offset, copy_bytes}
use Rattle.layout.proofs.Laws.{metadata_facts}
use Rattle.crash.specs.Crash.{Sectors, Sound, gather, area_sectors, copy_from}
use Rattle.crash.proofs.Copies.{limit_sectors, limit_small, length-gather, length-copy, copy_area}
use Rattle.sectors.specs.Sectors.{copy_sectors, area_start, place_of, sector_at}
use Rattle.sectors.specs.Demand.{nth_sector, NoneMarked, ReadFrom, Placed}
use Rattle.sectors.proofs.Calls.{below_is, in_header, in_a, in_b, at_inside, at-past}
use Rattle.sectors.proofs.Parts.{header_sectors_lem, a_before_b, b_last, start_bytes, copy_bytes_lem, run-same}

-- sector i of sectors that were read one after the other
gather-at : (d : Sectors) → Sound d → (s n i : ℕ) (rest : List ℕ) → i < n → window (gather d s n ++ rest) (512 * i) 512 ≡ d (s + i)
unfolding gather window
gather-at d h s zero i rest l = absurd (not-suc-le-zero l)
gather-at d h s (suc n) zero rest l =
    ap (take 512) (append_assoc (d s) (gather d (suc s) n) rest)
    ∙ (take_at (d s) (gather d (suc s) n ++ rest) 512 (h.size s) ∙ ap d (sym (add-zero s)))
gather-at d h s (suc n) (suc i) rest l =
    ap (λ (k : ℕ). take 512 (drop k ((d s ++ gather d (suc s) n) ++ rest))) (let z : 512 * suc i ≡ 512 + 512 * i = omega arith in z)
    ∙ (ap (take 512)
    (sym (drop-drop (512 * i) 512 ((d s ++ gather d (suc s) n) ++ rest))
    ∙ ap (drop (512 * i)) (ap (drop 512) (append_assoc (d s) (gather d (suc s) n) rest) ∙ drop_at (d s) (gather d (suc s) n ++ rest) 512 (h.size s)))
    ∙ (gather-at d h (suc s) n i rest (omega arith) ∙ ap d (suc-add s i ∙ sym (add-suc s i))))

module _ (s : Side) (v : Device) where
  -- a sector is the header's, or sector j of an area
  pub by_place : (P : ℕ → ℕ → Type 0) → ((i : ℕ) → i < area_start A → P i (header_sector s v + i))
      → ((x : Area) (j : ℕ) → j < area_sectors → P (area_start x + j) (area_sector s x v + j)) → (i : ℕ) → i < copy_sectors → P i (place_of s v i)
  by_place P h a i l =
      let p : area_start B ≡ area_start A + area_sectors = a_before_b in
      let q : copy_sectors ≡ area_start B + area_sectors = b_last in
      elim (dec_le (area_start A) i) [
        | no n ↦
            let k : i < area_start A = omega arith in
            subst (P i) (in_header i (header_sector s v + i) (area_sector s A v + (i - area_start A)) (area_sector s B v + (i - area_start B)) k) (h i k)
        | yes n ↦
            elim (dec_le (area_start B) i) [
              | no m ↦
                  subst (P i) (in_a i (header_sector s v + i) (area_sector s A v + (i - area_start A)) (area_sector s B v + (i - area_start B)) n (omega arith))
                  (subst (λ (k : ℕ). P k (area_sector s A v + (i - area_start A))) (let e : area_start A + (i - area_start A) ≡ i = omega arith in e)
                  (a A (i - area_start A) (omega arith)))
              | yes m ↦
                  subst (P i) (in_b i (header_sector s v + i) (area_sector s A v + (i - area_start A)) (area_sector s B v + (i - area_start B)) n m)
                  (subst (λ (k : ℕ). P k (area_sector s B v + (i - area_start B))) (let e : area_start B + (i - area_start B) ≡ i = omega arith in e)
                  (a B (i - area_start B) (omega arith)))
            ]
      ]

module _ (v : Device) (ok : first (device_tests v) ≡ 0) where
  allowed : AllHold (device_tests v)
  allowed = first-zero 0 (device_tests v) (lit< tt, (lit< tt, (lit< tt, tt))) ok

  large : 2097152 ≤ v.sectors
  large = leb-true 2097152 v.sectors allowed.0

  -- the device has the sectors of a copy
  header_below : (s : Side) (i : ℕ) → i < area_start A → header_sector s v + i < v.sectors
  header_below s i l = each s header_sectors_lem large
    where
      each : (s : Side) → area_start A ≡ 8 → 2097152 ≤ v.sectors → header_sector s v + i < v.sectors
      each Front h c = omega arith
      each Back h c = omega arith

  area_below : (s : Side) (x : Area) (j : ℕ) → j < area_sectors → area_sector s x v + j < v.sectors
  area_below s x j l = each s x limit_small large (metadata_facts v.metadata allowed.1.0)
    where
      each : (s : Side) (x : Area) → area_sectors ≤ 1020 → 2097152 ≤ v.sectors → (v.metadata % 2 ≡ 0) × (2040 ≤ v.metadata) × (v.metadata ≤ 16384)
          → area_sector s x v + j < v.sectors
      each Front A m c f = omega arith
      each Front B m c f = omega arith
      each Back A m c f = omega arith
      each Back B m c f = omega arith

module _ (s : Side) (v : Device) (d : Sectors) (ok : first (device_tests v) ≡ 0) (h : Sound d) where
  place-below : (i : ℕ) → i < copy_sectors → place_of s v i < v.sectors
  place-below = by_place s v (λ (i n : ℕ). n < v.sectors) (header_below v ok s) (area_below v ok s)

  pub at_place : (i : ℕ) → i < copy_sectors → place_of s v i ≡ sector_at s v i
  at_place i l = below_is v.sectors (place_of s v i) (place-below i l) ∙ at_inside s v i l

  there : (i : ℕ) → i < copy_sectors → sector_at s v i < v.sectors
  there i l = subst (λ (n : ℕ). n < v.sectors) (at_place i l) (place-below i l)

  in_area : (x : Area) (j : ℕ) → j < area_sectors → nth_sector (copy_from s v d) (area_start x + j) ≡ d (area_sector s x v + j)
  in_area x j l =
      let o : 512 * area_start x ≡ area_offset x = start_bytes x in
      let m : area_sectors * 512 ≡ record_limit = limit_sectors in
      let w : length (gather d (area_sector s x v) area_sectors) ≡ area_sectors * 512 = length-gather d h (area_sector s x v) area_sectors in
      ap (λ (n : ℕ). window (copy_from s v d) n 512) (let z : 512 * (area_start x + j) ≡ area_offset x + 512 * j = omega arith in z)
      ∙ (sym (window-window (copy_from s v d) (area_offset x) record_limit (512 * j) 512 (omega arith))
      ∙ (ap (λ (c : List ℕ). window c (512 * j) 512)
      (copy_area s v d h x record_limit (le_refl record_limit)
      ∙ (take_all record_limit (gather d (area_sector s x v) area_sectors) (omega arith) ∙ sym (append-nil (gather d (area_sector s x v) area_sectors))))
      ∙ gather-at d h (area_sector s x v) area_sectors j [] l))

  in_head : (i : ℕ) → i < area_start A → nth_sector (copy_from s v d) i ≡ d (header_sector s v + i)
  unfolding copy_from
  in_head i l =
      let e : area_start A ≡ 8 = header_sectors_lem in
      gather-at d h (header_sector s v) 8 i (gather d (area_sector s A v) area_sectors ++ gather d (area_sector s B v) area_sectors) (omega arith)

  sector : (i : ℕ) → i < copy_sectors → nth_sector (copy_from s v d) i ≡ d (sector_at s v i)
  sector i l = by_place s v (λ (i n : ℕ). nth_sector (copy_from s v d) i ≡ d n) in_head in_area i l ∙ ap d (at_place i l)

  all_read : (m c : List ℕ) → ReadFrom s v d m c → NoneMarked m → c ≡ copy_from s v d
  unfolding window
  all_read m c r a =
      let n : length c ≡ copy_bytes = r.size in
      let q : copy_sectors * 512 ≡ copy_bytes = copy_bytes_lem in
      let k : length (copy_from s v d) ≡ copy_bytes = length-copy s v d h in
      sym (window_rest c 0 (copy_sectors * 512) (omega arith))
      ∙ (run-same (copy_from s v d) c 0 copy_sectors
      (λ i l.
      let z : 0 + 512 * i ≡ 512 * i = omega arith in
      ap (λ (q : ℕ). window c q 512) z ∙ ((r.unmarked i l (a i l) ∙ sym (sector i l)) ∙ ap (λ (q : ℕ). window (copy_from s v d) q 512) (sym z)))
      ∙ window_rest (copy_from s v d) 0 (copy_sectors * 512) (omega arith))

pub placed : Placed
placed s v d ok h =
    record {
      sector = sector s v d ok h;
      there = there s v d ok h;
      past = λ i l. sym (at-past s v i l);
      agrees = λ m c r. record { size = r.size; size_too = length-copy s v d h; unmarked = λ i l u. sector s v d ok h i l ∙ sym (r.unmarked i l u) };
      is = all_read s v d ok h;
    }
