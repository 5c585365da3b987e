-- The sectors of a copy by number, and what lists have in common that have sectors in common.
use Prim.Native.Nat.{ℕ, zero, suc, ◌+◌, ◌*◌, ◌/◌, ◌≤◌, ◌<◌}
use mathlib.Core.Path.{◌≡◌, refl, sym, ap, ap₂, ◌∙◌}
use mathlib.Core.List.{List, ◌++◌}
use native.Mathlib.Nat.{add-zero}
use native.Mathlib.Omega.{arith}
use lib.Dec.{lit<}
use Rattle.endian.specs.Bytes.{window}
use Rattle.endian.proofs.Parts.{window-append, window-window}
use Rattle.layout.specs.declared.Area.{Area}
use Rattle.layout.specs.declared.Area.TheVariants.{A, B}
use Rattle.layout.specs.Limits.{record_limit}
use Rattle.layout.specs.Places.{area_offset, copy_bytes}
use Rattle.crash.specs.Crash.{area_sectors}
use Rattle.sectors.specs.Sectors.{copy_sectors, area_start}

-- the parts are whole sectors, one after the other
pub header_sectors_lem : area_start A ≡ 8
unfolding area_start area_offset
header_sectors_lem = refl

pub a_before_b : area_start B ≡ area_start A + area_sectors
unfolding area_start area_offset area_sectors record_limit
a_before_b = refl

pub b_last : copy_sectors ≡ area_start B + area_sectors
unfolding copy_sectors copy_bytes area_start area_offset area_sectors record_limit
b_last = refl

pub start_bytes : (x : Area) → 512 * area_start x ≡ area_offset x
unfolding area_start area_offset record_limit
start_bytes A = refl
start_bytes B = refl

pub copy_bytes_lem : copy_sectors * 512 ≡ copy_bytes
unfolding copy_sectors copy_bytes record_limit
copy_bytes_lem = refl

pub block_there : 1 < copy_sectors
unfolding copy_sectors copy_bytes record_limit
block_there = lit< tt

-- an area's sectors are the copy's
pub area_there : (x : Area) (j : ℕ) → j < area_sectors → area_start x + j < copy_sectors
area_there A j l = let a : area_start B ≡ area_start A + area_sectors = a_before_b in let b : copy_sectors ≡ area_start B + area_sectors = b_last in omega arith
area_there B j l = let b : copy_sectors ≡ area_start B + area_sectors = b_last in omega arith

module _ (c e : List ℕ) (at : ℕ) where
  -- sectors that are the same, one after the other
  pub run-same : (k : ℕ) → ((i : ℕ) → i < k → window e (at + 512 * i) 512 ≡ window c (at + 512 * i) 512) → window e at (k * 512) ≡ window c at (k * 512)
  unfolding window
  run-same zero h = refl
  run-same (suc k) h =
      let n : suc k * 512 ≡ k * 512 + 512 = omega arith in
      let p : at + k * 512 ≡ at + 512 * k = omega arith in
      ap (window e at) n
      ∙ (window-append e at (k * 512) 512
      ∙ (ap₂ ◌++◌ (run-same k (λ i l. h i (omega arith)))
      (ap (λ (z : ℕ). window e z 512) p ∙ (h k (omega arith) ∙ ap (λ (z : ℕ). window c z 512) (sym p)))
      ∙ (sym (window-append c at (k * 512) 512) ∙ ap (window c at) (sym n))))

  first_of : (s : List ℕ) (k n : ℕ) → n ≤ k * 512 → window (window s at (k * 512)) 0 n ≡ window s at n
  first_of s k n l = window-window s at (k * 512) 0 n (omega arith) ∙ ap (λ (z : ℕ). window s z n) (add-zero at)

  -- the first n bytes are the same where the sectors are that they lie in
  pub part_same : (n : ℕ) → ((i : ℕ) → 512 * i < n → window e (at + 512 * i) 512 ≡ window c (at + 512 * i) 512) → window e at n ≡ window c at n
  part_same n h =
      sym (first_of e ((n + 511) / 512) n (omega arith))
      ∙ (ap (λ (s : List ℕ). window s 0 n) (run-same ((n + 511) / 512) (λ i l. h i (omega arith))) ∙ first_of c ((n + 511) / 512) n (omega arith))
