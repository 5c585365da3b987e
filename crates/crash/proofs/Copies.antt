-- What a copy has of the sectors that it was read from.
use Prim.Native.Nat.{ℕ, zero, suc, ◌+◌, ◌*◌, ◌≤◌, ◌<◌}
use mathlib.Core.Path.{◌≡◌, refl, sym, ap, ap₂, ◌∙◌}
use mathlib.Core.List.{List, ◌++◌, append_assoc}
use native.Mathlib.Nat.{add-suc, suc-add, add-zero}
use native.Mathlib.Omega.{arith}
use lib.ListN.{length, take, drop, length-append}
use lib.Seq.{take_at, drop_at, take-append-le}
use Rattle.endian.specs.Bytes.{window}
use Rattle.layout.specs.declared.Device.{Device}
use Rattle.layout.specs.declared.Side.{Side}
use Rattle.layout.specs.declared.Area.{Area}
use Rattle.layout.specs.declared.Area.TheVariants.{A, B}
use Rattle.layout.specs.Limits.{record_limit, sector_bytes, block_offset}
use Rattle.layout.specs.Places.{header_sector, area_sector, area_offset, copy_bytes}
use Rattle.crash.specs.Crash.{Sectors, Sound, gather, area_sectors, copy_from}

-- the limit is whole sectors
pub limit_sectors : area_sectors * 512 ≡ record_limit
unfolding area_sectors record_limit
limit_sectors = refl

-- and fits half of the smallest metadata area
pub limit_small : area_sectors ≤ 1020
unfolding area_sectors record_limit
limit_small = lib.Dec.lit≤ tt

module _ (d : Sectors) (h : Sound d) where
  pub length-gather : (s n : ℕ) → length (gather d s n) ≡ n * 512
  unfolding gather
  length-gather s zero = refl
  length-gather s (suc n) =
      length-append (d s) (gather d (suc s) n)
      ∙ (ap₂ ◌+◌ (h.size s) (length-gather (suc s) n) ∙ (let e : 512 + n * 512 ≡ suc n * 512 = omega arith in e))

-- sectors that are the same
pub gather-same : (d e : Sectors) (s n : ℕ) → ((i : ℕ) → i < n → d (s + i) ≡ e (s + i)) → gather d s n ≡ gather e s n
unfolding gather
gather-same d e s zero h = refl
gather-same d e s (suc n) h =
    ap₂ ◌++◌ (ap d (sym (add-zero s)) ∙ (h 0 (omega arith) ∙ ap e (add-zero s)))
    (gather-same d e (suc s) n (λ i l. ap d (suc-add s i ∙ sym (add-suc s i)) ∙ (h (suc i) (omega arith) ∙ ap e (add-suc s i ∙ sym (suc-add s i)))))

module _ (s : Side) (v : Device) (d : Sectors) (h : Sound d) where
  heads : List ℕ
  heads = gather d (header_sector s v) 8

  -- a copy has the size of one
  pub length-copy : length (copy_from s v d) ≡ copy_bytes
  unfolding copy_from copy_bytes
  length-copy =
      length-append (gather d (header_sector s v) 8) (gather d (area_sector s A v) area_sectors ++ gather d (area_sector s B v) area_sectors)
      ∙ (ap₂ ◌+◌ (length-gather d h (header_sector s v) 8)
      (length-append (gather d (area_sector s A v) area_sectors) (gather d (area_sector s B v) area_sectors)
      ∙ ap₂ ◌+◌ (length-gather d h (area_sector s A v) area_sectors ∙ limit_sectors) (length-gather d h (area_sector s B v) area_sectors ∙ limit_sectors))
      ∙ (let e : 4096 + (record_limit + record_limit) ≡ 4096 + record_limit + record_limit = omega arith in e))

  -- its signature block is in the header's sector 1
  pub copy_block : window (copy_from s v d) block_offset sector_bytes ≡ d (suc (header_sector s v))
  unfolding copy_from window gather
  copy_block =
      ap (take 512)
      (ap (drop 512) (append_assoc (d (header_sector s v)) _ _) ∙ drop_at (d (header_sector s v)) _ 512 (h.size (header_sector s v)))
      ∙ (ap (take 512) (append_assoc (d (suc (header_sector s v))) _ _) ∙ take_at (d (suc (header_sector s v))) _ 512 (h.size (suc (header_sector s v))))

  -- an area's first bytes are those of its sectors
  pub copy_area : (x : Area) (n : ℕ) → n ≤ record_limit → window (copy_from s v d) (area_offset x) n ≡ take n (gather d (area_sector s x v) area_sectors)
  unfolding copy_from window area_offset
  copy_area A n l =
      let k : length (gather d (area_sector s A v) area_sectors) ≡ record_limit = length-gather d h (area_sector s A v) area_sectors ∙ limit_sectors in
      ap (take n) (drop_at (gather d (header_sector s v) 8) _ 4096 (length-gather d h (header_sector s v) 8))
      ∙ take-append-le n (gather d (area_sector s A v) area_sectors) (gather d (area_sector s B v) area_sectors) (omega arith)
  copy_area B n l =
      ap (take n)
      (ap (drop (4096 + record_limit)) (sym (append_assoc (gather d (header_sector s v) 8) (gather d (area_sector s A v) area_sectors) (gather d (area_sector s B v) area_sectors)))
      ∙ drop_at (gather d (header_sector s v) 8 ++ gather d (area_sector s A v) area_sectors) (gather d (area_sector s B v) area_sectors) (4096 + record_limit)
      (length-append (gather d (header_sector s v) 8) (gather d (area_sector s A v) area_sectors)
      ∙ ap₂ ◌+◌ (length-gather d h (header_sector s v) 8) (length-gather d h (area_sector s A v) area_sectors ∙ limit_sectors)))
