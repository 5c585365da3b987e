-- The sizes, the limits and the places, computed; which device numbers are allowed, and where things lie on such a device.
use Prim.Native.Nat.{ℕ, ◌-◌, ◌%◌, ◌≤◌}
use mathlib.Core.Bool.{Bool, cond}
use mathlib.Core.Path.{◌≡◌, refl, sym, ap, ◌∙◌}
use native.Mathlib.Omega.{arith}
use borrow.Author.Tests.{leb-true, le-leb, lt-leb}
use lib.Dec.{lit<}
use Rattle.refusal.specs.Tests.{first, AllHold, Ascending}
use Rattle.refusal.proofs.Order.{first-zero, first_all}
use Rattle.layout.specs.declared.Device.{Device}
use Rattle.layout.specs.Limits.{record_limit, device_tests}
use Rattle.std.specs.Prelude.{Ok, Err}
use Rattle.refusal.specs.declared.Reason.TheVariants.{DeviceSize}
use Rattle.refusal.specs.Reasons.{answer}
use Rattle.layout.specs.declared.BlockSectors.{BlockSectors}
use Rattle.layout.specs.Places.{area_offset, copy_bytes, map_of, blocks_located}
use Rattle.layout.specs.Demand.{Sizes, Allowed, Exactly, Tiled, Mapped, Tiling, Beginning}
use Rattle.layout.proofs.Laws.{metadata_facts, metadata_test}

pub sizes : Sizes
unfolding record_limit area_offset copy_bytes
sizes = record { nanoseconds = refl; sector_bytes_lem = refl; record_bytes_lem = refl; copy_bytes_lem = refl; area_a = refl; area_b = refl; places = refl }

-- the numbers ascend
ascending : (d : Device) → Ascending 0 (device_tests d)
ascending d = (lit< tt, (lit< tt, (lit< tt, tt)))

-- device numbers that no test refuses are within the limits
facts : (d : Device) → first (device_tests d) ≡ 0 → Allowed d
facts d e =
    let t : AllHold (device_tests d) = first-zero 0 (device_tests d) (ascending d) e in
    let m : (d.metadata % 2 ≡ 0) × (2040 ≤ d.metadata) × (d.metadata ≤ 16384) = metadata_facts d.metadata t.1.0 in
    record {
      sectors = leb-true 2097152 d.sectors t.0;
      metadata_even = m.0;
      metadata_least = m.1;
      metadata_most = m.2;
      reserved = leb-true d.reserved 65536 t.1.1.0;
    }

-- and those within the limits are refused by none
tests : (d : Device) → Allowed d → first (device_tests d) ≡ 0
tests d h =
    let m = metadata_test d.metadata h.metadata_even h.metadata_least h.metadata_most in
    first_all (device_tests d) (le-leb 2097152 d.sectors h.sectors, (m, (le-leb d.reserved 65536 h.reserved, tt)))

pub exactly : Exactly
exactly d = (facts d, tests d)

tiled : (d : Device) → Allowed d → Tiled d
tiled d h =
    let s : 2097152 ≤ d.sectors = h.sectors in
    let e : d.metadata % 2 ≡ 0 = h.metadata_even in
    let l : d.metadata ≤ 16384 = h.metadata_most in
    let r : d.reserved ≤ 65536 = h.reserved in
    record {
      front_header = omega arith;
      front_block = omega arith;
      front_a = omega arith;
      front_b = omega arith;
      front_reserved = omega arith;
      data_start_lem = omega arith;
      data_range_lem = omega arith;
      back_reserved = omega arith;
      back_a = omega arith;
      back_b = omega arith;
      back_header = omega arith;
      back_block = omega arith;
      all = omega arith;
    }

mapped : (d : Device) → Allowed d → Mapped d
mapped d h =
    record {
      front_header = refl;
      front_block = refl;
      front_a = refl;
      front_b = refl;
      back_header = refl;
      back_block = refl;
      back_a = refl;
      back_b = refl;
      data_start_lem = refl;
      data_end_lem = refl;
      answer = ap (λ (n : ℕ). answer n (map_of d)) (tests d h);
    }

pub tiling : Tiling
tiling d h = (tiled d h, mapped d h)

pub beginning : Beginning
beginning s =
    record {
      blocks = λ d h e. ap blocks_located (sym e) ∙ ap (λ (b : Bool). cond b (Ok (record { front = 1; back = d.sectors - 7 })) (Err DeviceSize)) (le-leb 2097152 d.sectors h.sectors);
      small = λ l. ap (λ (b : Bool). cond b (Ok (record { front = 1; back = s - 7 })) (Err DeviceSize)) (lt-leb 2097152 s l);
    }
