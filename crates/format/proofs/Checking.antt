-- What holds where formatting is not refused.
use Prim.Native.Nat.{ℕ}
use mathlib.Core.Path.{◌≡◌}
use mathlib.Core.Bool.{true, ◌&&◌}
use mathlib.Core.List.{List}
use native.Mathlib.Omega.{arith}
use Rattle.std.proofs.lemmas.Bool.Decides.{nat_tests}
use lib.Dec.{eqb, lit<}
use lib.ListN.{length}
use Rattle.endian.specs.Bytes.{all_pass}
use Rattle.refusal.specs.Tests.{AllHold, Ascending}
use Rattle.refusal.proofs.Order.{first-zero}
use Rattle.layout.specs.declared.Device.{Device}
use Rattle.layout.specs.Limits.{size_allowed, metadata_allowed, reserved_allowed, nanoseconds_allowed}
use Rattle.layout.specs.Places.{copy_bytes}
use Rattle.block.specs.declared.Time.{Time}
use Rattle.block.specs.Block.{is_hex}
use Rattle.record.specs.Accept.{content_tests}
use Rattle.format.specs.Format.{format_tests, format_number}

-- the numbers ascend: the first that applies is the lowest
pub format_ascending : (f b : List ℕ) (v : Device) (p u : List ℕ) (t : Time) (r : List ℕ) → Ascending 0 (format_tests f b v p u t r)
format_ascending f b v p u t r = (lit< tt, (lit< tt, (lit< tt, (lit< tt, (lit< tt, (lit< tt, (lit< tt, (lit< tt, (lit< tt, (lit< tt, tt))))))))))

-- all that holds where formatting is not refused
pub record Taken (f b : List ℕ) (v : Device) (p u : List ℕ) (t : Time) (r : List ℕ) : Type 0 where
  pub front : length f ≡ copy_bytes
  pub back : length b ≡ copy_bytes
  pub pool : length p ≡ 32
  pub device : length u ≡ 32
  pub size : size_allowed v.sectors ≡ true
  pub hex : all_pass is_hex p && all_pass is_hex u ≡ true
  pub metadata : metadata_allowed v.metadata ≡ true
  pub reserved : reserved_allowed v.reserved ≡ true
  pub ns : nanoseconds_allowed t.nanoseconds ≡ true
  pub content : AllHold (content_tests v r)

pub taken : (f b : List ℕ) (v : Device) (p u : List ℕ) (t : Time) (r : List ℕ) → format_number f b v p u t r ≡ 0 → Taken f b v p u t r
unfolding format_number
taken f b v p u t r e =
    let a : AllHold (format_tests f b v p u t r) = first-zero 0 (format_tests f b v p u t r) (format_ascending f b v p u t r) e in
    let s : (eqb (length f) copy_bytes && eqb (length b) copy_bytes) && (eqb (length p) 32 && eqb (length u) 32) ≡ true = a.0 in
    record {
      front = grind (arith, nat_tests);
      back = grind (arith, nat_tests);
      pool = grind (arith, nat_tests);
      device = grind (arith, nat_tests);
      size = a.1.0;
      hex = a.1.1.0;
      metadata = a.1.1.1.0;
      reserved = a.1.1.1.1.0;
      ns = a.1.1.1.1.1.0;
      content = a.1.1.1.1.1.1;
    }
