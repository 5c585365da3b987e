-- When formatting is not refused, in other words, and what it leaves.
use Prim.Native.Nat.{ℕ, ◌^◌, ◌<◌}
use mathlib.Core.Path.{◌≡◌, refl, ◌∙◌}
use mathlib.Core.Bool.{true, ◌&&◌}
use mathlib.Core.List.{List, [], ◌∷◌}
use borrow.Author.Tests.{ne_eqb}
use native.Mathlib.Omega.{arith}
use Rattle.std.proofs.lemmas.Bool.Decides.{nat_tests}
use lib.Dec.{eqb, lit<}
use lib.ListN.{length}
use Rattle.endian.specs.Bytes.{Bytes, all_pass}
use Rattle.refusal.specs.Numbers.{slice_size, device_size, uuid_byte, metadata_size, reserved_size, area_entry}
use Rattle.refusal.specs.Tests.{Test, ◌else_refuse◌, first, AllHold}
use Rattle.refusal.proofs.Order.{first_all, first-after, first-zero, hold_before}
use Rattle.layout.specs.declared.Device.{Device}
use Rattle.layout.specs.Limits.{size_allowed, metadata_allowed, reserved_allowed, nanoseconds_allowed, device_tests}
use Rattle.layout.specs.Places.{copy_bytes}
use Rattle.layout.proofs.Demand as Layout
use Rattle.block.specs.declared.Time.{Time}
use Rattle.block.specs.Block.{is_hex}
use Rattle.block.proofs.Exactly.{hex_bytes, bytes_hex}
use Rattle.record.specs.Accept.{content_tests, record_tests}
use Rattle.record.proofs.Demand as Records
use Rattle.record.proofs.Right.{right_content}
use Rattle.items.specs.Head.{head_of}
use Rattle.items.specs.Items.{segments}
use Rattle.discovery.specs.Discovery.{sized}
use Rattle.format.specs.Format.{format_tests, format_number, formatted}
use Rattle.format.specs.Demand.{Formattable, Exactly, Asked, Content, Leaving}
use Rattle.format.proofs.Checking.{format_ascending}

-- the tests before the record's
abbrev asking : List ℕ → List ℕ → Device → List ℕ → List ℕ → Time → List Test
asking f b v p u t =
    (sized f b && (eqb (length p) 32 && eqb (length u) 32) else_refuse slice_size)
    ∷ (size_allowed v.sectors else_refuse device_size)
    ∷ (all_pass is_hex p && all_pass is_hex u else_refuse uuid_byte)
    ∷ (metadata_allowed v.metadata else_refuse metadata_size)
    ∷ (reserved_allowed v.reserved else_refuse reserved_size)
    ∷ (nanoseconds_allowed t.nanoseconds else_refuse area_entry)
    ∷ []

asked : (f b : List ℕ) (v : Device) (p u : List ℕ) (t : Time) → AllHold (asking f b v p u t) → Asked f b v p u t
asked f b v p u t a =
    let s : (eqb (length f) copy_bytes && eqb (length b) copy_bytes) && (eqb (length p) 32 && eqb (length u) 32) ≡ true = a.0 in
    let x : all_pass is_hex p && all_pass is_hex u ≡ true = a.1.1.0 in
    record {
      front = grind (arith, nat_tests);
      back = grind (arith, nat_tests);
      pool = grind (arith, nat_tests);
      blockdev = grind (arith, nat_tests);
      pool_hex = hex_bytes p (grind arith);
      blockdev_hex = hex_bytes u (grind arith);
      device = (Layout.exactly v).0 (first_all (device_tests v) (a.1.0, (a.1.1.1.0, (a.1.1.1.1.0, tt))));
      nanoseconds = grind (arith, nat_tests, a.1.1.1.1.1.0);
    }

asks : (f b : List ℕ) (v : Device) (p u : List ℕ) (t : Time) → Asked f b v p u t → AllHold (asking f b v p u t)
asks f b v p u t h =
    let d : AllHold (device_tests v) = first-zero 0 (device_tests v) (lit< tt, (lit< tt, (lit< tt, tt))) ((Layout.exactly v).1 h.device) in (
      grind (arith, nat_tests, h.front, h.back, h.pool, h.blockdev),
      (d.0, (grind (arith, bytes_hex p h.pool_hex, bytes_hex u h.blockdev_hex), (d.1.0, (d.1.1.0, (grind (arith, nat_tests, h.nanoseconds), tt))))),
    )

pub content : Content
unfolding format_number
content f b v p u t r = (
  λ h. first-after (asking f b v p u t) (content_tests v r) (asks f b v p u t h),
  λ l. asked f b v p u t
      (hold_before (asking f b v p u t) (content_tests v r) (first (format_tests f b v p u t r))
      ((λ z. omega arith), ((λ z. omega arith), ((λ z. omega arith), ((λ z. omega arith), ((λ z. omega arith), ((λ z. omega arith), tt)))))) refl),
)

module _ (f b : List ℕ) (v : Device) (p u : List ℕ) (t : Time) (r : List ℕ) (small : v.sectors < 2 ^ 64) (bytes : Bytes r) where
  in_words : format_number f b v p u t r ≡ 0 → Formattable f b v p u t r
  unfolding format_number
  in_words e =
      let a : AllHold (format_tests f b v p u t r) = first-zero 0 (format_tests f b v p u t r) (format_ascending f b v p u t r) e in
      let z : first (record_tests v r) ≡ 0 =
      first-after (device_tests v) (content_tests v r) (a.1.0, (a.1.1.1.0, (a.1.1.1.1.0, tt))) ∙ first_all (content_tests v r) a.1.1.1.1.1.1 in
      record {
        asked = asked f b v p u t (a.0, (a.1.0, (a.1.1.0, (a.1.1.1.0, (a.1.1.1.1.0, (a.1.1.1.1.1.0, tt))))));
        right =
            record {
              head = head_of r;
              list = segments r;
              right = ((Records.exactly v r small bytes).0 z).1;
              is = ((Records.exactly v r small bytes).0 z).0;
            };
      }

from_words : (f b : List ℕ) (v : Device) (p u : List ℕ) (t : Time) (r : List ℕ) → v.sectors < 2 ^ 64 → Formattable f b v p u t r → format_number f b v p u t r ≡ 0
from_words f b v p u t r small h =
    (content f b v p u t r).0 h.asked
    ∙ first_all (content_tests v r) (right_content v r small h.right)

pub exactly : Exactly
exactly f b v p u t r small bytes = (in_words f b v p u t r small bytes, from_words f b v p u t r small)

pub leaving : Leaving
unfolding formatted
leaving c f b v p u t r =
    record {
      done = λ e. rw e;
      refused = λ n. rw (ne_eqb (format_number f b v p u t r) 0 n);
    }
