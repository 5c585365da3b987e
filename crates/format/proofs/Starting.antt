-- A device with formatted copies is one that an update may start from, and there is one for every record that is right.
use Prim.Native.Nat.{ℕ, ◌^◌, ◌≤◌, ◌<◌}
use mathlib.Core.Path.{◌≡◌, refl, sym, ap, ap₂, subst, ◌∙◌}
use mathlib.Core.Bool.{true, ◌&&◌}
use mathlib.Core.List.{List}
use native.Mathlib.Omega.{arith}
use Rattle.std.proofs.lemmas.Bool.Decides.{nat_tests}
use lib.Dec.{lit<}
use lib.ListN.{length, replicate}
use Rattle.endian.specs.Bytes.{all_pass, zeros}
use Rattle.endian.proofs.Tests.{length-zeros}
use Rattle.refusal.specs.Tests.{AllHold}
use Rattle.refusal.proofs.Order.{first-zero, first_all}
use Rattle.layout.specs.declared.Device.{Device}
use Rattle.layout.specs.declared.Side.{Side}
use Rattle.layout.specs.declared.Side.TheVariants.{Front, Back}
use Rattle.layout.specs.Limits.{device_tests, most_nanoseconds}
use Rattle.layout.specs.Places.{copy_bytes}
use Rattle.block.specs.declared.Time.{Time}
use Rattle.block.specs.Block.{is_hex}
use Rattle.record.specs.Demand.{RightBytes}
use Rattle.record.proofs.Right.{right_content}
use Rattle.copy.specs.Copy.{device_in}
use Rattle.discovery.specs.Discovery.{is_in_step, copy_on}
use Rattle.crash.specs.Crash.{Sectors, Sound, copy_from}
use Rattle.stores.specs.States.{Presents, Ready}
use Rattle.stores.proofs.Places.{sizes_allowed}
use Rattle.format.specs.Format.{format_tests, format_number, formatted_copy}
use Rattle.format.specs.OnDevice.{on_device}
use Rattle.format.specs.Demand.{Placing, Starting, Possible}
use Rattle.format.proofs.Checking.{Taken, taken}
use Rattle.format.proofs.OnDevice.{sound_device, its_copy}
use Rattle.format.proofs.Demand.{length-formatted, format_in_step, format_device}

pub placing : Placing
placing v f b e nf nb =
    let a : AllHold (device_tests v) = first-zero 0 (device_tests v) (lit< tt, (lit< tt, (lit< tt, tt))) e in
    (sound_device v (sizes_allowed v a.0 a.1.0) f b nf nb, its_copy v (sizes_allowed v a.0 a.1.0) f b nf nb)

module _ {f b : List ℕ} {v : Device} {p u : List ℕ} {t : Time} {r : List ℕ} (k : Taken f b v p u t r) (ts : t.seconds < 2 ^ 64) (vs : v.sectors < 2 ^ 64) where
  abbrev c : List ℕ
  c = formatted_copy v p u t r

  presented : (s : Side) → Presents c t r
  presented Front = (format_in_step k ts vs).1 Front
  presented Back = (format_in_step k ts vs).1 Back

  pub ready : (d : Sectors) → Sound d → ((s : Side) → copy_from s v d ≡ c) → Ready v d t r
  ready d sd on =
      record {
        sound = sd;
        says = λ s. ap device_in (on s) ∙ format_device k ts vs;
        in_step = (ap₂ is_in_step (on Front) (on Back) ∙ (format_in_step k ts vs).0, there);
      }
    where
      there : (s : Side) → Presents (copy_on s (copy_from Front v d) (copy_from Back v d)) t r
      there Front = subst (λ (z : List ℕ). Presents z t r) (sym (on Front)) (presented Front)
      there Back = subst (λ (z : List ℕ). Presents z t r) (sym (on Back)) (presented Back)

pub starting : Starting
starting f b v p u t r ts vs e = ready (taken f b v p u t r e) ts vs

-- a UUID of digits 0
abbrev zero_uuid : List ℕ
zero_uuid = replicate 32 48

uuid-hex : all_pass is_hex zero_uuid && all_pass is_hex zero_uuid ≡ true
unfolding all_pass
uuid-hex = refl

-- formatting refuses no right record
right-taken : (v : Device) (t : Time) (r : List ℕ) → AllHold (device_tests v) → v.sectors < 2 ^ 64 → t.nanoseconds ≤ most_nanoseconds → RightBytes v r
    → format_number (zeros copy_bytes) (zeros copy_bytes) v zero_uuid zero_uuid t r ≡ 0
unfolding format_number
right-taken v t r a vs ns right =
    first_all (format_tests (zeros copy_bytes) (zeros copy_bytes) v zero_uuid zero_uuid t r) (
      grind (arith, nat_tests, length-zeros copy_bytes),
      (a.0, (uuid-hex, (a.1.0, (a.1.1.0, (grind (arith, nat_tests), right_content v r vs right))))),
    )

pub possible : Possible
possible v t r e vs ts ns right =
    let a : AllHold (device_tests v) = first-zero 0 (device_tests v) (lit< tt, (lit< tt, (lit< tt, tt))) e in
    let z : format_number (zeros copy_bytes) (zeros copy_bytes) v zero_uuid zero_uuid t r ≡ 0 = right-taken v t r a vs ns right in
    let n : length (formatted_copy v zero_uuid zero_uuid t r) ≡ copy_bytes = length-formatted (taken (zeros copy_bytes) (zeros copy_bytes) v zero_uuid zero_uuid t r z) in (
      on_device v (formatted_copy v zero_uuid zero_uuid t r) (formatted_copy v zero_uuid zero_uuid t r),
      starting (zeros copy_bytes) (zeros copy_bytes) v zero_uuid zero_uuid t r ts vs z
          (on_device v (formatted_copy v zero_uuid zero_uuid t r) (formatted_copy v zero_uuid zero_uuid t r))
          (placing v (formatted_copy v zero_uuid zero_uuid t r) (formatted_copy v zero_uuid zero_uuid t r) e n n).0
          (both (formatted_copy v zero_uuid zero_uuid t r) (placing v (formatted_copy v zero_uuid zero_uuid t r) (formatted_copy v zero_uuid zero_uuid t r) e n n).1),
    )
  where
    both : (c : List ℕ) → ((s : Side) → copy_from s v (on_device v c c) ≡ copy_on s c c) → (s : Side) → copy_from s v (on_device v c c) ≡ c
    both c h Front = h Front
    both c h Back = h Back
