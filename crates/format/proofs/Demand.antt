-- What holds of formatted copies, proved.
use Prim.Native.Nat.{ℕ, ◌+◌, ◌-◌, ◌*◌, ◌^◌, ◌≤◌, ◌<◌}
use mathlib.Core.Path.{◌≡◌, refl, sym, ap, subst, ◌∙◌}
use mathlib.Core.Bool.{true, ◌&&◌}
use mathlib.Core.List.{List, ◌++◌}
use native.Mathlib.Omega.{arith}
use Rattle.std.proofs.lemmas.Bool.Decides.{nat_tests}
use Rattle.std.proofs.lemmas.Grind.{common_steps}
use borrow.Author.Tests.{eq-eqb}
use lib.Dec.{eqb}
use lib.ListN.{length, get_or, length-append}
use Rattle.endian.specs.Bytes.{window, splice, all_pass, zeros, fits}
use Rattle.endian.proofs.Parts.{length-splice, window-splice, window-before}
use Rattle.endian.proofs.Tests.{length-zeros}
use Rattle.checksum.proofs.Laws.{checksum-below}
use Rattle.refusal.specs.Numbers.{slice_size, device_size, uuid_byte, metadata_size, reserved_size, area_entry}
use Rattle.refusal.proofs.Order.{first_all, first-lowest, first_other}
use Rattle.layout.specs.declared.Device.{Device}
use Rattle.layout.specs.declared.Area.TheVariants.{A}
use Rattle.layout.specs.Limits.{size_allowed, metadata_allowed, reserved_allowed, nanoseconds_allowed, block_offset, sector_bytes}
use Rattle.layout.specs.Places.{area_offset, copy_bytes}
use Rattle.layout.proofs.Laws.{length_facts}
use Rattle.block.specs.declared.Time.{Time}
use Rattle.block.specs.declared.Reading.{Reading}
use Rattle.block.specs.Block.{is_hex, reading}
use Rattle.block.specs.Writing.{block_of}
use Rattle.block.proofs.Written.{length-block_of}
use Rattle.block.proofs.RoundTrip.{read_back}
use Rattle.items.specs.Items.{segments}
use Rattle.record.specs.Accept.{content_tests, named}
use Rattle.segments.specs.Demand.{FirstPair}
use Rattle.record.proofs.Demand.{first-named, content_clash}
use Rattle.copy.specs.Copy.{block_in, newest, device_in}
use Rattle.discovery.specs.Discovery.{sized, same_device}
use Rattle.stores.specs.Stores.{sectors_of, holding_for}
use Rattle.stores.specs.Given.{lay_tests, laid}
use Rattle.stores.proofs.Holding.{Holds}
use Rattle.stores.proofs.InStep.{reading_facts, same_device_test}
use Rattle.stores.proofs.Padding.{sectors-enough, padded-within}
use Rattle.stores.proofs.Whole.{area_fits}
use Rattle.stores.specs.States.{Gives, InStepOn}
use Rattle.stores.proofs.Agreeing.{agree_gives, agree-in_step}
use Rattle.format.specs.Format.{value_tests, format_tests, format_number, first_fields, formatted_copy}
use Rattle.format.specs.Demand.{Lowest, Naming, Formatting, Zero}
use Rattle.format.proofs.Checking.{format_ascending, Taken, taken}
use Rattle.format.proofs.Filling.{block_fits, first_limits}

pub lowest : Lowest
unfolding format_number
lowest f b v p u t r = first-lowest 0 (format_tests f b v p u t r) (format_ascending f b v p u t r)

-- 19 is given by the record's tests alone
pub naming : Naming
unfolding format_number
naming f b v p u t r e =
    subst (λ (n : ℕ). FirstPair (segments r) (named n r).first (named n r).second) (sym e)
    (first-named r
    (content_clash v r
    (first_other (nanoseconds_allowed t.nanoseconds) area_entry (content_tests v r) 19 (λ x. omega arith)
    (first_other (reserved_allowed v.reserved) reserved_size _ 19 (λ x. omega arith)
    (first_other (metadata_allowed v.metadata) metadata_size _ 19 (λ x. omega arith)
    (first_other (all_pass is_hex p && all_pass is_hex u) uuid_byte _ 19 (λ x. omega arith)
    (first_other (size_allowed v.sectors) device_size _ 19 (λ x. omega arith)
    (first_other (sized f b && (eqb (length p) 32 && eqb (length u) 32)) slice_size (value_tests v p u t r) 19 (λ x. omega arith) e))))))))

-- areas follow the header
area_a : area_offset A ≡ 4096
unfolding area_offset
area_a = refl

-- a list laid with another after it begins with it
begins : (s : List ℕ) (at : ℕ) (v w : List ℕ) → at + length (v ++ w) ≤ length s → window (splice s at (v ++ w)) at (length v) ≡ v
unfolding window splice fits
begins s at v w h = grind (arith, common_steps, nat_tests)

-- zeros with the block in its sector
abbrev blank : Device → List ℕ → List ℕ → Time → List ℕ → List ℕ
blank v p u t r = splice (zeros copy_bytes) 512 (block_of p u (first_fields v t r))

-- what fills the record's last sector
abbrev padding : List ℕ → List ℕ
padding r = zeros (sectors_of (length r) * 512 - length r)

length_blank : (v : Device) (p u : List ℕ) (t : Time) (r : List ℕ) → length (blank v p u t r) ≡ copy_bytes
length_blank v p u t r = length-splice (zeros copy_bytes) 512 (block_of p u (first_fields v t r)) ∙ length-zeros copy_bytes

length-padded : (r : List ℕ) → length (r ++ padding r) ≡ sectors_of (length r) * 512
length-padded r = omega (arith, length-append r (padding r), length-zeros (sectors_of (length r) * 512 - length r), sectors-enough (length r))

module _ {f b : List ℕ} {v : Device} {p u : List ℕ} {t : Time} {r : List ℕ} (k : Taken f b v p u t r) where
  -- the record's sectors lie within area a
  record_fits : area_offset A + length (r ++ padding r) ≤ length (blank v p u t r)
  record_fits = omega (arith, padded-within (length r) (length_facts (length r) k.content.0).1, area_fits A, length-padded r, length_blank v p u t r)

  -- the block's place
  block_room : 512 + length (block_of p u (first_fields v t r)) ≤ length (zeros copy_bytes)
  block_room = omega (arith, length-block_of p u (first_fields v t r) k.pool k.device, length-zeros copy_bytes, block_fits)

  -- the copy: the record with its padding laid over the block and zeros
  whole : formatted_copy v p u t r ≡ splice (blank v p u t r) (area_offset A) (r ++ padding r)
  unfolding formatted_copy laid
  whole = rw (first_all (lay_tests (blank v p u t r) r) (eq-eqb (length (blank v p u t r)) copy_bytes (length_blank v p u t r), (k.content.0, tt)))

  pub length-formatted : length (formatted_copy v p u t r) ≡ copy_bytes
  length-formatted = ap length whole ∙ (length-splice (blank v p u t r) (area_offset A) (r ++ padding r) ∙ length_blank v p u t r)

  block_there : block_in (formatted_copy v p u t r) ≡ block_of p u (first_fields v t r)
  block_there =
      let l : length (block_of p u (first_fields v t r)) ≡ 512 = length-block_of p u (first_fields v t r) k.pool k.device in
      ap block_in whole
      ∙ (window-before (blank v p u t r) (area_offset A) (r ++ padding r) block_offset sector_bytes (omega (arith, area_a))
      ∙ (ap (window (blank v p u t r) 512) (sym l) ∙ window-splice (zeros copy_bytes) 512 (block_of p u (first_fields v t r)) block_room))

  module _ (ts : t.seconds < 2 ^ 64) (vs : v.sectors < 2 ^ 64) where
    -- a formatted copy holds the record
    pub holds : Holds (formatted_copy v p u t r) (first_fields v t r) p u A (holding_for t r) r
    unfolding newest
    holds =
        record {
          reads =
              ap reading block_there
              ∙ read_back p u (first_fields v t r) k.pool k.device vs (ts, checksum-below r) tt (first_limits k) k.size;
          area = refl;
          entry = refl;
          bytes =
              ap (λ (c : List ℕ). window c (area_offset A) (length r)) whole
              ∙ begins (blank v p u t r) (area_offset A) r (padding r) record_fits;
          sum = refl;
          long = refl;
        }

-- both copies hold it
module _ {f b : List ℕ} {v : Device} {p u : List ℕ} {t : Time} {r : List ℕ} (k : Taken f b v p u t r) (ts : t.seconds < 2 ^ 64) (vs : v.sectors < 2 ^ 64) where
  both_sized : sized (formatted_copy v p u t r) (formatted_copy v p u t r) ≡ true
  both_sized = grind (arith, nat_tests, length-formatted k)

  one-device : same_device (first_fields v t r) (first_fields v t r) ≡ true
  one-device = same_device_test (first_fields v t r) (first_fields v t r) refl

  pub format_in_step : InStepOn (formatted_copy v p u t r) (formatted_copy v p u t r) t r
  format_in_step = agree-in_step (holds k ts vs) (holds k ts vs) both_sized one-device t refl refl

  format_gives : Gives (formatted_copy v p u t r) (formatted_copy v p u t r) t r
  format_gives = agree_gives (holds k ts vs) (holds k ts vs) both_sized one-device t refl refl

  pub format_device : device_in (formatted_copy v p u t r) ≡ v
  format_device = sym (ap (λ (q : Reading). q.fields.device) (reading_facts (block_in (formatted_copy v p u t r)) _ (holds k ts vs).reads).1)

pub formatting : Formatting
formatting f b v p u t r ts vs e =
    let k : Taken f b v p u t r = taken f b v p u t r e in
    (format_gives k ts vs, (format_in_step k ts vs, (format_device k ts vs, (holds k ts vs).reads)))

zeros-zero : (n i : ℕ) → get_or (zeros n) i 0 ≡ 0
unfolding zeros
zeros-zero n i = grind (arith, common_steps)

padding_zero : (r : List ℕ) (n j : ℕ) → length r ≤ j → get_or (r ++ zeros n) j 0 ≡ 0
unfolding zeros
padding_zero r n j h = grind (arith, common_steps)

-- a place that is zero stays zero where a list is laid over it that is zero there
laid_zero : (s : List ℕ) (at : ℕ) (w : List ℕ) (i : ℕ) → get_or s i 0 ≡ 0 → (at ≤ i → i < at + length w → get_or w (i - at) 0 ≡ 0) → get_or (splice s at w) i 0 ≡ 0
unfolding splice fits
laid_zero s at w i h k = grind (arith, common_steps, nat_tests)

pub zero : Zero
zero f b v p u t r i e outside-block outside-record =
    let k : Taken f b v p u t r = taken f b v p u t r e in
    let l : length (block_of p u (first_fields v t r)) ≡ 512 = length-block_of p u (first_fields v t r) k.pool k.device in
    ap (λ (c : List ℕ). get_or c i 0) (whole k)
    ∙ laid_zero (blank v p u t r) (area_offset A) (r ++ padding r) i
    (laid_zero (zeros copy_bytes) 512 (block_of p u (first_fields v t r)) i (zeros-zero copy_bytes i) (λ a m. absurd (outside-block a (omega arith))))
    (λ a m. padding_zero r (sectors_of (length r) * 512 - length r) (i - area_offset A) (omega (arith, outside-record a)))
