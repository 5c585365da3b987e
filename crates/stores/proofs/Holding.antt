-- A copy that holds a record as its present one.
use Prim.Native.Nat.{ℕ}
use mathlib.Core.Path.{◌≡◌, refl, sym, ap, ◌∙◌}
use mathlib.Core.Bool.{Bool, true, false, cond}
use mathlib.Core.List.{List}
use borrow.Author.Tests.{eq-eqb}
use lib.ListN.{length}
use Rattle.std.specs.Prelude.{Option, Some, None, Result, Ok}
use Rattle.refusal.specs.declared.Reason.{Reason}
use Rattle.checksum.specs.Crc as Crc
use Rattle.layout.specs.declared.Area.{Area}
use Rattle.layout.specs.declared.Area.TheVariants.{A, B}
use Rattle.block.specs.declared.Holding.{Holding}
use Rattle.block.specs.declared.BlockFields.{BlockFields}
use Rattle.block.specs.declared.Reading.{Reading}
use Rattle.block.specs.declared.Time.{Time}
use Rattle.block.specs.Entry.{later_than, time_of}
use Rattle.block.specs.Block.{fields_of}
use Rattle.block.specs.Writing.{holding_of}
use Rattle.block.proofs.Times.{later_asym}
use Rattle.copy.specs.Copy.{is_copy, block_in, area_bytes, entry_in, other_area, whole_entry, whole, newer, newest, present_at, present, reading_in, mapped, copy_reading_of}
use Rattle.copy.specs.Demand.{present_in}
use Rattle.copy.proofs.Presence.{present-newest}
use Rattle.copy.proofs.Readings.{sized-read}
use Rattle.stores.specs.States.{Presents}
use Rattle.stores.specs.Stores.{with_entry}

-- what the newest entry of a copy's block says, and the record of its area: the present one of copies in step
abbrev pub held_in : List ℕ → Holding
held_in c = holding_of (entry_in (fields_of (block_in c)) (newest (fields_of (block_in c))))

abbrev pub record_in : List ℕ → List ℕ
record_in c = area_bytes c (newest (fields_of (block_in c))) (held_in c).bytes

pub record Holds (c : List ℕ) (f : BlockFields) (p u : List ℕ) (x : Area) (h : Holding) (r : List ℕ) : Type 0 where
  pub reads : reading_in c ≡ Ok (record { fields = f; pool = p; blockdev = u })
  pub area : newest f ≡ x
  pub entry : entry_in f x ≡ Some h
  pub bytes : area_bytes c x h.bytes ≡ r
  pub sum : h.checksum ≡ Crc.checksum r
  pub long : h.bytes ≡ length r

module _ {c : List ℕ} {f : BlockFields} {p u : List ℕ} {x : Area} {h : Holding} {r : List ℕ} (k : Holds c f p u x h r) where
  pub its_whole : whole c f x ≡ true
  its_whole =
      ap (whole_entry c x) k.entry
      ∙ eq-eqb (Crc.checksum (area_bytes c x h.bytes)) h.checksum (ap Crc.checksum k.bytes ∙ sym k.sum)

  pub its_present : present c f ≡ present_at x h
  its_present = sym (present-newest c f x h (sym k.area) its_whole (sym (ap holding_of k.entry)))

  -- it is what the copy presents
  pub holds_presents : is_copy c ≡ true → (t : Time) → time_of h ≡ t → Presents c t r
  holds_presents z t e =
      record {
        area = x;
        held = h;
        is =
            ap present_in (sized-read c z)
            ∙ (ap (λ (q : Result Reading Reason). present_in (mapped (copy_reading_of c) q)) k.reads ∙ its_present);
        bytes = k.bytes;
        long = k.long;
        time = e;
      }

-- the newest entry, after a later one was put beside it
pub newest-changed : (f : BlockFields) (x : Area) (h k : Holding) → entry_in f x ≡ Some h → later_than (time_of k) (time_of h) ≡ true
    → newest (with_entry f (other_area x) (Some k)) ≡ other_area x
unfolding newest
newest-changed f A h k e l = ap (λ (b : Bool). cond b B A) (ap (newer (Some k)) e ∙ l)
newest-changed f B h k e l = ap (λ (b : Bool). cond b B A) (ap (λ (z : Option Holding). newer z (Some k)) e ∙ later_asym (time_of k) (time_of h) l)

pub entry-changed : (f : BlockFields) (y : Area) (e : Option Holding) → entry_in (with_entry f y e) y ≡ e
entry-changed f A e = refl
entry-changed f B e = refl

-- an area that is whole has a used entry
pub whole-used : (c : List ℕ) (x : Area) (e : Option Holding) → whole_entry c x e ≡ true → e ≡ Some (holding_of e)
whole-used c x None w = absurd (mathlib.Core.Bool.true≢false (sym w))
whole-used c x (Some h) w = refl
