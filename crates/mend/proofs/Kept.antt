-- What discovery's answer says of the copy that mending keeps.
use Prim.Native.Nat.{ℕ, ◌+◌, ◌≤◌}
use mathlib.Core.Path.{◌≡◌, refl, sym, ap, subst, ◌∙◌}
use mathlib.Core.Bool.{Bool, true, false}
use mathlib.Core.List.{List}
use native.Mathlib.Omega.{arith}
use borrow.Author.Tests.{eqb-true}
use lib.ListN.{length}
use Rattle.std.specs.Prelude.{Some, Result, Ok, Err}
use Rattle.endian.proofs.Parts.{length-window-fits}
use Rattle.endian.proofs.Tests.{and_left, and_right}
use Rattle.checksum.specs.Crc as Crc
use Rattle.refusal.specs.declared.Reason.{Reason}
use Rattle.refusal.specs.Numbers.{slice_size}
use Rattle.refusal.specs.Reasons.{reason}
use Rattle.refusal.specs.Tests.{first}
use Rattle.layout.specs.declared.Side.{Side}
use Rattle.layout.specs.declared.Side.TheVariants.{Front, Back}
use Rattle.layout.specs.declared.Area.{Area}
use Rattle.layout.specs.Limits.{record_limit, length_allowed}
use Rattle.layout.specs.Places.{area_offset, copy_bytes}
use Rattle.block.specs.declared.Holding.{Holding}
use Rattle.block.specs.declared.BlockFields.{BlockFields}
use Rattle.block.specs.declared.Reading.{Reading}
use Rattle.block.specs.Entry.{time_of}
use Rattle.block.specs.Block.{fields_of, read_tests, accepted_reading, reading}
use Rattle.block.specs.Writing.{holding_of}
use Rattle.discovery.specs.declared.Finding.{Finding}
use Rattle.copy.specs.Copy.{block_in, area_bytes, entry_in, other_area, whole_entry, whole, newest, mapped, record_at, present_at, present, is_copy, same_area, current}
use Rattle.copy.proofs.Newness.{current-whole}
use Rattle.discovery.specs.Discovery.{found_with, finding_of, sized, discovery, copy_on, record_bytes}
use Rattle.discovery.specs.Newest.{time_at, Newest}
use Rattle.discovery.proofs.Latest.{refused_found, newest-found}
use Rattle.copy.proofs.Presence.{present-at-newest, present-at_other}
use Rattle.discovery.proofs.Deciding.{discovery_unsized}
use Rattle.stores.proofs.Holding.{whole-used}
use Rattle.stores.proofs.InStep.{reading_facts}
use Rattle.stores.proofs.Blocks.{entry_allowed_lem}
use Rattle.stores.proofs.Whole.{area_fits, used-allowed, used_bytes}
use Rattle.mend.specs.Mend.{later_whole}

-- a copy c, and a record in area x of it that its block names: h is what the entry says
pub record Kept (c : List ℕ) (x : Area) (h : Holding) (r : List ℕ) : Type 0 where
  pub accepted : first (read_tests (block_in c)) ≡ 0
  pub entry : entry_in (fields_of (block_in c)) x ≡ Some h
  pub bytes : area_bytes c x h.bytes ≡ r
  pub sum : h.checksum ≡ Crc.checksum r
  pub long : h.bytes ≡ length r
  pub small : h.bytes ≤ record_limit
  pub allowed : length_allowed h.bytes ≡ true
  -- it is in the newest area, or that one is not whole
  pub in_newest : later_whole c ≡ true → newest (fields_of (block_in c)) ≡ x
  pub in_other : later_whole c ≡ false → other_area (newest (fields_of (block_in c))) ≡ x

pub kept_small : {c : List ℕ} {x : Area} {h : Holding} {r : List ℕ} → Kept c x h r → length r ≤ record_limit
kept_small k = subst (λ (n : ℕ). n ≤ record_limit) k.long k.small

pub kept_allowed : {c : List ℕ} {x : Area} {h : Holding} {r : List ℕ} → Kept c x h r → length_allowed (length r) ≡ true
kept_allowed k = ap length_allowed (sym k.long) ∙ k.allowed

-- a block that is read with the fields g is accepted, and they are its own
fields_facts : (b : List ℕ) (g : BlockFields) → mapped (λ (r : Reading). r.fields) (reading b) ≡ Ok g → (first (read_tests b) ≡ 0) × (g ≡ fields_of b)
fields_facts b g = go (reading b) refl
  where
    go : (v : Result Reading Reason) → reading b ≡ v → mapped (λ (r : Reading). r.fields) v ≡ Ok g → (first (read_tests b) ≡ 0) × (g ≡ fields_of b)
    go (Ok r) a p =
        let k : (first (read_tests b) ≡ 0) × (r ≡ accepted_reading b) = reading_facts b r a in
        let z : r.fields ≡ g = cc in
        (k.0, sym z ∙ ap (λ (y : Reading). y.fields) k.1)
    go (Err n) a p = absurd (cc)

module _ (f b : List ℕ) (q : Finding) (o : Result BlockFields Reason) (e : discovery f b ≡ found_with q o) where
  pub found-sized : sized f b ≡ true
  found-sized = go (sized f b) refl
    where
      go : (t : Bool) → sized f b ≡ t → sized f b ≡ true
      go true h = h
      go false h = absurd (refused_found q o (reason slice_size) (sym (discovery_unsized f b h) ∙ e))

  its_length : (s : Side) → length (copy_on s f b) ≡ copy_bytes
  its_length Front = eqb-true (length f) copy_bytes (and_left (is_copy f) (is_copy b) found-sized)
  its_length Back = eqb-true (length b) copy_bytes (and_right (is_copy f) (is_copy b) found-sized)

  found : Newest f b q
  found = newest-found f b q o e

  -- what the entry of the found record says
  abbrev pub held : Holding
  held = holding_of (entry_in (fields_of (block_in (copy_on q.side f b))) q.area)

  facts : (first (read_tests (block_in (copy_on q.side f b))) ≡ 0) × (q.fields ≡ fields_of (block_in (copy_on q.side f b)))
  facts = fields_facts (block_in (copy_on q.side f b)) q.fields found.accepted

  -- the answer is that entry's
  pub found_is : q ≡ finding_of q.side q.fields (record_at q.area held)
  found_is = found.is ∙ ap (λ (g : BlockFields). finding_of q.side q.fields (record_at q.area (holding_of (entry_in g q.area)))) facts.1

  pub found_bytes : q.bytes ≡ held.bytes
  found_bytes = ap (λ (z : Finding). z.bytes) found_is

  pub found_time : time_at q ≡ time_of held
  found_time = ap time_at found_is

  whole_there : whole (copy_on q.side f b) (fields_of (block_in (copy_on q.side f b))) q.area ≡ true
  whole_there = ap (λ (g : BlockFields). whole (copy_on q.side f b) g q.area) (sym facts.1) ∙ found.its_area_is_whole

  its_entry : entry_in (fields_of (block_in (copy_on q.side f b))) q.area ≡ Some held
  its_entry = whole-used (copy_on q.side f b) q.area (entry_in (fields_of (block_in (copy_on q.side f b))) q.area) whole_there

  its_small : held.bytes ≤ record_limit
  its_small =
      used_bytes (entry_in (fields_of (block_in (copy_on q.side f b))) q.area) held its_entry (entry_allowed_lem (block_in (copy_on q.side f b)) facts.0 q.area)

  its_bytes : area_bytes (copy_on q.side f b) q.area held.bytes ≡ record_bytes q f b
  its_bytes = ap (area_bytes (copy_on q.side f b) q.area) (sym found_bytes)

  its_long : held.bytes ≡ length (record_bytes q f b)
  its_long =
      let n : length (copy_on q.side f b) ≡ copy_bytes = its_length q.side in
      let a : area_offset q.area + record_limit ≤ copy_bytes = area_fits q.area in
      let k : held.bytes ≤ record_limit = its_small in
      sym (length-window-fits (copy_on q.side f b) (area_offset q.area) held.bytes (omega arith)) ∙ ap length its_bytes

  pub kept : Kept (copy_on q.side f b) q.area held (record_bytes q f b)
  kept =
      record {
        accepted = facts.0;
        entry = its_entry;
        bytes = its_bytes;
        sum =
            sym
            (eqb-true (Crc.checksum (area_bytes (copy_on q.side f b) q.area held.bytes)) held.checksum
            (sym (ap (whole_entry (copy_on q.side f b) q.area) its_entry) ∙ whole_there))
            ∙ ap Crc.checksum its_bytes;
        long = its_long;
        small = its_small;
        allowed = used-allowed (entry_in (fields_of (block_in (copy_on q.side f b))) q.area) held its_entry (entry_allowed_lem (block_in (copy_on q.side f b)) facts.0 q.area);
        in_newest = λ w.
            present-at-newest (copy_on q.side f b) (fields_of (block_in (copy_on q.side f b))) q.area held w
            (ap (present (copy_on q.side f b)) (sym facts.1)
            ∙ (found.its_present ∙ ap (λ (g : BlockFields). present_at q.area (holding_of (entry_in g q.area))) facts.1));
        in_other = λ w. present-at_other (copy_on q.side f b) (fields_of (block_in (copy_on q.side f b))) q.area w whole_there;
      }

  -- discovery's answer tells whether the kept block's later entry is whole
  pub found-later : same_area q.area (newest q.fields) ≡ later_whole (copy_on q.side f b)
  found-later =
      sym (ap (current q.fields) found.its_present)
      ∙ (current-whole (copy_on q.side f b) q.fields ∙ ap (λ (g : BlockFields). whole (copy_on q.side f b) g (newest g)) facts.1)

  -- the record's length, by the answer and by its bytes
  pub found_long : q.bytes ≡ length (record_bytes q f b)
  found_long = found_bytes ∙ its_long
