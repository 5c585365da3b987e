-- What the end answers: of the state that bytes leave, and of any state.
use Prim.Native.Nat.{ℕ, ◌≤◌}
use mathlib.Core.Path.{◌≡◌, refl, sym, ap, ap₂, subst, ◌∙◌}
use mathlib.Core.Bool.{Bool, true, false, cond, true≢false}
use mathlib.Core.List.{List}
use native.Mathlib.Omega.{arith}
use borrow.Author.Tests.{eqb-true, eq-eqb, ne_eqb}
use lib.Dec.{eqb}
use lib.ListN.{length}
use Rattle.std.proofs.Common.{Option, Some, None, Result, Ok, Err}
use Rattle.endian.specs.Bytes.{window, zeros}
use Rattle.endian.proofs.Tests.{length-zeros}
use Rattle.endian.proofs.Parts.{length-window-fits, splice-whole}
use Rattle.checksum.specs.Crc.{checksum}
use Rattle.refusal.specs.declared.Reason.{Reason}
use Rattle.refusal.specs.Numbers.{slice_size}
use Rattle.refusal.specs.Reasons.{reason}
use Rattle.layout.specs.Limits.{sector_bytes, length_allowed}
use Rattle.layout.specs.Places.{copy_bytes, area_offset}
use Rattle.layout.specs.declared.Area.{Area}
use Rattle.layout.specs.declared.Area.TheVariants.{A, B}
use Rattle.layout.proofs.Laws.{length_test}
use Rattle.block.specs.declared.Holding.{Holding}
use Rattle.block.specs.declared.Reading.{Reading}
use Rattle.block.specs.Block.{entry_at, fields_of, reading, accepted_reading}
use Rattle.block.specs.Writing.{holding_of}
use Rattle.block.specs.Accepted as Block
use Rattle.block.proofs.Demand as Blocks
use Rattle.copy.specs.declared.Present.{Present}
use Rattle.copy.specs.declared.CopyReading.{CopyReading}
use Rattle.copy.specs.Copy.{block_in, reading_in, entry_in, whole_entry, whole, present_at, present_by, mapped, copy_reading_of, copy_reading, by_area}
use Rattle.copy.specs.Demand.{Sized, moment, a_in, b_in, present_in}
use Rattle.copy.proofs.Readings.{by_whole, sized-read, unsized-read}
use Rattle.copy.proofs.Demand as Copy
use Rattle.copy.proofs.Demand.{used-same}
use Rattle.receive.specs.declared.Received.{Received}
use Rattle.receive.specs.Receive.{used_in, sum_right, ended_with, ending}
use Rattle.receive.specs.Demand.{size, refused_with_one, Ending, entry_on, WholeIn}
use Rattle.receive.proofs.Joined.{left_with, left, block_of, sum_of}
use Rattle.receive.proofs.Following.{copy-size}
use Rattle.receive.proofs.Choosing.{Chosen, chosen}

-- The end, of the state that bytes leave.
pub short_state : (s : Received) → ¬ (s.taken ≡ size) → ending s ≡ refused_with_one
unfolding ending
short_state s n =
    ap (λ (t : Bool). mapped (ended_with s) (cond t (reading s.block) (Err (reason slice_size)))) (ne_eqb s.taken copy_bytes (λ e. n (e ∙ copy-size)))

full_state : (s : Received) → s.taken ≡ size → ending s ≡ mapped (ended_with s) (reading s.block)
unfolding ending
full_state s e =
    ap (λ (t : Bool). mapped (ended_with s) (cond t (reading s.block) (Err (reason slice_size)))) (eq-eqb s.taken copy_bytes (e ∙ sym copy-size))

-- Of a copy: its block is what the state has of it.
module _ (c : List ℕ) (z : Sized c) where
  block_is : block_of c ≡ block_in c
  block_is =
      splice-whole (zeros sector_bytes) (block_in c)
      (let e : length (block_in c) ≡ 512 = length-window-fits c 512 512 (omega arith) in e ∙ sym (length-zeros sector_bytes))

  -- an accepted one: an area is whole by its checksum
  module _ (k : Block.Accepted (block_in c)) where
    entries-within : (x : Area) → Block.Within (entry_in (fields_of (block_in c)) x)
    entries-within A = k.entry_a
    entries-within B = k.entry_b

    used-is : (x : Area) (h : Holding) → entry_in (fields_of (block_in c)) x ≡ Some h → used_in (block_in c) x ≡ h.bytes
    unfolding used_in
    used-is x h e =
        let w : Block.Within (Some h) = subst Block.Within e (entries-within x) in
        ap (λ (i : Option Holding). cond (length_allowed (holding_of i).bytes) (holding_of i).bytes 0) e
        ∙ ap (λ (t : Bool). cond t h.bytes 0) (length_test h.bytes w.0 w.1)

    whole_is : (x : Area) → sum_right (sum_of c (block_in c) x) (entry_in (fields_of (block_in c)) x) ≡ whole c (fields_of (block_in c)) x
    whole_is x = go (entry_in (fields_of (block_in c)) x) refl
      where
        go : (e : Option Holding) → entry_in (fields_of (block_in c)) x ≡ e → sum_right (sum_of c (block_in c) x) e ≡ whole_entry c x e
        go None e = refl
        go (Some h) e = ap (λ (n : ℕ). eqb (checksum (window c (area_offset x) n)) h.checksum) (used-is x h e)

    accepted_is : ended_with (left_with c (block_in c)) (accepted_reading (block_in c)) ≡ copy_reading_of c (accepted_reading (block_in c))
    accepted_is =
        ap₂ (λ (a b : Bool). record { block = accepted_reading (block_in c); a = a; b = b; present = present_by (fields_of (block_in c)) a b }) (whole_is A) (whole_is B)
        ∙ ap (λ (p : Option Present). record { block = accepted_reading (block_in c); a = whole c (fields_of (block_in c)) A; b = whole c (fields_of (block_in c)) B; present = p })
        (by_whole c (fields_of (block_in c)))

  ended_is : mapped (ended_with (left_with c (block_in c))) (reading_in c) ≡ mapped (copy_reading_of c) (reading_in c)
  ended_is = go (reading_in c) refl
    where
      go : (r : Result Reading Reason) → reading_in c ≡ r → mapped (ended_with (left_with c (block_in c))) r ≡ mapped (copy_reading_of c) r
      go (Err e) h = refl
      go (Ok q) h =
          let k : Block.Accepted (block_in c) = (Blocks.exactly (block_in c)).1 q h in
          let i : Ok (accepted_reading (block_in c)) ≡ Ok q = sym ((Blocks.exactly (block_in c)).0 k) ∙ h in
          subst (λ (r : Result Reading Reason). mapped (ended_with (left_with c (block_in c))) r ≡ mapped (copy_reading_of c) r) i
          (ap (λ (z : CopyReading). Ok z) (accepted_is k))

  full-left : ending (left c) ≡ copy_reading c
  full-left =
      full_state (left c) z
      ∙ (ap (λ (b : List ℕ). mapped (ended_with (left_with c b)) (reading b)) block_is
      ∙ (ended_is ∙ sym (sized-read c (Copy.sized-copy c z))))

-- of bytes that are no copy by their size
pub unsized_read : (c : List ℕ) → ¬ Sized c → copy_reading c ≡ refused_with_one
unsized_read c n = unsized-read c (ne_eqb (length c) copy_bytes (λ e. n (e ∙ copy-size)))

-- the end answers what the bytes taken say at once
pub ending-left : (c : List ℕ) → ending (left c) ≡ copy_reading c
ending-left c = go (eqb (length c) size) refl
  where
    go : (t : Bool) → eqb (length c) size ≡ t → ending (left c) ≡ copy_reading c
    go true e = full-left c (eqb-true (length c) size e)
    go false e =
        let n : ¬ (length c ≡ size) = λ z. true≢false (sym (eq-eqb (length c) size z) ∙ e) in
        short_state (left c) n ∙ sym (unsized_read c n)

-- an area's checksum is right, in both words
sum-used : (sum : ℕ) (e : Option Holding) → sum_right sum e ≡ true → (h : Holding) × (e ≡ Some h) × (sum ≡ h.checksum)
sum-used sum None t = absurd (true≢false (sym t))
sum-used sum (Some h) t = (h, refl, eqb-true sum h.checksum t)

used-sum : (sum : ℕ) (e : Option Holding) (h : Holding) → e ≡ Some h → sum ≡ h.checksum → sum_right sum e ≡ true
used-sum sum e h u c = ap (sum_right sum) u ∙ eq-eqb sum h.checksum c

-- something is present
abbrev is_there : Option Present → Bool
is_there None = false
is_there (Some p) = true

-- what the end says of any state
module _ (s : Received) (full : s.taken ≡ size) where
  end_refused : (e : Reason) → reading s.block ≡ Err e → ending s ≡ Err e
  end_refused e h = full_state s full ∙ ap (mapped (ended_with s)) h

  end-accepted : Block.Accepted s.block → ending s ≡ Ok (ended_with s (accepted_reading s.block))
  end-accepted k = full_state s full ∙ ap (mapped (ended_with s)) ((Blocks.exactly s.block).0 k)

  end_block : mapped (λ (r : CopyReading). r.block) (ending s) ≡ reading s.block
  end_block = ap (mapped (λ (r : CopyReading). r.block)) (full_state s full) ∙ same (reading s.block)
    where
      same : (r : Result Reading Reason) → mapped (λ (q : CopyReading). q.block) (mapped (ended_with s) r) ≡ r
      same (Ok q) = refl
      same (Err e) = refl

  -- of what the end says of a refused block: nothing that is true, and nothing present
  end_known : (f : Result CopyReading Reason → Bool) → ((e : Reason) → f (Err e) ≡ false) → f (ending s) ≡ true → Block.Accepted s.block
  end_known f g t = go (reading s.block) refl
    where
      go : (r : Result Reading Reason) → reading s.block ≡ r → Block.Accepted s.block
      go (Ok q) e = (Blocks.exactly s.block).1 q e
      go (Err x) e = absurd (true≢false (sym t ∙ (ap f (end_refused x e) ∙ g x)))

  -- an area is whole, in both words
  whole_in : (x : Area) → by_area x (a_in (ending s)) (b_in (ending s)) ≡ true → (h : Holding) × WholeIn s x h
  whole_in A t =
      let k : Block.Accepted s.block = end_known a_in (λ n. refl) t in
      let u : (h : Holding) × (entry_at s.block 96 ≡ Some h) × (s.a ≡ h.checksum) = sum-used s.a (entry_at s.block 96) (sym (ap a_in (end-accepted k)) ∙ t) in
      (u.0, record { accepted = k; used = u.1; checksum = u.2 })
  whole_in B t =
      let k : Block.Accepted s.block = end_known b_in (λ n. refl) t in
      let u : (h : Holding) × (entry_at s.block 128 ≡ Some h) × (s.b ≡ h.checksum) = sum-used s.b (entry_at s.block 128) (sym (ap b_in (end-accepted k)) ∙ t) in
      (u.0, record { accepted = k; used = u.1; checksum = u.2 })

  in_whole : (x : Area) (h : Holding) → WholeIn s x h → by_area x (a_in (ending s)) (b_in (ending s)) ≡ true
  in_whole A h w = ap a_in (end-accepted w.accepted) ∙ used-sum s.a (entry_at s.block 96) h w.used w.checksum
  in_whole B h w = ap b_in (end-accepted w.accepted) ∙ used-sum s.b (entry_at s.block 128) h w.used w.checksum

  -- of the entry that the block has
  whole-entry : (x : Area) (h : Holding) → by_area x (a_in (ending s)) (b_in (ending s)) ≡ true → entry_on s.block x ≡ Some h → WholeIn s x h
  whole-entry x h t e =
      let w : (i : Holding) × WholeIn s x i = whole_in x t in
      let f : w.0 ≡ h = used-same w.0 h (sym w.1.used ∙ e) in
      subst (WholeIn s x) f w.1

  -- the present record, of an accepted block
  module _ (k : Block.Accepted s.block) where
    end-present : present_in (ending s) ≡ present_by (fields_of s.block) (a_in (ending s)) (b_in (ending s))
    end-present =
        ap present_in (end-accepted k)
        ∙ sym (ap (λ (r : Result CopyReading Reason). present_by (fields_of s.block) (a_in r) (b_in r)) (end-accepted k))

    end-chosen : Chosen s.block (a_in (ending s)) (b_in (ending s))
    end-chosen = chosen s.block k (a_in (ending s)) (b_in (ending s)) (λ x t. ((whole_in x t).0, (whole_in x t).1.used))

  present_whole : (x : Area) (h : Holding) → present_in (ending s) ≡ present_at x h → WholeIn s x h × ((y : Area) (i : Holding) → WholeIn s y i → moment i ≤ moment h)
  present_whole x h o =
      let k : Block.Accepted s.block = end_known (λ r. is_there (present_in r)) (λ n. refl) (ap is_there o) in
      let c : (by_area x (a_in (ending s)) (b_in (ending s)) ≡ true) × (entry_on s.block x ≡ Some h) × ((y : Area) (i : Holding) → by_area y (a_in (ending s)) (b_in (ending s)) ≡ true → entry_on s.block y ≡ Some i → moment i ≤ moment h) =
      ((end-chosen k).at x h).0 (sym (end-present k) ∙ o) in
      (whole-entry x h c.0 c.1, λ y i w. c.2 y i (in_whole y i w) w.used)

  in_present : (x : Area) (h : Holding) → WholeIn s x h → ((y : Area) (i : Holding) → WholeIn s y i → moment i ≤ moment h) → present_in (ending s) ≡ present_at x h
  in_present x h w l =
      end-present w.accepted ∙ ((end-chosen w.accepted).at x h).1 (in_whole x h w, w.used, λ y i t e. l y i (whole-entry y i t e))

  nothing_in : present_in (ending s) ≡ None → (x : Area) (h : Holding) → ¬ WholeIn s x h
  nothing_in o x h w =
      true≢false (sym (in_whole x h w) ∙ (end-chosen w.accepted).none.0 (sym (end-present w.accepted) ∙ o) x)

  in_nothing : ((x : Area) (h : Holding) → ¬ WholeIn s x h) → present_in (ending s) ≡ None
  in_nothing n = go (reading s.block) refl
    where
      none : (x : Area) (t : Bool) → by_area x (a_in (ending s)) (b_in (ending s)) ≡ t → by_area x (a_in (ending s)) (b_in (ending s)) ≡ false
      none x true e = absurd (n x (whole_in x e).0 (whole_in x e).1)
      none x false e = e

      go : (r : Result Reading Reason) → reading s.block ≡ r → present_in (ending s) ≡ None
      go (Err x) e = ap present_in (end_refused x e)
      go (Ok q) e =
          let k : Block.Accepted s.block = (Blocks.exactly s.block).1 q e in
          end-present k ∙ (end-chosen k).none.1 (λ x. none x (by_area x (a_in (ending s)) (b_in (ending s))) refl)

  pub ending_of : Ending s full
  ending_of =
      record {
        block = end_block;
        refused = end_refused;
        a = (whole_in A, λ w. in_whole A w.0 w.1);
        b = (whole_in B, λ w. in_whole B w.0 w.1);
        present = λ x h. (present_whole x h, λ w. in_present x h w.0 w.1);
        nothing = (nothing_in, in_nothing);
      }
