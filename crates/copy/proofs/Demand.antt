-- What reading a copy says, proved in the words of `specs/Demand.antt`.
use Prim.Native.Nat.{ℕ, ◌+◌, ◌≤◌, ◌<◌}
use mathlib.Core.Path.{◌≡◌, refl, sym, ap, ap₂, subst, ◌∙◌}
use mathlib.Core.Logic.{◌↔◌, inl, inr}
use mathlib.Core.Bool.{Bool, true, false, cond, true≢false}
use mathlib.Core.List.{List}
use native.Mathlib.Decide.{dec_le}
use native.Mathlib.Nat.{le_refl}
use native.Mathlib.Omega.{arith}
use borrow.Author.Tests.{eqb-true, eq-eqb}
use lib.Dec.{lit<}
use lib.ListN.{length}
use Rattle.std.proofs.Common.{Option, Some, None, Result, Ok, Err}
use Rattle.endian.proofs.Parts.{length-window-fits}
use Rattle.checksum.specs.Crc as Crc
use Rattle.refusal.specs.declared.Reason.{Reason}
use Rattle.refusal.specs.declared.Refusal.{Refusal}
use Rattle.refusal.specs.Refusals.{plain}
use Rattle.refusal.specs.Reasons.{refusal_of, refusal_in}
use Rattle.refusal.specs.Tests.{first}
use Rattle.layout.specs.Limits.{record_limit, most_nanoseconds}
use Rattle.layout.specs.Places.{area_offset, copy_bytes}
use Rattle.layout.specs.declared.Area.{Area}
use Rattle.layout.specs.declared.Area.TheVariants.{A, B}
use Rattle.block.specs.declared.Holding.{Holding}
use Rattle.block.specs.declared.BlockFields.{BlockFields}
use Rattle.block.specs.declared.Reading.{Reading}
use Rattle.block.specs.Entry.{later_than, time_of}
use Rattle.block.specs.Block.{fields_of, read_tests, reading, accepted_reading}
use Rattle.block.specs.Writing.{holding_of}
use Rattle.block.specs.Accepted.{Within, Apart, Accepted}
use Rattle.block.specs.Demand.{Applies}
use Rattle.block.proofs.Demand as Block
use Rattle.block.proofs.Readings.{reading-refusal}
use Rattle.copy.specs.declared.Present.{Present}
use Rattle.copy.specs.declared.CopyReading.{CopyReading}
use Rattle.copy.specs.Copy.{present_at, is_copy, area_bytes, entry_in, whole_entry, whole, newer, newest, present, mapped, copy_reading_of, copy_reading}
use Rattle.copy.specs.Demand.{Sized, signature_block, first_bytes, entry_for, moment, AcceptedCopy, WholeArea, PresentRecord, LaterEntry, Reads, Exactly}
use Rattle.copy.proofs.Latest.{Latest, present_latest, present-nothing}
use Rattle.copy.proofs.Newness.{current-whole}
use Rattle.copy.proofs.Readings.{unsized-read, sized-read}

-- the same places in the definitions' words
copy_bytes_lem : copy_bytes ≡ 4096 + record_limit + record_limit
unfolding copy_bytes
copy_bytes_lem = refl

pub sized-copy : (c : List ℕ) → Sized c → is_copy c ≡ true
sized-copy c s = eq-eqb (length c) copy_bytes (s ∙ sym copy_bytes_lem)

pub copy-sized : (c : List ℕ) → is_copy c ≡ true → Sized c
copy-sized c h = eqb-true (length c) copy_bytes h ∙ copy_bytes_lem

pub area_bytes_lem : (c : List ℕ) (x : Area) (n : ℕ) → area_bytes c x n ≡ first_bytes c x n
unfolding area_offset
area_bytes_lem c A n = refl
area_bytes_lem c B n = refl

abbrev pub fields_in : List ℕ → BlockFields
fields_in c = fields_of (signature_block c)

pub entry_in_lem : (c : List ℕ) (x : Area) → entry_in (fields_in c) x ≡ entry_for c x
entry_in_lem c A = refl
entry_in_lem c B = refl

block_length : (c : List ℕ) → Sized c → length (signature_block c) ≡ 512
block_length c s = length-window-fits c 512 512 (omega arith)

-- a used entry of an accepted copy is within the limits
module _ (c : List ℕ) (a : AcceptedCopy c) where
  within : (x : Area) → Within (entry_for c x)
  within A = a.block.entry_a
  within B = a.block.entry_b

  pub nanoseconds : (x : Area) (h : Holding) → entry_for c x ≡ Some h → h.nanoseconds ≤ most_nanoseconds
  nanoseconds x h e = let w : Within (Some h) = subst Within e (within x) in w.2

  pub bytes_most : (x : Area) (h : Holding) → entry_for c x ≡ Some h → h.bytes ≤ record_limit
  bytes_most x h e = let w : Within (Some h) = subst Within e (within x) in w.1

-- the order of times in nanoseconds
module _ (h k : Holding) (nh : h.nanoseconds ≤ most_nanoseconds) (nk : k.nanoseconds ≤ most_nanoseconds) where
  pub later_more : later_than (time_of k) (time_of h) ≡ true → moment h < moment k
  later_more = (Block.later (time_of k) (time_of h) nk nh).0

  pub more_later : moment h < moment k → later_than (time_of k) (time_of h) ≡ true
  more_later = (Block.later (time_of k) (time_of h) nk nh).1

  pub not_later-less : later_than (time_of k) (time_of h) ≡ false → moment k ≤ moment h
  not_later-less e = elim (dec_le (moment k) (moment h)) [ yes l ↦ l | no l ↦ absurd (true≢false (sym (more_later (omega arith)) ∙ e)) ]

  pub less-not_later : moment k ≤ moment h → later_than (time_of k) (time_of h) ≡ false
  less-not_later l = go (later_than (time_of k) (time_of h)) refl
    where
      go : (t : Bool) → later_than (time_of k) (time_of h) ≡ t → later_than (time_of k) (time_of h) ≡ false
      go true e = let m : moment h < moment k = later_more e in absurd (omega arith)
      go false e = e

  pub one_second : moment h ≡ moment k → h.seconds ≡ k.seconds
  one_second e = omega arith

  pub one_nanosecond : moment h ≡ moment k → h.nanoseconds ≡ k.nanoseconds
  one_nanosecond e = omega arith

-- entries that are used, of one time, are one
pub used-same : (h k : Holding) → Some h ≡ Some k → h ≡ k
used-same h k e = cc

module _ (c : List ℕ) (a : AcceptedCopy c) where
  apart-times : (h k : Holding) → entry_for c A ≡ Some h → entry_for c B ≡ Some k → moment h ≡ moment k → ⊥
  apart-times h k p q e =
      let d : Apart (Some h) (Some k) = subst (λ (y : Option Holding). Apart (Some h) y) q (subst (λ (x : Option Holding). Apart x (entry_for c B)) p a.block.times) in
      d (one_second h k (nanoseconds c a A h p) (nanoseconds c a B k q) e) (one_nanosecond h k (nanoseconds c a A h p) (nanoseconds c a B k q) e)

  pub one_entry : (x y : Area) (h k : Holding) → entry_for c x ≡ Some h → entry_for c y ≡ Some k → moment h ≡ moment k → present_at x h ≡ present_at y k
  one_entry A A h k p q e = ap (present_at A) (used-same h k (sym p ∙ q))
  one_entry A B h k p q e = absurd (apart-times h k p q e)
  one_entry B A h k p q e = absurd (apart-times k h q p (sym e))
  one_entry B B h k p q e = ap (present_at B) (used-same h k (sym p ∙ q))

  -- whole, in both words
  whole-entry : (x : Area) (e : Option Holding) → entry_for c x ≡ e → whole_entry c x e ≡ true → (h : Holding) × WholeArea c x h
  whole-entry x None e w = absurd (true≢false (sym w))
  whole-entry x (Some h) e w =
      (h, record { accepted = a; used = e; checksum = ap Crc.checksum (sym (area_bytes_lem c x h.bytes)) ∙ eqb-true (Crc.checksum (area_bytes c x h.bytes)) h.checksum w })

  pub whole_area : (x : Area) → whole c (fields_in c) x ≡ true → (h : Holding) × WholeArea c x h
  whole_area x w = whole-entry x (entry_for c x) refl (ap (whole_entry c x) (sym (entry_in_lem c x)) ∙ w)

  -- and the entry's numbers
  pub holding_in : (x : Area) (h : Holding) → entry_for c x ≡ Some h → holding_of (entry_in (fields_in c) x) ≡ h
  holding_in x h e = ap holding_of (entry_in_lem c x ∙ e)

pub area_whole : (c : List ℕ) (x : Area) (h : Holding) → WholeArea c x h → whole c (fields_in c) x ≡ true
area_whole c x h w =
    ap (whole_entry c x) (entry_in_lem c x ∙ w.used)
    ∙ eq-eqb (Crc.checksum (area_bytes c x h.bytes)) h.checksum (ap Crc.checksum (area_bytes_lem c x h.bytes) ∙ w.checksum)

module _ (c : List ℕ) (a : AcceptedCopy c) where
  pub present_record : (x : Area) (h : Holding) → present c (fields_in c) ≡ present_at x h → PresentRecord c x h
  present_record x h e =
      let l : Latest c (fields_in c) x h = present_latest c (fields_in c) x h e in
      let w : (k : Holding) × WholeArea c x k = whole_area c a x l.its_whole in
      let k : h ≡ w.0 = l.holds ∙ holding_in c a x w.0 w.1.used in
      let v : WholeArea c x h = subst (WholeArea c x) (sym k) w.1 in
      record {
        whole = v;
        none-later = λ y m u.
            not_later-less h m (nanoseconds c a x h v.used) (nanoseconds c a y m u.used)
            (ap (λ (i : Holding). later_than (time_of i) (time_of h)) (sym (holding_in c a y m u.used)) ∙ l.latest y (area_whole c y m u));
      }

  pub record_present : (x : Area) (h : Holding) → PresentRecord c x h → present c (fields_in c) ≡ present_at x h
  record_present x h r = go (present c (fields_in c)) refl
    where
      go : (p : Option Present) → present c (fields_in c) ≡ p → present c (fields_in c) ≡ present_at x h
      go None e = absurd (present-nothing c (fields_in c) e x (area_whole c x h r.whole))
      go (Some p) e =
          let s : PresentRecord c p.area p.holding = present_record p.area p.holding e in
          let m : moment h ≤ moment p.holding = s.none-later x h r.whole in
          let n : moment p.holding ≤ moment h = r.none-later p.area p.holding s.whole in
          e ∙ one_entry c a p.area x p.holding h s.whole.used r.whole.used (omega arith)

  pub nothing-whole : present c (fields_in c) ≡ None → (x : Area) (h : Holding) → ¬ WholeArea c x h
  nothing-whole e x h w = present-nothing c (fields_in c) e x (area_whole c x h w)

  pub whole-nothing : ((x : Area) (h : Holding) → ¬ WholeArea c x h) → present c (fields_in c) ≡ None
  whole-nothing n = go (present c (fields_in c)) refl
    where
      go : (p : Option Present) → present c (fields_in c) ≡ p → present c (fields_in c) ≡ None
      go None e = e
      go (Some p) e = absurd (n p.area p.holding (present_record p.area p.holding e).whole)

  -- the newest entry, in both words
  pub later-newest : (x : Area) (h : Holding) → LaterEntry c x h → newest (fields_in c) ≡ x
  unfolding newest
  later-newest A h l = ap (λ (t : Bool). cond t B A) (go (entry_for c B) refl)
    where
      go : (e : Option Holding) → entry_for c B ≡ e → newer (entry_for c B) (entry_for c A) ≡ false
      go None e = rw e
      go (Some k) e =
          rw (e, l.used) (less-not_later h k (nanoseconds c a A h l.used) (nanoseconds c a B k e) (l.none-later B k e))
  later-newest B h l = ap (λ (t : Bool). cond t B A) (go (entry_for c A) refl)
    where
      go : (e : Option Holding) → entry_for c A ≡ e → newer (entry_for c B) (entry_for c A) ≡ true
      go None e = rw (l.used, e)
      go (Some k) e =
          let d : moment k ≡ moment h → ⊥ = apart-times c a k h e l.used in
          let m : moment k ≤ moment h = l.none-later A k e in
          rw (l.used, e) (more_later k h (nanoseconds c a A k e) (nanoseconds c a B h l.used) (omega arith))

  pub newest-later : (x : Area) (h : Holding) → newest (fields_in c) ≡ x → entry_for c x ≡ Some h → LaterEntry c x h
  unfolding newest
  newest-later x h n u = record { used = u; none-later = go x (newer (entry_for c B) (entry_for c A)) refl n u }
    where
      same : (y : Area) (k i : Holding) → entry_for c y ≡ Some k → entry_for c y ≡ Some i → moment k ≤ moment i
      same y k i p q = let e : k ≡ i = used-same k i (sym p ∙ q) in rw e (le_refl (moment i))

      area-apart : {X : Type 0} → B ≡ A → X
      area-apart e = let o : ◌≡◌ {A = ℕ} 0 1 = cc in absurd (omega arith)

      go : (x : Area) (t : Bool) → newer (entry_for c B) (entry_for c A) ≡ t → cond t B A ≡ x → entry_for c x ≡ Some h
          → (y : Area) (k : Holding) → entry_for c y ≡ Some k → moment k ≤ moment h
      go A true t n u y k e = area-apart n
      go A false t n u A k e = same A k h e u
      go A false t n u B k e =
          not_later-less h k (nanoseconds c a A h u) (nanoseconds c a B k e) (sym (ap₂ newer e u) ∙ t)
      go B true t n u A k e =
          let m : moment k < moment h = later_more k h (nanoseconds c a A k e) (nanoseconds c a B h u) (sym (ap₂ newer u e) ∙ t) in
          omega arith
      go B true t n u B k e = same B k h e u
      go B false t n u y k e = area-apart (sym n)

  pub newest-whole : whole c (fields_in c) (newest (fields_in c)) ≡ true
      → (h : Holding) × LaterEntry c (newest (fields_in c)) h × WholeArea c (newest (fields_in c)) h
  newest-whole e =
      let w : (h : Holding) × WholeArea c (newest (fields_in c)) h = whole_area c a (newest (fields_in c)) e in
      (w.0, newest-later (newest (fields_in c)) w.0 refl w.1.used, w.1)

  pub whole-newest : (x : Area) (h : Holding) → LaterEntry c x h → WholeArea c x h → whole c (fields_in c) (newest (fields_in c)) ≡ true
  whole-newest x h l w = ap (whole c (fields_in c)) (later-newest x h l) ∙ area_whole c x h w

-- What reading a slice says, in two cases: refused, or an accepted copy.
abbrev pub accepted_read : List ℕ → CopyReading
accepted_read c =
    record { block = accepted_reading (signature_block c); a = whole c (fields_in c) A; b = whole c (fields_in c) B; present = present c (fields_in c) }

-- the number of a reason
abbrev number : Reason → ℕ
number e = (refusal_of e).number

pub data View (c : List ℕ) : Result CopyReading Reason → Type 0 where
  not_taken : (e : Reason) → ¬ AcceptedCopy c → 0 < number e → (number e ≡ 1 ↔ ¬ Sized c) → (Sized c → Err e ≡ reading (signature_block c))
      → refusal_of e ≡ plain (number e) → View c (Err e)
  taken : AcceptedCopy c → View c (Ok (accepted_read c))

ok-err : {X : Type 0} (v : X) (e : Reason) → Ok v ≡ Err e → ⊥
ok-err v e h = let o : ◌≡◌ {A = ℕ} 0 1 = cc in omega arith

module _ (c : List ℕ) where
  -- reading a block of 512 bytes gives no 1
  not_one : Sized c → (e : Reason) → reading (signature_block c) ≡ Err e → 1 < number e
  not_one s e h = above (number e) ((Block.lowest (signature_block c) e).0 h).0
    where
      above : (n : ℕ) → Applies (signature_block c) n → 1 < n
      above n (inl f) = absurd (f.1 (block_length c s))
      above n (inr (inl f)) = let h : n ≡ 2 = f.0 in omega arith
      above n (inr (inr (inl f))) = let h : n ≡ 3 = f.0 in omega arith
      above n (inr (inr (inr (inl f)))) = let h : n ≡ 4 = f.0 in omega arith
      above n (inr (inr (inr (inr (inl f))))) = let h : n ≡ 5 = f.0 in omega arith
      above n (inr (inr (inr (inr (inr (inl f)))))) = let h : n ≡ 6 = f.0 in omega arith
      above n (inr (inr (inr (inr (inr (inr (inl f))))))) = let h : n ≡ 7 = f.0 in omega arith
      above n (inr (inr (inr (inr (inr (inr (inr (inl f)))))))) = let h : n ≡ 8 = f.0 in omega arith
      above n (inr (inr (inr (inr (inr (inr (inr (inr f)))))))) = let h : n ≡ 9 = f.0 in omega arith

  -- and nothing beside the number
  bare : (e : Reason) → reading (signature_block c) ≡ Err e → refusal_of e ≡ plain (number e)
  bare e h =
      let p : refusal_of e ≡ plain (first (read_tests (signature_block c))) = sym (ap refusal_in h) ∙ reading-refusal (signature_block c) in
      p ∙ ap plain (sym (ap (λ (r : Refusal). r.number) p))

  sized_view : Sized c → (r : Result Reading Reason) → reading (signature_block c) ≡ r → View c (mapped (copy_reading_of c) r)
  sized_view s (Ok q) e =
      let b : Accepted (signature_block c) = (Block.exactly (signature_block c)).1 q e in
      subst (λ (z : Result Reading Reason). View c (mapped (copy_reading_of c) z)) (sym ((Block.exactly (signature_block c)).0 b) ∙ e)
      (taken (record { size = s; block = b }))
  sized_view s (Err x) e =
      let l : 1 < number x = not_one s x e in
      not_taken x (λ a. ok-err (accepted_reading (signature_block c)) x (sym ((Block.exactly (signature_block c)).0 a.block) ∙ e)) (omega arith)
      (λ o. absurd (omega arith), λ z. absurd (z s)) (λ z. sym e) (bare x e)

  pub view : View c (copy_reading c)
  view = go (is_copy c) refl
    where
      go : (t : Bool) → is_copy c ≡ t → View c (copy_reading c)
      go true t = subst (View c) (sym (sized-read c t)) (sized_view (copy-sized c t) (reading (signature_block c)) refl)
      go false t =
          subst (View c) (sym (unsized-read c t))
          (let z : ¬ Sized c = λ s. true≢false (sym (sized-copy c s) ∙ t) in
          not_taken Reason.SliceSize (λ a. z a.size) (lit< tt) (λ o. z, λ o. refl) (λ s. absurd (z s)) refl)

-- nothing is no record
nothing-at : (x : Area) (h : Holding) → None ≡ present_at x h → ⊥
nothing-at x h e = let o : ◌≡◌ {A = ℕ} 0 1 = cc in omega arith

reads : (c : List ℕ) (r : Result CopyReading Reason) → View c r → Reads c r
reads c r (not_taken e z l s b p) =
    record {
      one = s;
      accepted = (λ e. absurd (omega arith), λ a. absurd (z a));
      fields = λ a. absurd (z a);
      block = b;
      refused = λ x h. cc;
      a = (λ e. absurd (true≢false (sym e)), λ w. absurd (z w.1.accepted));
      b = (λ e. absurd (true≢false (sym e)), λ w. absurd (z w.1.accepted));
      present = λ x h. (λ e. absurd (nothing-at x h e), λ p. absurd (z p.whole.accepted));
      nothing = (λ e x h w. z w.accepted, λ e. refl);
      newer = λ a. absurd (z a);
      current = λ a. absurd (z a);
    }
reads c r (taken a) =
    record {
      one = (λ e. absurd (omega arith), λ z. absurd (z a.size));
      accepted = (λ e. a, λ e. refl);
      fields = λ e. refl;
      block = λ s. sym ((Block.exactly (signature_block c)).0 a.block);
      refused = λ x h. absurd (ok-err (accepted_read c) x h);
      a = (whole_area c a A, λ w. area_whole c A w.0 w.1);
      b = (whole_area c a B, λ w. area_whole c B w.0 w.1);
      present = λ x h. (present_record c a x h, record_present c a x h);
      nothing = (nothing-whole c a, whole-nothing c a);
      newer = λ e. later-newest c a;
      current = λ e. (
        λ t.
            let w : (h : Holding) × LaterEntry c (newest (fields_in c)) h × WholeArea c (newest (fields_in c)) h = newest-whole c a (sym (current-whole c (fields_in c)) ∙ t) in
            (newest (fields_in c), w.0, w.1, w.2),
        λ t. current-whole c (fields_in c) ∙ whole-newest c a t.0 t.1 t.2 t.3,
      );
    }

pub exactly : Exactly
exactly c = reads c (copy_reading c) (view c)
