-- Demand 3, proved: one claim over every start, update and cut.
use Prim.Native.Nat.{ℕ, zero, suc, ◌+◌, ◌-◌, ◌*◌, ◌^◌, ◌≤◌, ◌<◌}
use mathlib.Core.Path.{◌≡◌, refl, sym, ap, ap₂, subst, ◌∙◌}
use mathlib.Core.Bool.{Bool, true, cond, not, true≢false}
use mathlib.Core.Logic.{◌⊎◌, inl, inr, ◌↔◌}
use mathlib.Core.List.{List}
use native.Mathlib.Decide.{ℕ_discrete}
use native.Mathlib.Nat.{le_refl}
use native.Mathlib.Omega.{arith}
use borrow.Author.Tests.{le-leb, lt-leb, lt-ltb, le-ltb, eq-eqb, ne_eqb}
use lib.Dec.{eqb, ltb}
use lib.ListN.{length}
use Rattle.std.specs.Prelude.{Some, Result, Ok, Err}
use Rattle.refusal.specs.declared.Reason.{Reason}
use Rattle.refusal.specs.Reasons.{reason}
use Rattle.refusal.proofs.Reasons.{told_zero}
use Rattle.endian.specs.Bytes.{same}
use Rattle.endian.proofs.Tests.{and_left, and_right}
use Rattle.refusal.specs.Numbers.{no_such_store}
use Rattle.refusal.specs.Tests.{first, AllHold}
use Rattle.refusal.proofs.Order.{first-pass, first_fail, first_all}
use Rattle.layout.specs.declared.Device.{Device}
use Rattle.layout.specs.declared.Side.{Side}
use Rattle.layout.specs.declared.Side.TheVariants.{Front, Back}
use Rattle.layout.specs.declared.Area.{Area}
use Rattle.layout.specs.Limits.{length_allowed, most_nanoseconds, nanoseconds_allowed, device_tests}
use Rattle.layout.specs.Places.{block_sector, area_sector}
use Rattle.layout.proofs.Laws.{length_facts}
use Rattle.block.specs.declared.Time.{Time}
use Rattle.block.specs.declared.Holding.{Holding}
use Rattle.block.specs.declared.BlockFields.{BlockFields}
use Rattle.block.specs.declared.Reading.{Reading}
use Rattle.block.specs.Entry.{later_than, time_of}
use Rattle.block.specs.Block.{device_of, pool_of, blockdev_of, fields_of, reading}
use Rattle.block.specs.Writing.{write_tests, written}
use Rattle.block.specs.Accepted.{Accepted}
use Rattle.block.proofs.Readings.{accepted-length}
use Rattle.block.proofs.Exactly.{obeys}
use Rattle.block.proofs.Times.{same_test, same-not_later}
use Rattle.record.specs.Accept.{content_tests, named}
use Rattle.record.proofs.Right.{right_content}
use Rattle.copy.specs.declared.Present.{Present}
use Rattle.copy.proofs.Latest.{some-same}
use Rattle.copy.specs.Copy.{is_copy, device_in, block_in, entry_in, other_area, newest, record_at, present_at, reading_in}
use Rattle.discovery.specs.declared.Finding.{Finding}
use Rattle.discovery.specs.declared.Found.{Found}
use Rattle.discovery.specs.Discovery.{same_device, sized, is_in_step}
use Rattle.discovery.proofs.Latest.{found-same}
use Rattle.crash.specs.Crash.{Sectors, Sound, Store, Cut, Groups, stores, store_in, group_start, landed, CutIn, area_sectors, copy_from}
use Rattle.crash.proofs.Landing.{landed-size}
use Rattle.crash.proofs.Copies.{limit_small}
use Rattle.stores.specs.declared.Part.{Part}
use Rattle.stores.specs.Stores.{sectors_of, sector_of, holding_for, with_entry}
use Rattle.stores.specs.Given.{part_given, part_left, lent_right}
use Rattle.stores.specs.States.{Gives, Ready, Answered, Excused, Fits}
use Rattle.stores.proofs.Holding.{held_in, record_in, Holds, newest-changed}
use Rattle.stores.proofs.Discovering.{alone-found, later-found}
use Rattle.stores.proofs.Padding.{sectors_few, sectors-least, sectors-within, length_sector}
use Rattle.stores.proofs.OneSide as OneSide
use Rattle.stores.proofs.Blocks.{number_fits, device_kept}
use Rattle.stores.proofs.InStep.{Stepped, refused_differs, reading_facts, same_device_test}
use Rattle.stores.proofs.OneCopy.{used, block_of, stepped-held}
use Rattle.stores.proofs.Choosing.{lent_right_lem, block_given_lem, area_given, part_given_lem}
use Rattle.stores.proofs.Facts.{other_differs, renamed, sized_copies, split, stands_as}
use Rattle.stores.proofs.Agreeing.{found_front}
use Rattle.stores.proofs.Places.{Sizes, sizes_accepted, device-accepted, near, area_near, area_below, block_below, block_apart, areas_apart}
use Rattle.stores.proofs.States.{stepped-found, stepped-present, made_ready, made_answered, ready_stepped, ready_time, ready_record}
use Rattle.update.specs.declared.Plan.{Plan}
use Rattle.update.specs.Update.{tests_after, number_after, update_number, spare, new_block}
use Rattle.update.specs.Plan.{stores_in, group_of, flush_after, part_on, copy_of, store_tests, store_answer, store_bytes}
use Rattle.update.specs.Demand.{Start, Outcome, groups_on, plan_on, copy_after, Demand3, area_group, block_group, Places, Placing, Giving}
use Rattle.update.proofs.NewBlock.{new_reads, new-writes, new-written}
use Rattle.update.proofs.NewHeld.{new-held}
use Rattle.update.proofs.Choosing as Choosing
use Rattle.update.proofs.Choosing.{in_none, flush_past, flush_at, none_store, front_store, back_store}
use Rattle.update.proofs.Stores.{starting, begin, count, by_side, side, group_starts, grouped, groups_four}

module _ (v : Device) (d : Sectors) (u : Time) (q : List ℕ) (t : Time) (r : List ℕ) (s : Start v d u q t r) where
  -- a side's copy before the update, the numbers of its block and the area that is present
  abbrev copy : Side → List ℕ
  copy w = copy_from w v d

  abbrev fields : Side → BlockFields
  fields w = fields_of (block_in (copy w))

  abbrev present : Side → Area
  present w = newest (fields w)

  -- the numbers of its new block
  abbrev newFields : Side → BlockFields
  newFields w = with_entry (fields w) (spare (copy w)) (Some (holding_for t r))

  -- sectors of the record, the groups, and how many stores they have
  abbrev k : ℕ
  k = sectors_of (length r)

  abbrev groups : Groups
  groups = groups_on v d t r

  abbrev all : ℕ
  all = k + 1 + k + 1

  -- a side's copy holds the old record, or the new one
  abbrev OldHeld : Side → Sectors → Type 0
  OldHeld w e =
      Holds (copy_from w v e) (fields w) (pool_of (block_in (copy Front))) (blockdev_of (block_in (copy Front))) (present w) (held_in (copy w)) (record_in (copy Front))

  abbrev NewHeld : Side → Sectors → Type 0
  NewHeld w e =
      Holds (copy_from w v e) (newFields w) (pool_of (block_in (copy Front))) (blockdev_of (block_in (copy Front))) (spare (copy w)) (holding_for t r) r

  -- a side's block stands in its old version, in its new one, or is refused
  abbrev IsOld : Side → Sectors → Type 0
  IsOld w e = e (block_sector w v) ≡ d (block_sector w v)

  abbrev IsNew : Side → Sectors → Type 0
  IsNew w e = e (block_sector w v) ≡ new_block (copy w) t r

  abbrev IsRefused : Side → Sectors → Type 0
  IsRefused w e = (n : Reason) × (reading (e (block_sector w v)) ≡ Err n)

  -- what discovery gives
  abbrev GivesOld : Sectors → Type 0
  GivesOld e = Answered v e u q

  abbrev GivesNew : Sectors → Type 0
  GivesNew e = Answered v e t r

  -- what the start says of the device and of each side
  abbrev sd : Sound d
  sd = s.ready.sound

  says : device_in (copy Front) ≡ v
  says = s.ready.says Front

  stepped : Stepped copy
  stepped = ready_stepped s.ready

  its_sizes : Sizes v
  its_sizes = subst Sizes says (sizes_accepted (block_in (copy Front)) (stepped.accepted Front))

  its_used : (w : Side) → entry_in (fields w) (present w) ≡ Some (held_in (copy w))
  its_used w = used w v d sd its_sizes (stepped.accepted w) (stepped.newest-whole w)

  one-device : same_device (fields Front) (fields Back) ≡ true
  one-device = same_device_test (fields Front) (fields Back) stepped.device

  -- the old block and the old sectors of its area: the old record
  holds_old : (w : Side) (e : Sectors) → Sound e → e (block_sector w v) ≡ d (block_sector w v)
      → ((i : ℕ) → i < area_sectors → e (area_sector w (present w) v + i) ≡ d (area_sector w (present w) v + i)) → OldHeld w e
  holds_old = stepped-held v d sd its_sizes stepped

  its_content : AllHold (content_tests v r)
  its_content = right_content v r (subst (λ (z : Device). z.sectors < 256 ^ 8) says (number_fits (block_in (copy Front)) 20 8)) s.right

  its_time : nanoseconds_allowed t.nanoseconds ≡ true
  its_time = le-leb t.nanoseconds most_nanoseconds s.nanoseconds

  its_later : (w : Side) → later_than t (time_of (held_in (copy w))) ≡ true
  its_later w = ap (later_than t) (ready_time s.ready w) ∙ s.later

  its_length : length_allowed (length r) ≡ true
  its_length = its_content.0

  tiny : k ≤ 1020
  tiny = sectors_few (length r) (length_facts (length r) its_length).1

  -- the new block and the record's sectors: the new record
  holds-new : (w : Side) (e : Sectors) → Sound e → e (block_sector w v) ≡ new_block (copy w) t r
      → ((i : ℕ) → i < k → e (area_sector w (spare (copy w)) v + i) ≡ sector_of r i) → NewHeld w e
  holds-new w e se b a =
      renamed (stepped.pool w) (stepped.blockdev w) refl
      (new-held w v d sd its_sizes (stepped.accepted w) (stepped.newest-whole w) e se t r s.fits its_time its_length (its_later w) b a)

  new-device : (w : Side) → (newFields w).device ≡ (fields w).device
  new-device w = device_kept (fields w) (spare (copy w)) (Some (holding_for t r))

  new_old : same_device (newFields Front) (fields Back) ≡ true
  new_old = same_device_test (newFields Front) (fields Back) (new-device Front ∙ stepped.device)

  new-new : same_device (newFields Front) (newFields Back) ≡ true
  new-new = same_device_test (newFields Front) (newFields Back) (new-device Front ∙ (stepped.device ∙ sym (new-device Back)))

  -- a side's stores among all
  laid : (w : Side) → OneSide.Side (store_in groups) all (begin k w) k (area_sector w (spare (copy w)) v) (block_sector w v) r (new_block (copy w) t r) (near w v)
  laid = side copy t r v says its_sizes tiny

  stores-count : length (stores groups) ≡ all
  stores-count = count copy t r v says

  module _ (w : Side) where
    new-reading : reading (new_block (copy w) t r) ≡ Ok (record { fields = newFields w; pool = pool_of (block_in (copy w)); blockdev = blockdev_of (block_in (copy w)) })
    new-reading = new_reads (copy w) (stepped.accepted w) (held_in (copy w)) (its_used w) t r s.fits its_time its_length (its_later w)

    new-size : length (new_block (copy w) t r) ≡ 512
    new-size = accepted-length (new_block (copy w) t r) (reading_facts (new_block (copy w) t r) _ new-reading).0

    at_block : (e : Sectors) → Sound e → block_in (copy_from w v e) ≡ e (block_sector w v)
    at_block e se = block_of w v d sd its_sizes (stepped.accepted w) (stepped.newest-whole w) e se

    old-device : (fields w).device ≡ v
    old-device = s.ready.says w

    changed-device : (newFields w).device ≡ v
    changed-device = new-device w ∙ old-device

    refused-at : (e : Sectors) → Sound e → (n : Reason) → reading (e (block_sector w v)) ≡ Err n → reading_in (copy_from w v e) ≡ Err n
    refused-at e se n h = ap reading (at_block e se) ∙ h

    -- the new block differs from the old one: its newest entry is in the other area
    new-differs : d (block_sector w v) ≡ new_block (copy w) t r → ⊥
    new-differs p =
        let f : newFields w ≡ fields w = ap (λ (r : Reading). r.fields) (reading_facts (block_in (copy w)) _ (ap reading (at_block d sd ∙ p) ∙ new-reading)).1 in
        other_differs (present w)
        (sym (newest-changed (fields w) (present w) (held_in (copy w)) (holding_for t r) (its_used w) (its_later w)) ∙ ap newest f)

    -- a block that the running group stores to stands in one of its versions, or is refused
    state : (e : Sectors) (i j : ℕ) → i ≤ begin k w + k → begin k w + k < j → j ≤ all
        → ((e (block_sector w v) ≡ landed (store_in groups) i d (block_sector w v) → ⊥) → (e (block_sector w v) ≡ landed (store_in groups) j d (block_sector w v) → ⊥)
        → Accepted (e (block_sector w v)) → ⊥)
        → IsOld w e ⊎ (IsNew w e ⊎ IsRefused w e)
    state e i j a c l x =
        stands_as (e (block_sector w v)) (d (block_sector w v)) (new_block (copy w) t r)
        (λ p q z. x (λ h. p (h ∙ OneSide.block-kept (laid w) d i a)) (λ h. q (h ∙ OneSide.block-landed (laid w) d j c l)) (obeys (e (block_sector w v)) z))

  -- the old record by its names
  old_record : {e : Sectors} → Answered v e (time_of (held_in (copy Front))) (record_in (copy Front)) → Answered v e u q
  old_record {e} a = subst (λ (z : Time). Answered v e z q) (ready_time s.ready Front) (subst (λ (z : List ℕ). Answered v e (time_of (held_in (copy Front))) z) (ready_record s.ready Front) a)

  module _ (e : Sectors) (se : Sound e) where
    -- what each pair of states gives
    gives-old : OldHeld Front e → OldHeld Back e → GivesOld e
    gives-old m n =
        old_record (made_answered v e se Front m _ (found_front m n (sized_copies v e e se se) one-device _ refl (stepped.times Back)) (old-device Front)
        (time_of (held_in (copy Front))) refl)

    gives_back : IsRefused Front e → OldHeld Back e → GivesOld e
    gives_back a m =
        old_record (made_answered v e se Back m _
        (alone-found (copy_from Front v e) (copy_from Back v e) (sized_copies v e e se se) Back a.0 m (refused-at Front e se a.0 a.1)) (old-device Back)
        (time_of (held_in (copy Front))) (stepped.times Back))

    module _ (m : NewHeld Front e) where
      gives-newer : OldHeld Back e → GivesNew e
      gives-newer n =
          made_answered v e se Front m _ (later-found (copy_from Front v e) (copy_from Back v e) (sized_copies v e e se se) m n new_old (its_later Back))
          (changed-device Front) t refl

      gives_both : NewHeld Back e → GivesNew e
      gives_both n = made_answered v e se Front m _ (found_front m n (sized_copies v e e se se) new-new t refl refl) (changed-device Front) t refl

      gives-front : IsRefused Back e → GivesNew e
      gives-front a =
          made_answered v e se Front m _
          (alone-found (copy_from Front v e) (copy_from Back v e) (sized_copies v e e se se) Front a.0 m (refused-at Back e se a.0 a.1))
          (changed-device Front) t refl

  -- both records
  times-apart : (e : Sectors) → GivesOld e → Gives (copy_from Front v e) (copy_from Back v e) t r → ⊥
  times-apart e a b =
      let f : a.gives.found ≡ b.found = found-same b.found b.other a.gives.found a.gives.other (sym a.gives.answers ∙ b.answers) in
      let x : u.seconds ≡ t.seconds = sym a.gives.seconds ∙ (ap (λ (z : Finding). z.seconds) f ∙ b.seconds) in
      let y : u.nanoseconds ≡ t.nanoseconds = sym a.gives.nanoseconds ∙ (ap (λ (z : Finding). z.nanoseconds) f ∙ b.nanoseconds) in
      true≢false (sym s.later ∙ same-not_later u t (same_test u t x y))

  -- what a cut leaves, but for the end
  abbrev Left : Sectors → Type 0
  Left e = (IsNew Front e → GivesNew e) × ((IsNew Front e → ⊥) → GivesOld e)

  module _ (e : Sectors) where
    old-stands : IsOld Front e → GivesOld e → Left e
    old-stands p g = (λ q. absurd (new-differs Front (sym p ∙ q)), λ h. g)

    new-stands : IsNew Front e → GivesNew e → Left e
    new-stands p g = (λ q. g, λ h. absurd (h p))

    none-stands : IsRefused Front e → GivesOld e → Left e
    none-stands p g =
        (λ q. absurd (refused_differs p.0 _ (sym p.1 ∙ (ap reading q ∙ new-reading Front))), λ h. g)

  module _ (e : Sectors) (i j : ℕ)
      (x : (w : Side) → (e (block_sector w v) ≡ landed (store_in groups) i d (block_sector w v) → ⊥) → (e (block_sector w v) ≡ landed (store_in groups) j d (block_sector w v) → ⊥)
      → Accepted (e (block_sector w v)) → ⊥)
      (l : i ≤ j) (b : j ≤ all) (c : Cut (store_in groups) i j d e) where
    -- the block of a side whose block is not yet stored to, or has landed
    is-old : (w : Side) → j ≤ begin k w + k → IsOld w e
    is-old w h = OneSide.cut-old (laid w) d e i j l b c h

    is-new : (w : Side) → begin k w + k < i → IsNew w e
    is-new w h = OneSide.cut-new (laid w) d e i j l b c h

    -- the present area is never stored to
    kept : (w : Side) (q : ℕ) → q < area_sectors → e (area_sector w (present w) v + q) ≡ d (area_sector w (present w) v + q)
    kept w q h =
        let a : area_sectors ≤ 1020 = limit_small in
        let m : k ≤ 1020 = tiny in
        OneSide.cut-kept (laid w) d e i j l b c (area_sector w (present w) v + q) (area_near v its_sizes w (present w) q (omega arith))
        (λ y u z. areas_apart v its_sizes w (present w) q y (omega arith) (omega arith) z) (λ z. block_apart v its_sizes w (present w) q (omega arith) z)

    still-old : (w : Side) → IsOld w e → OldHeld w e
    still-old w p = holds_old w e c.sound p (kept w)

    now-new : (w : Side) → begin k w + k ≤ i → IsNew w e → NewHeld w e
    now-new w h p = holds-new w e c.sound p (OneSide.cut-area (laid w) d e i j l b c h)

    -- the front's area is being stored
    in_front_area : j ≤ k → Left e
    in_front_area a =
        let p : IsOld Front e = is-old Front (omega arith) in
        old-stands e p (gives-old e c.sound (still-old Front p) (still-old Back (is-old Back (omega arith))))

    -- the front's block is
    in-front-block : i ≡ k → j ≡ k + 1 → Left e
    in-front-block a o = go (state Front e i j (omega arith) (omega arith) b (x Front))
      where
        back : OldHeld Back e
        back = still-old Back (is-old Back (omega arith))

        go : IsOld Front e ⊎ (IsNew Front e ⊎ IsRefused Front e) → Left e
        go (inl p) = old-stands e p (gives-old e c.sound (still-old Front p) back)
        go (inr (inl p)) = new-stands e p (gives-newer e c.sound (now-new Front (omega arith) p) back)
        go (inr (inr p)) = none-stands e p (gives_back e c.sound p back)

    -- the front's block has landed
    module _ (a : k < i) where
      stands : IsNew Front e
      stands = is-new Front (omega arith)

      front : NewHeld Front e
      front = now-new Front (omega arith) stands

      in-back-area : j ≤ k + 1 + k → Left e
      in-back-area o = new-stands e stands (gives-newer e c.sound front (still-old Back (is-old Back o)))

      in-back-block : i ≡ k + 1 + k → j ≡ all → Left e
      in-back-block o h = new-stands e stands (go (state Back e i j (omega arith) (omega arith) b (x Back)))
        where
          go : IsOld Back e ⊎ (IsNew Back e ⊎ IsRefused Back e) → GivesNew e
          go (inl p) = gives-newer e c.sound front (still-old Back p)
          go (inr (inl p)) = gives_both e c.sound front (now-new Back (omega arith) p)
          go (inr (inr p)) = gives-front e c.sound front p

      -- and so has everything
      after_last : k + 1 + k < i → NewHeld Back e
      after_last o = now-new Back (omega arith) (is-new Back (omega arith))

  starts_at : (g : ℕ) → group_start groups g ≡ starting k g
  starts_at = group_starts (copy Front) (copy Back) t r

  past : (g : ℕ) → starting k (suc (suc (suc (suc g)))) ≡ all
  past zero = let z : starting k (suc (suc (suc (suc zero)))) ≡ k + (1 + (k + 1)) = refl in omega arith
  past (suc g) = let z : starting k (suc (suc (suc (suc (suc g))))) ≡ k + (1 + (k + 1)) = refl in omega arith

  -- a cut in any of the four groups, or after the last
  module _ (e : Sectors) where
    abbrev Known : ℕ → ℕ → Type 0
    Known i j =
        (w : Side) → (e (block_sector w v) ≡ landed (store_in groups) i d (block_sector w v) → ⊥) → (e (block_sector w v) ≡ landed (store_in groups) j d (block_sector w v) → ⊥)
        → Accepted (e (block_sector w v)) → ⊥

    by_group_lem : (g : ℕ) → Known (starting k g) (starting k (suc g)) → Cut (store_in groups) (starting k g) (starting k (suc g)) d e → Left e
    by_group_lem zero x c = in_front_area e (starting k 0) (starting k 1) x (omega arith) (omega arith) c (omega arith)
    by_group_lem (suc zero) x c = in-front-block e (starting k 1) (starting k 2) x (omega arith) (omega arith) c (omega arith) (omega arith)
    by_group_lem (suc (suc zero)) x c = in-back-area e (starting k 2) (starting k 3) x (omega arith) (omega arith) c (omega arith) (omega arith)
    by_group_lem (suc (suc (suc zero))) x c = in-back-block e (starting k 3) (starting k 4) x (omega arith) (omega arith) c (omega arith) (omega arith) (omega arith)
    by_group_lem (suc (suc (suc (suc g)))) x c =
        let a : starting k (suc (suc (suc (suc g)))) ≡ all = past g in
        let b : starting k (suc (suc (suc (suc (suc g))))) ≡ all = past (suc g) in
        new-stands e (stands e (starting k (suc (suc (suc (suc g))))) (starting k (suc (suc (suc (suc (suc g)))))) x (omega arith) (omega arith) c (omega arith))
        (gives_both e c.sound (front e (starting k (suc (suc (suc (suc g))))) (starting k (suc (suc (suc (suc (suc g)))))) x (omega arith) (omega arith) c (omega arith))
        (after_last e (starting k (suc (suc (suc (suc g))))) (starting k (suc (suc (suc (suc (suc g)))))) x (omega arith) (omega arith) c (omega arith) (omega arith)))

    at-end : (g : ℕ) → 4 ≤ g → Known (starting k g) (starting k (suc g)) → Cut (store_in groups) (starting k g) (starting k (suc g)) d e → IsNew Front e × Ready v e t r
    at-end (suc (suc (suc (suc g)))) h x c =
        let a : starting k (suc (suc (suc (suc g)))) ≡ all = past g in
        let b : starting k (suc (suc (suc (suc (suc g))))) ≡ all = past (suc g) in (
          stands e (starting k (suc (suc (suc (suc g))))) (starting k (suc (suc (suc (suc (suc g)))))) x (omega arith) (omega arith) c (omega arith),
          made_ready v e c.sound (front e (starting k (suc (suc (suc (suc g))))) (starting k (suc (suc (suc (suc (suc g)))))) x (omega arith) (omega arith) c (omega arith))
              (after_last e (starting k (suc (suc (suc (suc g))))) (starting k (suc (suc (suc (suc (suc g)))))) x (omega arith) (omega arith) c (omega arith) (omega arith)) (changed-device Front) (changed-device Back) t refl refl,
        )
    at-end zero h x c = absurd (let o : ◌≡◌ {A = ℕ} 0 1 = omega arith in omega arith)
    at-end (suc zero) h x c = absurd (let o : ◌≡◌ {A = ℕ} 0 1 = omega arith in omega arith)
    at-end (suc (suc zero)) h x c = absurd (let o : ◌≡◌ {A = ℕ} 0 1 = omega arith in omega arith)
    at-end (suc (suc (suc zero))) h x c = absurd (let o : ◌≡◌ {A = ℕ} 0 1 = omega arith in omega arith)

    outcome : (g : ℕ) → CutIn groups g d e → (Excused v groups g d e → ⊥) → Outcome v d e u q t r g
    outcome g c x =
        record {
          new = left.0;
          only_new = λ h. elim-new h;
          old = left.1;
          landed = λ h. at-end g h known cut;
        }
      where
        cut : Cut (store_in groups) (starting k g) (starting k (suc g)) d e
        cut =
            subst (λ (n : ℕ). Cut (store_in groups) n (starting k (suc g)) d e) (starts_at g)
            (subst (λ (n : ℕ). Cut (store_in groups) (group_start groups g) n d e) (starts_at (suc g)) c)

        known : Known (starting k g) (starting k (suc g))
        known w p o a =
            x (
              w,
              (λ h. p (h ∙ ap (λ (n : ℕ). landed (store_in groups) n d (block_sector w v)) (starts_at g))),
              (λ h. o (h ∙ ap (λ (n : ℕ). landed (store_in groups) n d (block_sector w v)) (starts_at (suc g)))),
              a,
            )

        left : Left e
        left = by_group_lem g known cut

        elim-new : Gives (copy_from Front v e) (copy_from Back v e) t r → IsNew Front e
        elim-new h = go (split (e (block_sector Front v)) (new_block (copy Front) t r) (same (e (block_sector Front v)) (new_block (copy Front) t r)) refl)
          where
            go : (IsNew Front e) ⊎ (IsNew Front e → ⊥) → IsNew Front e
            go (inl p) = p
            go (inr p) = absurd (times-apart e (left.1 p) h)

  -- each store goes to its block or its area
  fits : (i : ℕ) → i < all → Fits v (store_in groups i)
  fits =
      by_side k (λ (i : ℕ). Fits v (store_in groups i)) (λ w i m.
      elim (ℕ_discrete i k) [
        | yes e ↦ subst (λ (n : ℕ). Fits v (store_in groups (begin k w + n))) (sym e) (subst (Fits v) (sym (laid w).block)
            (record { side = w; place = inl refl; below = block_below v its_sizes w; size = new-size w }))
        | no e ↦
            let a : i < k = omega arith in
            let y : k ≤ area_sectors = sectors-within (length r) (length_facts (length r) its_length).1 in
            let n : k ≤ 1020 = tiny in
            subst (Fits v) (sym ((laid w).area i a))
            (record {
              side = w;
              place = inr (spare (copy w), (i, (omega arith, refl)));
              below = area_below v its_sizes w (spare (copy w)) i (omega arith);
              size = length_sector r i;
            })
      ])

  -- which store goes where
  at_area : (w : Side) → starting k (area_group w) ≡ begin k w
  at_area Front = refl
  at_area Back = let z : starting k 2 ≡ k + 1 = refl in z

  at-block_group : (w : Side) → starting k (block_group w) ≡ begin k w + k
  at-block_group Front = let z : starting k 1 ≡ k + 0 = refl in omega arith
  at-block_group Back = let z : starting k 3 ≡ k + (1 + (k + 0)) = refl in omega arith

  area_same : (x y : Area) (h i : Holding) → present_at x h ≡ present_at y i → x ≡ y
  area_same x y h i e = ap (λ (q : Present). q.area) (some-same (record_at x h) (record_at y i) e)

  places : Places v d t r
  places =
      record {
        area = λ w x h e j l.
            let n : present w ≡ x = area_same (present w) x (held_in (copy w)) h (sym (stepped-present copy stepped w) ∙ e) in
            ap (λ (m : ℕ). store_in groups (m + j)) (starts_at (area_group w) ∙ at_area w)
            ∙ ((laid w).area j l ∙ ap (λ (y : Area). record { sector = area_sector w (other_area y) v + j; content = sector_of r j }) n);
        block = λ w. ap (store_in groups) (starts_at (block_group w) ∙ at-block_group w) ∙ (laid w).block;
      }

  -- the stores that the plan gives
  sectors-fit : v.sectors < 256 ^ 8
  sectors-fit = subst (λ (w : Device). w.sectors < 256 ^ 8) says (number_fits (block_in (copy Front)) 20 8)

  abbrev plan : Plan
  plan = plan_on v d t r

  abbrev part : Side → Part
  part w = record { area = area_sector w (spare (copy w)) v; block = block_sector w v; fields = newFields w }

  -- A side's copy c in which the block still stands: what a plan's store gives depends on nothing else of it.
  module _ (w : Side) (c : List ℕ) (right-size : is_copy c ≡ true) (same_block : block_in c ≡ block_in (copy w)) (out : List ℕ) (room : length out ≡ 512) where
    its-part : part_on w (spare (copy w)) (holding_for t r) c ≡ part w
    its-part = ap with-block same_block ∙ ap (λ (z : Device). record { area = area_sector w (spare (copy w)) z; block = block_sector w z; fields = newFields w }) (old-device w)
      where
        with-block : List ℕ → Part
        with-block b =
            record {
              area = area_sector w (spare (copy w)) (device_of b);
              block = block_sector w (device_of b);
              fields = with_entry (fields_of b) (spare (copy w)) (Some (holding_for t r));
            }

    given-area : (j : ℕ) → j < k
        → (part_given (part w) k c r j out ≡ Ok (area_sector w (spare (copy w)) v + j)) × (part_left (part w) k c r j out ≡ sector_of r j)
    given-area j l =
        let m : k ≤ 1020 = tiny in
        let a : area_sector w (spare (copy w)) v + j < v.sectors = area_below v its_sizes w (spare (copy w)) j (omega arith) in
        let b : v.sectors < 256 ^ 8 = sectors-fit in
        let h : area_sector w (spare (copy w)) v ≤ 18446744073709551615 - j = omega arith in
        area_given (part w) k c r j out right-size room its_length (omega arith) l h

    given-block : (part_given (part w) k c r k out ≡ Ok (block_sector w v)) × (part_left (part w) k c r k out ≡ new_block (copy w) t r)
    given-block =
        part_given_lem (part w) k c r k out right-size room its_length (le_refl k) (le_refl k) (block_sector w v) (new_block (copy w) t r)
        (block_given_lem (block_sector w v) (newFields w) c out (new_block (copy w) t r) right-size
        (ap (λ (b : List ℕ). first (write_tests out (pool_of b) (blockdev_of b) (newFields w))) same_block
        ∙ new-writes (copy w) (stepped.accepted w) (held_in (copy w)) (its_used w) t r s.fits its_time its_length (its_later w) out room)
        (ap (λ (b : List ℕ). written out (pool_of b) (blockdev_of b) (newFields w)) same_block
        ∙ new-written (copy w) (stepped.accepted w) (held_in (copy w)) (its_used w) t r s.fits its_time its_length (its_later w) out room))

    -- store j of a side is the store that the update has at its number
    given-store : (j : ℕ) → j ≤ k
        → (part_given (part w) k c r j out ≡ Ok (store_in groups (begin k w + j)).sector)
        × (part_left (part w) k c r j out ≡ (store_in groups (begin k w + j)).content)
    given-store j l =
        elim (ℕ_discrete j k) [
          | yes e ↦
              rw e
              (given-block.0 ∙ ap (λ (q : Store). Ok q.sector) (sym (laid w).block), given-block.1 ∙ ap (λ (q : Store). q.content) (sym (laid w).block))
          | no e ↦ (
            (given-area j (omega arith)).0 ∙ ap (λ (q : Store). Ok q.sector) (sym ((laid w).area j (omega arith))),
            (given-area j (omega arith)).1 ∙ ap (λ (q : Store). q.content) (sym ((laid w).area j (omega arith))),
          )
        ]

  -- what the plan's stores give with two copies, where that of the store's side has its block as it was
  module _ (f b : List ℕ) (lent : sized f b ≡ true) (out : List ℕ) (room : length out ≡ 512) where
    -- no test refuses a store that is there
    passes : (i : ℕ) → i < stores_in plan → (w : Side) → block_in (copy_of plan i f b) ≡ block_in (copy w) → first (store_tests plan f b r i out) ≡ 0
    passes i l w e =
        first_all (store_tests plan f b r i out) (
          lent_right_lem f b out lent room,
          (
            its_length,
            (
              eq-eqb (length r) (length r) refl,
              (lt-ltb i (stores_in plan) l, subst (λ (c : List ℕ). AllHold (device_tests (device_of c))) (sym e) (device-accepted (block_in (copy w)) (stepped.accepted w))),
            ),
          ),
        )

    abbrev GivenAt : ℕ → Type 0
    GivenAt i = (store_answer plan f b r i out ≡ Ok (store_in groups i).sector) × (store_bytes plan f b r i out ≡ (store_in groups i).content)

    front-given : block_in f ≡ block_in (copy Front) → (j : ℕ) → j ≤ k → GivenAt (begin k Front + j)
    front-given e j l =
        let its : block_in (copy_of plan (0 + j) f b) ≡ block_in f = ap (λ (a : Bool). block_in (cond a f b)) (le-leb (0 + j) k (omega arith)) in
        let n : j ≡ 0 + j = omega arith in
        let g : (part_given (part Front) k f r j out ≡ Ok (store_in groups (0 + j)).sector) × (part_left (part Front) k f r j out ≡ (store_in groups (0 + j)).content) =
        given-store Front f (and_left (is_copy f) (is_copy b) lent) e out room j l in
        let p : part_on Front (spare (copy Front)) (holding_for t r) f ≡ part Front = its-part Front f (and_left (is_copy f) (is_copy b) lent) e out room in
        let x = front_store plan f b r (0 + j) out (passes (0 + j) (omega arith) Front (its ∙ e)) (omega arith) in (
          x.0 ∙ (ap₂ (λ (a : Part) (i : ℕ). part_given a k f r i out) p (sym n) ∙ g.0),
          x.1 ∙ (ap₂ (λ (a : Part) (i : ℕ). part_left a k f r i out) p (sym n) ∙ g.1),
        )

    back-given : block_in b ≡ block_in (copy Back) → (j : ℕ) → j ≤ k → GivenAt (begin k Back + j)
    back-given e j l =
        let its : block_in (copy_of plan (k + 1 + j) f b) ≡ block_in b = ap (λ (a : Bool). block_in (cond a f b)) (lt-leb (k + 1 + j) k (omega arith)) in
        let n : j ≡ k + 1 + j - (k + 1) = omega arith in
        let g : (part_given (part Back) k b r j out ≡ Ok (store_in groups (k + 1 + j)).sector) × (part_left (part Back) k b r j out ≡ (store_in groups (k + 1 + j)).content) =
        given-store Back b (and_right (is_copy f) (is_copy b) lent) e out room j l in
        let p : part_on Back (spare (copy Back)) (holding_for t r) b ≡ part Back = its-part Back b (and_right (is_copy f) (is_copy b) lent) e out room in
        let x = back_store plan f b r (k + 1 + j) out (passes (k + 1 + j) (omega arith) Back (its ∙ e)) (omega arith) in (
          x.0 ∙ (ap₂ (λ (a : Part) (i : ℕ). part_given a k b r i out) p (sym n) ∙ g.0),
          x.1 ∙ (ap₂ (λ (a : Part) (i : ℕ). part_left a k b r i out) p (sym n) ∙ g.1),
        )

    -- past the last
    none-given : (i : ℕ) → all ≤ i → (store_answer plan f b r i out ≡ Err (reason no_such_store)) × (store_bytes plan f b r i out ≡ out)
    none-given i l =
        let n : 2 * k + 2 ≤ i = omega arith in
        none_store plan f b r i out no_such_store
        (first-pass (lent_right f b out) 1 _ (lent_right_lem f b out lent room)
        ∙ (first-pass (length_allowed (length r)) 15 _ its_length
        ∙ (first-pass (eqb (length r) (length r)) 1 _ (eq-eqb (length r) (length r) refl) ∙ first_fail (ltb i (stores_in plan)) 23 _ (le-ltb i (stores_in plan) n))))
        (λ z. omega arith)

  -- the device after the first j stores, and its copies: a side's block stands as it was until its own store, the last of the side
  module _ (j : ℕ) (most : j ≤ all) where
    abbrev after : Sectors
    after = landed (store_in groups) j d

    after-sound : Sound after
    after-sound = record { size = landed-size (store_in groups) d sd.size j (λ i l. (fits i (omega arith)).size) }

    after-sized : sized (copy_from Front v after) (copy_from Back v after) ≡ true
    after-sized = sized_copies v after after after-sound after-sound

    after_block : (w : Side) → j ≤ begin k w + k → block_in (copy_from w v after) ≡ block_in (copy w)
    after_block w l = at_block w after after-sound ∙ (OneSide.block-kept (laid w) d j l ∙ sym (at_block w d sd))

    all-given : (out : List ℕ) (room : length out ≡ 512) (i : ℕ) → i < all → j ≤ i → GivenAt (copy_from Front v after) (copy_from Back v after) after-sized out room i
    all-given out room = by_side k (λ (i : ℕ). j ≤ i → GivenAt (copy_from Front v after) (copy_from Back v after) after-sized out room i) on
      where
        on : (w : Side) (i : ℕ) → i ≤ k → j ≤ begin k w + i → GivenAt (copy_from Front v after) (copy_from Back v after) after-sized out room (begin k w + i)
        on Front i h l = front-given (copy_from Front v after) (copy_from Back v after) after-sized out room (after_block Front (omega arith)) i h
        on Back i h l = back-given (copy_from Front v after) (copy_from Back v after) after-sized out room (after_block Back (omega arith)) i h

  no_group : (i : ℕ) → all ≤ i → group_of plan i ≡ 4
  no_group i l = in_none plan i (omega arith) (omega arith)

  -- where a flush belongs
  some : 1 ≤ k
  some = sectors-least (length r) (length_facts (length r) its_length).0

  ends-within : (g : ℕ) → g < 4 → starting k (suc g) ≤ all
  ends-within zero h = omega arith
  ends-within (suc zero) h = omega arith
  ends-within (suc (suc zero)) h = omega arith
  ends-within (suc (suc (suc zero))) h = omega arith
  ends-within (suc (suc (suc (suc g)))) h = absurd (let o : ◌≡◌ {A = ℕ} 0 1 = omega arith in omega arith)

  -- the store after a group's last is in another
  next_group : (g i : ℕ) → g < 4 → i ≡ starting k (suc g) → group_of plan i ≡ suc g
  next_group zero i h e = Choosing.in_front_block plan i (omega arith)
  next_group (suc zero) i h e = let o : 1 ≤ k = some in Choosing.in_back_area plan i (omega arith) (omega arith)
  next_group (suc (suc zero)) i h e = Choosing.in_back_block plan i (omega arith) (omega arith)
  next_group (suc (suc (suc zero))) i h e = in_none plan i (omega arith) (omega arith)
  next_group (suc (suc (suc (suc g)))) i h e = absurd (let o : ◌≡◌ {A = ℕ} 0 1 = omega arith in omega arith)

  module _ (g i : ℕ) (h : g < 4) (a : group_start groups g ≤ i) (b : i < group_start groups (suc g)) where
    flush_by : (m : ℕ) → group_of plan (suc i) ≡ m → flush_after plan i ≡ not (eqb g m)
    flush_by m e =
        let p : group_start groups (suc g) ≡ starting k (suc g) = starts_at (suc g) in
        let q : starting k (suc g) ≤ all = ends-within g h in
        flush_at plan i (omega arith) g m (grouped (copy Front) (copy Back) t r plan refl g i h a b) e

    flushes : flush_after plan i ≡ true ↔ suc i ≡ group_start groups (suc g)
    flushes = (
      λ f. elim (ℕ_discrete (suc i) (group_start groups (suc g))) [
        | yes e ↦ e
        | no e ↦
            absurd
            (true≢false
            (sym f ∙ (flush_by g (grouped (copy Front) (copy Back) t r plan refl g (suc i) h (omega arith) (omega arith)) ∙ ap not (eq-eqb g g refl))))
      ],
      λ e. flush_by (suc g) (next_group g (suc i) h (e ∙ starts_at (suc g))) ∙ ap not (ne_eqb g (suc g) (λ z. omega arith)),
    )

  -- its number is 0
  number : update_number (copy Front) (copy Back) t r ≡ 0
  unfolding update_number
  number =
      ap (λ (a : Result Found Reason). number_after a (copy Front) (copy Back) t r) (stepped-found copy stepped)
      ∙ first_all (tests_after (is_in_step (copy Front) (copy Back)) (fields Front).device (time_of (held_in (copy Front))) t r) (
        s.ready.in_step.0,
        (its_time, (its_later Front, subst (λ (z : Device). AllHold (content_tests z r)) (sym says) its_content)),
      )

pub demand3 : Demand3
demand3 v d u q t r s = (
  (λ i l. fits v d u q t r s i (subst (λ (n : ℕ). i < n) (stores-count v d u q t r s) l)),
  (groups_four (copy_from Front v d) (copy_from Back v d) t r, λ e g c x. outcome v d u q t r s e g c x),
)

-- before the first store the copies are as they were
pub copy-before : (v : Device) (d : Sectors) (t : Time) (r : List ℕ) (w : Side) → copy_after v d t r 0 w ≡ copy_from w v d
unfolding landed
copy-before v d t r w = refl

pub placing : Placing
placing v d u q t r s = places v d u q t r s

pub giving : Giving
giving v d u q t r s =
    record {
      number = number v d u q t r s;
      plan = told_zero (update_number (copy_from Front v d) (copy_from Back v d) t r) (named (update_number (copy_from Front v d) (copy_from Back v d) t r) r) (plan_on v d t r) (number v d u q t r s);
      count =
          (let e : 2 * sectors_of (length r) + 2 ≡ sectors_of (length r) + 1 + sectors_of (length r) + 1 = omega arith in e) ∙ sym (stores-count v d u q t r s);
      two_k_two = refl;
      grouped = λ g i h a b. grouped (copy_from Front v d) (copy_from Back v d) t r (plan_on v d t r) refl g i h a b;
      no_group = λ i l. no_group v d u q t r s i (subst (λ (n : ℕ). n ≤ i) (stores-count v d u q t r s) l);
      flush = λ g i h a b. flushes v d u q t r s g i h a b;
      no_flush = λ i l. flush_past (plan_on v d t r) i (let c : length (stores (groups_on v d t r)) ≡ sectors_of (length r) + 1 + sectors_of (length r) + 1 = stores-count v d u q t r s in omega arith);
      store = λ j i out h l room.
          let n : i < sectors_of (length r) + 1 + sectors_of (length r) + 1 = subst (λ (n : ℕ). i < n) (stores-count v d u q t r s) l in
          all-given v d u q t r s j (omega arith) out room i n h;
      no_store = λ j i out h l room.
          let m : j ≤ sectors_of (length r) + 1 + sectors_of (length r) + 1 = subst (λ (n : ℕ). j ≤ n) (stores-count v d u q t r s) h in
          none-given v d u q t r s (copy_after v d t r j Front) (copy_after v d t r j Back) (after-sized v d u q t r s j m) out room i
          (subst (λ (n : ℕ). n ≤ i) (stores-count v d u q t r s) l);
    }
