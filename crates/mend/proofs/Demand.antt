-- What mending promises of the device, proved.
use Prim.Native.Nat.{ℕ, suc, ◌+◌, ◌≤◌, ◌<◌}
use mathlib.Core.Path.{◌≡◌, refl, sym, ap, ap₂, subst, ◌∙◌}
use mathlib.Core.Bool.{Bool, true, false, cond}
use mathlib.Core.Logic.{inl, inr}
use mathlib.Core.List.{List, [], flatten}
use native.Mathlib.Nat.{not-suc-le-zero}
use native.Mathlib.Decide.{ℕ_discrete}
use native.Mathlib.Omega.{arith}
use borrow.Author.Tests.{eq-eqb}
use lib.ListN.{length}
use Rattle.std.specs.Prelude.{Option, Some, None, Result, Ok, Err}
use Rattle.refusal.specs.declared.Reason.{Reason}
use Rattle.refusal.specs.Reasons.{reason}
use Rattle.layout.specs.declared.Device.{Device}
use Rattle.layout.specs.declared.Side.{Side}
use Rattle.layout.specs.declared.Side.TheVariants.{Front, Back}
use Rattle.layout.specs.declared.Area.{Area}
use Rattle.mend.specs.declared.Rewrite.{Rewrite}
use Rattle.layout.specs.declared.Area.TheVariants.{A}
use Rattle.layout.specs.Places.{block_sector, copy_bytes}
use Rattle.block.specs.declared.Time.{Time}
use Rattle.block.specs.declared.Holding.{Holding}
use Rattle.block.specs.declared.BlockFields.{BlockFields}
use Rattle.block.specs.declared.Reading.{Reading}
use Rattle.block.specs.Entry.{time_of}
use Rattle.block.specs.Block.{pool_of, blockdev_of, fields_of, accepted_reading}
use Rattle.block.proofs.Readings.{accepted_reading_lem}
use Rattle.block.proofs.Demand as Block
use Rattle.discovery.specs.declared.Finding.{Finding}
use Rattle.discovery.specs.declared.Found.{Found}
use Rattle.copy.specs.Copy.{record_at, device_in, block_in, entry_in, other_side, newest}
use Rattle.copy.specs.Demand.{AcceptedCopy, WholeArea, LaterEntry}
use Rattle.copy.proofs.Demand.{copy-sized, later-newest, newest-whole, whole-newest}
use Rattle.discovery.specs.Discovery.{found_with, finding_of, is_in_step, copy_on, record_bytes}
use Rattle.discovery.specs.Newest.{time_at}
use Rattle.discovery.proofs.Latest.{found-same}
use Rattle.crash.specs.Crash.{Sectors, Sound, Store, Groups, stores, store_in, landed, all_landed, area_sectors, copy_from}
use Rattle.crash.proofs.Landing.{landed-size}
use Rattle.crash.proofs.Copies.{length-copy}
use Rattle.stores.specs.Stores.{sectors_of, holding_for, with_entry}
use Rattle.stores.specs.States.{Gives, Ready, Answered, Fits, AllFit}
use Rattle.stores.proofs.Holding.{held_in, record_in, Holds}
use Rattle.stores.proofs.Blocks.{device_kept}
use Rattle.stores.proofs.InStep.{Stepped, in_step_facts, reading_facts}
use Rattle.stores.proofs.Discovering.{gives}
use Rattle.stores.proofs.States.{stepped-found, made_ready}
use Rattle.stores.proofs.Facts.{sized_copies}
use Rattle.stores.proofs.Padding.{sectors_few, sectors-within, length_sector}
use Rattle.stores.proofs.OneCopy.{stepped-held}
use Rattle.stores.proofs.Places.{Sizes, sizes_accepted, area_below, block_below}
use Rattle.mend.specs.Mend.{block_like, emptied, refilled, blanked, later_whole, rewriting, groups_after, mend_groups}
use Rattle.mend.specs.Plan.{rewrite_of, mending_after, mending, store_answer, store_bytes}
use Rattle.mend.specs.Demand.{after, Serving, Mended, Counts, Counting, BlockFor, Rewrites, Rewriting, Goes, Touching, GivenAfter, NoneAfter, GoesOn, Going}
use Rattle.mend.proofs.Giving.{none_number_lem, given, past}
use Rattle.mend.proofs.Kept.{Kept, kept_small, held, kept, found_is, found_time, found_long}
use Rattle.mend.proofs.Blocks.{Right, right-empty, right-filled, right_blank, like-reads, like-size}
use Rattle.mend.proofs.Stores.{by_store, start_one, start_two, start_three, count-whole, count-blank}
use Rattle.mend.proofs.Landing.{first-at, sector_at_lem, second_at, last-at, some_sound, end_sound, stays_copy, other_holds, kept_whole, kept_blank}

-- entries that are used and the same say the same
used-same : (h k : Holding) → ◌≡◌ {A = Option Holding} (Some h) (Some k) → h ≡ k
used-same h k e = cc

-- the copy of a side
side_copy : (v : Device) (d : Sectors) (s : Side) → copy_on s (copy_from Front v d) (copy_from Back v d) ≡ copy_from s v d
side_copy v d Front = refl
side_copy v d Back = refl

-- both sides hold the record, whichever is called which
both_hold : (v : Device) (e : Sectors) → Sound e → (w : Side) {g j : BlockFields} {p u : List ℕ} {x y : Area} {h : Holding} {r : List ℕ}
    → Holds (copy_from w v e) g p u x h r → Holds (copy_from (other_side w) v e) j p u y h r → g.device ≡ v → j.device ≡ v → Ready v e (time_of h) r
both_hold v e se Front {g} {j} {p} {u} {x} {y} {h} m n i k = made_ready v e se m n i k (time_of h) refl refl
both_hold v e se Back {g} {j} {p} {u} {x} {y} {h} m n i k = made_ready v e se n m k i (time_of h) refl refl

module _ (v : Device) (d : Sectors) (t : Time) (r₀ : List ℕ) (s : Answered v d t r₀) where
  abbrev q : Finding
  q = s.gives.found

  abbrev f : List ℕ
  f = copy_from Front v d

  abbrev b : List ℕ
  b = copy_from Back v d

  abbrev r : List ℕ
  r = record_bytes q f b

  abbrev h : Holding
  h = held f b q s.gives.other s.gives.answers

  abbrev c : List ℕ
  c = copy_from q.side v d

  itself : Kept c q.area h r
  itself = subst (λ (z : List ℕ). Kept z q.area h r) (side_copy v d q.side) (kept f b q s.gives.other s.gives.answers)

  sizes : Sizes v
  sizes = subst Sizes s.says (sizes_accepted (block_in c) itself.accepted)

  -- its groups
  groups : mend_groups f b ≡ cond (is_in_step f b) [] (rewriting q.side c q.area r)
  unfolding mend_groups
  groups =
      ap (λ (a : Result Found Reason). groups_after a f b) s.gives.answers
      ∙ ap (λ (z : List ℕ). cond (is_in_step f b) [] (rewriting q.side z q.area r)) (side_copy v d q.side)

  -- the record and its time, as they were given
  its_record : r ≡ r₀
  its_record = s.gives.starts

  its_time : time_at q ≡ t
  its_time = λ i. record { seconds = s.gives.seconds i; nanoseconds = s.gives.nanoseconds i }

  -- not in step: the stores have landed
  abbrev end : Sectors
  end = all_landed (rewriting q.side c q.area r) d

  other_device : (refilled (device_in c) (Some h)).device ≡ v
  other_device = s.says

  rewritten : Ready v end (time_at q) r
  rewritten = subst (λ (u : Time). Ready v end u r) (sym (found_time f b q s.gives.other s.gives.answers)) (go (later_whole c) refl)
    where
      go : (u : Bool) → later_whole c ≡ u → Ready v end (time_of h) r
      go true n =
          both_hold v end (end_sound q.side v d s.sound s.says q.area h r itself) q.side
          (kept_whole q.side v d s.sound s.says q.area h r itself n) (other_holds q.side v d s.sound s.says q.area h r itself) s.says other_device
      go false n =
          both_hold v end (end_sound q.side v d s.sound s.says q.area h r itself) q.side
          (kept_blank q.side v d s.sound s.says q.area h r itself n) (other_holds q.side v d s.sound s.says q.area h r itself)
          (device_kept (fields_of (block_in c)) (newest (fields_of (block_in c))) None ∙ s.says) other_device

  -- in step: nothing is stored
  module _ (i : is_in_step f b ≡ true) where
    stepped : Stepped (λ (w : Side). copy_from w v d)
    stepped = in_step_facts (λ (w : Side). copy_from w v d) i

    -- what discovery found is the front's
    is_front : q ≡ finding_of Front (fields_of (block_in f)) (record_at (newest (fields_of (block_in f))) (held_in f))
    is_front =
        found-same (finding_of Front (fields_of (block_in f)) (record_at (newest (fields_of (block_in f))) (held_in f))) _ q s.gives.other
        (sym s.gives.answers ∙ stepped-found (λ (w : Side). copy_from w v d) stepped)

    front-says : device_in f ≡ v
    front-says = sym (ap (λ (z : Finding). device_in (copy_from z.side v d)) is_front) ∙ s.says

    holds : (w : Side) → Holds (copy_from w v d) (fields_of (block_in (copy_from w v d))) (pool_of (block_in f)) (blockdev_of (block_in f))
        (newest (fields_of (block_in (copy_from w v d)))) (held_in (copy_from w v d)) (record_in f)
    holds w = stepped-held v d s.sound sizes stepped w d s.sound refl (λ n l. refl)

    untouched : Ready v d (time_at q) r
    untouched =
        subst (λ (z : Finding). Ready v d (time_at z) (record_bytes z f b)) (sym is_front)
        (made_ready v d s.sound (holds Front) (holds Back) front-says (sym stepped.device ∙ front-says) (time_of (held_in f)) refl (stepped.times Back))

  done : (u : Bool) → is_in_step f b ≡ u → Ready v (all_landed (cond u [] (rewriting q.side c q.area r)) d) (time_at q) r
  unfolding flatten landed
  done true i = untouched i
  done false i = rewritten

  all_done : Ready v (after v d) t r₀
  all_done =
      subst (λ (u : Time). Ready v (after v d) u r₀) its_time
      (subst (λ (z : List ℕ). Ready v (after v d) (time_at q) z) its_record (subst (λ (g : Groups). Ready v (all_landed g d) (time_at q) r) (sym groups) (done (is_in_step f b) refl)))

  -- how many stores
  chosen : (u : Bool) → is_in_step f b ≡ u → mend_groups f b ≡ cond u [] (rewriting q.side c q.area r)
  chosen u e = groups ∙ ap (λ (z : Bool). cond z [] (rewriting q.side c q.area r)) e

  counts : Counts v d t r₀ q
  counts =
      record {
        in_step = λ e.
            (chosen true e, subst (λ (w : Time). Ready v d w r₀) its_time (subst (λ (z : List ℕ). Ready v d (time_at q) z) its_record (untouched e)));
        whole = λ e h.
            ap (λ (g : Groups). length (stores g)) (chosen false e)
            ∙ (count-whole q.side c q.area r h ∙ ap (λ (z : List ℕ). sectors_of (length z) + 2) its_record);
        torn = λ e h.
            ap (λ (g : Groups). length (stores g)) (chosen false e)
            ∙ (count-blank q.side c q.area r h ∙ ap (λ (z : List ℕ). sectors_of (length z) + 3) its_record);
      }

  -- the stores, one by one
  is_accepted : AcceptedCopy c
  is_accepted =
      record {
        size = copy-sized c (eq-eqb (length c) copy_bytes (length-copy q.side v d s.sound));
        block = (Block.exactly (block_in c)).1 (accepted_reading (block_in c)) (accepted_reading_lem (block_in c) itself.accepted);
      }

  its_entry : refilled (device_in c) (entry_in (fields_of (block_in c)) q.area) ≡ record { device = v; a = Some (holding_for (time_of h) r); b = None }
  its_entry =
      let e : h ≡ holding_for (time_of h) r = λ i. record { seconds = h.seconds; nanoseconds = h.nanoseconds; bytes = itself.long i; checksum = itself.sum i } in
      ap₂ refilled s.says (itself.entry ∙ ap Some e)

  block_for : (w : Side) (g : BlockFields) (z : Store) → z ≡ record { sector = block_sector w v; content = block_like c g } → Right c g → BlockFor v w g c z
  block_for w g z e k =
      subst (BlockFor v w g c) (sym e) (record { place = refl; reads = like-reads c itself.accepted g k })

  later_torn : (y : Area) (i : Holding) → LaterEntry c y i → (WholeArea c y i → ⊥) → later_whole c ≡ false
  later_torn y i l n = go (later_whole c) refl
    where
      go : (u : Bool) → later_whole c ≡ u → later_whole c ≡ false
      go false e = e
      go true e =
          let w : (j : Holding) × LaterEntry c (newest (fields_of (block_in c))) j × WholeArea c (newest (fields_of (block_in c))) j = newest-whole c is_accepted e in
          let o : WholeArea c y w.0 = subst (λ (x : Area). WholeArea c x w.0) (later-newest c is_accepted y i l) w.2 in
          absurd (n (subst (WholeArea c y) (used-same w.0 i (sym o.used ∙ l.used)) o))

  rewrites : Rewrites v q.side c (time_of h) r (rewriting q.side c q.area r)
  rewrites =
      record {
        second = start_one q.side c q.area r;
        third = start_two q.side c q.area r;
        fourth = start_three q.side c q.area r;
        empty =
            subst (λ (u : Device). BlockFor v (other_side q.side) (record { device = u; a = None; b = None }) c (store_in (rewriting q.side c q.area r) 0)) s.says
            (block_for (other_side q.side) (emptied (device_in c)) _ (first-at q.side v d s.sound s.says q.area h r itself) (right-empty c itself.accepted));
        filled = sector_at_lem q.side v d s.sound s.says q.area h r itself;
        entry =
            subst (λ (g : BlockFields). BlockFor v (other_side q.side) g c (store_in (rewriting q.side c q.area r) (suc (sectors_of (length r))))) its_entry
            (block_for (other_side q.side) _ _ (second_at q.side v d s.sound s.says q.area h r itself) (right-filled c itself.accepted q.area));
        whole = λ y i l w. count-whole q.side c q.area r (whole-newest c is_accepted y i l w);
        torn = λ y i l n.
            let z : later_whole c ≡ false = later_torn y i l n in (
              count-blank q.side c q.area r z,
              subst (λ (x : Area). BlockFor v q.side (with_entry (fields_of (block_in c)) x None) c (store_in (rewriting q.side c q.area r) (suc (suc (sectors_of (length r))))))
                  (later-newest c is_accepted y i l)
                  (block_for q.side (blanked (fields_of (block_in c))) _ (last-at q.side v d s.sound s.says q.area h r itself z) (right_blank c itself.accepted)),
            );
      }

  all_rewrites : is_in_step f b ≡ false → Rewrites v q.side c t r₀ (mend_groups f b)
  all_rewrites e =
      subst (λ (g : Groups). Rewrites v q.side c t r₀ g) (sym (chosen false e))
      (subst (λ (u : Time). Rewrites v q.side c u r₀ (rewriting q.side c q.area r)) (sym (found_time f b q s.gives.other s.gives.answers) ∙ its_time)
      (subst (λ (z : List ℕ). Rewrites v q.side c (time_of h) z (rewriting q.side c q.area r)) its_record rewrites))

  sectors : sectors_of q.bytes ≡ sectors_of (length r)
  sectors = ap sectors_of (found_long f b q s.gives.other s.gives.answers)

  goes : (i : ℕ) → i < length (stores (rewriting q.side c q.area r)) → Goes v q (rewriting q.side c q.area r) i
  goes =
      let k : sectors_of q.bytes ≡ sectors_of (length r) = sectors in
      by_store q.side c q.area r (Goes v q (rewriting q.side c q.area r))
      (inl (ap (λ (z : Store). z.sector) (first-at q.side v d s.sound s.says q.area h r itself)))
      (λ j m. inr (inl (j, omega arith, ap (λ (z : Store). z.sector) (sector_at_lem q.side v d s.sound s.says q.area h r itself j m))))
      (inl (ap (λ (z : Store). z.sector) (second_at q.side v d s.sound s.says q.area h r itself)))
      (λ n. inr (inr (omega arith, ap (λ (z : Store). z.sector) (last-at q.side v d s.sound s.says q.area h r itself n))))

  by_step : (u : Bool) (i : ℕ) → i < length (stores (cond u [] (rewriting q.side c q.area r))) → Goes v q (cond u [] (rewriting q.side c q.area r)) i
  unfolding flatten
  by_step true i l = absurd (not-suc-le-zero l)
  by_step false i l = goes i l

  touches : (i : ℕ) → i < length (stores (mend_groups f b)) → Goes v q (mend_groups f b) i
  touches = subst (λ (g : Groups). (i : ℕ) → i < length (stores g) → Goes v q g i) (sym groups) (by_step (is_in_step f b))

  -- each store is one that the device has room for
  fits : (i : ℕ) → i < length (stores (rewriting q.side c q.area r)) → Fits v (store_in (rewriting q.side c q.area r) i)
  fits =
      by_store q.side c q.area r (λ (i : ℕ). Fits v (store_in (rewriting q.side c q.area r) i))
      (subst (Fits v) (sym (first-at q.side v d s.sound s.says q.area h r itself)) (block_fits (other_side q.side) _ (like-size c itself.accepted _ (right-empty c itself.accepted))))
      (λ j m.
      let k : sectors_of (length r) ≤ area_sectors = sectors-within (length r) (kept_small itself) in
      let n : sectors_of (length r) ≤ 1020 = sectors_few (length r) (kept_small itself) in
      subst (Fits v) (sym (sector_at_lem q.side v d s.sound s.says q.area h r itself j m))
      (record {
        side = other_side q.side;
        place = inr (A, (j, (omega arith, refl)));
        below = area_below v sizes (other_side q.side) A j (omega arith);
        size = length_sector r j;
      }))
      (subst (Fits v) (sym (second_at q.side v d s.sound s.says q.area h r itself)) (block_fits (other_side q.side) _ (like-size c itself.accepted _ (right-filled c itself.accepted q.area))))
      (λ n. subst (Fits v) (sym (last-at q.side v d s.sound s.says q.area h r itself n)) (block_fits q.side _ (like-size c itself.accepted _ (right_blank c itself.accepted))))
    where
      block_fits : (w : Side) (z : List ℕ) → length z ≡ 512 → Fits v (record { sector = block_sector w v; content = z })
      block_fits w z l = record { side = w; place = inl refl; below = block_below v sizes w; size = l }

  fit-step : (u : Bool) (i : ℕ) → i < length (stores (cond u [] (rewriting q.side c q.area r))) → Fits v (store_in (cond u [] (rewriting q.side c q.area r)) i)
  unfolding flatten
  fit-step true i l = absurd (not-suc-le-zero l)
  fit-step false i l = fits i l

  all_fit : AllFit v (mend_groups f b)
  all_fit = subst (λ (g : Groups). (i : ℕ) → i < length (stores g) → Fits v (store_in g i)) (sym groups) (fit-step (is_in_step f b))

  -- the stores, of copies to which earlier ones were applied
  goes_on : (i j : ℕ) (out : List ℕ) → j ≤ i → i < length (stores (rewriting q.side c q.area r)) → length out ≡ 512
      → GivenAfter v d (Ok (Some (rewrite_of q))) (rewriting q.side c q.area r) j i out
  goes_on i j out a l room =
      let e : Sectors = landed (store_in (rewriting q.side c q.area r)) j d in
      let se : Sound e = some_sound q.side v d s.sound s.says q.area h r itself j (omega arith) in
      subst (λ (z : List ℕ).
      (store_answer (Ok (Some (rewrite_of q))) (copy_from Front v e) (copy_from Back v e) i out ≡ Ok (store_in (rewriting q.side z q.area r) i).sector)
      × (store_bytes (Ok (Some (rewrite_of q))) (copy_from Front v e) (copy_from Back v e) i out ≡ (store_in (rewriting q.side z q.area r) i).content))
      (side_copy v d q.side)
      (given f b q s.gives.other s.gives.answers (copy_from Front v e) (copy_from Back v e) (sized_copies v e e se se)
      (side_copy v e q.side ∙ (stays_copy q.side v d s.sound s.says q.area h r itself j (omega arith) ∙ sym (side_copy v d q.side))) out room i
      (subst (λ (z : List ℕ). i < length (stores (rewriting q.side z q.area r))) (sym (side_copy v d q.side)) l))

  -- the kept block has the found record's entry, however many were applied
  abbrev its-groups : Groups
  its-groups = rewriting q.side c q.area r

  entry_kept : (j : ℕ) → j ≤ length (stores its-groups) → entry_in (fields_of (block_in (copy_from q.side v (landed (store_in its-groups) j d)))) q.area ≡ Some h
  entry_kept j l =
      elim (ℕ_discrete j (length (stores its-groups))) [
        | yes m ↦ ap (λ (n : ℕ). entry_in (fields_of (block_in (copy_from q.side v (landed (store_in its-groups) n d)))) q.area) m ∙ go (later_whole c) refl
        | no m ↦
            ap (λ (z : List ℕ). entry_in (fields_of (block_in z)) q.area) (stays_copy q.side v d s.sound s.says q.area h r itself j (omega arith))
            ∙ itself.entry
      ]
    where
      of-holds : (g : BlockFields) (x u : List ℕ) → Holds (copy_from q.side v end) g x u q.area h r
          → entry_in (fields_of (block_in (copy_from q.side v end))) q.area ≡ Some h
      of-holds g x u k =
          ap (λ (z : Reading). entry_in z.fields q.area) (sym (reading_facts (block_in (copy_from q.side v end)) _ k.reads).1) ∙ k.entry

      go : (u : Bool) → later_whole c ≡ u → entry_in (fields_of (block_in (copy_from q.side v end))) q.area ≡ Some h
      go true n = of-holds _ _ _ (kept_whole q.side v d s.sound s.says q.area h r itself n)
      go false n = of-holds _ _ _ (kept_blank q.side v d s.sound s.says q.area h r itself n)

  goes_past : (i j : ℕ) (out : List ℕ) → j ≤ length (stores its-groups) → length (stores its-groups) ≤ i → length out ≡ 512
      → NoneAfter v d (Ok (Some (rewrite_of q))) its-groups j i out
  goes_past i j out a l room =
      let e : Sectors = landed (store_in its-groups) j d in
      let se : Sound e = some_sound q.side v d s.sound s.says q.area h r itself j a in
      past f b q s.gives.other s.gives.answers (copy_from Front v e) (copy_from Back v e) (sized_copies v e e se se)
      (ap (λ (z : List ℕ). entry_in (fields_of (block_in z)) q.area) (side_copy v e q.side)
      ∙ (entry_kept j a ∙ sym (ap (λ (z : List ℕ). entry_in (fields_of (block_in z)) q.area) (side_copy v d q.side) ∙ itself.entry)))
      out room i (subst (λ (z : List ℕ). length (stores (rewriting q.side z q.area r)) ≤ i) (sym (side_copy v d q.side)) l)

  plan : mending f b ≡ cond (is_in_step f b) (Ok None) (Ok (Some (rewrite_of q)))
  unfolding mending
  plan = ap (λ (a : Result Found Reason). mending_after a f b) s.gives.answers

  on_step : (u : Bool) → GoesOn v d (cond u (Ok None) (Ok (Some (rewrite_of q)))) (cond u [] its-groups)
  unfolding flatten
  on_step true =
      record {
        store = λ i j out a l room. absurd (not-suc-le-zero l);
        no_store = λ i j out a l room.
            let e : Sectors = landed (store_in []) j d in
            let se : Sound e = record { size = landed-size (store_in []) d s.sound.size j (λ n m. omega arith) } in
            (ap (λ (k : ℕ). Err (reason k)) (none_number_lem (copy_from Front v e) (copy_from Back v e) out (sized_copies v e e se se) room), refl);
      }
  on_step false = record { store = goes_on; no_store = goes_past }

  all_on : GoesOn v d (mending f b) (mend_groups f b)
  all_on =
      subst (λ (m : Result (Option Rewrite) Reason). GoesOn v d m (mend_groups f b)) (sym plan)
      (subst (GoesOn v d (cond (is_in_step f b) (Ok None) (Ok (Some (rewrite_of q))))) (sym groups) (on_step (is_in_step f b)))

pub serving : Serving
serving v d q o sd e says =
    record {
      sound = sd;
      gives = given;
      says = ap (λ (z : Finding). device_in (copy_from z.side v d)) (found-same q o given.found given.other (sym given.answers ∙ e)) ∙ says;
    }
  where
    given : Gives (copy_from Front v d) (copy_from Back v d) (time_at q) (record_bytes q (copy_from Front v d) (copy_from Back v d))
    given =
        gives (copy_from Front v d) (copy_from Back v d) q.side q.fields q.area (held (copy_from Front v d) (copy_from Back v d) q o e) o (time_at q) _
        (e ∙ ap (λ (z : Finding). found_with z o) (found_is (copy_from Front v d) (copy_from Back v d) q o e))
        (kept (copy_from Front v d) (copy_from Back v d) q o e).bytes (kept (copy_from Front v d) (copy_from Back v d) q o e).long
        (sym (found_time (copy_from Front v d) (copy_from Back v d) q o e))

pub counting : Counting
counting v d t r s = counts v d t r s

pub rewriting-order : Rewriting
rewriting-order v d t r s = all_rewrites v d t r s

pub mended : Mended
mended v d t r s = (all_done v d t r s, all_fit v d t r s)

pub touching : Touching
touching v d t r s = touches v d t r s

pub going : Going
going v d t r s = all_on v d t r s
