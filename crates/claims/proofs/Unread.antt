-- What is stored does not depend on sectors that could not be read.
use Prim.Native.Nat.{ℕ}
use mathlib.Core.Path.{◌≡◌, refl, sym, ap, ◌∙◌}
use mathlib.Core.Bool.{Bool, true, false, cond}
use mathlib.Core.List.{List}
use lib.Dec.{leb, eqb}
use Rattle.endian.proofs.Tests.{and_left, and_right}
use Rattle.refusal.specs.Tests.{first}
use Rattle.layout.specs.declared.Side.{Side}
use Rattle.layout.specs.declared.Side.TheVariants.{Front, Back}
use Rattle.layout.specs.declared.Area.{Area}
use Rattle.layout.specs.Places.{copy_bytes}
use Rattle.block.specs.declared.Time.{Time}
use Rattle.block.specs.declared.BlockFields.{BlockFields}
use Rattle.block.specs.declared.Reading.{Reading}
use Rattle.std.specs.Prelude.{Option, Some, None, Result, Ok, Err}
use Rattle.refusal.specs.declared.Reason.{Reason}
use Rattle.block.specs.Block.{fields_of}
use Rattle.discovery.specs.declared.Finding.{Finding}
use Rattle.discovery.specs.declared.Found.{Found}
use Rattle.copy.specs.Copy.{is_copy, block_in, area_bytes, entry_in, newest, reading_in, mapped}
use Rattle.discovery.specs.Discovery.{sized, discovery, is_in_step, copy_on, record_bytes}
use Rattle.discovery.proofs.Latest.{newest-found}
use Rattle.crash.specs.Crash.{copy_from}
use Rattle.update.specs.declared.Plan.{Plan}
use Rattle.update.specs.Update.{number_after, update_number, new_block, update_groups}
use Rattle.update.specs.Plan.{plan_for, plan_of, planned, sectors_in, stores_in, part_on, store_tests, sides_answer, sides_bytes}
use Rattle.update.specs.Plan as Update
use Rattle.mend.specs.declared.Rewrite.{Rewrite}
use Rattle.mend.specs.Mend.{block_like, later_whole, last_group, rewriting, groups_after, mend_groups}
use Rattle.mend.specs.Plan.{rewrite_of, mending_after, mending, plan_stores, part_for, rewrite_answer, rewrite_bytes, needed_tests, none_number}
use Rattle.mend.specs.Plan as Mend
use Rattle.sectors.specs.Sectors.{known, settled}
use Rattle.sectors.specs.Demand.{SameCopy, SameBoth}
use Rattle.claims.specs.Unread.{SameStores, StoredAlike, SureStored}
use Rattle.sectors.proofs.Alone.{fields_of_lem, whole_same, block_bytes_lem, alone}
use Rattle.sectors.proofs.Placed.{placed}
use Rattle.sectors.proofs.Demand.{settled_same}

-- one copy, whose block has the same bytes, and which has the size of a copy or not as the other
module _ (c e : List ℕ) (h : block_in e ≡ block_in c) (z : is_copy e ≡ is_copy c) where
  module _ (p : Rewrite) (i : ℕ) (out : List ℕ) (d : area_bytes e p.area p.bytes ≡ area_bytes c p.area p.bytes) where
    abbrev x : BlockFields
    x = fields_of (block_in c)

    rewrite-answer : rewrite_answer p (fields_of (block_in e)) e i out ≡ rewrite_answer p (fields_of (block_in c)) c i out
    rewrite-answer = rw (z, d, h)

    rewrite-bytes : rewrite_bytes p (fields_of (block_in e)) e i out ≡ rewrite_bytes p (fields_of (block_in c)) c i out
    rewrite-bytes = rw (z, d, h)

  -- and whose newest area is whole or not the same
  module _ (l : later_whole e ≡ later_whole c) where
    rewriting-same : (w : Side) (x : Area) (r q : List ℕ) → r ≡ q → rewriting w e x r ≡ rewriting w c x q
    unfolding rewriting last_group block_like
    rewriting-same w x r q d = rw (d, l, h)

-- whether the newest area of a copy whose block is accepted is whole
later_same : (c e : List ℕ) (s : SameCopy c e) → block_in e ≡ block_in c → (x : BlockFields) → mapped (λ (r : Reading). r.fields) (reading_in c) ≡ Ok x
    → later_whole e ≡ later_whole c
later_same c e s h x = go (reading_in c) refl
  where
    go : (q : Result Reading Reason) → reading_in c ≡ q → mapped (λ (r : Reading). r.fields) q ≡ Ok x → later_whole e ≡ later_whole c
    go (Ok r) z m =
        rw (h, fields_of_lem (block_in c) r z) (whole_same c e (newest r.fields) (entry_in r.fields (newest r.fields)) (s.newest_area r z))
    go (Err w) z m = cc

module _ {f b g k : List ℕ} (sf : SameCopy f g) (sb : SameCopy b k) (hf : block_in g ≡ block_in f) (hb : block_in k ≡ block_in b)
    (zf : is_copy g ≡ is_copy f) (zb : is_copy k ≡ is_copy b) (same : SameBoth f b g k) where
  copy_on_lem : (s : Side) → SameCopy (copy_on s f b) (copy_on s g k)
  copy_on_lem Front = sf
  copy_on_lem Back = sb

  block_on : (s : Side) → block_in (copy_on s g k) ≡ block_in (copy_on s f b)
  block_on Front = hf
  block_on Back = hb

  sized_same : sized g k ≡ sized f b
  sized_same = rw (zf, zb)

  copy_at : (s : Side) → is_copy (copy_on s g k) ≡ is_copy (copy_on s f b)
  copy_at Front = zf
  copy_at Back = zb

  -- the copy with the found record
  later-on : (a : Found) → discovery f b ≡ Ok a → later_whole (copy_on a.finding.side g k) ≡ later_whole (copy_on a.finding.side f b)
  later-on a e =
      later_same (copy_on a.finding.side f b) (copy_on a.finding.side g k) (copy_on_lem a.finding.side) (block_on a.finding.side)
      a.finding.fields (newest-found f b a.finding a.other e).accepted

  mends : mending g k ≡ mending f b
  unfolding mending
  mends = rw same.answers (go (discovery f b))
    where
      go : (a : Result Found Reason) → mending_after a g k ≡ mending_after a f b
      go (Err r) = refl
      go (Ok a) = rw same.step

  -- a store of a mend m of the first copies
  module _ (i : ℕ) (out : List ℕ) where
    abbrev Alike : Result (Option Rewrite) Reason → Type 0
    Alike m = (Mend.store_answer m g k i out ≡ Mend.store_answer m f b i out) × (Mend.store_bytes m g k i out ≡ Mend.store_bytes m f b i out)

    none-given : (r : Reason) → Alike (Ok None) × Alike (Err r)
    none-given r = ((rw sized_same, refl), (rw sized_same, refl))

    needed_given : (a : Found) → discovery f b ≡ Ok a → Alike (Ok (Some (rewrite_of a.finding)))
    needed_given a e =
        let q : Finding = a.finding in
        let number : first (needed_tests (rewrite_of q) g k (copy_on q.side g k) i out) ≡ first (needed_tests (rewrite_of q) f b (copy_on q.side f b) i out) =
        rw (sized_same, block_on q.side) in (
          rw (number, rewrite-answer (copy_on q.side f b) (copy_on q.side g k) (block_on q.side) (copy_at q.side) (rewrite_of q) i out (same.bytes q a.other e)),
          rw (number, rewrite-bytes (copy_on q.side f b) (copy_on q.side g k) (block_on q.side) (copy_at q.side) (rewrite_of q) i out (same.bytes q a.other e)),
        )

    mend-given : Alike (mending f b)
    unfolding mending
    mend-given = go (discovery f b) refl
      where
        go : (a : Result Found Reason) → discovery f b ≡ a → Alike (mending_after a f b)
        go (Err r) e = (none-given r).1
        go (Ok a) e = each (is_in_step f b)
          where
            each : (s : Bool) → Alike (cond s (Ok None) (Ok (Some (rewrite_of a.finding))))
            each true = (none-given Reason.NoStore).0
            each false = needed_given a e

  mend_place : (i : ℕ) (out : List ℕ) → Mend.store_answer (mending g k) g k i out ≡ Mend.store_answer (mending f b) f b i out
  mend_place i out = rw mends (mend-given i out).0

  mend_bytes : (i : ℕ) (out : List ℕ) → Mend.store_bytes (mending g k) g k i out ≡ Mend.store_bytes (mending f b) f b i out
  mend_bytes i out = rw mends (mend-given i out).1

  mend_groups_lem : mend_groups g k ≡ mend_groups f b
  unfolding mend_groups
  mend_groups_lem = rw same.answers (go (discovery f b) refl)
    where
      go : (a : Result Found Reason) → discovery f b ≡ a → groups_after a g k ≡ groups_after a f b
      go (Err r) e = refl
      go (Ok a) e =
          let q : Finding = a.finding in
          rw (
            same.step,
            rewriting-same (copy_on q.side f b) (copy_on q.side g k) (block_on q.side) (copy_at q.side) (later-on a e) q.side q.area
                (record_bytes q g k) (record_bytes q f b) (same.bytes q a.other e),
          )

  number_same : (t : Time) (r : List ℕ) → update_number g k t r ≡ update_number f b t r
  unfolding update_number
  number_same t r = rw same.answers (go (discovery f b))
    where
      go : (a : Result Found Reason) → number_after a g k t r ≡ number_after a f b t r
      go (Err r) = refl
      go (Ok a) = rw same.step

  plan_same : (t : Time) (r : List ℕ) → plan_of g k t r ≡ plan_of f b t r
  plan_same t r = rw (hf, hb)

  plans : (t : Time) (r : List ℕ) → planned g k t r ≡ planned f b t r
  plans t r = rw (number_same t r, plan_same t r)

  module _ (p : Plan) (r : List ℕ) (i : ℕ) (out : List ℕ) where
    sides-answer : sides_answer p g k r i out ≡ sides_answer p f b r i out
    sides-answer = rw (zf, zb, hf, hb)

    sides-bytes : sides_bytes p g k r i out ≡ sides_bytes p f b r i out
    sides-bytes = rw (zf, zb, hf, hb)

    block_at : (t : Bool) → block_in (cond t g k) ≡ block_in (cond t f b)
    block_at true = hf
    block_at false = hb

    number_at : first (store_tests p g k r i out) ≡ first (store_tests p f b r i out)
    number_at = rw (sized_same, block_at (leb i (sectors_in p)))

    update_place : Update.store_answer p g k r i out ≡ Update.store_answer p f b r i out
    update_place = rw (number_at, sides-answer)

    update_bytes : Update.store_bytes p g k r i out ≡ Update.store_bytes p f b r i out
    update_bytes = rw (number_at, sides-bytes)

  update_groups_lem : (t : Time) (r : List ℕ) → update_groups g k t r ≡ update_groups f b t r
  unfolding update_groups new_block
  update_groups_lem t r = rw (hf, hb)

  all_same : SameStores f b g k
  all_same =
      record {
        mends = mends;
        mend_place = mend_place;
        mend_bytes = mend_bytes;
        mend_groups_lem = mend_groups_lem;
        plans = plans;
        update_place = update_place;
        update_bytes = update_bytes;
        update_groups_lem = update_groups_lem;
      }

pub stored_alike : StoredAlike
unfolding settled
stored_alike f b g k fm bm af ab s =
    all_same (alone fm f g af (and_left (known f fm) (known b bm) s)) (alone bm b k ab (and_right (known f fm) (known b bm) s))
    (block_bytes_lem fm f g af (and_left (known f fm) (known b bm) s)) (block_bytes_lem bm b k ab (and_right (known f fm) (known b bm) s))
    (ap (λ (n : ℕ). eqb n copy_bytes) (af.size_too ∙ sym af.size)) (ap (λ (n : ℕ). eqb n copy_bytes) (ab.size_too ∙ sym ab.size)) (settled_same f b g k fm bm af ab s)

pub sure_stored : SureStored
sure_stored v d f b fm bm ok h rf rb =
    stored_alike f b (copy_from Front v d) (copy_from Back v d) fm bm ((placed Front v d ok h).agrees fm f rf) ((placed Back v d ok h).agrees bm b rb)
