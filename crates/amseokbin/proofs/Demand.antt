-- The C calls give what the libraries' claims speak of.
use Prim.Native.Nat.{ℕ}
use mathlib.Core.Path.{◌≡◌, refl, sym, ap, ap₂, subst, ◌∙◌}
use mathlib.Core.Bool.{Bool, true, false, not, cond}
use lib.Dec.{eqb}
use mathlib.Core.List.{List}
use native.Mathlib.Omega.{arith}
use lib.ListN.{length}
use Rattle.search.specs.Search.{one}
use Rattle.endian.specs.Bytes.{zeros}
use Rattle.endian.proofs.Parts.{splice-whole, length-window-fits}
use Rattle.refusal.specs.Tests.{first}
use Rattle.refusal.specs.Refusals.{plain}
use Rattle.refusal.specs.declared.Reason.{Reason}
use Rattle.refusal.specs.Reasons.{refusal_of}
use Rattle.std.specs.Prelude.{Option, Some, None, Result, Ok, Err}
use Rattle.layout.specs.declared.Side.{Side}
use Rattle.layout.specs.declared.Side.TheVariants.{Front, Back}
use Rattle.layout.specs.declared.Area.{Area}
use Rattle.layout.specs.declared.Area.TheVariants.{A, B}
use Rattle.layout.specs.Answers.{side_number, area_number}
use Rattle.block.specs.declared.BlockFields.{BlockFields}
use Rattle.block.specs.declared.Reading.{Reading}
use Rattle.discovery.specs.declared.Finding.{Finding}
use Rattle.discovery.specs.declared.Found.{Found}
use Rattle.discovery.specs.Discovery.{discovery, is_in_step, copy_on}
use Rattle.block.specs.Block.{pool_of, blockdev_of, read_tests}
use Rattle.block.proofs.Readings.{accepted_reading_lem, accepted-length}
use Rattle.copy.specs.Copy as Copy
use Rattle.block.specs.Block.{uuid_from, fields_of}
use Rattle.copy.specs.Copy.{mapped}
use Rattle.discovery.proofs.Latest.{newest-found}
use Rattle.update.specs.declared.Plan.{Plan}
use Rattle.update.specs.Plan as Update
use Rattle.update.specs.Demand.{groups_on, plan_on, copy_after, PlanGives}
use Rattle.update.proofs.Demand as Updates
use Rattle.mend.specs.declared.Rewrite.{Rewrite}
use Rattle.mend.specs.Mend.{mend_groups}
use Rattle.mend.specs.Plan as Mend
use Rattle.mend.specs.Demand.{MendGives}
use Rattle.mend.proofs.Kept.{found-sized, kept}
use Rattle.mend.proofs.Giving as Mends
use Rattle.amseokbin.specs.Answers.{block_of, block_answer}
use Rattle.amseokbin.specs.Copies.{area_from, found_answer}
use Rattle.amseokbin.specs.Plans.{store_answer, update_of, update_from, update_answer, side_from, rewrite_told, mend_from, mend_answer}
use Rattle.amseokbin.specs.Demand.{Blocks, ReadBack, Calls, plan_answered, Giving, mend_answered, Mending}

update_back : (p : Plan) → update_from (update_of p) ≡ p
update_back p = λ i. record { entry = p.entry; front = area p.front i; back = area p.back i }
  where
    area : (x : Area) → area_from (area_number x) ≡ x
    area A = refl
    area B = refl

pub mend_back : (p : Rewrite) → mend_from (rewrite_told p) ≡ Ok (Some p)
mend_back p = λ i. Ok (Some (record { kept = side p.kept i; area = area p.area i; bytes = p.bytes; last = flag p.last i }))
  where
    side : (w : Side) → side_from (side_number w) ≡ w
    side Front = refl
    side Back = refl

    area : (x : Area) → area_from (area_number x) ≡ x
    area A = refl
    area B = refl

    flag : (b : Bool) → not (eqb (one b) 0) ≡ b
    flag true = refl
    flag false = refl

pub read_back : ReadBack
read_back = record { update = update_back; mend = mend_back; in_step = refl }

-- an answer as C has it
module _ (g : Result ℕ Reason) (flush : Bool) where
  stored : (s : ℕ) → g ≡ Ok s → store_answer g flush ≡ record { refusal = plain 0; sector = s; flush = flush }
  stored s e = ap (λ (z : Result ℕ Reason). store_answer z flush) e

  not_stored : (r : Reason) → g ≡ Err r → store_answer g flush ≡ record { refusal = refusal_of r; sector = 0; flush = false }
  not_stored r e = ap (λ (z : Result ℕ Reason). store_answer z flush) e

pub giving : Giving
giving v d u q t r st =
    let h : PlanGives v d t r = Updates.giving v d u q t r st in
    let e : Update.planned (copy_after v d t r 0 Front) (copy_after v d t r 0 Back) t r ≡ Ok (plan_on v d t r) =
    ap₂ (λ (f b : List ℕ). Update.planned f b t r) (Updates.copy-before v d t r Front) (Updates.copy-before v d t r Back) ∙ h.plan in
    let p : update_from (plan_answered v d t r) ≡ plan_on v d t r = ap (λ (z : Result Plan Reason). update_from (update_answer z).plan) e ∙ update_back (plan_on v d t r) in (
      ap (λ (z : Result Plan Reason). (update_answer z).refusal) e,
      subst
          (λ (z : Plan). Calls (groups_on v d t r) (λ (j : ℕ). copy_after v d t r j Front) (λ (j : ℕ). copy_after v d t r j Back) (Update.stores_in z) (Update.group_of z)
          (λ (f b : List ℕ) (i : ℕ) (out : List ℕ). Update.store_answer z f b r i out) (λ (f b : List ℕ) (i : ℕ) (out : List ℕ). Update.store_bytes z f b r i out) (Update.flush_after z))
          (sym p)
          (record {
            counted = h.count;
            grouped = h.grouped;
            no_group = h.no_group;
            store = λ j i out m l room. (stored _ _ _ (h.store j i out m l room).0, (h.store j i out m l room).1);
            flushed = h.flush;
            no_store = λ j i out m l room. (not_stored _ _ _ (h.no_store j i out m l room).0, (h.no_store j i out m l room).1);
          }),
    )

answered : (f b : List ℕ) (q : Finding) (o : Result BlockFields Reason) → discovery f b ≡ Ok (record { finding = q; other = o })
    → ((mend_answer (Mend.mending f b)).refusal ≡ plain 0) × (mend_from (mend_answered f b) ≡ Mend.mending f b)
unfolding Mend.mending
answered f b q o e =
    subst (λ (a : Result Found Reason). ((mend_answer (Mend.mending_after a f b)).refusal ≡ plain 0) × (mend_from (mend_answer (Mend.mending_after a f b)).plan ≡ Mend.mending_after a f b)) (sym e)
    (each (is_in_step f b))
  where
    each : (s : Bool)
        → ((mend_answer (cond s (Ok None) (Ok (Some (Mend.rewrite_of q))))).refusal ≡ plain 0)
        × (mend_from (mend_answer (cond s (Ok None) (Ok (Some (Mend.rewrite_of q))))).plan ≡ cond s (Ok None) (Ok (Some (Mend.rewrite_of q))))
    each true = (refl, refl)
    each false = (refl, mend_back (Mend.rewrite_of q))

pub mending : Mending
mending f b q o e =
    let h : MendGives f b (Mend.mending f b) (mend_groups f b) = Mends.giving f b in
    let k : ((mend_answer (Mend.mending f b)).refusal ≡ plain 0) × (mend_from (mend_answered f b) ≡ Mend.mending f b) = answered f b q o e in (
      k.0,
      subst
          (λ (z : Result (Option Rewrite) Reason). Calls (mend_groups f b) (λ (j : ℕ). f) (λ (j : ℕ). b) (Mend.stores_in z) (Mend.group_of z) (Mend.store_answer z) (Mend.store_bytes z) (Mend.flush_after z))
          (sym k.1)
          (record {
            counted = h.count;
            grouped = h.grouped;
            no_group = h.no_group;
            store = λ j i out m l room. (stored _ _ _ (h.store i out l room).0, (h.store i out l room).1);
            flushed = h.flush;
            no_store = λ j i out m l room.
                (not_stored _ _ _ (h.no_store i out l (found-sized f b q o e) room).0, (h.no_store i out l (found-sized f b q o e) room).1);
          }),
    )

-- a UUID of 32 bytes
uuid-whole : (u : List ℕ) → length u ≡ 32 → uuid_from u ≡ u
unfolding uuid_from zeros
uuid-whole u h = splice-whole _ u h

pub blocks : Blocks
blocks f b q o e =
    let c : List ℕ = copy_on q.side f b in
    let t : first (read_tests (Copy.block_in c)) ≡ 0 = (kept f b q o e).accepted in
    let l : length (Copy.block_in c) ≡ 512 = accepted-length (Copy.block_in c) t in
    let p : uuid_from (pool_of (Copy.block_in c)) ≡ pool_of (Copy.block_in c) = uuid-whole _ (length-window-fits (Copy.block_in c) 32 32 (omega arith)) in
    let u : uuid_from (blockdev_of (Copy.block_in c)) ≡ blockdev_of (Copy.block_in c) = uuid-whole _ (length-window-fits (Copy.block_in c) 64 32 (omega arith)) in
    let v : Ok (fields_of (Copy.block_in c)) ≡ Ok q.fields = sym (ap (mapped (λ (r : Reading). r.fields)) (accepted_reading_lem (Copy.block_in c) t)) ∙ (newest-found f b q o e).accepted in
    let k : fields_of (Copy.block_in c) ≡ q.fields = cc in
    ap (λ (a : Result Found Reason). (found_answer a f b).block) e
    ∙ (ap₂ (λ (x y : List ℕ). block_of q.fields x y) p u
    ∙ (ap (λ (x : BlockFields). block_of x (pool_of (Copy.block_in c)) (blockdev_of (Copy.block_in c))) (sym k)
    ∙ sym (ap (λ (r : Result Reading Reason). (block_answer r).block) (accepted_reading_lem (Copy.block_in c) t))))
