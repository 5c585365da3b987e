-- What reading a block answers, from its number.
use Prim.Native.Nat.{ℕ}
use mathlib.Core.Path.{◌≡◌, refl, sym, ap, ◌∙◌}
use mathlib.Core.Bool.{Bool, true, false, cond}
use mathlib.Core.List.{List}
use borrow.Author.Tests.{eqb-true}
use native.Mathlib.Omega.{arith}
use lib.Dec.{eqb, lit<}
use lib.ListN.{length}
use Rattle.std.proofs.Common.{Ok, Err}
use Rattle.endian.proofs.Parts.{length-window-fits, splice-whole}
use Rattle.endian.proofs.Tests.{length-zeros}
use Rattle.endian.specs.Bytes.{window, zeros}
use Rattle.refusal.specs.declared.Refusal.{Refusal}
use Rattle.refusal.specs.declared.Reason.{Reason}
use Rattle.refusal.specs.Refusals.{plain}
use Rattle.refusal.specs.Reasons.{refusal_of, reason, reason_of, answer, refusal_in, number_in}
use Rattle.refusal.specs.Tests.{first, Ascending}
use Rattle.refusal.proofs.Order.{first-zero, first_below}
use Rattle.refusal.proofs.Reasons.{told_zero, told_other, ok_zero, err_other, reason-back, refusal_back}
use Rattle.block.specs.declared.Reading.{Reading}
use Rattle.block.specs.Block.{uuid_from, pool_of, blockdev_of, read_tests, reading, accepted_reading}

-- an answer by its number alone: a value where there is none, a reason where there is one
pub ok_none : {A : Type 0} (n : ℕ) (v w : A) → answer n v ≡ Ok w → n ≡ 0
ok_none n v w h = ok_zero n (plain n) v w h

pub err-some : {A : Type 0} (n : ℕ) (v : A) (e : Reason) → answer n v ≡ Err e → n ≡ 0 → ⊥
err-some n v e h = err_other n (plain n) v e h

-- the numbers ascend, so that the first test that fails has the lowest number
pub ascending : (b : List ℕ) → Ascending 0 (read_tests b)
ascending b =
    (lit< tt, (lit< tt, (lit< tt, (lit< tt, (lit< tt, (lit< tt, (lit< tt, (lit< tt, (lit< tt, tt)))))))))

-- a block with a number is refused with it
pub refused_reading_lem : (b : List ℕ) → (first (read_tests b) ≡ 0 → ⊥) → reading b ≡ Err (reason_of (plain (first (read_tests b))))
unfolding reading
refused_reading_lem b h = told_other (first (read_tests b)) (plain (first (read_tests b))) (accepted_reading b) h

-- a block with none is accepted
pub accepted_reading_lem : (b : List ℕ) → first (read_tests b) ≡ 0 → reading b ≡ Ok (accepted_reading b)
unfolding reading
accepted_reading_lem b e = told_zero (first (read_tests b)) (plain (first (read_tests b))) (accepted_reading b) e

-- and the other way round
pub accepted_none : (b : List ℕ) (r : Reading) → reading b ≡ Ok r → first (read_tests b) ≡ 0
unfolding reading
accepted_none b r e = ok_none (first (read_tests b)) (accepted_reading b) r e

pub refused-some : (b : List ℕ) (r : Reason) → reading b ≡ Err r → first (read_tests b) ≡ 0 → ⊥
unfolding reading
refused-some b r e = err-some (first (read_tests b)) (accepted_reading b) r e

-- what C reads in the answer
pub reading-refusal : (b : List ℕ) → refusal_in (reading b) ≡ plain (first (read_tests b))
unfolding reading
reading-refusal b =
    refusal_back (first (read_tests b)) (accepted_reading b)
    (first_below 25 (read_tests b) (lit< tt)
    (lit< tt, (lit< tt, (lit< tt, (lit< tt, (lit< tt, (lit< tt, (lit< tt, (lit< tt, (lit< tt, tt))))))))))

pub reading-number : (b : List ℕ) → number_in (reading b) ≡ first (read_tests b)
reading-number b = ap (λ (r : Refusal). r.number) (reading-refusal b)

-- a reason with nothing beside it, from its number
plain_reason : (r : Reason) → ((refusal_of r).number ≡ 19 → ⊥) → refusal_of r ≡ plain (refusal_of r).number
plain_reason Reason.SliceSize h = refl
plain_reason Reason.Signature h = refl
plain_reason Reason.BlockChecksum h = refl
plain_reason Reason.DeviceSize h = refl
plain_reason Reason.NotZero h = refl
plain_reason Reason.UuidByte h = refl
plain_reason Reason.MetadataSize h = refl
plain_reason Reason.ReservedSize h = refl
plain_reason Reason.AreaEntry h = refl
plain_reason Reason.NoBlock h = refl
plain_reason Reason.Identity h = refl
plain_reason Reason.NoRecord h = refl
plain_reason Reason.TwoRecords h = refl
plain_reason Reason.NotLater h = refl
plain_reason Reason.RecordLength h = refl
plain_reason Reason.NotInStep h = refl
plain_reason Reason.RecordForm h = refl
plain_reason Reason.SegmentPlace h = refl
plain_reason (Reason.SegmentClash i j) h = absurd (h refl)
plain_reason Reason.NoRoom h = refl
plain_reason Reason.RecordFull h = refl
plain_reason Reason.NoSegment h = refl
plain_reason Reason.NoStore h = refl
plain_reason Reason.HeadMove h = refl

pub reason-from : (r : Reason) (n : ℕ) → (refusal_of r).number ≡ n → (n ≡ 19 → ⊥) → reason_of (plain n) ≡ r
reason-from r n e h = ap (λ (k : ℕ). reason_of (plain k)) (sym e) ∙ (ap reason_of (sym (plain_reason r (λ k. h (sym e ∙ k)))) ∙ reason-back r)

-- the reason with a number and nothing beside it
pub plain-back : (n : ℕ) → reason_of (plain n) ≡ reason n
plain-back n = go (eqb n 19) refl
  where
    go : (b : Bool) → eqb n 19 ≡ b → cond b (Reason.SegmentClash 0 0) (reason n) ≡ reason n
    go true e = ap reason (sym (eqb-true n 19 e))
    go false e = refl

pub reason-back-plain : (e : Reason) (n : ℕ) → refusal_of e ≡ plain n → e ≡ reason n
reason-back-plain e n h = sym (reason-back e) ∙ (ap reason_of h ∙ plain-back n)

-- an accepted block has 512 bytes
pub accepted-length : (b : List ℕ) → first (read_tests b) ≡ 0 → length b ≡ 512
accepted-length b e = eqb-true (length b) 512 (first-zero 0 (read_tests b) (ascending b) e).0

-- its UUIDs are 32 bytes, and are read as they are
uuid-whole : (u : List ℕ) → length u ≡ 32 → uuid_from u ≡ u
unfolding uuid_from
uuid-whole u e = splice-whole (zeros 32) u (e ∙ sym (length-zeros 32))

pub pool_read : (b : List ℕ) → first (read_tests b) ≡ 0 → uuid_from (window b 32 32) ≡ pool_of b
pool_read b z =
    let n : length b ≡ 512 = accepted-length b z in
    uuid-whole (window b 32 32) (length-window-fits b 32 32 (omega arith))

pub blockdev_read : (b : List ℕ) → first (read_tests b) ≡ 0 → uuid_from (window b 64 32) ≡ blockdev_of b
blockdev_read b z =
    let n : length b ≡ 512 = accepted-length b z in
    uuid-whole (window b 64 32) (length-window-fits b 64 32 (omega arith))
