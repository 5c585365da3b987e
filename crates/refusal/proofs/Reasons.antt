-- Laws of answers: when one is a value, when a reason, and the refusal that it holds.
use Prim.Native.Nat.{ℕ, zero, suc, ◌<◌}
use mathlib.Core.Path.{◌≡◌, refl, sym, ap, ◌∙◌}
use mathlib.Core.Bool.{Bool, true, false, cond, true≢false}
use native.Mathlib.Omega.{arith}
use borrow.Author.Tests.{eq-eqb, ne_eqb, eqb-true}
use lib.Dec.{eqb}
use Rattle.std.specs.Prelude.{Result, Ok, Err, is_ok}
use Rattle.refusal.specs.declared.Reason.{Reason}
use Rattle.refusal.specs.declared.Refusal.{Refusal}
use Rattle.refusal.specs.Refusals.{plain, plain_but}
use Rattle.refusal.specs.Reasons.{refusal_of, reason_of, told, answer, refusal_in}

-- a value is no reason
apart : {A : Type 0} (v : A) (e : Reason) → Ok v ≡ Err e → ⊥
apart v e h = true≢false (ap is_ok h)

-- no number, and some number
pub told_zero : {A : Type 0} (n : ℕ) (r : Refusal) (v : A) → n ≡ 0 → told n r v ≡ Ok v
told_zero n r v e = ap (λ (b : Bool). cond b (Ok v) (Err (reason_of r))) (eq-eqb n 0 e)

pub told_other : {A : Type 0} (n : ℕ) (r : Refusal) (v : A) → (n ≡ 0 → ⊥) → told n r v ≡ Err (reason_of r)
told_other n r v h = ap (λ (b : Bool). cond b (Ok v) (Err (reason_of r))) (ne_eqb n 0 h)

-- an answer is a value where there is no number
pub ok_zero : {A : Type 0} (n : ℕ) (r : Refusal) (v w : A) → told n r v ≡ Ok w → n ≡ 0
ok_zero n r v w h = eqb-true n 0 (go (eqb n 0) h)
  where
    go : (b : Bool) → cond b (Ok v) (Err (reason_of r)) ≡ Ok w → b ≡ true
    go true h = refl
    go false h = absurd (apart w (reason_of r) (sym h))

-- and a reason where there is one
pub err_other : {A : Type 0} (n : ℕ) (r : Refusal) (v : A) (e : Reason) → told n r v ≡ Err e → n ≡ 0 → ⊥
err_other n r v e h z = apart v e (sym (told_zero n r v z) ∙ h)

-- a reason is handed on whatever the value is
pub err_on : {A B : Type 0} (n : ℕ) (r : Refusal) (v : A) (w : B) (e : Reason) → told n r v ≡ Err e → told n r w ≡ Err e
err_on {A = A} {B = B} n r v w e h = go (eqb n 0) h
  where
    over : Result A Reason → Result B Reason
    over (Ok x) = Ok w
    over (Err x) = Err x

    go : (b : Bool) → cond b (Ok v) (Err (reason_of r)) ≡ Err e → cond b (Ok w) (Err (reason_of r)) ≡ Err e
    go true h = absurd (apart v e h)
    go false h = ap over h

-- the reason of what C reads of a reason
pub reason-back : (r : Reason) → reason_of (refusal_of r) ≡ r
reason-back Reason.SliceSize = refl
reason-back Reason.Signature = refl
reason-back Reason.BlockChecksum = refl
reason-back Reason.DeviceSize = refl
reason-back Reason.NotZero = refl
reason-back Reason.UuidByte = refl
reason-back Reason.MetadataSize = refl
reason-back Reason.ReservedSize = refl
reason-back Reason.AreaEntry = refl
reason-back Reason.NoBlock = refl
reason-back Reason.Identity = refl
reason-back Reason.NoRecord = refl
reason-back Reason.TwoRecords = refl
reason-back Reason.NotLater = refl
reason-back Reason.RecordLength = refl
reason-back Reason.NotInStep = refl
reason-back Reason.RecordForm = refl
reason-back Reason.SegmentPlace = refl
reason-back (Reason.SegmentClash i j) = refl
reason-back Reason.NoRoom = refl
reason-back Reason.RecordFull = refl
reason-back Reason.NoSegment = refl
reason-back Reason.NoStore = refl
reason-back Reason.HeadMove = refl

-- what C reads in an answer by a known number
pub refusal_back : {A : Type 0} (n : ℕ) (v : A) → n < 25 → refusal_in (answer n v) ≡ plain n
refusal_back zero v l = refl
refusal_back (suc zero) v l = refl
refusal_back (suc (suc zero)) v l = refl
refusal_back (suc (suc (suc zero))) v l = refl
refusal_back (suc (suc (suc (suc zero)))) v l = refl
refusal_back (suc (suc (suc (suc (suc zero))))) v l = refl
refusal_back (suc (suc (suc (suc (suc (suc zero)))))) v l = refl
refusal_back (suc (suc (suc (suc (suc (suc (suc zero))))))) v l = refl
refusal_back (suc (suc (suc (suc (suc (suc (suc (suc zero)))))))) v l = refl
refusal_back (suc (suc (suc (suc (suc (suc (suc (suc (suc zero))))))))) v l = refl
refusal_back (suc (suc (suc (suc (suc (suc (suc (suc (suc (suc zero)))))))))) v l = refl
refusal_back (suc (suc (suc (suc (suc (suc (suc (suc (suc (suc (suc zero))))))))))) v l = refl
refusal_back (suc (suc (suc (suc (suc (suc (suc (suc (suc (suc (suc (suc zero)))))))))))) v l = refl
refusal_back (suc (suc (suc (suc (suc (suc (suc (suc (suc (suc (suc (suc (suc zero))))))))))))) v l = refl
refusal_back (suc (suc (suc (suc (suc (suc (suc (suc (suc (suc (suc (suc (suc (suc zero)))))))))))))) v l = refl
refusal_back (suc (suc (suc (suc (suc (suc (suc (suc (suc (suc (suc (suc (suc (suc (suc zero))))))))))))))) v l = refl
refusal_back (suc (suc (suc (suc (suc (suc (suc (suc (suc (suc (suc (suc (suc (suc (suc (suc zero)))))))))))))))) v l = refl
refusal_back (suc (suc (suc (suc (suc (suc (suc (suc (suc (suc (suc (suc (suc (suc (suc (suc (suc zero))))))))))))))))) v l = refl
refusal_back (suc (suc (suc (suc (suc (suc (suc (suc (suc (suc (suc (suc (suc (suc (suc (suc (suc (suc zero)))))))))))))))))) v l = refl
refusal_back (suc (suc (suc (suc (suc (suc (suc (suc (suc (suc (suc (suc (suc (suc (suc (suc (suc (suc (suc zero))))))))))))))))))) v l = refl
refusal_back (suc (suc (suc (suc (suc (suc (suc (suc (suc (suc (suc (suc (suc (suc (suc (suc (suc (suc (suc (suc zero)))))))))))))))))))) v l = refl
refusal_back (suc (suc (suc (suc (suc (suc (suc (suc (suc (suc (suc (suc (suc (suc (suc (suc (suc (suc (suc (suc (suc zero))))))))))))))))))))) v l = refl
refusal_back (suc (suc (suc (suc (suc (suc (suc (suc (suc (suc (suc (suc (suc (suc (suc (suc (suc (suc (suc (suc (suc (suc zero)))))))))))))))))))))) v l = refl
refusal_back (suc (suc (suc (suc (suc (suc (suc (suc (suc (suc (suc (suc (suc (suc (suc (suc (suc (suc (suc (suc (suc (suc (suc zero))))))))))))))))))))))) v l = refl
refusal_back (suc (suc (suc (suc (suc (suc (suc (suc (suc (suc (suc (suc (suc (suc (suc (suc (suc (suc (suc (suc (suc (suc (suc (suc zero)))))))))))))))))))))))) v l = refl
refusal_back (suc (suc (suc (suc (suc (suc (suc (suc (suc (suc (suc (suc (suc (suc (suc (suc (suc (suc (suc (suc (suc (suc (suc (suc (suc n))))))))))))))))))))))))) v l = absurd (omega arith)

-- the same where something stands beside 19
pub named_back : {A : Type 0} (a b n : ℕ) (v : A) → n < 25 → refusal_in (told n (plain_but 19 a b n) v) ≡ plain_but 19 a b n
unfolding plain_but
named_back a b zero v l = refl
named_back a b (suc zero) v l = refl
named_back a b (suc (suc zero)) v l = refl
named_back a b (suc (suc (suc zero))) v l = refl
named_back a b (suc (suc (suc (suc zero)))) v l = refl
named_back a b (suc (suc (suc (suc (suc zero))))) v l = refl
named_back a b (suc (suc (suc (suc (suc (suc zero)))))) v l = refl
named_back a b (suc (suc (suc (suc (suc (suc (suc zero))))))) v l = refl
named_back a b (suc (suc (suc (suc (suc (suc (suc (suc zero)))))))) v l = refl
named_back a b (suc (suc (suc (suc (suc (suc (suc (suc (suc zero))))))))) v l = refl
named_back a b (suc (suc (suc (suc (suc (suc (suc (suc (suc (suc zero)))))))))) v l = refl
named_back a b (suc (suc (suc (suc (suc (suc (suc (suc (suc (suc (suc zero))))))))))) v l = refl
named_back a b (suc (suc (suc (suc (suc (suc (suc (suc (suc (suc (suc (suc zero)))))))))))) v l = refl
named_back a b (suc (suc (suc (suc (suc (suc (suc (suc (suc (suc (suc (suc (suc zero))))))))))))) v l = refl
named_back a b (suc (suc (suc (suc (suc (suc (suc (suc (suc (suc (suc (suc (suc (suc zero)))))))))))))) v l = refl
named_back a b (suc (suc (suc (suc (suc (suc (suc (suc (suc (suc (suc (suc (suc (suc (suc zero))))))))))))))) v l = refl
named_back a b (suc (suc (suc (suc (suc (suc (suc (suc (suc (suc (suc (suc (suc (suc (suc (suc zero)))))))))))))))) v l = refl
named_back a b (suc (suc (suc (suc (suc (suc (suc (suc (suc (suc (suc (suc (suc (suc (suc (suc (suc zero))))))))))))))))) v l = refl
named_back a b (suc (suc (suc (suc (suc (suc (suc (suc (suc (suc (suc (suc (suc (suc (suc (suc (suc (suc zero)))))))))))))))))) v l = refl
named_back a b (suc (suc (suc (suc (suc (suc (suc (suc (suc (suc (suc (suc (suc (suc (suc (suc (suc (suc (suc zero))))))))))))))))))) v l = refl
named_back a b (suc (suc (suc (suc (suc (suc (suc (suc (suc (suc (suc (suc (suc (suc (suc (suc (suc (suc (suc (suc zero)))))))))))))))))))) v l = refl
named_back a b (suc (suc (suc (suc (suc (suc (suc (suc (suc (suc (suc (suc (suc (suc (suc (suc (suc (suc (suc (suc (suc zero))))))))))))))))))))) v l = refl
named_back a b (suc (suc (suc (suc (suc (suc (suc (suc (suc (suc (suc (suc (suc (suc (suc (suc (suc (suc (suc (suc (suc (suc zero)))))))))))))))))))))) v l = refl
named_back a b (suc (suc (suc (suc (suc (suc (suc (suc (suc (suc (suc (suc (suc (suc (suc (suc (suc (suc (suc (suc (suc (suc (suc zero))))))))))))))))))))))) v l = refl
named_back a b (suc (suc (suc (suc (suc (suc (suc (suc (suc (suc (suc (suc (suc (suc (suc (suc (suc (suc (suc (suc (suc (suc (suc (suc zero)))))))))))))))))))))))) v l = refl
named_back a b (suc (suc (suc (suc (suc (suc (suc (suc (suc (suc (suc (suc (suc (suc (suc (suc (suc (suc (suc (suc (suc (suc (suc (suc (suc n))))))))))))))))))))))))) v l = absurd (omega arith)
