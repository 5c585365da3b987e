-- The refusal that C gets of an answer with no other value: the number that the tests give, with what stands beside it.
use Prim.Native.Nat.{ℕ, ◌<◌}
use mathlib.Core.Path.{◌≡◌, refl, sym, ap, ◌∙◌, subst}
use mathlib.Core.Bool.{Bool, true, false, ◌&&◌}
use mathlib.Core.List.{List, [], ◌∷◌}
use lib.Dec.{ltb, lit<}
use native.Mathlib.Omega.{arith}
use borrow.Author.Tests.{ltb-true}
use Rattle.std.specs.Prelude.{Result, Ok, Err}
use Rattle.endian.proofs.Tests.{and_left, and_right}
use Rattle.refusal.specs.Tests.{Test, first}
use Rattle.refusal.specs.Refusals.{plain}
use Rattle.refusal.specs.declared.Reason.{Reason}
use Rattle.refusal.specs.declared.Refusal.{Refusal}
use Rattle.refusal.specs.Reasons.{refusal_of, reason_of, answer, refusal_in}
use Rattle.refusal.proofs.Order.{first-nil, first-pass, first_fail}
use Rattle.refusal.proofs.Reasons.{told_other, refusal_back, named_back}
use Rattle.block.specs.declared.Time.{Time}
use Rattle.record.specs.Accept.{named, answered}
use Rattle.discovery.specs.declared.Found.{Found}
use Rattle.discovery.specs.Discovery.{discovery}
use Rattle.update.specs.Update.{update_tests, number_after, update_number}

-- each number is one that a reason has: of a list whose numbers are written out this is computed
abbrev pub known : List Test → Bool
known [] = true
known (t ∷ ts) = ltb t.otherwise 25 && known ts

pub first_known : (ts : List Test) → known ts ≡ true → first ts < 25
first_known [] k = let z : first [] ≡ 0 = first-nil in omega arith
first_known (t ∷ ts) k = go (first_known ts) t.holds refl
  where
    go : (known ts ≡ true → first ts < 25) → (b : Bool) → t.holds ≡ b → first (t ∷ ts) < 25
    go r true p = subst (λ (n : ℕ). n < 25) (sym (first-pass t.holds t.otherwise ts p)) (r (and_right (ltb t.otherwise 25) (known ts) k))
    go r false p = subst (λ (n : ℕ). n < 25) (sym (first_fail t.holds t.otherwise ts p)) (ltb-true t.otherwise 25 (and_left (ltb t.otherwise 25) (known ts) k))

-- a bare number
pub plain_told : (ts : List Test) → known ts ≡ true → (a : Result (Unit {0}) Reason) (q : Refusal) → a ≡ answer (first ts) (tt {0}) → q ≡ refusal_in a → q ≡ plain (first ts)
plain_told ts k a q e h = h ∙ (ap refusal_in e ∙ refusal_back (first ts) (tt {0}) (first_known ts k))

-- a number of a call that takes the record s
pub named_told : (n : ℕ) (s : List ℕ) → n < 25 → (a : Result (Unit {0}) Reason) (q : Refusal) → a ≡ answered n s (tt {0}) → q ≡ refusal_in a → q ≡ named n s
unfolding named
named_told n s l a q e h = h ∙ (ap refusal_in e ∙ named_back _ _ n (tt {0}) l)

-- the reason with such a number
pub named_reason : (n : ℕ) (s : List ℕ) → n < 25 → (n ≡ 0 → ⊥) → refusal_of (reason_of (named n s)) ≡ named n s
unfolding named
named_reason n s l z = sym (ap refusal_in (told_other n (named n s) (tt {0}) z)) ∙ named_back _ _ n (tt {0}) l

-- the number of any reason, and that of an update
reason_known : (r : Reason) → (refusal_of r).number < 25
reason_known Reason.SliceSize = lit< tt
reason_known Reason.Signature = lit< tt
reason_known Reason.BlockChecksum = lit< tt
reason_known Reason.DeviceSize = lit< tt
reason_known Reason.NotZero = lit< tt
reason_known Reason.UuidByte = lit< tt
reason_known Reason.MetadataSize = lit< tt
reason_known Reason.ReservedSize = lit< tt
reason_known Reason.AreaEntry = lit< tt
reason_known Reason.NoBlock = lit< tt
reason_known Reason.Identity = lit< tt
reason_known Reason.NoRecord = lit< tt
reason_known Reason.TwoRecords = lit< tt
reason_known Reason.NotLater = lit< tt
reason_known Reason.RecordLength = lit< tt
reason_known Reason.NotInStep = lit< tt
reason_known Reason.RecordForm = lit< tt
reason_known Reason.SegmentPlace = lit< tt
reason_known (Reason.SegmentClash i j) = lit< tt
reason_known Reason.NoRoom = lit< tt
reason_known Reason.RecordFull = lit< tt
reason_known Reason.NoSegment = lit< tt
reason_known Reason.NoStore = lit< tt
reason_known Reason.HeadMove = lit< tt

pub update_known : (f b : List ℕ) (t : Time) (r : List ℕ) → update_number f b t r < 25
unfolding update_number
update_known f b t r = go (discovery f b)
  where
    go : (a : Result Found Reason) → number_after a f b t r < 25
    go (Err e) = reason_known e
    go (Ok x) = first_known (update_tests f b x.finding t r) refl
