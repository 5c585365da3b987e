-- What allocation and release leave in the lent bytes.
use Rattle.std.proofs.Common.{◌≡◌, ℕ, ◌+◌, ◌-◌, ◌≤◌, ◌<◌, cond, eqb, List, ◌++◌, length, take, drop, sym, ap, ◌∙◌, lt-ltb, le-ltb, le-leb}
use Rattle.std.specs.Prelude.{Result, Ok}
use borrow.Author.Tests.{lt-leb}
use Rattle.endian.specs.Bytes.{splice}
use Rattle.refusal.specs.declared.Reason.{Reason}
use Rattle.refusal.specs.Tests.{first}
use Rattle.refusal.proofs.Reasons.{ok_zero, told_zero}
use Rattle.layout.specs.declared.Device.{Device}
use Rattle.items.specs.Head.{item_bytes}
use Rattle.items.specs.Items.{segments}
use Rattle.items.specs.Making.{segment_bytes, place, appended, removed}
use Rattle.items.proofs.Making.{appended-laid, removed-laid, place_inside}
use Rattle.record.specs.Accept.{named}
use Rattle.record.specs.Answers.{position_tests}
use Rattle.record.proofs.Accepted.{accepted}
use Rattle.allocation.specs.declared.Allocation.{Allocation}
use Rattle.allocation.specs.Change.{allocate_tests, given, allocate_answer, allocate_left, room_tests, release_tests, release_answer, release_left}
use Rattle.allocation.proofs.Allowed.{Allowed, allowed, Releasable, releasable}

-- a release's own tests, as far as each return of the code has come
pub release-past : (s : List ℕ) (p w : ℕ) → length (segments s) ≤ p → first (position_tests s p ++ room_tests s w) ≡ 22
unfolding first
release-past s p w h = rw (le-ltb p (length (segments s)) h)

pub release-short : (s : List ℕ) (p w : ℕ) → p < length (segments s) → w < length s - item_bytes → first (position_tests s p ++ room_tests s w) ≡ 1
unfolding first
release-short s p w h l = rw (lt-ltb p (length (segments s)) h, lt-leb (length s - item_bytes) w l)

pub release-passed : (s : List ℕ) (p w : ℕ) → p < length (segments s) → length s - item_bytes ≤ w → first (position_tests s p ++ room_tests s w) ≡ 0
unfolding first
release-passed s p w h l = rw (lt-ltb p (length (segments s)) h, le-leb (length s - item_bytes) w l)

-- what an allocation that is not refused leaves
pub allocate-written : (d : Device) (s : List ℕ) (k m : ℕ) (out : List ℕ) (a : Allocation) (o p : List ℕ)
    → allocate_answer d s k m (length out) ≡ Ok a → o ≡ splice out 0 s
    → p ≡ splice o (length s) (segment_bytes (record { kind = k; start = a.start; sectors = m })) → p ≡ allocate_left d s k m out
allocate-written d s k m out a o p h f i =
    let q : ℕ = first (allocate_tests d s k m (length out)) in
    let v : Allocation = record { start = (given d s k m).start; length = length s + item_bytes } in
    let z : q ≡ 0 = ok_zero q (named q s) v a h in
    let g : ◌≡◌ {A = Result Allocation Reason} (Ok v) (Ok a) = sym (told_zero q (named q s) v z) ∙ h in
    let b : v ≡ a = cc in
    let w : Allowed d s k m (length out) = allowed d s k m (length out) z in
    i
    ∙ (ap (λ (x : Allocation). splice o (length s) (segment_bytes (record { kind = k; start = x.start; sectors = m }))) (sym b)
    ∙ (ap (λ (x : List ℕ). splice x (length s) (segment_bytes (given d s k m))) f
    ∙ (appended-laid out s (given d s k m) w.room ∙ sym (ap (λ (n : ℕ). cond (eqb n 0) (splice out 0 (appended s (given d s k m))) out) z))))

-- where the segment lies, of a release that is not refused, and what it leaves
pub release-place : (d : Device) (s : List ℕ) (p w x : ℕ) → release_answer d s p w ≡ Ok x → (Releasable d s p w) × (place s p + item_bytes ≤ length s)
release-place d s p w x h =
    let z : first (release_tests d s p w) ≡ 0 = ok_zero (first (release_tests d s p w)) (named (first (release_tests d s p w)) s) (length s - item_bytes) x h in
    let r : Releasable d s p w = releasable d s p w z in
    (r, place_inside d s p (accepted d s r.zero).form r.there)

pub release-written : (d : Device) (s : List ℕ) (p : ℕ) (out : List ℕ) (x at : ℕ) (o : List ℕ)
    → release_answer d s p (length out) ≡ Ok x → at ≡ place s p → o ≡ splice (splice out 0 (take at s)) at (drop (at + item_bytes) s)
    → o ≡ release_left d s p out
release-written d s p out x at o h f g =
    let q : ℕ = first (release_tests d s p (length out)) in
    let z : q ≡ 0 = ok_zero q (named q s) (length s - item_bytes) x h in
    let r : (Releasable d s p (length out)) × (place s p + item_bytes ≤ length s) = release-place d s p (length out) x h in
    g
    ∙ (ap (λ (v : ℕ). splice (splice out 0 (take v s)) v (drop (v + item_bytes) s)) f
    ∙ (removed-laid out s p r.1 r.0.room ∙ sym (ap (λ (n : ℕ). cond (eqb n 0) (splice out 0 (removed s p)) out) z)))
