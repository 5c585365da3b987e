-- What a change of a head answers and leaves, test by test, as the code has it.
use Prim.Native.Nat.{ℕ, ◌+◌, ◌-◌, ◌*◌, ◌≤◌, ◌<◌}
use mathlib.Core.Path.{◌≡◌, sym, ap, ◌∙◌}
use mathlib.Core.Bool.{Bool, true, false, cond}
use mathlib.Core.List.{List, [], ◌++◌}
use native.Mathlib.Omega.{arith}
use borrow.Author.Tests.{le-leb, lt-leb, ne_eqb}
use lib.Dec.{lit<}
use lib.ListN.{length, length-append}
use Rattle.endian.specs.Bytes.{splice}
use Rattle.endian.proofs.Parts.{splice_next}
use Rattle.refusal.specs.Numbers.{segment_clash}
use Rattle.std.specs.Prelude.{Ok, Err}
use Rattle.refusal.specs.declared.Reason.{Reason}
use Rattle.refusal.specs.declared.Refusal.{Refusal}
use Rattle.refusal.specs.Refusals.{plain, plain_but}
use Rattle.refusal.specs.Reasons.{told, answer}
use Rattle.refusal.proofs.Reasons.{ok_zero, err_other, err_on, told_zero}
use Rattle.refusal.specs.Tests.{first, Ascending}
use Rattle.refusal.proofs.Order.{first-nil, first-pass, first_fail, first-zero, first-after, first-before, first_other}
use Rattle.layout.specs.declared.Device.{Device}
use Rattle.layout.specs.Limits.{record_limit}
use Rattle.items.specs.declared.Head.{Head}
use Rattle.items.specs.Head.{head_of, head_bytes, head_size, item_bytes}
use Rattle.items.specs.Items.{items_of, segments}
use Rattle.items.proofs.Heads.{length-head, head_small}
use Rattle.items.proofs.Items.{length_items, formed}
use Rattle.items.specs.Making.{unless}
use Rattle.record.specs.Accept.{record_tests, named, answered}
use Rattle.record.proofs.Naming.{named_other}
use Rattle.record.proofs.Accepted.{accepted}
use Rattle.record.proofs.Right.{accepted-right}
use Rattle.allocation.proofs.Calls.{after_record}
use Rattle.heads.specs.declared.Change.{Change}
use Rattle.heads.specs.Changing.{head_after, record_after, keeps, has_mark, head_tests, room_tests, change_tests, change_answer, change_left}

-- the number of the head's test, in each case
module _ (c : Change) (h : Head) where
  pub up_number : c ≡ Change.Up → 0 ≡ first (head_tests c h)
  up_number e = rw e (sym first-nil)

  pub back_lost : c ≡ Change.Back → keeps h ≡ false → 24 ≡ first (head_tests c h)
  back_lost e k = rw e (sym (first_fail (keeps h) 24 [] k))

  pub back_kept : c ≡ Change.Back → keeps h ≡ true → 0 ≡ first (head_tests c h)
  back_kept e k = rw e (sym (first-pass (keeps h) 24 [] k ∙ first-nil))

  pub mark_no : (n : ℕ) → c ≡ Change.Mark n → has_mark h ≡ false → 17 ≡ first (head_tests c h)
  mark_no n e k = rw e (sym (first_fail (has_mark h) 17 [] k))

  pub mark_yes : (n : ℕ) → c ≡ Change.Mark n → has_mark h ≡ true → 0 ≡ first (head_tests c h)
  mark_yes n e k = rw e (sym (first-pass (has_mark h) 17 [] k ∙ first-nil))

-- its numbers ascend, and none is 19
pub head-ascending : (c : Change) (h : Head) → Ascending 0 (head_tests c h)
head-ascending Change.Up h = tt
head-ascending Change.Back h = (lit< tt, tt)
head-ascending (Change.Mark n) h = (lit< tt, tt)

pub head_no_clash : (c : Change) (h : Head) → first (head_tests c h) ≡ segment_clash → ⊥
head_no_clash Change.Up h e = let z : first [] ≡ 0 = first-nil in omega arith
head_no_clash Change.Back h e = let z : first [] ≡ 19 = first_other (keeps h) 24 [] segment_clash (λ y. omega arith) e in let y : first [] ≡ 0 = first-nil in omega arith
head_no_clash (Change.Mark n) h e = let z : first [] ≡ 19 = first_other (has_mark h) 17 [] segment_clash (λ y. omega arith) e in let y : first [] ≡ 0 = first-nil in omega arith

-- how long the new record is
pub length-after : (c : Change) (s : List ℕ) → length (record_after c s) ≡ head_size (head_after c (head_of s)) + length (items_of s)
unfolding record_after
length-after c s = length-append (head_bytes (head_after c (head_of s))) (items_of s) ∙ ap (λ (n : ℕ). n + length (items_of s)) (length-head (head_after c (head_of s)))

-- its two parts laid over the start of a buffer
after-laid : (c : Change) (s out : List ℕ) → length (record_after c s) ≤ length out
    → splice (splice out 0 (head_bytes (head_after c (head_of s)))) (head_size (head_after c (head_of s))) (items_of s) ≡ splice out 0 (record_after c s)
unfolding record_after
after-laid c s out l =
    let h : length (head_bytes (head_after c (head_of s))) ≡ head_size (head_after c (head_of s)) = length-head (head_after c (head_of s)) in
    let n : length (record_after c s) ≡ head_size (head_after c (head_of s)) + length (items_of s) = length-after c s in
    splice_next out 0 (head_bytes (head_after c (head_of s))) (items_of s) (head_size (head_after c (head_of s))) (omega arith) (omega arith)

-- the sum of both parts has room in the machine's numbers
pub after_small : (d : Device) (s : List ℕ) (c : Change) → first (record_tests d s) ≡ 0 → head_size (head_after c (head_of s)) + length (items_of s) < 65536
unfolding record_limit
after_small d s c z =
    let b : length s ≡ head_size (head_of s) + item_bytes * length (segments s) = (formed d s (accepted d s z).form).bytes in
    let l : head_size (head_of s) + item_bytes * length (segments s) ≤ record_limit = (accepted-right d s z).each.bytes in
    let e : length (items_of s) ≡ length s - head_size (head_of s) = length_items s in
    omega (arith, head_small (head_after c (head_of s)))

-- a call that is refused leaves the lent bytes
pub kept_by : {A : Type 0} (made out s : List ℕ) (n : ℕ) (v : A) (e : Reason) → Err e ≡ answered n s v → out ≡ unless n made out
kept_by made out s n v e h = sym (ap (λ (b : Bool). cond b made out) (ne_eqb n 0 (err_other n (named n s) v e (sym h))))

-- A change of an accepted record, by the tests that decide it.
module _ (d : Device) (s : List ℕ) (c : Change) (w : ℕ) (z : first (record_tests d s) ≡ 0) where
  abbrev len : ℕ
  len = length (record_after c s)

  pub head-refused : (e : Reason) → answer (first (head_tests c (head_of s))) (tt {0}) ≡ Err e → Err e ≡ change_answer d s c w
  head-refused e h =
      let n : ℕ = first (head_tests c (head_of s)) in
      let k : n ≡ 0 → ⊥ = err_other n (plain n) (tt {0}) e h in
      let t : first (change_tests d s c w) ≡ n =
      after_record d s (head_tests c (head_of s) ++ room_tests c s w) z ∙ first-before 0 (head_tests c (head_of s)) (room_tests c s w) (head-ascending c (head_of s)) k in
      sym (ap (λ (m : ℕ). answered m s len) t ∙ (ap (λ (r : Refusal). told n r len) (named_other n s (head_no_clash c (head_of s))) ∙ err_on n (plain n) (tt {0}) len e h))

  module _ (u : Unit {0}) (h : answer (first (head_tests c (head_of s))) (tt {0}) ≡ Ok u) where
    room : first (change_tests d s c w) ≡ first (room_tests c s w)
    room =
        let n : ℕ = first (head_tests c (head_of s)) in
        after_record d s (head_tests c (head_of s) ++ room_tests c s w) z
        ∙ first-after (head_tests c (head_of s)) (room_tests c s w) (first-zero 0 (head_tests c (head_of s)) (head-ascending c (head_of s)) (ok_zero n (plain n) (tt {0}) u h))

    pub room-refused : w < head_size (head_after c (head_of s)) + length (items_of s) → Err Reason.SliceSize ≡ change_answer d s c w
    unfolding first named plain_but
    room-refused l =
        let m : len ≡ head_size (head_after c (head_of s)) + length (items_of s) = length-after c s in
        let t : first (room_tests c s w) ≡ 1 = rw (lt-leb len w (let q : w < len = omega arith in q)) in
        ap (λ (k : ℕ). answered k s len) (sym (room ∙ t))

    pub room_there : head_size (head_after c (head_of s)) + length (items_of s) ≤ w → first (change_tests d s c w) ≡ 0
    unfolding first
    room_there l =
        let m : len ≡ head_size (head_after c (head_of s)) + length (items_of s) = length-after c s in
        let t : first (room_tests c s w) ≡ 0 = rw (le-leb len w (let q : len ≤ w = omega arith in q)) in
        room ∙ t

-- done: the two parts were written
pub done : (d : Device) (s : List ℕ) (c : Change) (out a b : List ℕ) → first (change_tests d s c (length out)) ≡ 0
    → head_size (head_after c (head_of s)) + length (items_of s) ≤ length out
    → a ≡ splice out 0 (head_bytes (head_after c (head_of s))) → b ≡ splice a (head_size (head_after c (head_of s))) (items_of s)
    → (Ok (head_size (head_after c (head_of s)) + length (items_of s)) ≡ change_answer d s c (length out)) × (b ≡ change_left d s c out)
done d s c out a b z l g k =
    let m : length (record_after c s) ≡ head_size (head_after c (head_of s)) + length (items_of s) = length-after c s in (
      ap Ok (sym m) ∙ sym (told_zero (first (change_tests d s c (length out))) (named (first (change_tests d s c (length out))) s) (length (record_after c s)) z),
      rw (z, k, g) (after-laid c s out (omega arith)),
    )
