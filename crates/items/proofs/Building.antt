-- A record made step by step.
use Prim.Native.Nat.{ℕ, ◌+◌, ◌*◌, ◌≤◌}
use mathlib.Core.Path.{◌≡◌, refl, sym, ap, ap₂, ◌∙◌}
use mathlib.Core.Bool.{true, ◌&&◌}
use mathlib.Core.List.{List, [], ◌∷◌, ◌++◌, append_assoc, append-nil}
use native.Mathlib.Omega.{arith}
use borrow.Author.Tests.{eq-eqb, le-leb, leb-true}
use lib.Dec.{eqb, leb, lit<}
use lib.ListN.{length, take, drop, length-append, take-append-drop}
use lib.Seq.{take_at, drop_at}
use Rattle.endian.specs.Bytes.{le, window, splice, fits}
use Rattle.endian.proofs.Parts.{splice-fits}
use Rattle.endian.proofs.Tests.{and_both}
use Rattle.std.specs.Prelude.{Ok}
use Rattle.refusal.specs.Tests.{first, AllHold}
use Rattle.refusal.proofs.Order.{first_holds, answer_no, answer-yes}
use Rattle.segments.specs.declared.Segment.{Segment}
use Rattle.items.specs.declared.Head.{Head}
use Rattle.items.specs.Head.{head_of, head_bytes, head_size, head_allowed, item_bytes}
use Rattle.items.specs.Making.{segment_bytes, all_bytes, record_of, place, begins, begin_tests, begun, put_answer, put_left}
use Rattle.items.specs.Demand.{Holds, Beginning, Starting, Building}
use Rattle.items.proofs.Heads.{length-head, allowed-fits, head_made, size_made}
use Rattle.items.proofs.Making.{length-segment, length_record, all_append, all_one, begin-short, begin_form, begin_fits, put_done}

-- a record and one segment more
pub one_more : (h : Head) (gs : List Segment) (g : Segment) → record_of h gs ++ segment_bytes g ≡ record_of h (gs ++ (g ∷ []))
unfolding record_of
one_more h gs g =
    append_assoc (head_bytes h) (all_bytes gs) (segment_bytes g)
    ∙ ap (λ (z : List ℕ). head_bytes h ++ z) (sym (all_append gs (g ∷ []) ∙ ap (λ (z : List ℕ). all_bytes gs ++ z) (all_one g)))

-- no segments
none_yet : (h : Head) → record_of h [] ≡ head_bytes h
unfolding record_of all_bytes
none_yet h = append-nil (head_bytes h)

room_there : (s : List ℕ) (n : ℕ) → fits s 0 n ≡ true → n ≤ length s
unfolding fits
room_there s n e = let l : 0 + n ≤ length s = leb-true (0 + n) (length s) e in omega arith

pub beginning : Beginning
beginning out h e =
    let t : AllHold (begin_tests out h) = first_holds (begin_tests out h) (lit< tt, (lit< tt, tt)) e in
    let k : length (head_bytes h) ≡ head_size h = length-head h in
    let l : head_size h ≤ length out = room_there out (head_size h) t.0 in
    let made : splice out 0 (head_bytes h) ≡ head_bytes h ++ drop (0 + length (head_bytes h)) out = splice-fits out 0 (head_bytes h) (omega arith) in
    ap₂ (λ (n : ℕ) (z : List ℕ). take n z) (ap length (none_yet h)) (sym (answer-yes (splice out 0 (head_bytes h)) (λ (n : ℕ). out) 0 (first (begin_tests out h)) (sym e) refl) ∙ made)
    ∙ (take_at (head_bytes h) (drop (0 + length (head_bytes h)) out) (length (head_bytes h)) refl ∙ sym (none_yet h))

pub starting : Starting
starting out h =
    record {
      short = begin-short out h;
      wrong = begin_form out h;
      done = begin_fits out h;
      refused = λ l. sym (answer_no (splice out 0 (head_bytes h)) (λ (n : ℕ). out) (first (begin_tests out h)) (first (begin_tests out h)) refl (λ z. omega arith));
      past = λ e. past e;
    }
  where
    past : first (begin_tests out h) ≡ 0 → drop (head_size h) (begun out h) ≡ drop (head_size h) out
    past e =
        let k : length (head_bytes h) ≡ head_size h = length-head h in
        let t : AllHold (begin_tests out h) = first_holds (begin_tests out h) (lit< tt, (lit< tt, tt)) e in
        let l : head_size h ≤ length out = room_there out (head_size h) t.0 in
        ap (drop (head_size h)) (sym (answer-yes (splice out 0 (head_bytes h)) (λ (n : ℕ). out) 0 (first (begin_tests out h)) (sym e) refl) ∙ splice-fits out 0 (head_bytes h) (omega arith))
        ∙ (drop_at (head_bytes h) (drop (0 + length (head_bytes h)) out) (head_size h) k ∙ ap (λ (n : ℕ). drop n out) (let q : 0 + length (head_bytes h) ≡ head_size h = omega arith in q))

module _ (out : List ℕ) (h : Head) (gs : List Segment) (g : Segment) (ok : head_allowed h ≡ true) (holds : Holds out h gs)
    (room : length (record_of h gs) + 20 ≤ length out) where
  -- the buffer is the head, and something after it
  whole : out ≡ head_bytes h ++ (all_bytes gs ++ drop (length (record_of h gs)) out)
  unfolding record_of
  whole =
      sym (take-append-drop (length (record_of h gs)) out)
      ∙ (ap (λ (z : List ℕ). z ++ drop (length (record_of h gs)) out) holds ∙ append_assoc (head_bytes h) (all_bytes gs) (drop (length (record_of h gs)) out))

  head_is : head_of out ≡ h
  head_is = ap head_of whole ∙ head_made h _ (allowed-fits h ok)

  size_is : le (window out 0 2) ≡ head_size h
  size_is = ap (λ (z : List ℕ). le (window z 0 2)) whole ∙ size_made h _ (allowed-fits h ok)

  place_is : place out (length gs) ≡ length (record_of h gs)
  unfolding place
  place_is = ap (λ (z : Head). head_size z + item_bytes * length gs) head_is ∙ sym (length_record h gs)

  begins_it : begins out ≡ true
  unfolding begins
  begins_it =
      let l : length (record_of h gs) ≡ head_size h + item_bytes * length gs = length_record h gs in
      and_both (eqb (le (window out 0 2)) (head_size (head_of out))) (leb (head_size (head_of out)) (length out) && head_allowed (head_of out))
      (eq-eqb (le (window out 0 2)) (head_size (head_of out)) (size_is ∙ sym (ap head_size head_is)))
      (and_both (leb (head_size (head_of out)) (length out)) (head_allowed (head_of out))
      (le-leb (head_size (head_of out)) (length out) (let k : head_size (head_of out) ≡ head_size h = ap head_size head_is in omega arith))
      (ap head_allowed head_is ∙ ok))

  put : (put_answer out (length gs) ≡ Ok (length (record_of h gs) + item_bytes))
      × (put_left out (length gs) g ≡ splice out (length (record_of h gs)) (segment_bytes g))
  put = rw (← place_is) (put_done out (length gs) g begins_it (rw place_is room))

  long : length (record_of h (gs ++ (g ∷ []))) ≡ length (record_of h gs) + item_bytes
  long = ap length (sym (one_more h gs g)) ∙ (length-append (record_of h gs) (segment_bytes g) ∙ ap (λ (k : ℕ). length (record_of h gs) + k) (length-segment g))

  laid : splice out (length (record_of h gs)) (segment_bytes g) ≡ record_of h (gs ++ (g ∷ [])) ++ drop (length (record_of h gs) + length (segment_bytes g)) out
  laid =
      let k : length (segment_bytes g) ≡ item_bytes = length-segment g in
      splice-fits out (length (record_of h gs)) (segment_bytes g) (omega arith)
      ∙ (ap (λ (z : List ℕ). z ++ (segment_bytes g ++ drop (length (record_of h gs) + length (segment_bytes g)) out)) holds
      ∙ (sym (append_assoc (record_of h gs) (segment_bytes g) _) ∙ ap (λ (z : List ℕ). z ++ drop (length (record_of h gs) + length (segment_bytes g)) out) (one_more h gs g)))

  built : (put_answer out (length gs) ≡ Ok (length (record_of h (gs ++ (g ∷ []))))) × Holds (put_left out (length gs) g) h (gs ++ (g ∷ []))
  built = (
    put.0 ∙ ap Ok (sym long),
    ap (take (length (record_of h (gs ++ (g ∷ []))))) (put.1 ∙ laid) ∙ take_at (record_of h (gs ++ (g ∷ []))) _ _ refl,
  )

pub building : Building
building out h gs g ok holds room = built out h gs g ok holds room
