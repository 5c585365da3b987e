-- What is claimed of moving a head and of setting its mark.
use Prim.Native.Nat.{ℕ, ◌+◌, ◌-◌, ◌*◌, ◌^◌, ◌≤◌, ◌<◌}
use mathlib.Core.Path.{◌≡◌, refl, sym, ap, ap₂, ◌∙◌, subst}
use mathlib.Core.Bool.{true}
use mathlib.Core.List.{List, [], ◌∷◌, ◌++◌}
use native.Mathlib.Decide.{ℕ_discrete}
use native.Mathlib.Omega.{arith}
use borrow.Author.Tests.{eq-eqb, ne_eqb, eqb-true, le-leb, lt-leb, leb-true}
use lib.Dec.{lit<, lit≤, leb}
use lib.ListN.{length, take, drop}
use lib.Seq.{take_at, drop_at}
use Rattle.endian.specs.Bytes.{Bytes, splice}
use Rattle.endian.proofs.Parts.{splice-fits}
use Rattle.refusal.specs.Tests.{Test, first}
use Rattle.refusal.proofs.Order.{ascending-numbered, first-nil, first-pass, first_fail, first-zero, first-after, first-before, first_below, first_split, answer_no, answer-yes}
use Rattle.layout.specs.declared.Device.{Device}
use Rattle.segments.specs.declared.Segment.{Segment}
use Rattle.segments.specs.Sectors.{is_free}
use Rattle.items.specs.declared.Head.{Head}
use Rattle.items.specs.declared.Head.TheVariants.{Plain, Marked}
use Rattle.items.specs.Head.{head_of, head_kind, head_bytes, head_size, head_right, block_size, low_water, data_range, range_for, item_bytes}
use Rattle.items.specs.Items.{items_of, segments}
use Rattle.items.specs.Making.{all_bytes, record_of}
use Rattle.items.proofs.Items.{length_items, items_are, formed}
use Rattle.items.proofs.Making.{record_again}
use Rattle.record.specs.Accept.{record_tests, named}
use Rattle.record.specs.Sectors.{parts}
use Rattle.record.specs.Demand.{Right}
use Rattle.record.proofs.Testing.{record_ascending, record_numbered}
use Rattle.record.proofs.Naming.{refusal_named}
use Rattle.refusal.proofs.Reasons.{told_zero, told_other}
use Rattle.record.proofs.Accepted.{accepted}
use Rattle.record.proofs.Right.{accepted_made, accepted-right, read_head, read_segments, right-empty}
use Rattle.record.proofs.Demand.{heads, head_says}
use Rattle.allocation.specs.Answers.{free_runs}
use Rattle.heads.specs.declared.Change.{Change}
use Rattle.heads.specs.Changing.{head_after, record_after, head_tests, room_tests, change_tests, change_left}
use Rattle.heads.specs.Demand.{FourBytes, Becomes, KindBytes, ByteForByte, Moved, Changes, Same, Returns, UpAndBack, BackAndUp, Loses, TwentyFour, LosesBytes, Movable, head_bytes_after, Owned, RecordFirst, Refusing, Numbered as AllNumbered, Existing}
use Rattle.heads.proofs.Calls.{up_number, back_lost, back_kept, mark_no, mark_yes, head-ascending, length-after}
use Rattle.heads.proofs.Bytes.{literal, lost_bytes, bytes_lost}
use Rattle.heads.proofs.Heads.{mark_kind, not_plain, after_becomes, after-size, after_nothing, up_back, back_up, up_mark, plain_size, marked_size, after_block, right-after, after_range, items_made, after_made}

-- what the head's test asks is what it has to be
movable : (c : Change) (h : Head) → first (head_tests c h) ≡ 0 → Movable c h
movable Change.Up h e = tt
movable Change.Back h e = eqb-true (low_water h) 0 (first-zero 0 (head_tests Change.Back h) (head-ascending Change.Back h) e).0
movable (Change.Mark n) h e = eqb-true (head_kind h) 17 (first-zero 0 (head_tests (Change.Mark n) h) (head-ascending (Change.Mark n) h) e).0

moves : (c : Change) (h : Head) → Movable c h → first (head_tests c h) ≡ 0
moves Change.Up h m = sym (up_number Change.Up h refl)
moves Change.Back h m = sym (back_kept Change.Back h refl (eq-eqb (low_water h) 0 m))
moves (Change.Mark n) h m = sym (mark_yes (Change.Mark n) h n refl (eq-eqb (head_kind h) 17 m))

-- THE NUMBERS
module _ (d : Device) (s : List ℕ) (c : Change) (w : ℕ) where
  abbrev own : List Test
  own = head_tests c (head_of s) ++ room_tests c s w

  record_no : (first (record_tests d s) ≡ 0 → ⊥) → first (change_tests d s c w) ≡ first (record_tests d s)
  record_no z = first-before 0 (record_tests d s) own (record_ascending d s) z

  record_yes : first (record_tests d s) ≡ 0 → first (change_tests d s c w) ≡ first own
  record_yes z = first-after (record_tests d s) own (first-zero 0 (record_tests d s) (record_ascending d s) z)

  head_no : (first (head_tests c (head_of s)) ≡ 0 → ⊥) → first own ≡ first (head_tests c (head_of s))
  head_no z = first-before 0 (head_tests c (head_of s)) (room_tests c s w) (head-ascending c (head_of s)) z

  head-yes : first (head_tests c (head_of s)) ≡ 0 → first own ≡ first (room_tests c s w)
  head-yes z = first-after (head_tests c (head_of s)) (room_tests c s w) (first-zero 0 (head_tests c (head_of s)) (head-ascending c (head_of s)) z)

  room_no : w < length (record_after c s) → first (room_tests c s w) ≡ 1
  room_no l = first_fail (leb (length (record_after c s)) w) 1 [] (lt-leb (length (record_after c s)) w l)

  room_yes : length (record_after c s) ≤ w → first (room_tests c s w) ≡ 0
  room_yes l = first-pass (leb (length (record_after c s)) w) 1 [] (le-leb (length (record_after c s)) w l) ∙ first-nil

  room_small : first (room_tests c s w) < 2
  room_small = first_below 2 (room_tests c s w) (lit< tt) (lit< tt, tt)

  -- a change that is not refused
  pub record Allowed : Type 0 where
    pub zero : first (record_tests d s) ≡ 0
    pub head : Movable c (head_of s)
    pub room : length (record_after c s) ≤ w

  allowed : first (change_tests d s c w) ≡ 0 → Allowed
  allowed e =
      let p : (first (record_tests d s) ≡ 0) × (first own ≡ 0) = first_split (record_tests d s) own (record_numbered d s) e in
      let q : (first (head_tests c (head_of s)) ≡ 0) × (first (room_tests c s w) ≡ 0) =
      first_split (head_tests c (head_of s)) (room_tests c s w) (ascending-numbered 0 (head_tests c (head_of s)) (head-ascending c (head_of s))) p.1 in
      record {
        zero = p.0;
        head = movable c (head_of s) q.0;
        room = leb-true (length (record_after c s)) w (first-zero 0 (room_tests c s w) (lit< tt, tt) q.1).0;
      }

  -- the length of the new record of an accepted one
  after_long : first (record_tests d s) ≡ 0 → Movable c (head_of s) → length (record_after c s) ≡ head_bytes_after c + item_bytes * length (segments s)
  after_long z m =
      let b : length s ≡ head_size (head_of s) + item_bytes * length (segments s) = (formed d s (accepted d s z).form).bytes in
      let i : length (items_of s) ≡ length s - head_size (head_of s) = length_items s in
      let n : length (record_after c s) ≡ head_size (head_after c (head_of s)) + length (items_of s) = length-after c s in
      let e : head_size (head_after c (head_of s)) ≡ head_bytes_after c = after-size d c (head_of s) (accepted-right d s z).each.head m in
      omega arith

pub record_first : RecordFirst
record_first d s c w l = record_no d s c w (λ z. omega arith)

pub owned : Owned
owned d s c w z =
    record {
      done = λ m l.
          record_yes d s c w z ∙ (head-yes d s c w (moves c (head_of s) m) ∙ room_yes d s c w (let e : length (record_after c s) ≡ head_bytes_after c + item_bytes * length (segments s) = after_long d s c w z m in omega arith));
      short = λ m l.
          record_yes d s c w z ∙ (head-yes d s c w (moves c (head_of s) m) ∙ room_no d s c w (let e : length (record_after c s) ≡ head_bytes_after c + item_bytes * length (segments s) = after_long d s c w z m in omega arith));
      needs = λ e.
          (let a : Allowed d s c w = allowed d s c w e in
          let m : Movable c (head_of s) = a.head in
          let l : length (record_after c s) ≤ w = a.room in
          let n : length (record_after c s) ≡ head_bytes_after c + item_bytes * length (segments s) = after_long d s c w z m in
          (m, omega arith));
      no_place = λ n e k.
          (let f : first (head_tests c (head_of s)) ≡ 17 = sym (mark_no c (head_of s) n e (ne_eqb (head_kind (head_of s)) 17 (not_plain (head_of s) k))) in
          record_yes d s c w z ∙ (head_no d s c w (λ y. omega arith) ∙ f));
    }

-- 24
loses : (d : Device) (s : List ℕ) (c : Change) (w : ℕ) → Loses d s c → first (change_tests d s c w) ≡ 24
loses d s c w l =
    let m : 0 < low_water (head_of s) = l.mark in
    let f : first (head_tests c (head_of s)) ≡ 24 = sym (back_lost c (head_of s) l.back (ne_eqb (low_water (head_of s)) 0 (λ y. omega arith))) in
    record_yes d s c w l.accepted ∙ (head_no d s c w (λ y. omega arith) ∙ f)

lost : (d : Device) (s : List ℕ) (c : Change) (w : ℕ) → first (change_tests d s c w) ≡ 24 → Loses d s c
lost d s c w e =
    elim (ℕ_discrete (first (record_tests d s)) 0) [
      | yes z ↦ by-change c (sym (record_yes d s c w z) ∙ e) z
      | no z ↦ absurd (let l : first (record_tests d s) < 20 = first_below 20 (record_tests d s) (lit< tt) (lit< tt, (lit< tt, (lit< tt, (lit< tt, (lit< tt, (lit< tt, (lit< tt, tt))))))) in let q : first (record_tests d s) ≡ 24 = sym (record_no d s c w z) ∙ e in omega arith)
    ]
  where
    room : (c : Change) → first (head_tests c (head_of s)) ≡ 0 → first (head_tests c (head_of s) ++ room_tests c s w) ≡ 24 → ⊥
    room c z f =
        let l : first (room_tests c s w) < 2 = room_small d s c w in
        let q : first (room_tests c s w) ≡ 24 = sym (head-yes d s c w z) ∙ f in
        omega arith

    by-change : (c : Change) → first (head_tests c (head_of s) ++ room_tests c s w) ≡ 24 → first (record_tests d s) ≡ 0 → Loses d s c
    by-change Change.Up f z = absurd (room Change.Up (moves Change.Up (head_of s) tt) f)
    by-change Change.Back f z =
        elim (ℕ_discrete (low_water (head_of s)) 0) [
          | yes y ↦ absurd (room Change.Back (moves Change.Back (head_of s) y) f)
          | no y ↦ record { accepted = z; back = refl; kind = mark_kind (head_of s) y; mark = (let q : 0 < low_water (head_of s) = omega arith in q) }
        ]
    by-change (Change.Mark n) f z =
        elim (ℕ_discrete (head_kind (head_of s)) 17) [
          | yes y ↦ absurd (room (Change.Mark n) (moves (Change.Mark n) (head_of s) y) f)
          | no y ↦ absurd (let g : first (head_tests (Change.Mark n) (head_of s)) ≡ 17 = sym (mark_no (Change.Mark n) (head_of s) n refl (ne_eqb (head_kind (head_of s)) 17 y)) in let q : first (head_tests (Change.Mark n) (head_of s)) ≡ 24 = sym (head_no d s (Change.Mark n) w (λ x. omega arith)) ∙ f in omega arith)
        ]

pub twenty_four : TwentyFour
twenty_four d s c w = (lost d s c w, loses d s c w)

-- REFUSED
pub refusing : Refusing
refusing d s c out l =
    let n : ℕ = first (change_tests d s c (length out)) in (
      told_other n (named n s) (length (record_after c s)) (λ z. omega arith),
      sym (answer_no (splice out 0 (record_after c s)) (λ (k : ℕ). out) n n refl (λ z. omega arith)),
    )

-- the numbers are known
change-known : (d : Device) (s : List ℕ) (c : Change) (w : ℕ) → first (change_tests d s c w) < 25
change-known d s Change.Up w =
    first_below 25 (change_tests d s Change.Up w) (lit< tt) (lit< tt, (lit< tt, (lit< tt, (lit< tt, (lit< tt, (lit< tt, (lit< tt, (lit< tt, tt))))))))
change-known d s Change.Back w =
    first_below 25 (change_tests d s Change.Back w) (lit< tt) (lit< tt, (lit< tt, (lit< tt, (lit< tt, (lit< tt, (lit< tt, (lit< tt, (lit< tt, (lit< tt, tt)))))))))
change-known d s (Change.Mark n) w =
    first_below 25 (change_tests d s (Change.Mark n) w) (lit< tt) (lit< tt, (lit< tt, (lit< tt, (lit< tt, (lit< tt, (lit< tt, (lit< tt, (lit< tt, (lit< tt, tt)))))))))

pub numbered : AllNumbered
numbered d s c w = refusal_named (first (change_tests d s c w)) s (length (record_after c s)) (change-known d s c w)

-- DONE
module _ (d : Device) (s : List ℕ) (c : Change) (out : List ℕ) (small : d.sectors < 2 ^ 64) (again : record_of (head_of s) (segments s) ≡ s) (four : FourBytes c)
    (e : first (change_tests d s c (length out)) ≡ 0) where
  abbrev a : Allowed d s c (length out)
  a = allowed d s c (length out) e

  abbrev t : List ℕ
  t = record_after c s

  abbrev h : Head
  h = head_after c (head_of s)

  right : Right d (head_of s) (segments s)
  right = accepted-right d s a.zero

  right_now : Right d h (segments s)
  right_now = right-after d c (head_of s) (segments s) four right

  made : t ≡ record_of h (segments s)
  made = after_made d s c a.zero again

  head_now : head_of t ≡ h
  head_now = ap head_of made ∙ read_head d h (segments s) small right_now

  segments_now : segments t ≡ segments s
  segments_now = ap segments made ∙ read_segments d h (segments s) small right_now

  again_now : record_of (head_of t) (segments t) ≡ t
  again_now = ap₂ record_of head_now segments_now ∙ sym made

  accepted_now : first (record_tests d t) ≡ 0
  accepted_now = ap (λ (z : List ℕ). first (record_tests d z)) made ∙ accepted_made d h (segments s) small right_now

  left : change_left d s c out ≡ t ++ drop (0 + length t) out
  left =
      sym (answer-yes (splice out 0 t) (λ (k : ℕ). out) 0 (first (change_tests d s c (length out))) (sym e) refl)
      ∙ splice-fits out 0 t (let l : length t ≤ length out = a.room in omega arith)

  -- the record is its head's bytes and its items
  whole : head_bytes (head_of s) ++ items_of s ≡ s
  unfolding record_of
  whole = ap (λ (z : List ℕ). head_bytes (head_of s) ++ z) (items_made d s a.zero again) ∙ again

  literal_now : ByteForByte c s t
  unfolding record_after
  literal_now = subst (λ (z : List ℕ). ByteForByte c z t) whole (literal d c (head_of s) (items_of s) right.each.head a.head)

  same_range : (k : ℕ) → range_for d (head_of t) k ≡ range_for d (head_of s) k
  same_range k = ap (λ (z : Head). range_for d z k) head_now ∙ after_range d c (head_of s) k four right.each.head

  moved : Moved d s c out (length t) t
  moved =
      record {
        answer = told_zero (first (change_tests d s c (length out))) (named (first (change_tests d s c (length out))) s) (length t) e;
        new = ap (take (length t)) left ∙ take_at t (drop (0 + length t) out) (length t) refl;
        past = ap (drop (length t)) left ∙ (drop_at t (drop (0 + length t) out) (length t) refl ∙ ap (λ (k : ℕ). drop k out) (let q : 0 + length t ≡ length t = omega arith in q));
        long = refl;
        literal = literal_now;
        accepted = accepted_now;
        right = record { head = h; list = segments s; right = right_now; is = sym made };
        head = subst (Becomes c (head_of s)) (sym head_now) (after_becomes d c (head_of s) right.each.head a.head);
        block = ap block_size head_now ∙ after_block c (head_of s);
        bytes = sym (items_are t) ∙ (items_made d t accepted_now again_now ∙ (ap all_bytes segments_now ∙ (sym (items_made d s a.zero again) ∙ items_are s)));
        segments_are = segments_now;
        made = ap (λ (z : Head). record_of z (segments s)) head_now ∙ sym made;
        ranges = same_range;
        free = λ x. ap (λ (gs : List Segment). is_free (data_range d) gs x) segments_now;
        runs = ap (free_runs (data_range d)) segments_now;
        for_runs = λ k. ap₂ free_runs (same_range k) segments_now;
        places = λ x. ap (λ (gs : List Segment). parts d gs x) segments_now;
      }

  -- a record that it is
  moved_to : (u : List ℕ) → t ≡ u → Moved d s c out (length u) u
  moved_to u k = subst (λ (z : List ℕ). Moved d s c out (length z) z) k moved

-- a record of bytes is made of its head and its segments
bytes_again : (d : Device) (s : List ℕ) → Bytes s → first (record_tests d s) ≡ 0 → record_of (head_of s) (segments s) ≡ s
bytes_again d s b z = record_again d s b (accepted d s z).form

pub loses_bytes : LosesBytes
unfolding record_of
loses_bytes d s w b z = (
  λ e. subst (λ (t : List ℕ). KindBytes 17 t × (take 4 (drop 8 t) ≡ 0 ∷ 0 ∷ 0 ∷ 0 ∷ [] → ⊥)) whole-s (lost_bytes d (head_of s) (items_of s) right-s (lost d s Change.Back w e).kind (λ y. (let m : 0 < low_water (head_of s) = (lost d s Change.Back w e).mark in omega arith))),
  λ k n. loses d s Change.Back w (by (bytes_lost d (head_of s) (items_of s) right-s (subst (KindBytes 17) (sym whole-s) k) (subst (λ (t : List ℕ). take 4 (drop 8 t) ≡ 0 ∷ 0 ∷ 0 ∷ 0 ∷ [] → ⊥) (sym whole-s) n))),
)
  where
    right-s : head_right d (head_of s) ≡ true
    right-s = (accepted-right d s z).each.head

    whole-s : head_bytes (head_of s) ++ items_of s ≡ s
    whole-s = ap (λ (t : List ℕ). head_bytes (head_of s) ++ t) (items_made d s z (bytes_again d s b z)) ∙ bytes_again d s b z

    by : (head_kind (head_of s) ≡ 17) × (low_water (head_of s) ≡ 0 → ⊥) → Loses d s Change.Back
    by h = record { accepted = z; back = refl; kind = h.0; mark = (let q : low_water (head_of s) ≡ 0 → ⊥ = h.1 in let m : 0 < low_water (head_of s) = omega arith in m) }

pub changes : Changes
changes d s c out small b four e =
    let again : record_of (head_of s) (segments s) ≡ s = bytes_again d s b (allowed d s c (length out) e).zero in
    (length (record_after c s), (record_after c s, moved d s c out small again four e))

pub same : Same
same d s c out small b four e n =
    let a : Allowed d s c (length out) = allowed d s c (length out) e in
    let again : record_of (head_of s) (segments s) ≡ s = bytes_again d s b a.zero in
    moved_to d s c out small again four e s
    (made d s c out small again four e
    ∙ (ap (λ (z : Head). record_of z (segments s)) (after_nothing d c (head_of s) (accepted-right d s a.zero).each.head a.head n) ∙ again))

-- THERE AND BACK, where the head that comes back is the one that went
module _ (d : Device) (s : List ℕ) (there back : Change) (out over : List ℕ) (small : d.sectors < 2 ^ 64) (b : Bytes s) (four : FourBytes there) (four-back : FourBytes back)
    (e : first (change_tests d s there (length out)) ≡ 0) where
  abbrev once : List ℕ
  once = record_after there s

  zero : first (record_tests d s) ≡ 0
  zero = (allowed d s there (length out) e).zero

  again : record_of (head_of s) (segments s) ≡ s
  again = bytes_again d s b zero

  abbrev after : Head
  after = head_after there (head_of s)

  returns : head_after back after ≡ head_of s → Movable back after → head_bytes_after back ≡ head_size (head_of s) → length s ≤ length over → Returns d s there back out over
  returns k m size l =
      let o : head_of once ≡ after = head_now d s there out small again four e in
      let g : segments once ≡ segments s = segments_now d s there out small again four e in
      let n : length (segments once) ≡ length (segments s) = ap length g in
      let w : length s ≡ head_size (head_of s) + item_bytes * length (segments s) = (formed d s (accepted d s zero).form).bytes in
      let f : first (change_tests d once back (length over)) ≡ 0 =
      (owned d once back (length over) (accepted_now d s there out small again four e)).done (subst (Movable back) (sym o) m) (omega arith) in
      record {
        n = length once;
        t = once;
        first_one = moved d s there out small again four e;
        second_one = moved_to d once back over small (again_now d s there out small again four e) four-back f s
            (made d once back over small (again_now d s there out small again four e) four-back f
            ∙ (ap₂ (λ (z : Head) (gs : List Segment). record_of (head_after back z) gs) o g ∙ (ap (λ (z : Head). record_of z (segments s)) k ∙ again)));
      }

pub up_and_back : UpAndBack
up_and_back d s out over small b k e l =
    returns d s Change.Up Change.Back out over small b tt tt e (up_back (head_of s) k) (up_mark (head_of s) k) (sym (plain_size (head_of s) k)) l

pub back_and_up : BackAndUp
back_and_up d s out over small b k z e l =
    returns d s Change.Back Change.Up out over small b tt tt e (back_up (head_of s) k z) tt (sym (marked_size (head_of s) k)) l

-- what the claims ask for is there
pub existing : Existing
existing d b small z size =
    record {
      plain-accepted = alone (Plain b) plain;
      marked_accepted = λ m l. alone (Marked b m) (marked m l);
      up = (owned d (record_of (Plain b) []) Change.Up 12 (alone (Plain b) plain)).done tt (short (Plain b) plain 12 12 (lit≤ tt));
      back = (owned d (record_of (Marked b 0) []) Change.Back 12 (alone (Marked b 0) (marked 0 (lit< tt)))).done (ap low_water (head-alone (Marked b 0) (marked 0 (lit< tt))) ∙ (head_says b 0).1.1.1.1)
          (short (Marked b 0) (marked 0 (lit< tt)) 8 12 (lit≤ tt));
      lost = λ m p l.
          loses d (record_of (Marked b m) []) Change.Back 12
          (record {
            accepted = alone (Marked b m) (marked m l);
            back = refl;
            kind = ap head_kind (head-alone (Marked b m) (marked m l)) ∙ (head_says b m).1.0;
            mark = subst (λ (n : ℕ). 0 < n) (sym (ap low_water (head-alone (Marked b m) (marked m l)) ∙ (head_says b m).1.1.1.1)) p;
          });
      no_mark = λ n. (owned d (record_of (Plain b) []) (Change.Mark n) 12 (alone (Plain b) plain)).no_place n refl (ap head_kind (head-alone (Plain b) plain) ∙ (head_says b 0).0.0);
    }
  where
    plain : head_right d (Plain b) ≡ true
    plain = ((heads d).plain b).1 size

    marked : (m : ℕ) → m < 2 ^ 32 → head_right d (Marked b m) ≡ true
    marked m l = ((heads d).marked b m).1 (size, l)

    alone : (h : Head) → head_right d h ≡ true → first (record_tests d (record_of h [])) ≡ 0
    alone h r = accepted_made d h [] small (right-empty d h z r)

    head-alone : (h : Head) → head_right d h ≡ true → head_of (record_of h []) ≡ h
    head-alone h r = read_head d h [] small (right-empty d h z r)

    short : (h : Head) → head_right d h ≡ true → (n w : ℕ) → n ≤ w → n + item_bytes * length (segments (record_of h [])) ≤ w
    short h r n w l = let g : length (segments (record_of h [])) ≡ 0 = ap length (read_segments d h [] small (right-empty d h z r)) in omega arith
