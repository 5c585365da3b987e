-- Laws of making a record: parts written one after the other, reading what was made, and making what was read.
use Prim.Native.Nat.{ℕ, zero, suc, ◌+◌, ◌-◌, ◌*◌, ◌/◌, ◌^◌, ◌≤◌, ◌<◌, min}
use mathlib.Core.Path.{◌≡◌, refl, sym, ap, ◌∙◌}
use mathlib.Core.Bool.{true, false, true≢false}
use mathlib.Core.List.{List, [], ◌∷◌, ◌++◌, append_assoc, append-nil}
use native.Mathlib.Nat.{not-suc-le-zero, le_of_suc-le-suc}
use native.Mathlib.Omega.{arith}
use borrow.Author.Tests.{le-leb, lt-leb}
use lib.Dec.{lit<, lit≤}
use lib.ListN.{length, take, drop, length-append, length-drop, take-append-drop}
use lib.Seq.{length-take-le, take_at, drop_at, get_or-drop, split_at}
use Rattle.std.specs.Prelude.{Ok, Err}
use native.Mathlib.Decide.{dec_le}
use Rattle.refusal.specs.declared.Reason.{Reason}
use Rattle.refusal.specs.Refusals.{plain}
use Rattle.refusal.specs.Reasons.{answer}
use Rattle.refusal.specs.Tests.{first}
use Rattle.refusal.proofs.Reasons.{err_other}
use Rattle.endian.specs.Bytes.{le, to_le, window, splice, fits, Bytes}
use Rattle.endian.proofs.Numbers.{length-to_le, le-to_le, to_le-le}
use Rattle.endian.proofs.Parts.{length-window-fits, window-append, bytes_window, window-window, splice_next, splice-short}
use Rattle.layout.specs.declared.Device.{Device}
use Rattle.segments.specs.declared.Segment.{Segment}
use Rattle.segments.specs.Segments.{none, nth}
use Rattle.items.specs.declared.Item.{Item}
use Rattle.items.specs.declared.Head.{Head}
use Rattle.items.specs.declared.Head.TheVariants.{Plain, Marked}
use Rattle.items.specs.Head.{plain_kind, marked_kind, item_of, head_as, head_of, head_bytes, head_size, head_allowed, head_right, allows, item_bytes}
use Rattle.items.specs.Items.{items_of, segment_of, read_items, segments_in, segments, size_in, well_formed}
use Rattle.items.specs.Making.{segment_bytes, all_bytes, record_of, place, appended, removed, begin_tests, begun, begins, room_tests, put_tests, put_answer, put_left}
use Rattle.items.proofs.Heads.{length-head, HeadFits, field, kind_is, head_made, size_made}
use Rattle.items.proofs.Items.{window-drop, length-segments, Fit, items_are, length_items, Formed, formed, formed_back}

pub length-segment : (g : Segment) → length (segment_bytes g) ≡ item_bytes
unfolding segment_bytes
length-segment g = rw (length-append, length-append, length-append, length-to_le, length-to_le, length-to_le, length-to_le)

-- a head and a segment that do not fit leave what was there
pub head-short : (s : List ℕ) (h : Head) → length s < head_size h → splice s 0 (head_bytes h) ≡ s
head-short s h l =
    let n : length (head_bytes h) ≡ head_size h = length-head h in
    splice-short s 0 (head_bytes h) (omega arith)

pub put-short : (s : List ℕ) (at : ℕ) (g : Segment) → length s < at + 20 → splice s at (segment_bytes g) ≡ s
put-short s at g h = splice-short s at (segment_bytes g) (rw length-segment h)

-- three writes make a head
pub plain-written : (s : List ℕ) (z : ℕ) → head_size (Plain z) ≤ length s
    → splice (splice (splice s 0 (to_le 2 8)) 2 (to_le 2 plain_kind)) 4 (to_le 4 z) ≡ splice s 0 (head_bytes (Plain z))
unfolding head_bytes head_size
plain-written s z h =
    let d : length (to_le 2 8) ≡ 2 = length-to_le 2 8 in
    let e : length (to_le 2 plain_kind) ≡ 2 = length-to_le 2 plain_kind in
    let f : length (to_le 4 z) ≡ 4 = length-to_le 4 z in
    ap (λ (x : List ℕ). splice x 4 (to_le 4 z)) (splice_next s 0 (to_le 2 8) (to_le 2 plain_kind) 2 (omega arith) (omega arith))
    ∙ (splice_next s 0 (to_le 2 8 ++ to_le 2 plain_kind) (to_le 4 z) 4 (rw length-append (omega arith)) (omega arith)
    ∙ ap (splice s 0) (append_assoc (to_le 2 8) (to_le 2 plain_kind) (to_le 4 z)))

-- four make one with a mark
pub marked_written : (s : List ℕ) (z m : ℕ) → head_size (Marked z m) ≤ length s
    → splice (splice (splice (splice s 0 (to_le 2 12)) 2 (to_le 2 marked_kind)) 4 (to_le 4 z)) 8 (to_le 4 m) ≡ splice s 0 (head_bytes (Marked z m))
unfolding head_bytes head_size
marked_written s z m h =
    let d : length (to_le 2 12) ≡ 2 = length-to_le 2 12 in
    let e : length (to_le 2 marked_kind) ≡ 2 = length-to_le 2 marked_kind in
    let f : length (to_le 4 z) ≡ 4 = length-to_le 4 z in
    let g : length (to_le 4 m) ≡ 4 = length-to_le 4 m in
    ap (λ (x : List ℕ). splice (splice x 4 (to_le 4 z)) 8 (to_le 4 m)) (splice_next s 0 (to_le 2 12) (to_le 2 marked_kind) 2 (omega arith) (omega arith))
    ∙ (ap (λ (x : List ℕ). splice x 8 (to_le 4 m)) (splice_next s 0 (to_le 2 12 ++ to_le 2 marked_kind) (to_le 4 z) 4 (rw length-append (omega arith)) (omega arith))
    ∙ (splice_next s 0 ((to_le 2 12 ++ to_le 2 marked_kind) ++ to_le 4 z) (to_le 4 m) 8 (rw (length-append, length-append) (omega arith)) (omega arith)
    ∙ ap (splice s 0) (simp append_assoc)))

-- four writes make a segment
pub segment-written : (s : List ℕ) (at : ℕ) (g : Segment) → at + 20 ≤ length s
    → splice (splice (splice (splice s at (to_le 2 20)) (at + 2) (to_le 2 g.kind)) (at + 4) (to_le 8 g.start)) (at + 12) (to_le 8 g.sectors)
    ≡ splice s at (segment_bytes g)
unfolding segment_bytes
segment-written s at g h =
    let a : length (to_le 2 20) ≡ 2 = length-to_le 2 20 in
    let d : length (to_le 2 g.kind) ≡ 2 = length-to_le 2 g.kind in
    let e : length (to_le 8 g.start) ≡ 8 = length-to_le 8 g.start in
    let f : length (to_le 8 g.sectors) ≡ 8 = length-to_le 8 g.sectors in
    ap (λ (z : List ℕ). splice (splice z (at + 4) (to_le 8 g.start)) (at + 12) (to_le 8 g.sectors))
    (splice_next s at (to_le 2 20) (to_le 2 g.kind) (at + 2) (omega arith) (omega arith))
    ∙ (ap (λ (z : List ℕ). splice z (at + 12) (to_le 8 g.sectors))
    (splice_next s at (to_le 2 20 ++ to_le 2 g.kind) (to_le 8 g.start) (at + 4) (rw length-append (omega arith)) (omega arith))
    ∙ (splice_next s at (to_le 2 20 ++ to_le 2 g.kind ++ to_le 8 g.start) (to_le 8 g.sectors) (at + 12)
    (rw (length-append, length-append) (omega arith)) (omega arith) ∙ ap (splice s at) (simp append_assoc)))

-- the number of a record that is begun
pub begin-short : (s : List ℕ) (h : Head) → length s < head_size h → first (begin_tests s h) ≡ 1
unfolding first fits
begin-short s h l = rw (lt-leb (0 + head_size h) (length s) (omega arith))

pub begin_form : (s : List ℕ) (h : Head) → head_size h ≤ length s → head_allowed h ≡ false → first (begin_tests s h) ≡ 17
unfolding first fits
begin_form s h l e = rw (le-leb (0 + head_size h) (length s) (omega arith), e)

pub begin_fits : (s : List ℕ) (h : Head) → head_size h ≤ length s → head_allowed h ≡ true → first (begin_tests s h) ≡ 0
unfolding first fits
begin_fits s h l e = rw (le-leb (0 + head_size h) (length s) (omega arith), e)

-- a record begun with a head that is within its limits and has room
pub begun_is : (s : List ℕ) (h : Head) → head_allowed h ≡ true → head_size h ≤ length s → begun s h ≡ splice s 0 (head_bytes h)
begun_is s h r l = rw (begin_fits s h l r)

-- bytes that are refused have no room
pub no_room : (out : List ℕ) (at n : ℕ) (e : Reason) → answer (first (room_tests out at n)) (tt {0}) ≡ Err e → length out < at + n
unfolding first fits
no_room out at n e h =
    elim (dec_le (at + n) (length out)) [
      | yes l ↦ absurd (err_other (first (room_tests out at n)) (plain (first (room_tests out at n))) tt e h (rw (le-leb (at + n) (length out) l)))
      | no l ↦ omega arith
    ]

-- a segment that is put, and one that is not
module _ (out : List ℕ) (i : ℕ) (g : Segment) (b : begins out ≡ true) where
  put_fits : place out i + item_bytes ≤ length out → first (put_tests out i) ≡ 0
  unfolding first fits
  put_fits l = rw (b, le-leb (place out i + item_bytes) (length out) l)

  put_no : length out < place out i + item_bytes → first (put_tests out i) ≡ 1
  unfolding first fits
  put_no l = rw (b, lt-leb (place out i + item_bytes) (length out) l)

  pub put_done : place out i + item_bytes ≤ length out
      → (put_answer out i ≡ Ok (place out i + item_bytes)) × (put_left out i g ≡ splice out (place out i) (segment_bytes g))
  put_done l = (rw (put_fits l), rw (put_fits l))

  pub put_kept : (at : ℕ) → at ≡ min (place out i) (length out) → length out < at + item_bytes → splice out at (segment_bytes g) ≡ put_left out i g
  put_kept at e l = rw (put_no (let m : length out < place out i + item_bytes = omega arith in m)) (put-short out at g l)

-- READ WHAT WAS MADE: an item
module _ (g : Segment) where
  size-item : (r : List ℕ) → le (window (segment_bytes g ++ r) 0 2) ≡ item_bytes
  unfolding segment_bytes
  size-item r =
      ap le (field ((to_le 2 20 ++ (to_le 2 g.kind ++ (to_le 8 g.start ++ to_le 8 g.sectors))) ++ r) [] (to_le 2 20) (to_le 2 g.kind ++ (to_le 8 g.start ++ (to_le 8 g.sectors ++ r))) 0 2 (simp append_assoc) refl (length-to_le 2 20))
      ∙ le-to_le 2 20 (lit< tt)

  kind-item : g.kind < 256 ^ 2 → le (window (segment_bytes g) 2 2) ≡ g.kind
  unfolding segment_bytes
  kind-item h =
      ap le (field (to_le 2 20 ++ (to_le 2 g.kind ++ (to_le 8 g.start ++ to_le 8 g.sectors))) (to_le 2 20) (to_le 2 g.kind) (to_le 8 g.start ++ to_le 8 g.sectors) 2 2 refl (length-to_le 2 20) (length-to_le 2 g.kind))
      ∙ le-to_le 2 g.kind h

  start_item : g.start < 256 ^ 8 → le (window (segment_bytes g) 4 8) ≡ g.start
  unfolding segment_bytes
  start_item h =
      let a : length (to_le 2 20) ≡ 2 = length-to_le 2 20 in
      let b : length (to_le 2 g.kind) ≡ 2 = length-to_le 2 g.kind in
      ap le (field (to_le 2 20 ++ (to_le 2 g.kind ++ (to_le 8 g.start ++ to_le 8 g.sectors))) (to_le 2 20 ++ to_le 2 g.kind) (to_le 8 g.start) (to_le 8 g.sectors) 4 8 (simp append_assoc) (rw length-append (omega arith)) (length-to_le 8 g.start))
      ∙ le-to_le 8 g.start h

  sectors-item : g.sectors < 256 ^ 8 → le (window (segment_bytes g) 12 8) ≡ g.sectors
  unfolding segment_bytes
  sectors-item h =
      let a : length (to_le 2 20) ≡ 2 = length-to_le 2 20 in
      let b : length (to_le 2 g.kind) ≡ 2 = length-to_le 2 g.kind in
      let d : length (to_le 8 g.start) ≡ 8 = length-to_le 8 g.start in
      ap le (field (to_le 2 20 ++ (to_le 2 g.kind ++ (to_le 8 g.start ++ to_le 8 g.sectors))) (to_le 2 20 ++ (to_le 2 g.kind ++ to_le 8 g.start)) (to_le 8 g.sectors) [] 12 8 (simp (append_assoc, append-nil)) (rw (length-append, length-append) (omega arith)) (length-to_le 8 g.sectors))
      ∙ le-to_le 8 g.sectors h

  segment-item : Fit g → segment_of (segment_bytes g) ≡ g
  unfolding segment_of
  segment-item f = rw (kind-item f.kind, start_item f.start, sectors-item f.sectors)

abbrev pub AllFit : List Segment → Type 0
AllFit gs = (i : ℕ) → i < length gs → Fit (nth gs i)

pub length_all : (gs : List Segment) → length (all_bytes gs) ≡ item_bytes * length gs
unfolding all_bytes
length_all [] = refl
length_all (g ∷ gs) =
    let r : length (all_bytes gs) ≡ 20 * length gs = length_all gs in
    let e : length (segment_bytes g) ≡ 20 = length-segment g in
    rw length-append (omega arith)

first-item : (g : Segment) (r : List ℕ) → window (segment_bytes g ++ r) 0 item_bytes ≡ segment_bytes g
unfolding window
first-item g r = take_at (segment_bytes g) r item_bytes (length-segment g)

read_all : (gs : List Segment) → AllFit gs → read_items (length gs) (all_bytes gs) ≡ gs
unfolding read_items all_bytes
read_all [] f = refl
read_all (g ∷ gs) f =
    rw (first-item g (all_bytes gs), segment-item g (f 0 (let l : 0 < suc (length gs) = omega arith in l)), drop_at (segment_bytes g) (all_bytes gs) item_bytes (length-segment g), read_all gs (λ i l. f (suc i) (let k : suc i < suc (length gs) = omega arith in k)))

segments_all : (gs : List Segment) → AllFit gs → segments_in (all_bytes gs) ≡ gs
unfolding segments_in
segments_all gs f = ap (λ (z : ℕ). read_items z (all_bytes gs)) (let e : length (all_bytes gs) / item_bytes ≡ length gs = rw (length_all gs) (omega arith) in e) ∙ read_all gs f

-- READ WHAT WAS MADE: the record's length, its head and its segments, in order
pub length_record : (h : Head) (gs : List Segment) → length (record_of h gs) ≡ head_size h + item_bytes * length gs
unfolding record_of
length_record h gs =
    let a : length (head_bytes h) ≡ head_size h = length-head h in
    let b : length (all_bytes gs) ≡ 20 * length gs = length_all gs in
    rw length-append (omega arith)

pub head_record : (h : Head) (gs : List Segment) → HeadFits h → head_of (record_of h gs) ≡ h
unfolding record_of
head_record h gs f = head_made h (all_bytes gs) f

pub items_record : (h : Head) (gs : List Segment) → HeadFits h → items_of (record_of h gs) ≡ all_bytes gs
unfolding record_of
items_record h gs f =
    items_are (head_bytes h ++ all_bytes gs)
    ∙ (ap (λ (z : Head). drop (head_size z) (head_bytes h ++ all_bytes gs)) (head_made h (all_bytes gs) f)
    ∙ drop_at (head_bytes h) (all_bytes gs) (head_size h) (length-head h))

pub segments_record : (h : Head) (gs : List Segment) → HeadFits h → AllFit gs → segments (record_of h gs) ≡ gs
segments_record h gs f g = ap segments_in (items_record h gs f) ∙ segments_all gs g

size-at : (t : List ℕ) (i k : ℕ) → item_bytes * i ≡ k → size_in t i ≡ le (window t k 2)
unfolding size_in
size-at t i k e = ap (λ (z : ℕ). le (window t z 2)) e

-- the items past the first
size_next : (t : List ℕ) (i : ℕ) → size_in t (suc i) ≡ size_in (drop item_bytes t) i
unfolding size_in
size_next t i =
    ap le (ap (λ (z : ℕ). window t z 2) (let e : item_bytes * suc i ≡ item_bytes + item_bytes * i = omega arith in e) ∙ sym (window-drop t item_bytes (item_bytes * i) 2))

size_all : (gs : List Segment) (i : ℕ) → i < length gs → size_in (all_bytes gs) i ≡ item_bytes
unfolding all_bytes
size_all [] i l = absurd (not-suc-le-zero l)
size_all (g ∷ gs) zero l =
    size-at (segment_bytes g ++ all_bytes gs) 0 0 (let e : item_bytes * 0 ≡ 0 = omega arith in e) ∙ size-item g (all_bytes gs)
size_all (g ∷ gs) (suc i) l =
    size_next (segment_bytes g ++ all_bytes gs) i
    ∙ (ap (λ (z : List ℕ). size_in z i) (drop_at (segment_bytes g) (all_bytes gs) item_bytes (length-segment g)) ∙ size_all gs i (le_of_suc-le-suc l))

says_of : (h : Head) (gs : List Segment) → HeadFits h → le (window (record_of h gs) 0 2) ≡ head_size h
unfolding record_of
says_of h gs f = size_made h (all_bytes gs) f

-- A made record is well formed where its head is right and its kinds are allowed.
pub formed_record : (d : Device) (h : Head) (gs : List Segment) → HeadFits h → head_right d h ≡ true → AllFit gs
    → ((i : ℕ) → i < length gs → allows h (nth gs i).kind ≡ true) → well_formed d (record_of h gs) ≡ true
formed_record d h gs f r a k =
    formed_back d (record_of h gs)
    (record {
      says = says ∙ ap head_size (sym e);
      bytes = length_record h gs ∙ rw (e, g);
      head = rw e r;
      sizes = λ i l. rw (items_record h gs f) (size_all gs i (rw g at l));
      kinds = λ i l. rw (e, g) (k i (rw g at l));
    })
  where
    e : head_of (record_of h gs) ≡ h
    e = head_record h gs f

    g : segments (record_of h gs) ≡ gs
    g = segments_record h gs f a

    says : le (window (record_of h gs) 0 2) ≡ head_size h
    says = says_of h gs f

-- MAKE WHAT WAS READ
again : (s : List ℕ) (k n : ℕ) → k + n ≤ length s → Bytes s → to_le n (le (window s k n)) ≡ window s k n
again s k n h b = ap (λ (z : ℕ). to_le z (le (window s k n))) (sym (length-window-fits s k n h)) ∙ to_le-le (window s k n) (bytes_window s k n b)

item_again : (t : List ℕ) → item_bytes ≤ length t → size_in t 0 ≡ item_bytes → Bytes t → segment_bytes (segment_of (window t 0 item_bytes)) ≡ window t 0 item_bytes
unfolding segment_bytes segment_of
item_again t h e b =
    let w : to_le 2 20 ≡ window t 0 2 = ap (to_le 2) (sym (sym (size-at t 0 0 (let z : item_bytes * 0 ≡ 0 = omega arith in z)) ∙ e)) ∙ again t 0 2 (omega arith) b in
    let k : to_le 2 (le (window t 2 2)) ≡ window t 2 2 = again t 2 2 (omega arith) b in
    let m : to_le 8 (le (window t 4 8)) ≡ window t 4 8 = again t 4 8 (omega arith) b in
    let n : to_le 8 (le (window t 12 8)) ≡ window t 12 8 = again t 12 8 (omega arith) b in
    rw (window-window t 0 item_bytes 2 2 (omega arith), window-window t 0 item_bytes 4 8 (omega arith), window-window t 0 item_bytes 12 8 (omega arith), w, k, m, n)
    (sym (window-append t 0 2 18 ∙ ap (λ (z : List ℕ). window t 0 2 ++ z) (window-append t 2 2 16 ∙ ap (λ (z : List ℕ). window t 2 2 ++ z) (window-append t 4 8 8))))

rejoin : (t : List ℕ) (n : ℕ) → window t 0 n ++ drop n t ≡ t
unfolding window
rejoin t n = take-append-drop n t

bytes_drop : (t : List ℕ) (k : ℕ) → Bytes t → Bytes (drop k t)
bytes_drop t k b i = rw (get_or-drop) (b (k + i))

all_again : (n : ℕ) (t : List ℕ) → length t ≡ item_bytes * n → ((i : ℕ) → i < n → size_in t i ≡ item_bytes) → Bytes t → all_bytes (read_items n t) ≡ t
unfolding read_items all_bytes
all_again zero t h e b = sym (nil-of t (let l : length t ≡ 0 = omega arith in l))
  where
    nil-of : (t : List ℕ) → length t ≡ 0 → t ≡ []
    nil-of [] l = refl
    nil-of (x ∷ xs) l = absurd (let k : suc (length xs) ≡ 0 = l in omega arith)
all_again (suc n) t h e b =
    let l : item_bytes ≤ length t = omega arith in
    let m : length (drop item_bytes t) ≡ item_bytes * n = rw length-drop (omega arith) in
    rw (
      item_again t l (e 0 (let z : 0 < suc n = omega arith in z)) b,
      all_again n (drop item_bytes t) m (λ i k. sym (size_next t i) ∙ e (suc i) (let z : suc i < suc n = omega arith in z)) (bytes_drop t item_bytes b),
    )
    (rejoin t item_bytes)

front : (s : List ℕ) (n : ℕ) → window s 0 n ≡ take n s
unfolding window
front s n = refl

-- the head's bytes, of a right head
head_again : (d : Device) (s : List ℕ) → head_right d (head_of s) ≡ true → le (window s 0 2) ≡ head_size (head_of s) → head_size (head_of s) ≤ length s → Bytes s
    → head_bytes (head_of s) ≡ take (head_size (head_of s)) s
unfolding head_of head_right head_size head_bytes
head_again d s r e l b = go (item_of (le (window s 2 2))) refl r e l
  where
    eight : (s : List ℕ) → Bytes s → le (window s 0 2) ≡ 8 → le (window s 2 2) ≡ 16 → 8 ≤ length s
        → to_le 2 8 ++ (to_le 2 16 ++ to_le 4 (le (window s 4 4))) ≡ take 8 s
    eight s b e f h =
        let u : to_le 2 8 ≡ window s 0 2 = ap (to_le 2) (sym e) ∙ again s 0 2 (omega arith) b in
        let v : to_le 2 16 ≡ window s 2 2 = ap (to_le 2) (sym f) ∙ again s 2 2 (omega arith) b in
        let w : to_le 4 (le (window s 4 4)) ≡ window s 4 4 = again s 4 4 (omega arith) b in
        rw (u, v, w) (sym (window-append s 0 2 6 ∙ ap (λ (z : List ℕ). window s 0 2 ++ z) (window-append s 2 2 4)) ∙ front s 8)

    twelve : (s : List ℕ) → Bytes s → le (window s 0 2) ≡ 12 → le (window s 2 2) ≡ 17 → 12 ≤ length s
        → to_le 2 12 ++ (to_le 2 17 ++ (to_le 4 (le (window s 4 4)) ++ to_le 4 (le (window s 8 4)))) ≡ take 12 s
    twelve s b e f h =
        let u : to_le 2 12 ≡ window s 0 2 = ap (to_le 2) (sym e) ∙ again s 0 2 (omega arith) b in
        let v : to_le 2 17 ≡ window s 2 2 = ap (to_le 2) (sym f) ∙ again s 2 2 (omega arith) b in
        let w : to_le 4 (le (window s 4 4)) ≡ window s 4 4 = again s 4 4 (omega arith) b in
        let x : to_le 4 (le (window s 8 4)) ≡ window s 8 4 = again s 8 4 (omega arith) b in
        rw (u, v, w, x)
        (sym (window-append s 0 2 10 ∙ ap (λ (z : List ℕ). window s 0 2 ++ z) (window-append s 2 2 8 ∙ ap (λ (z : List ℕ). window s 2 2 ++ z) (window-append s 4 4 4))) ∙ front s 12)

    go : (i : Item) → item_of (le (window s 2 2)) ≡ i → head_right d (head_as i s) ≡ true → le (window s 0 2) ≡ head_size (head_as i s) → head_size (head_as i s) ≤ length s
        → head_bytes (head_as i s) ≡ take (head_size (head_as i s)) s
    go Item.ThinMetadata k r e l = absurd (true≢false (sym r))
    go Item.ThinData k r e l = absurd (true≢false (sym r))
    go Item.Spare k r e l = absurd (true≢false (sym r))
    go Item.MetadataVolume k r e l = absurd (true≢false (sym r))
    go Item.Head k r e l = eight s b e (kind_is (le (window s 2 2)) Item.Head (lit≤ tt) k) l
    go Item.MarkedHead k r e l = twelve s b e (kind_is (le (window s 2 2)) Item.MarkedHead (lit≤ tt) k) l
    go Item.Unknown k r e l = absurd (true≢false (sym r))

-- MAKE WHAT WAS READ: a well-formed record of bytes is what is made of its head and its segments
pub record_again : (d : Device) (s : List ℕ) → Bytes s → well_formed d s ≡ true → record_of (head_of s) (segments s) ≡ s
unfolding record_of segments_in
record_again d s b w = go (formed d s w)
  where
    go : Formed d s → head_bytes (head_of s) ++ all_bytes (read_items (length (items_of s) / item_bytes) (items_of s)) ≡ s
    go f =
        let h : ℕ = head_size (head_of s) in
        let n : length (items_of s) ≡ length s - h = length_items s in
        let m : length (segments s) ≡ length (items_of s) / 20 = length-segments (items_of s) in
        let q : length s ≡ h + 20 * length (segments s) = f.bytes in
        let i : length (items_of s) ≡ item_bytes * (length (items_of s) / item_bytes) = omega arith in
        rw (
          head_again d s f.head f.says (omega arith) b,
          all_again (length (items_of s) / item_bytes) (items_of s) i (λ j l. f.sizes j (rw (length-segments (items_of s)) l)) (rw (items_are s) (bytes_drop s h b)),
          items_are s,
        )
        (take-append-drop h s)

-- lists of items, one after the other, cut at an item
pub all_append : (gs hs : List Segment) → all_bytes (gs ++ hs) ≡ all_bytes gs ++ all_bytes hs
unfolding all_bytes
all_append [] hs = refl
all_append (g ∷ gs) hs = rw (all_append gs hs) (sym (append_assoc (segment_bytes g) (all_bytes gs) (all_bytes hs)))

all_cons : (g : Segment) (gs : List Segment) → all_bytes (g ∷ gs) ≡ segment_bytes g ++ all_bytes gs
unfolding all_bytes
all_cons g gs = refl

record_of_lem : (h : Head) (gs : List Segment) → record_of h gs ≡ head_bytes h ++ all_bytes gs
unfolding record_of
record_of_lem h gs = refl

pub all_one : (g : Segment) → all_bytes (g ∷ []) ≡ segment_bytes g
unfolding all_bytes
all_one g = append-nil (segment_bytes g)

-- APPENDED: the same head, the segments and then the new one
pub appended_is : (d : Device) (s : List ℕ) (g : Segment) → Bytes s → well_formed d s ≡ true → appended s g ≡ record_of (head_of s) (segments s ++ (g ∷ []))
unfolding appended record_of
appended_is d s g b w =
    ap (λ (z : List ℕ). z ++ segment_bytes g) (sym (record_again d s b w))
    ∙ (append_assoc (head_bytes (head_of s)) (all_bytes (segments s)) (segment_bytes g)
    ∙ ap (λ (z : List ℕ). head_bytes (head_of s) ++ z) (sym (all_append (segments s) (g ∷ []) ∙ ap (λ (z : List ℕ). all_bytes (segments s) ++ z) (all_one g))))

-- REMOVED: the same head, and the other segments in order
cut_at : (h a b c : List ℕ) (n m : ℕ) → length h + length a ≡ n → n + length b ≡ m → take n (h ++ (a ++ (b ++ c))) ++ drop m (h ++ (a ++ (b ++ c))) ≡ h ++ (a ++ c)
cut_at h a b c n m e f =
    let l : length (h ++ a) ≡ n = length-append h a ∙ e in
    let k : length ((h ++ a) ++ b) ≡ m = length-append (h ++ a) b ∙ (ap (λ (z : ℕ). z + length b) l ∙ f) in
    let x : h ++ (a ++ (b ++ c)) ≡ (h ++ a) ++ (b ++ c) = sym (append_assoc h a (b ++ c)) in
    let y : h ++ (a ++ (b ++ c)) ≡ ((h ++ a) ++ b) ++ c = x ∙ sym (append_assoc (h ++ a) b c) in
    let p : take n (h ++ (a ++ (b ++ c))) ≡ h ++ a = ap (take n) x ∙ take_at (h ++ a) (b ++ c) n l in
    let q : drop m (h ++ (a ++ (b ++ c))) ≡ c = ap (drop m) y ∙ drop_at ((h ++ a) ++ b) c m k in
    rw (p, q) (append_assoc h a c)

pub removed_is : (d : Device) (s : List ℕ) (p : ℕ) → Bytes s → well_formed d s ≡ true → p < length (segments s)
    → removed s p ≡ record_of (head_of s) (take p (segments s) ++ drop (suc p) (segments s))
unfolding removed place record_of
removed_is d s p b w t =
    let h : Head = head_of s in
    let gs : List Segment = segments s in
    let e : length (head_bytes h) + length (all_bytes (take p gs)) ≡ head_size h + item_bytes * p = rw (length-head h, length_all (take p gs), length-take-le p gs (omega arith)) in
    let f : head_size h + item_bytes * p + length (segment_bytes (nth gs p)) ≡ head_size h + item_bytes * p + item_bytes = rw (length-segment (nth gs p)) in
    let whole : s ≡ head_bytes h ++ (all_bytes (take p gs) ++ (segment_bytes (nth gs p) ++ all_bytes (drop (suc p) gs))) =
    sym (record_again d s b w)
    ∙ (record_of_lem h gs ∙ ap (λ (z : List ℕ). head_bytes h ++ z) (ap all_bytes (split_at gs p none t) ∙ (all_append (take p gs) (nth gs p ∷ drop (suc p) gs) ∙ ap (λ (z : List ℕ). all_bytes (take p gs) ++ z) (all_cons (nth gs p) (drop (suc p) gs))))) in
    ap (λ (z : List ℕ). take (head_size h + item_bytes * p) z ++ drop (head_size h + item_bytes * p + item_bytes) z) whole
    ∙ (cut_at (head_bytes h) (all_bytes (take p gs)) (segment_bytes (nth gs p)) (all_bytes (drop (suc p) gs)) (head_size h + item_bytes * p) (head_size h + item_bytes * p + item_bytes) e f
    ∙ ap (λ (z : List ℕ). head_bytes h ++ z) (sym (all_append (take p gs) (drop (suc p) gs))))

-- the lengths of both
pub length-appended : (s : List ℕ) (g : Segment) → length (appended s g) ≡ length s + item_bytes
unfolding appended
length-appended s g = length-append s (segment_bytes g) ∙ ap (λ (z : ℕ). length s + z) (length-segment g)

-- laid over the start of a buffer in two parts
pub appended-laid : (out s : List ℕ) (g : Segment) → length s + item_bytes ≤ length out
    → splice (splice out 0 s) (length s) (segment_bytes g) ≡ splice out 0 (appended s g)
unfolding appended
appended-laid out s g l =
    let u : length (segment_bytes g) ≡ 20 = length-segment g in
    splice_next out 0 s (segment_bytes g) (length s) (omega arith) (omega arith)

pub removed-laid : (out s : List ℕ) (p : ℕ) → place s p + item_bytes ≤ length s → length s - item_bytes ≤ length out
    → splice (splice out 0 (take (place s p) s)) (place s p) (drop (place s p + item_bytes) s) ≡ splice out 0 (removed s p)
unfolding removed
removed-laid out s p l m =
    let t : length (take (place s p) s) ≡ place s p = length-take-le (place s p) s (omega arith) in
    let u : length (drop (place s p + 20) s) ≡ length s - (place s p + 20) = length-drop (place s p + 20) s in
    splice_next out 0 (take (place s p) s) (drop (place s p + 20) s) (place s p) (omega arith) (omega arith)

-- an item of a well-formed record is there with all its bytes
pub place_inside : (d : Device) (s : List ℕ) (p : ℕ) → well_formed d s ≡ true → p < length (segments s) → place s p + item_bytes ≤ length s
unfolding place
place_inside d s p w l =
    let f : length s ≡ head_size (head_of s) + item_bytes * length (segments s) = (formed d s w).bytes in
    omega arith
