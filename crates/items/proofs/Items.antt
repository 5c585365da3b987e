-- Laws of a record's items: what is read, by position and as a list.
use Prim.Native.Nat.{ℕ, zero, suc, ◌+◌, ◌-◌, ◌*◌, ◌/◌, ◌%◌, ◌^◌, ◌≤◌, ◌<◌}
use mathlib.Core.Path.{◌≡◌, refl, sym, ap, ◌∙◌}
use mathlib.Core.Bool.{Bool, true, false, ◌&&◌}
use mathlib.Core.List.{List, []}
use native.Mathlib.Nat.{div-add-mod', not-suc-le-zero, le_of_suc-le-suc}
use native.Mathlib.Omega.{arith}
use borrow.Author.Tests.{leb-true, eqb-true, le-leb, eq-eqb, lt-leb}
use lib.Dec.{leb, eqb}
use lib.ListN.{length, take, drop, length-drop, get_or-eq_default, drop_of_length-le}
use lib.Seq.{drop-drop}
use Rattle.endian.specs.Bytes.{le, window}
use Rattle.endian.proofs.Numbers.{le_bound}
use Rattle.endian.proofs.Parts.{length-window, window-window}
use Rattle.endian.proofs.Tests.{and_left, and_right, and_both}
use Rattle.search.specs.Search.{every}
use Rattle.search.proofs.Search.{every-at, every_all, and_false-right, and_false-left}
use Rattle.layout.specs.declared.Device.{Device}
use Rattle.segments.specs.declared.Segment.{Segment}
use Rattle.segments.specs.Segments.{none, nth}
use Rattle.items.specs.Head.{head_of, head_size, head_right, allows, item_bytes}
use Rattle.items.specs.Items.{items_of, segment_of, read_items, segments_in, segments, size_in, item_right, framed, well_formed}

-- a part of what is left after the first k
pub window-drop : (s : List ℕ) (k at n : ℕ) → window (drop k s) at n ≡ window s (k + at) n
unfolding window
window-drop s k at n = ap (take n) (drop-drop at k s)

-- how many items there are
pub length-read : (n : ℕ) (t : List ℕ) → length (read_items n t) ≡ n
unfolding read_items
length-read zero t = refl
length-read (suc n) t = ap suc (length-read n (drop item_bytes t))

pub length-segments : (t : List ℕ) → length (segments_in t) ≡ length t / item_bytes
unfolding segments_in
length-segments t = length-read (length t / item_bytes) t

-- the item at position i
nth_read : (n : ℕ) (t : List ℕ) (i : ℕ) → i < n → nth (read_items n t) i ≡ segment_of (window t (item_bytes * i) item_bytes)
unfolding read_items
nth_read zero t i l = absurd (not-suc-le-zero l)
nth_read (suc n) t zero l = refl
nth_read (suc n) t (suc i) l =
    nth_read n (drop item_bytes t) i (le_of_suc-le-suc l)
    ∙ ap segment_of (window-drop t item_bytes (item_bytes * i) item_bytes ∙ ap (λ (z : ℕ). window t z item_bytes) (let e : item_bytes + item_bytes * i ≡ item_bytes * suc i = omega arith in e))

pub nth-segments : (t : List ℕ) (i : ℕ) → i < length t / item_bytes → nth (segments_in t) i ≡ segment_of (window t (item_bytes * i) item_bytes)
unfolding segments_in
nth-segments t i l = nth_read (length t / item_bytes) t i l

-- numbers that the fields of a segment have room for
pub record Fit (g : Segment) : Type 0 where
  pub kind : g.kind < 256 ^ 2
  pub start : g.start < 256 ^ 8
  pub sectors : g.sectors < 256 ^ 8

pub fit_of : (u : List ℕ) → Fit (segment_of u)
unfolding segment_of
fit_of u =
    record {
      kind = le_bound (window u 2 2) 2 (length-window u 2 2);
      start = le_bound (window u 4 8) 8 (length-window u 4 8);
      sectors = le_bound (window u 12 8) 8 (length-window u 12 8);
    }

pub items_are : (s : List ℕ) → items_of s ≡ drop (head_size (head_of s)) s
unfolding items_of
items_are s = refl

pub length_items : (s : List ℕ) → length (items_of s) ≡ length s - head_size (head_of s)
unfolding items_of
length_items s = length-drop (head_size (head_of s)) s

-- what a part that is an item says of itself
pub size-item : (t u : List ℕ) (i r : ℕ) → u ≡ window t (item_bytes * i) item_bytes → r ≡ le (window u 0 2) → r ≡ size_in t i
unfolding size_in
size-item t u i r e f = f ∙ (ap (λ (z : List ℕ). le (window z 0 2)) e ∙ ap le (window-window t (item_bytes * i) item_bytes 0 2 (omega arith) ∙ ap (λ (z : ℕ). window t z 2) (let q : item_bytes * i + 0 ≡ item_bytes * i = omega arith in q)))

pub kind-item : (t u : List ℕ) (i r : ℕ) → i < length t / item_bytes → u ≡ window t (item_bytes * i) item_bytes → r ≡ le (window u 2 2) → r ≡ (nth (segments_in t) i).kind
unfolding segment_of
kind-item t u i r l e f =
    f ∙ (ap (λ (z : List ℕ). le (window z 2 2)) e ∙ sym (ap (λ (g : Segment). g.kind) (nth-segments t i l)))

-- what it is that a record is well formed
pub record Formed (d : Device) (s : List ℕ) : Type 0 where
  pub says : le (window s 0 2) ≡ head_size (head_of s)
  pub bytes : length s ≡ head_size (head_of s) + item_bytes * length (segments s)
  pub head : head_right d (head_of s) ≡ true
  pub sizes : (i : ℕ) → i < length (segments s) → size_in (items_of s) i ≡ item_bytes
  pub kinds : (i : ℕ) → i < length (segments s) → allows (head_of s) (nth (segments s) i).kind ≡ true

pub formed : (d : Device) (s : List ℕ) → well_formed d s ≡ true → Formed d s
unfolding well_formed framed item_right
formed d s w =
    let h : ℕ = head_size (head_of s) in
    let fr : Bool = eqb (le (window s 0 2)) h && (leb h (length s) && eqb ((length s - h) % item_bytes) 0) in
    let a : fr && head_right d (head_of s) ≡ true = and_left (fr && head_right d (head_of s)) (every (item_right (head_of s) (items_of s)) (length (segments s))) w in
    let b : fr ≡ true = and_left fr (head_right d (head_of s)) a in
    let c : leb h (length s) && eqb ((length s - h) % item_bytes) 0 ≡ true = and_right (eqb (le (window s 0 2)) h) (leb h (length s) && eqb ((length s - h) % item_bytes) 0) b in
    let l : h ≤ length s = leb-true h (length s) (and_left (leb h (length s)) (eqb ((length s - h) % item_bytes) 0) c) in
    let m : (length s - h) % 20 ≡ 0 = eqb-true ((length s - h) % item_bytes) 0 (and_right (leb h (length s)) (eqb ((length s - h) % item_bytes) 0) c) in
    let n : length (segments s) ≡ (length s - h) / 20 = length-segments (items_of s) ∙ ap (λ (z : ℕ). z / item_bytes) (length_items s) in
    let e : (i : ℕ) → i < length (segments s) → item_right (head_of s) (items_of s) i ≡ true = every-at (item_right (head_of s) (items_of s)) (length (segments s)) (and_right (fr && head_right d (head_of s)) (every (item_right (head_of s) (items_of s)) (length (segments s))) w) in
    record {
      says = eqb-true (le (window s 0 2)) h (and_left (eqb (le (window s 0 2)) h) (leb h (length s) && eqb ((length s - h) % item_bytes) 0) b);
      bytes = omega arith;
      head = and_right fr (head_right d (head_of s)) a;
      sizes = λ i k. eqb-true (size_in (items_of s) i) item_bytes (and_left (eqb (size_in (items_of s) i) item_bytes) (allows (head_of s) (nth (segments s) i).kind) (e i k));
      kinds = λ i k. and_right (eqb (size_in (items_of s) i) item_bytes) (allows (head_of s) (nth (segments s) i).kind) (e i k);
    }

pub formed_back : (d : Device) (s : List ℕ) → Formed d s → well_formed d s ≡ true
unfolding well_formed framed item_right
formed_back d s f =
    let h : ℕ = head_size (head_of s) in
    let b : length s ≡ h + 20 * length (segments s) = f.bytes in
    rw (f.says, eq-eqb h h refl, le-leb h (length s) (omega arith), eq-eqb ((length s - h) % item_bytes) 0 (let m : (length s - h) % 20 ≡ 0 = omega arith in m), f.head)
    (every_all (item_right (head_of s) (items_of s)) (length (segments s)) (λ i k. and_both (eqb (size_in (items_of s) i) item_bytes) (allows (head_of s) (nth (segments s) i).kind) (eq-eqb (size_in (items_of s) i) item_bytes (f.sizes i k)) (f.kinds i k)))
