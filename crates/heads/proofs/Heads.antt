-- Laws of heads after a change: what later papers change of them stands here and in `items`.
use Prim.Native.Nat.{ℕ, ◌+◌, ◌*◌, ◌≤◌}
use mathlib.Core.Path.{◌≡◌, refl, sym, ap, ◌∙◌, subst}
use mathlib.Core.Bool.{true, true≢false}
use mathlib.Core.List.{List, ◌++◌}
use native.Mathlib.Omega.{arith}
use lib.Dec.{lit<}
use lib.ListN.{length}
use Rattle.refusal.specs.Tests.{first}
use Rattle.layout.specs.declared.Device.{Device}
use Rattle.layout.specs.Limits.{record_limit}
use Rattle.segments.specs.declared.Segment.{Segment}
use Rattle.segments.specs.declared.Range.{Range}
use Rattle.segments.specs.Segments.{nth, InRange}
use Rattle.items.specs.declared.Head.{Head}
use Rattle.items.specs.declared.Head.TheVariants.{Plain, Marked, Unknown}
use Rattle.items.specs.Head.{head_of, head_kind, head_bytes, head_size, head_right, block_size, low_water, range_for, item_bytes}
use Rattle.items.specs.Items.{items_of, segments}
use Rattle.items.specs.Making.{all_bytes, record_of}
use Rattle.items.proofs.Heads.{right-fits, plain-right, right-plain, marked_right, right_marked, unknown-wrong, one_range, allows_kinds, kinds_allowed}
use Rattle.items.proofs.Making.{items_record}
use Rattle.record.specs.Accept.{record_tests}
use Rattle.record.specs.Demand.{Right}
use Rattle.record.proofs.Right.{accepted-right}
use Rattle.heads.specs.declared.Change.{Change}
use Rattle.heads.specs.Changing.{raised, lowered, remarked, head_after, record_after}
use Rattle.heads.specs.Demand.{FourBytes, Becomes, Nothing, Movable, head_bytes_after}

-- a mark that is not 0 is that of a head of kind 17
pub mark_kind : (h : Head) → (low_water h ≡ 0 → ⊥) → head_kind h ≡ 17
unfolding low_water head_kind
mark_kind (Plain b) z = absurd (z refl)
mark_kind (Marked b m) z = refl
mark_kind Unknown z = absurd (z refl)

-- a right head has kind 16 or 17
pub not_plain : (h : Head) → head_kind h ≡ 16 → head_kind h ≡ 17 → ⊥
not_plain h e f = let z : ◌≡◌ {A = ℕ} 16 17 = sym e ∙ f in omega arith

module _ (d : Device) where
  -- it is right again
  pub after-right : (c : Change) (h : Head) → FourBytes c → head_right d h ≡ true → head_right d (head_after c h) ≡ true
  unfolding raised lowered remarked
  after-right Change.Up (Plain b) f r = marked_right d b 0 (right-plain d b r) (lit< tt)
  after-right Change.Up (Marked b m) f r = r
  after-right Change.Up Unknown f r = r
  after-right Change.Back (Plain b) f r = r
  after-right Change.Back (Marked b m) f r = plain-right d b (right_marked d b m r).0
  after-right Change.Back Unknown f r = r
  after-right (Change.Mark n) (Plain b) f r = r
  after-right (Change.Mark n) (Marked b m) f r = marked_right d b n (right_marked d b m r).0 f
  after-right (Change.Mark n) Unknown f r = r

  -- what it becomes
  pub after_becomes : (c : Change) (h : Head) → head_right d h ≡ true → Movable c h → Becomes c h (head_after c h)
  unfolding raised lowered remarked head_kind low_water
  after_becomes Change.Up (Plain b) r m = (refl, (λ e. refl, λ e. absurd (not_plain (Plain b) refl e)))
  after_becomes Change.Up (Marked b w) r m = (refl, (λ e. absurd (not_plain (Marked b w) e refl), λ e. refl))
  after_becomes Change.Up Unknown r m = absurd (true≢false (sym r ∙ unknown-wrong d))
  after_becomes Change.Back (Plain b) r m = refl
  after_becomes Change.Back (Marked b w) r m = refl
  after_becomes Change.Back Unknown r m = absurd (true≢false (sym r ∙ unknown-wrong d))
  after_becomes (Change.Mark n) (Plain b) r m = absurd (not_plain (Plain b) refl m)
  after_becomes (Change.Mark n) (Marked b w) r m = (refl, refl)
  after_becomes (Change.Mark n) Unknown r m = absurd (true≢false (sym r ∙ unknown-wrong d))

  -- how many bytes it has
  pub after-size : (c : Change) (h : Head) → head_right d h ≡ true → Movable c h → head_size (head_after c h) ≡ head_bytes_after c
  unfolding raised lowered remarked head_kind head_size
  after-size Change.Up (Plain b) r m = refl
  after-size Change.Up (Marked b w) r m = refl
  after-size Change.Up Unknown r m = absurd (true≢false (sym r ∙ unknown-wrong d))
  after-size Change.Back (Plain b) r m = refl
  after-size Change.Back (Marked b w) r m = refl
  after-size Change.Back Unknown r m = absurd (true≢false (sym r ∙ unknown-wrong d))
  after-size (Change.Mark n) (Plain b) r m = absurd (not_plain (Plain b) refl m)
  after-size (Change.Mark n) (Marked b w) r m = refl
  after-size (Change.Mark n) Unknown r m = absurd (true≢false (sym r ∙ unknown-wrong d))

  -- nothing changes
  pub after_nothing : (c : Change) (h : Head) → head_right d h ≡ true → Movable c h → Nothing c h → head_after c h ≡ h
  unfolding raised lowered remarked head_kind low_water
  after_nothing Change.Up (Plain b) r m e = absurd (not_plain (Plain b) refl e)
  after_nothing Change.Up (Marked b w) r m e = refl
  after_nothing Change.Up Unknown r m e = refl
  after_nothing Change.Back (Plain b) r m e = refl
  after_nothing Change.Back (Marked b w) r m e = absurd (not_plain (Marked b w) e refl)
  after_nothing Change.Back Unknown r m e = refl
  after_nothing (Change.Mark n) (Plain b) r m e = absurd (not_plain (Plain b) refl m)
  after_nothing (Change.Mark n) (Marked b w) r m e = ap (Marked b) (sym e)
  after_nothing (Change.Mark n) Unknown r m e = refl

-- up and back, back and up
pub up_back : (h : Head) → head_kind h ≡ 16 → lowered (raised h) ≡ h
unfolding raised lowered head_kind
up_back (Plain b) e = refl
up_back (Marked b m) e = absurd (not_plain (Marked b m) e refl)
up_back Unknown e = refl

pub back_up : (h : Head) → head_kind h ≡ 17 → low_water h ≡ 0 → raised (lowered h) ≡ h
unfolding raised lowered head_kind low_water
back_up (Plain b) e z = absurd (not_plain (Plain b) refl e)
back_up (Marked b m) e z = ap (Marked b) (sym z)
back_up Unknown e z = absurd (let y : ◌≡◌ {A = ℕ} 0 17 = e in omega arith)

pub up_mark : (h : Head) → head_kind h ≡ 16 → low_water (raised h) ≡ 0
unfolding raised head_kind low_water
up_mark (Plain b) e = refl
up_mark (Marked b m) e = absurd (not_plain (Marked b m) e refl)
up_mark Unknown e = refl

-- the bytes of a head of each kind
pub plain_size : (h : Head) → head_kind h ≡ 16 → head_size h ≡ 8
unfolding head_kind head_size
plain_size (Plain b) e = refl
plain_size (Marked b m) e = absurd (not_plain (Marked b m) e refl)
plain_size Unknown e = absurd (let z : ◌≡◌ {A = ℕ} 0 16 = e in omega arith)

pub marked_size : (h : Head) → head_kind h ≡ 17 → head_size h ≡ 12
unfolding head_kind head_size
marked_size (Plain b) e = absurd (not_plain (Plain b) refl e)
marked_size (Marked b m) e = refl
marked_size Unknown e = absurd (let z : ◌≡◌ {A = ℕ} 0 17 = e in omega arith)

-- the block size, the kinds and the ranges stay
pub after_block : (c : Change) (h : Head) → block_size (head_after c h) ≡ block_size h
unfolding raised lowered remarked block_size
after_block Change.Up (Plain b) = refl
after_block Change.Up (Marked b m) = refl
after_block Change.Up Unknown = refl
after_block Change.Back (Plain b) = refl
after_block Change.Back (Marked b m) = refl
after_block Change.Back Unknown = refl
after_block (Change.Mark n) (Plain b) = refl
after_block (Change.Mark n) (Marked b m) = refl
after_block (Change.Mark n) Unknown = refl

-- no change makes a record too long: 12 bytes and as many segments as 8 bytes leave room for are within the limit
pub after_room : (c : Change) (h : Head) (n : ℕ) → head_size h + item_bytes * n ≤ record_limit → head_size (head_after c h) + item_bytes * n ≤ record_limit
unfolding raised lowered remarked head_size record_limit
after_room Change.Up (Plain b) n l = omega arith
after_room Change.Up (Marked b m) n l = l
after_room Change.Up Unknown n l = l
after_room Change.Back (Plain b) n l = l
after_room Change.Back (Marked b m) n l = omega arith
after_room Change.Back Unknown n l = l
after_room (Change.Mark k) (Plain b) n l = l
after_room (Change.Mark k) (Marked b m) n l = l
after_room (Change.Mark k) Unknown n l = l

-- A right record is right with the head after a change.
pub right-after : (d : Device) (c : Change) (h : Head) (gs : List Segment) → FourBytes c → Right d h gs → Right d (head_after c h) gs
right-after d c h gs f r =
    let a : head_right d (head_after c h) ≡ true = after-right d c h f r.each.head in
    record {
      each =
          record {
            size = r.each.size;
            metadata = r.each.metadata;
            reserved = r.each.reserved;
            head = a;
            bytes = after_room c h (length gs) r.each.bytes;
            kinds = λ i l. (let k : (1 ≤ (nth gs i).kind) × ((nth gs i).kind ≤ 4) = allows_kinds h (nth gs i).kind (r.each.kinds i l) in kinds_allowed d (head_after c h) (nth gs i).kind a k.0 k.1);
            ranges = λ i l. subst (λ (z : Range). InRange z (nth gs i)) (same_range (nth gs i).kind a) (r.each.ranges i l);
          };
      apart = r.apart;
    }
  where
    same_range : (k : ℕ) → head_right d (head_after c h) ≡ true → range_for d h k ≡ range_for d (head_after c h) k
    same_range k a = one_range d h k r.each.head ∙ sym (one_range d (head_after c h) k a)

pub after_range : (d : Device) (c : Change) (h : Head) (k : ℕ) → FourBytes c → head_right d h ≡ true → range_for d (head_after c h) k ≡ range_for d h k
after_range d c h k f r = one_range d (head_after c h) k (after-right d c h f r) ∙ sym (one_range d h k r)

-- The items of a record that is made of its head and its segments, and the record after a change: it is made of the head after it and the same
-- segments.
pub items_made : (d : Device) (s : List ℕ) → first (record_tests d s) ≡ 0 → record_of (head_of s) (segments s) ≡ s → items_of s ≡ all_bytes (segments s)
items_made d s z again = ap items_of (sym again) ∙ items_record (head_of s) (segments s) (right-fits d (head_of s) (accepted-right d s z).each.head)

pub after_made : (d : Device) (s : List ℕ) (c : Change) → first (record_tests d s) ≡ 0 → record_of (head_of s) (segments s) ≡ s
    → record_after c s ≡ record_of (head_after c (head_of s)) (segments s)
unfolding record_after record_of
after_made d s c z again = ap (λ (t : List ℕ). head_bytes (head_after c (head_of s)) ++ t) (items_made d s z again)
