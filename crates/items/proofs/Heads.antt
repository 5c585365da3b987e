-- Laws of heads and kinds: what callers know of them without looking inside.
use Prim.Native.Nat.{ℕ, ◌+◌, ◌*◌, ◌%◌, ◌^◌, ◌≤◌, ◌<◌}
use mathlib.Core.Path.{◌≡◌, refl, sym, ap, ◌∙◌}
use mathlib.Core.Bool.{true, false, ◌&&◌, true≢false}
use mathlib.Core.List.{List, [], ◌++◌, append_assoc}
use native.Mathlib.Decide.{ℕ_discrete}
use mathlib.Core.Logic.{◌⊎◌, inl, inr}
use native.Mathlib.Omega.{arith}
use borrow.Author.Tests.{ne_eqb, leb-true, ltb-true, lt-ltb}
use lib.Dec.{lit<, lit≤, leb, eqb}
use lib.ListN.{length, length-append, take, drop}
use lib.Seq.{take_at, drop_at}
use Rattle.endian.specs.Bytes.{le, to_le, window}
use Rattle.endian.proofs.Numbers.{length-to_le, le-to_le, le_bound}
use Rattle.endian.proofs.Parts.{length-window}
use Rattle.endian.proofs.Tests.{and_left, and_right, and_both}
use Rattle.layout.specs.declared.Device.{Device}
use Rattle.layout.specs.Limits.{record_limit}
use Rattle.items.specs.declared.Item.{Item}
use Rattle.items.specs.declared.Head.{Head}
use Rattle.items.specs.declared.Head.TheVariants.{Plain, Marked, Unknown}
use Rattle.items.specs.Head.{plain_kind, marked_kind, item_of, is_segment, head_as, head_of, head_bytes, head_size, block_size_allowed, mark_allowed, head_allowed, head_right, allows, item_bytes, data_range, range_for, most_segments, most_of_any}

-- a number that is none of the known kinds
pub item-unknown : (k : ℕ) → (k ≡ 1 → ⊥) → (k ≡ 2 → ⊥) → (k ≡ 3 → ⊥) → (k ≡ 4 → ⊥) → (k ≡ 16 → ⊥) → (k ≡ 17 → ⊥) → item_of k ≡ Item.Unknown
unfolding item_of
item-unknown k a b c d e f = rw (ne_eqb k 1 a, ne_eqb k 2 b, ne_eqb k 3 c, ne_eqb k 4 d, ne_eqb k 16 e, ne_eqb k 17 f)

-- the kind of an item that is known
abbrev pub kind_of : Item → ℕ
kind_of Item.ThinMetadata = 1
kind_of Item.ThinData = 2
kind_of Item.Spare = 3
kind_of Item.MetadataVolume = 4
kind_of Item.Head = plain_kind
kind_of Item.MarkedHead = marked_kind
kind_of Item.Unknown = 0

-- a kind is not known, or it is that of its item
pub known-kind : (k : ℕ) → (item_of k ≡ Item.Unknown) ⊎ (kind_of (item_of k) ≡ k)
unfolding item_of
known-kind k =
    elim (ℕ_discrete k 1) [
      | yes e ↦ inr (rw e)
      | no a ↦
          elim (ℕ_discrete k 2) [
            | yes e ↦ inr (rw e)
            | no b ↦
                elim (ℕ_discrete k 3) [
                  | yes e ↦ inr (rw e)
                  | no c ↦
                      elim (ℕ_discrete k 4) [
                        | yes e ↦ inr (rw e)
                        | no d ↦
                            elim (ℕ_discrete k plain_kind) [
                              | yes e ↦ inr (rw e)
                              | no e ↦
                                  elim (ℕ_discrete k marked_kind) [
                                    | yes f ↦ inr (rw f)
                                    | no f ↦ inl (item-unknown k a b c d e f)
                                  ]
                            ]
                      ]
                ]
          ]
    ]

-- the kind of bytes whose first item is a head
pub kind_is : (k : ℕ) (i : Item) → 1 ≤ kind_of i → item_of k ≡ i → k ≡ kind_of i
kind_is k i u e = go (known-kind k)
  where
    go : (item_of k ≡ Item.Unknown) ⊎ (kind_of (item_of k) ≡ k) → k ≡ kind_of i
    go (inl a) = absurd (let z : kind_of i ≡ 0 = ap kind_of (sym e ∙ a) in omega arith)
    go (inr a) = sym a ∙ ap kind_of e

-- the kinds of segments are 1 to 4
segment_kinds : (k : ℕ) → is_segment (item_of k) ≡ true → (1 ≤ k) × (k ≤ 4)
segment_kinds k h = go (item_of k) refl h
  where
    is : (i : Item) → item_of k ≡ i → 1 ≤ kind_of i → kind_of i ≤ 4 → (1 ≤ k) × (k ≤ 4)
    is i e l m = let q : k ≡ kind_of i = kind_is k i l e in (omega arith, omega arith)

    go : (i : Item) → item_of k ≡ i → is_segment i ≡ true → (1 ≤ k) × (k ≤ 4)
    go Item.ThinMetadata e t = is Item.ThinMetadata e (lit≤ tt) (lit≤ tt)
    go Item.ThinData e t = is Item.ThinData e (lit≤ tt) (lit≤ tt)
    go Item.Spare e t = is Item.Spare e (lit≤ tt) (lit≤ tt)
    go Item.MetadataVolume e t = is Item.MetadataVolume e (lit≤ tt) (lit≤ tt)
    go Item.Head e t = absurd (true≢false (sym t))
    go Item.MarkedHead e t = absurd (true≢false (sym t))
    go Item.Unknown e t = absurd (true≢false (sym t))

kinds_segment : (k : ℕ) → 1 ≤ k → k ≤ 4 → is_segment (item_of k) ≡ true
unfolding item_of
kinds_segment k l h =
    elim (ℕ_discrete k 1) [
      | yes e ↦ rw e
      | no e ↦
          elim (ℕ_discrete k 2) [
            | yes f ↦ rw f
            | no f ↦
                elim (ℕ_discrete k 3) [
                  | yes g ↦ rw g
                  | no g ↦ (let q : k ≡ 4 = omega arith in rw q)
                ]
          ]
    ]

-- every head that is known allows the kinds 1 to 4, and no others
pub allows_kinds : (h : Head) (k : ℕ) → allows h k ≡ true → (1 ≤ k) × (k ≤ 4)
unfolding allows
allows_kinds (Plain b) k h = segment_kinds k h
allows_kinds (Marked b m) k h = segment_kinds k h
allows_kinds Unknown k h = absurd (true≢false (sym h))

pub kinds_allowed : (d : Device) (h : Head) (k : ℕ) → head_right d h ≡ true → 1 ≤ k → k ≤ 4 → allows h k ≡ true
unfolding allows head_right
kinds_allowed d (Plain b) k r l m = kinds_segment k l m
kinds_allowed d (Marked b w) k r l m = kinds_segment k l m
kinds_allowed d Unknown k r l m = absurd (true≢false (sym r))

-- a kind that a head allows has room in its two bytes
pub kind-small : (h : Head) (k : ℕ) → allows h k ≡ true → k < 256 ^ 2
kind-small h k e = let q : (1 ≤ k) × (k ≤ 4) = allows_kinds h k e in (let m : k < 65536 = omega (arith, q.1) in m)

-- the size is that of the bytes
pub length-head : (h : Head) → length (head_bytes h) ≡ head_size h
unfolding head_bytes head_size
length-head (Plain b) = rw (length-append, length-append, length-to_le, length-to_le, length-to_le)
length-head (Marked b m) = rw (length-append, length-append, length-append, length-to_le, length-to_le, length-to_le, length-to_le)
length-head Unknown = refl

-- no head has more bytes than a record can have
pub head_small : (h : Head) → head_size h + item_bytes ≤ record_limit
unfolding head_size record_limit
head_small (Plain b) = omega arith
head_small (Marked b m) = omega arith
head_small Unknown = omega arith

-- no record with a head that is right has more segments than any
pub most-most : (d : Device) (h : Head) → head_right d h ≡ true → most_segments h ≤ most_of_any
unfolding head_size most_segments most_of_any record_limit head_right
most-most d (Plain b) r = omega arith
most-most d (Marked b m) r = omega arith
most-most d Unknown r = absurd (true≢false (sym r))

-- which is this number
pub most-any : most_of_any ≡ 409
unfolding most_of_any most_segments head_size record_limit
most-any = refl

pub most-plain : (b : ℕ) → most_segments (Plain b) ≡ 409
unfolding most_segments head_size record_limit
most-plain b = refl

pub most_marked : (b m : ℕ) → most_segments (Marked b m) ≡ 409
unfolding most_segments head_size record_limit
most_marked b m = refl

pub marked_full : (b m : ℕ) → head_size (Marked b m) + item_bytes * 409 ≡ record_limit
unfolding head_size record_limit
marked_full b m = refl

-- a head that is known, with numbers that its fields have room for
abbrev pub HeadFits : Head → Type 0
HeadFits (Plain b) = b < 256 ^ 4
HeadFits (Marked b m) = (b < 256 ^ 4) × (m < 256 ^ 4)
HeadFits Unknown = ⊥

-- a part between two others
pub field : (s x v y : List ℕ) (k n : ℕ) → s ≡ x ++ (v ++ y) → length x ≡ k → length v ≡ n → window s k n ≡ v
unfolding window
field s x v y k n e l m = ap (λ (z : List ℕ). take n (drop k z)) e ∙ (ap (take n) (drop_at x (v ++ y) k l) ∙ take_at v y n m)

-- a number between two other parts
number : (s x y : List ℕ) (k n v : ℕ) → s ≡ x ++ (to_le n v ++ y) → length x ≡ k → v < 256 ^ n → le (window s k n) ≡ v
number s x y k n v e l h = ap le (field s x (to_le n v) y k n e l (length-to_le n v)) ∙ le-to_le n v h

-- the numbers of bytes that begin with a length a, a kind k and a block size b; and those of such bytes with a mark m after them
module _ (s : List ℕ) (a k b : ℕ) (t : List ℕ) (e : s ≡ to_le 2 a ++ (to_le 2 k ++ (to_le 4 b ++ t))) where
  size_number : a < 256 ^ 2 → le (window s 0 2) ≡ a
  size_number l = number s [] (to_le 2 k ++ (to_le 4 b ++ t)) 0 2 a e refl l

  kind-number : k < 256 ^ 2 → le (window s 2 2) ≡ k
  kind-number l = number s (to_le 2 a) (to_le 4 b ++ t) 2 2 k e (length-to_le 2 a) l

  first_two : length (to_le 2 a ++ to_le 2 k) ≡ 4
  first_two = rw (length-append, length-to_le, length-to_le)

  block_number : b < 256 ^ 4 → le (window s 4 4) ≡ b
  block_number l = number s (to_le 2 a ++ to_le 2 k) t 4 4 b (e ∙ sym (append_assoc (to_le 2 a) (to_le 2 k) (to_le 4 b ++ t))) first_two l

  mark_number : (m : ℕ) (u : List ℕ) → t ≡ to_le 4 m ++ u → m < 256 ^ 4 → le (window s 8 4) ≡ m
  mark_number m u f l =
      number s ((to_le 2 a ++ to_le 2 k) ++ to_le 4 b) u 8 4 m
      (e ∙ (ap (λ (z : List ℕ). to_le 2 a ++ (to_le 2 k ++ (to_le 4 b ++ z))) f ∙ simp append_assoc)) (rw (length-append, length-append, length-to_le, length-to_le, length-to_le)) l

-- what a made head begins with
plain-laid : (b : ℕ) (t : List ℕ) → head_bytes (Plain b) ++ t ≡ to_le 2 8 ++ (to_le 2 plain_kind ++ (to_le 4 b ++ t))
unfolding head_bytes head_size
plain-laid b t = simp append_assoc

marked_laid : (b m : ℕ) (t : List ℕ) → head_bytes (Marked b m) ++ t ≡ to_le 2 12 ++ (to_le 2 marked_kind ++ (to_le 4 b ++ (to_le 4 m ++ t)))
unfolding head_bytes head_size
marked_laid b m t = simp append_assoc

-- READ WHAT WAS MADE: the head
pub head_made : (h : Head) (t : List ℕ) → HeadFits h → head_of (head_bytes h ++ t) ≡ h
unfolding head_of item_of
head_made (Plain b) t f =
    rw (kind-number (head_bytes (Plain b) ++ t) 8 plain_kind b t (plain-laid b t) (lit< tt), block_number (head_bytes (Plain b) ++ t) 8 plain_kind b t (plain-laid b t) f)
head_made (Marked b m) t f =
    rw (
      kind-number (head_bytes (Marked b m) ++ t) 12 marked_kind b (to_le 4 m ++ t) (marked_laid b m t) (lit< tt),
      block_number (head_bytes (Marked b m) ++ t) 12 marked_kind b (to_le 4 m ++ t) (marked_laid b m t) f.0,
      mark_number (head_bytes (Marked b m) ++ t) 12 marked_kind b (to_le 4 m ++ t) (marked_laid b m t) m t refl f.1,
    )
head_made Unknown t f = absurd f

pub size_made : (h : Head) (t : List ℕ) → HeadFits h → le (window (head_bytes h ++ t) 0 2) ≡ head_size h
unfolding head_size
size_made (Plain b) t f = size_number (head_bytes (Plain b) ++ t) 8 plain_kind b t (plain-laid b t) (lit< tt)
size_made (Marked b m) t f = size_number (head_bytes (Marked b m) ++ t) 12 marked_kind b (to_le 4 m ++ t) (marked_laid b m t) (lit< tt)
size_made Unknown t f = absurd f

-- a head that was read, and is right, is known
pub head-fits : (d : Device) (s : List ℕ) → head_right d (head_of s) ≡ true → HeadFits (head_of s)
unfolding head_of head_right
head-fits d s = go (item_of (le (window s 2 2)))
  where
    go : (i : Item) → head_right d (head_as i s) ≡ true → HeadFits (head_as i s)
    go Item.ThinMetadata r = absurd (true≢false (sym r))
    go Item.ThinData r = absurd (true≢false (sym r))
    go Item.Spare r = absurd (true≢false (sym r))
    go Item.MetadataVolume r = absurd (true≢false (sym r))
    go Item.Head r = le_bound (window s 4 4) 4 (length-window s 4 4)
    go Item.MarkedHead r = (le_bound (window s 4 4) 4 (length-window s 4 4), le_bound (window s 8 4) 4 (length-window s 8 4))
    go Item.Unknown r = absurd (true≢false (sym r))

-- a block size and a mark that are allowed have room in their fields
block_small : (b : ℕ) → block_size_allowed b ≡ true → b < 256 ^ 4
block_small b e =
    let l : b ≤ 2097152 = leb-true b 2097152 (and_right (leb 128 b) (leb b 2097152) (and_right (eqb (b % 128) 0) (leb 128 b && leb b 2097152) e)) in
    (let k : b < 4294967296 = omega arith in k)

-- a head within its limits is known, and its numbers have room in its fields
pub allowed-fits : (h : Head) → head_allowed h ≡ true → HeadFits h
unfolding head_allowed
allowed-fits (Plain b) e = block_small b e
allowed-fits (Marked b m) e = (
  block_small b (and_left (block_size_allowed b) (mark_allowed m) e),
  ltb-true m (256 ^ 4) (and_right (block_size_allowed b) (mark_allowed m) e),
)
allowed-fits Unknown e = absurd (true≢false (sym e))

-- a head that is right on a device is within its own limits
pub right-allowed : (d : Device) (h : Head) → head_right d h ≡ true → head_allowed h ≡ true
unfolding head_right
right-allowed d (Plain b) r = r
right-allowed d (Marked b m) r = r
right-allowed d Unknown r = absurd (true≢false (sym r))

pub right-fits : (d : Device) (h : Head) → head_right d h ≡ true → HeadFits h
right-fits d h r = allowed-fits h (right-allowed d h r)

-- today one within its limits is right on every device
pub allowed-right : (d : Device) (h : Head) → head_allowed h ≡ true → head_right d h ≡ true
unfolding head_right head_allowed
allowed-right d (Plain b) r = r
allowed-right d (Marked b m) r = r
allowed-right d Unknown r = r

-- today every kind may lie in the whole data range
pub one_range : (d : Device) (h : Head) (k : ℕ) → head_right d h ≡ true → range_for d h k ≡ data_range d
unfolding range_for head_right
one_range d (Plain b) k r = refl
one_range d (Marked b m) k r = refl
one_range d Unknown k r = absurd (true≢false (sym r))

-- it has bytes
pub right-some : (d : Device) (h : Head) → head_right d h ≡ true → 1 ≤ head_size h
unfolding head_right head_size
right-some d (Plain b) r = omega arith
right-some d (Marked b m) r = omega arith
right-some d Unknown r = absurd (true≢false (sym r))

-- a head of kind 16 with a block size that is allowed is right on every device
pub plain-right : (d : Device) (b : ℕ) → block_size_allowed b ≡ true → head_right d (Plain b) ≡ true
unfolding head_right head_allowed
plain-right d b r = r

pub right-plain : (d : Device) (b : ℕ) → head_right d (Plain b) ≡ true → block_size_allowed b ≡ true
unfolding head_right head_allowed
right-plain d b r = r

-- so is one of kind 17, with any mark that has room
pub marked_right : (d : Device) (b m : ℕ) → block_size_allowed b ≡ true → m < 256 ^ 4 → head_right d (Marked b m) ≡ true
unfolding head_right head_allowed
marked_right d b m r l = and_both (block_size_allowed b) (mark_allowed m) r (lt-ltb m (256 ^ 4) l)

pub right_marked : (d : Device) (b m : ℕ) → head_right d (Marked b m) ≡ true → (block_size_allowed b ≡ true) × (m < 256 ^ 4)
unfolding head_right head_allowed
right_marked d b m r = (and_left (block_size_allowed b) (mark_allowed m) r, ltb-true m (256 ^ 4) (and_right (block_size_allowed b) (mark_allowed m) r))

pub unknown-wrong : (d : Device) → head_right d Unknown ≡ false
unfolding head_right
unknown-wrong d = refl

-- the most segments: as many as there is room for
pub most_room : (h : Head) (n : ℕ) → n < most_segments h → head_size h + item_bytes * (n + 1) ≤ record_limit
unfolding most_segments
most_room h n l =
    let s : head_size h + 20 ≤ record_limit = head_small h in
    omega arith

pub room_most : (h : Head) (n : ℕ) → head_size h + item_bytes * (n + 1) ≤ record_limit → n < most_segments h
unfolding most_segments
room_most h n l = omega arith
