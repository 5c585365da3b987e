-- Demand 2's second half and what a record is, proved: the names of specs/Demand.antt.
use Prim.Native.Nat.{ℕ, zero, suc, ◌+◌, ◌-◌, ◌*◌, ◌/◌, ◌%◌, ◌≤◌, ◌<◌, min}
use mathlib.Core.Path.{◌≡◌, refl, sym, ap, ap₂, ◌∙◌, subst}
use mathlib.Core.Bool.{Bool, true, false, ◌&&◌, or-true}
use mathlib.Core.Logic.{◌⊎◌, inl, inr}
use mathlib.Core.List.{List, [], ◌∷◌, ◌++◌}
use native.Mathlib.Decide.{dec_le, dec_lt, ℕ_discrete}
use native.Mathlib.Nat.{le_refl, not-suc-le-zero}
use native.Mathlib.Numerals.{add-one}
use native.Mathlib.Omega.{arith}
use borrow.Author.Tests.{le-leb, lt-leb, leb-true, eqb-true, eq-eqb, ne_eqb}
use lib.Dec.{leb, eqb, lit<, lit≤}
use lib.ListN.{length, take, drop, length-take, length-drop}
use lib.Seq.{drop_at, get_or-take, get_or-drop}
use Rattle.endian.specs.Bytes.{window, to_le}
use Rattle.endian.proofs.Tests.{and_left, and_right, and_both}
use Rattle.refusal.specs.Numbers.{device_size, metadata_size, reserved_size, record_length, record_form, segment_place, segment_clash}
use Rattle.refusal.specs.declared.Refusal.{Refusal}
use Rattle.refusal.specs.Tests.{Test, ◌else_refuse◌, first, AllHold, Fails, Ascending}
use Rattle.refusal.proofs.Order.{first-pass, first_fail, first-lowest, first-zero, first-after, first_all, first_below, hold_before}
use Rattle.layout.specs.declared.Device.{Device}
use Rattle.layout.specs.Limits.{size_allowed, metadata_allowed, reserved_allowed, device_tests, length_allowed, record_limit}
use Rattle.layout.specs.Places.{data_start, data_end}
use Rattle.search.specs.Search.{every, within, one}
use Rattle.search.proofs.Search.{in_within, below-within, past-within, not_true-false, both, every-zero, every_more}
use Rattle.segments.specs.declared.Segment.{Segment}
use Rattle.segments.specs.declared.Range.{Range}
use Rattle.segments.specs.Segments.{none, nth, InRange}
use Rattle.segments.specs.Clash.{later_of, earlier_of, apart}
use Rattle.segments.specs.Sectors.{held_by, is_free, allocated, free_sectors, Holder}
use Rattle.segments.specs.Order.{Placed}
use Rattle.segments.specs.Demand.{Share, FirstPair}
use Rattle.segments.proofs.Segments.{in_range-back}
use Rattle.segments.proofs.Pairs.{apart_share, share_found, first-pair, one-pair}
use Rattle.segments.proofs.Clash.{apart_not}
use Rattle.segments.proofs.Sectors.{Laid}
use Rattle.segments.proofs.Sectors as Sectors
use Rattle.segments.proofs.Order.{in_order}
use Rattle.items.specs.declared.Head.{Head}
use Rattle.items.specs.declared.Head.TheVariants.{Plain, Marked}
use Rattle.items.specs.Head.{head_of, head_bytes, head_size, block_size_allowed, head_right, data_range, range_for, head_kind, low_water, item_bytes, block_size}
use Rattle.items.specs.Items.{items_of, segments, well_formed}
use Rattle.items.proofs.Items.{length-segments, nth-segments, Fit, fit_of, Formed, formed}
use Rattle.items.specs.Making.{segment_bytes, all_bytes, record_of}
use Rattle.items.proofs.Heads.{kind-small, head_small, right-fits, right-allowed, allowed-right, one_range, plain-right, right-plain, marked_right, right_marked, unknown-wrong, kinds_allowed, allows_kinds, most_room, room_most, most-plain, most_marked, marked_full}
use Rattle.items.proofs.Making.{formed_record, record_again}
use Rattle.items.proofs.Building.{one_more}
use Rattle.std.specs.Prelude.{Ok}
use Rattle.refusal.proofs.Reasons.{told_zero, told_other}
use Rattle.order.specs.Ordering.{positions}
use Rattle.order.proofs.Ordering.{positions-taken}
use Rattle.record.specs.Accept.{range_at, all_in_range, content_tests, record_tests, named, answered, checked}
use Rattle.record.specs.Sectors.{parts}
use Rattle.record.specs.Answers.{position_tests, handed_on, all_values, some_room, segments_left}
use Rattle.record.specs.Demand.{Right, Exactly, ReadAfterMake, BlockSize, Heads, HeadSays, four_bytes, two_bytes, eight_bytes, ItemBytes, HeadBytes, Full, Most, printed_segment, printed_device, printed_item, Printed, Means, Meaning, Malformed, Lowest, Partition, Cases, Sums, ClashBy, ClashExactly, EachRight, Clashing, Content, Naming, Ordered, Handed, NotHanded, Handing, Numbered, Valued}
use Rattle.record.proofs.Testing.{device-ascending, content_ascending, record_ascending, more_no, fails_at}
use Rattle.record.proofs.Naming.{named-number, named_other, named-pair, refusal_named}
use Rattle.record.proofs.Accepted.{Accepted, accepted, ends, laid, ordered}
use Rattle.record.proofs.Right.{tests_but_last, segments_each, tests_each, tests_right, read_head, read_segments, accepted_made, accepted-right, right-empty}
use Rattle.record.proofs.Change.{right-append}
use Rattle.record.proofs.Handing.{values_length, values_at}

pub exactly : Exactly
exactly d s small b = (forth, back)
  where
    forth : first (record_tests d s) ≡ 0 → (record_of (head_of s) (segments s) ≡ s) × Right d (head_of s) (segments s)
    forth h = (record_again d s b (accepted d s h).form, accepted-right d s h)

    back : (h : Head) (gs : List Segment) → Right d h gs → record_of h gs ≡ s → first (record_tests d s) ≡ 0
    back h gs r e = subst (λ (z : List ℕ). first (record_tests d z) ≡ 0) e (accepted_made d h gs small r)

pub read-after-make : ReadAfterMake
read-after-make d h gs small r = (read_head d h gs small r, (read_segments d h gs small r, accepted_made d h gs small r))

pub lowest : Lowest
lowest d s h = first-lowest 0 (record_tests d s) (record_ascending d s) h

partition_of : (d : Device) (s : List ℕ) → Accepted d s → (x : ℕ) → x < d.sectors → parts d (segments s) x ≡ 1
unfolding parts
partition_of d s a x l =
    let gs : List Segment = segments s in
    let w : Laid (data_range d) gs = laid d s a in
    let e : (data_start d < data_end d) × (data_end d + data_start d ≡ d.sectors) = ends d a.size a.metadata a.reserved in
    elim (dec_lt x (data_start d)) [
      | yes h ↦
          let o : held_by gs x ≡ 0 = Sectors.outside (data_range d) gs w x (inl h) in
          let n : one (is_free (data_range d) gs x) ≡ 0 = ap one (Sectors.outside_not_free (data_range d) gs x (inl h)) in
          let f : one (within 0 (data_start d) x) ≡ 1 = ap one (in_within 0 (data_start d) x (omega arith) h) in
          let b : one (within (data_end d) d.sectors x) ≡ 0 = ap one (below-within (data_end d) d.sectors x (omega arith)) in
          omega arith
      | no h ↦
          let f : one (within 0 (data_start d) x) ≡ 0 = ap one (past-within 0 (data_start d) x (omega arith)) in
          elim (dec_lt x (data_end d)) [
            | yes k ↦
                let b : one (within (data_end d) d.sectors x) ≡ 0 = ap one (below-within (data_end d) d.sectors x k) in
                let r : held_by gs x + one (is_free (data_range d) gs x) ≡ 1 = Sectors.once (data_range d) gs w x (omega arith) k in
                omega arith
            | no k ↦
                let m : data_end d ≤ x = omega arith in
                let b : one (within (data_end d) d.sectors x) ≡ 1 = ap one (in_within (data_end d) d.sectors x m l) in
                let o : held_by gs x ≡ 0 = Sectors.outside (data_range d) gs w x (inr m) in
                let n : one (is_free (data_range d) gs x) ≡ 0 = ap one (Sectors.outside_not_free (data_range d) gs x (inr m)) in
                omega arith
          ]
    ]

pub partition : Partition
partition d s h = partition_of d s (accepted d s h)

pub cases : Cases
cases d s h x l =
    elim (dec_lt x (data_start d)) [
      | yes k ↦ inl k
      | no k ↦
          elim (dec_le (data_end d) x) [
            | yes m ↦ inr (inl m)
            | no m ↦ inr (inr (inside (let p : data_start d ≤ x = omega arith in p) (let q : x < data_end d = omega arith in q)))
          ]
    ]
  where
    w : Laid (data_range d) (segments s)
    w = laid d s (accepted d s h)

    inside : data_start d ≤ x → x < data_end d → Holder (segments s) x ⊎ (is_free (data_range d) (segments s) x ≡ true)
    inside p q =
        let o : held_by (segments s) x + one (is_free (data_range d) (segments s) x) ≡ 1 = Sectors.once (data_range d) (segments s) w x p q in
        elim (ℕ_discrete (held_by (segments s) x) 0) [
          | yes e ↦ inr (Sectors.is_free_lem (data_range d) (segments s) x p q e)
          | no e ↦ inl (Sectors.holder (data_range d) (segments s) w x (let u : held_by (segments s) x ≡ 1 = omega arith in u))
        ]

pub sums : Sums
sums d s h =
    let a : Accepted d s = accepted d s h in
    let e : (data_start d < data_end d) × (data_end d + data_start d ≡ d.sectors) = ends d a.size a.metadata a.reserved in
    let c : allocated (segments s) + free_sectors (data_range d) (segments s) ≡ data_end d - data_start d = Sectors.counted (data_range d) (segments s) (laid d s a) (omega arith) in
    omega arith

-- the pair that the search finds stands beside 19
pair-named : (s : List ℕ) → earlier_of (segments s) < length (segments s) → FirstPair (segments s) (named 19 s).first (named 19 s).second
pair-named s l = subst (λ (r : Refusal). FirstPair (segments s) r.first r.second) (sym (named-pair s)) (first-pair (segments s) l)

pub first-named : (s : List ℕ) → apart (segments s) ≡ false → FirstPair (segments s) (named 19 s).first (named 19 s).second
first-named s h = pair-named s (apart_not (segments s) h)

pub naming : Naming
naming s =
    record {
      number = λ n. named-number n s;
      pair = λ i j x c. pair-named s (share_found (segments s) i j x c);
      only = λ i j p. one-pair (segments s) (named 19 s).first (named 19 s).second i j (pair-named s (share_found (segments s) i j p.shared.0 p.shared.1)) p;
      nothing = λ n h. (ap (λ (r : Refusal). r.first) (named_other n s h), ap (λ (r : Refusal). r.second) (named_other n s h));
    }

-- 19 is given by the last of a record's tests alone
pub content_clash : (d : Device) (s : List ℕ) → first (content_tests d s) ≡ 19 → apart (segments s) ≡ false
content_clash d s e =
    fails_at 0
    ((length_allowed (length s) else_refuse record_length)
    ∷ (well_formed d s else_refuse record_form)
    ∷ (all_in_range d (head_of s) (segments s) else_refuse segment_place)
    ∷ [])
    [] (apart (segments s)) 19 (content_ascending d s) e

-- the order that a check gives of an accepted record
pub order_is : (d : Device) (s : List ℕ) → first (record_tests d s) ≡ 0 → checked (first (record_tests d s)) s ≡ Ok (positions (segments s))
unfolding checked
order_is d s h = told_zero (first (record_tests d s)) (named (first (record_tests d s)) s) (positions (segments s)) h

pub ordered_all : Ordered
ordered_all d s h = (
  positions (segments s),
  (order_is d s h, subst (Placed (segments s)) (sym (positions-taken (segments s))) (in_order (segments s) (ordered d s (accepted d s h)))),
)

-- heads and kinds in the format's numbers
block_size_lem : (b : ℕ) → block_size_allowed b ≡ true → BlockSize b
block_size_lem b q =
    let w : leb 128 b && leb b 2097152 ≡ true = and_right (eqb (b % 128) 0) (leb 128 b && leb b 2097152) q in (
      leb-true 128 b (and_left (leb 128 b) (leb b 2097152) w),
      (leb-true b 2097152 (and_right (leb 128 b) (leb b 2097152) w), eqb-true (b % 128) 0 (and_left (eqb (b % 128) 0) (leb 128 b && leb b 2097152) q)),
    )

size_block : (b : ℕ) → BlockSize b → block_size_allowed b ≡ true
size_block b h = rw (eq-eqb (b % 128) 0 h.1.1, le-leb 128 b h.0, le-leb b 2097152 h.1.0)

pub heads : Heads
heads d =
    record {
      plain = λ b. (λ r. block_size_lem b (right-plain d b r), λ h. plain-right d b (size_block b h));
      marked = λ b m. (λ r. (block_size_lem b (right_marked d b m r).0, (right_marked d b m r).1), λ h. marked_right d b m (size_block b h.0) h.1);
      kinds = λ h k r. (allows_kinds h k, λ l. kinds_allowed d h k r l.0 l.1);
      ranges = λ h k r. one_range d h k r;
      begun = λ h. (allowed-right d h, right-allowed d h);
      unknown = unknown-wrong d;
    }

pub head_says : HeadSays
unfolding head_kind head_size block_size low_water
head_says b m = ((refl, (refl, (refl, refl))), (refl, (refl, (refl, refl))))

-- four bytes of a number
pub four : (v : ℕ) → to_le 4 v ≡ four_bytes v
unfolding to_le
four v =
    let a : v / 256 / 256 ≡ v / 65536 = omega arith in
    let b : v / 256 / 256 / 256 ≡ v / 16777216 = omega arith in
    ap₂ (λ (x y : ℕ). v % 256 ∷ v / 256 % 256 ∷ x % 256 ∷ y % 256 ∷ []) a b

two : (v : ℕ) → to_le 2 v ≡ two_bytes v
unfolding to_le
two v = refl

eight : (v : ℕ) → to_le 8 v ≡ eight_bytes v
unfolding to_le
eight v =
    let a : v / 256 / 256 / 256 / 256 ≡ v / 4294967296 = omega arith in
    ap₂ (λ (x y : List ℕ). x ++ y) (four v) (ap (to_le 4) a ∙ four (v / 4294967296))

pub item_bytes_lem : ItemBytes
unfolding segment_bytes
item_bytes_lem h gs g =
    sym (one_more h gs g)
    ∙ ap (λ (z : List ℕ). record_of h gs ++ z)
    (ap₂ (λ (x y : List ℕ). to_le 2 item_bytes ++ (x ++ y)) (two g.kind) (ap₂ (λ (x y : List ℕ). x ++ y) (eight g.start) (eight g.sectors)) ∙ ap (λ (z : List ℕ). z ++ (two_bytes g.kind ++ (eight_bytes g.start ++ eight_bytes g.sectors))) (two item_bytes))

pub head_bytes_lem : HeadBytes
unfolding record_of head_bytes head_size all_bytes to_le
head_bytes_lem b m = (
  ap (λ (z : List ℕ). (8 ∷ 0 ∷ 16 ∷ 0 ∷ []) ++ (z ++ [])) (four b),
  ap₂ (λ (y z : List ℕ). (12 ∷ 0 ∷ 17 ∷ 0 ∷ []) ++ ((y ++ z) ++ [])) (four b) (four m),
)

pub full : Full
full h n = (most_room h n, room_most h n)

pub most : Most
most b m = (most-plain b, (most_marked b m, marked_full b m))

-- the format's printed record, with either head
printed-plain : record_of (Plain 128) (printed_segment ∷ []) ≡ 8 ∷ 0 ∷ 16 ∷ 0 ∷ 128 ∷ 0 ∷ 0 ∷ 0 ∷ printed_item
unfolding record_of head_bytes head_size all_bytes segment_bytes to_le
printed-plain = refl

printed_marked : record_of (Marked 128 1000) (printed_segment ∷ []) ≡ 12 ∷ 0 ∷ 17 ∷ 0 ∷ 128 ∷ 0 ∷ 0 ∷ 0 ∷ 232 ∷ 3 ∷ 0 ∷ 0 ∷ printed_item
unfolding record_of head_bytes head_size all_bytes segment_bytes to_le
printed_marked = refl

printed-accepted : (h : Head) → head_right printed_device h ≡ true → first (record_tests printed_device (record_of h (printed_segment ∷ []))) ≡ 0
printed-accepted h r =
    accepted_made printed_device h (printed_segment ∷ []) (lit< tt)
    (right-append printed_device h [] printed_segment (right-empty printed_device h device-right r) (room_most h 0 (head_small h)) (kinds_allowed printed_device h 2 r (lit≤ tt) (lit≤ tt))
    (subst (λ (z : Range). InRange z printed_segment) (sym (one_range printed_device h 2 r)) (record { low = lit≤ tt; some = lit≤ tt; high = lit≤ tt }))
    (λ i x l e f. not-suc-le-zero l))
  where
    device-right : first (device_tests printed_device) ≡ 0
    device-right = first_all (device_tests printed_device) (refl, (refl, (refl, tt)))

pub printed : Printed
printed = (
  printed-plain,
  (
    printed-accepted (Plain 128) (plain-right printed_device 128 refl),
    (printed_marked, printed-accepted (Marked 128 1000) (marked_right printed_device 128 1000 refl (lit< tt))),
  ),
)

-- What a refusal number says: its own test fails.
module _ (d : Device) (s : List ℕ) where
  abbrev rest-18 : List Test
  rest-18 = (apart (segments s) else_refuse segment_clash) ∷ []

  abbrev rest-17 : List Test
  rest-17 = (all_in_range d (head_of s) (segments s) else_refuse segment_place) ∷ rest-18

  abbrev rest-15 : List Test
  rest-15 = (well_formed d s else_refuse record_form) ∷ rest-17

  abbrev upto-15 : List Test
  upto-15 = device_tests d ++ ((length_allowed (length s) else_refuse record_length) ∷ [])

  ascends : Ascending 0 (record_tests d s)
  ascends = record_ascending d s

  too_long : length_allowed (length s) ≡ false → (length s ≡ 0) ⊎ (record_limit < length s)
  unfolding length_allowed
  too_long h =
      elim (dec_lt record_limit (length s)) [
        | yes l ↦ inr l
        | no l ↦
            elim (ℕ_discrete (length s) 0) [
              | yes e ↦ inl e
              | no e ↦
                  absurd (both (leb 1 (length s) && leb (length s) record_limit)
                  (and_both (leb 1 (length s)) (leb (length s) record_limit) (le-leb 1 (length s) (omega arith)) (le-leb (length s) record_limit (omega arith))) h)
            ]
      ]

  -- a segment that is not in its range is found
  find : (n : ℕ) → every (range_at d (head_of s) (segments s)) n ≡ false → (i : ℕ) × ((i < n) × (range_at d (head_of s) (segments s) i ≡ false))
  find zero h = absurd (both (every (range_at d (head_of s) (segments s)) 0) (every-zero (range_at d (head_of s) (segments s))) h)
  find (suc n) h = go (find n) (range_at d (head_of s) (segments s) n) refl
    where
      go : (every (range_at d (head_of s) (segments s)) n ≡ false → (i : ℕ) × ((i < n) × (range_at d (head_of s) (segments s) i ≡ false))) → (b : Bool) → range_at d (head_of s) (segments s) n ≡ b → (i : ℕ) × ((i < suc n) × (range_at d (head_of s) (segments s) i ≡ false))
      go r false e = (n, (le_refl (suc n), e))
      go r true e =
          let f : every (range_at d (head_of s) (segments s)) n ≡ false =
          not_true-false (every (range_at d (head_of s) (segments s)) n) (λ k. both (every (range_at d (head_of s) (segments s)) (suc n)) (rw add-one at (every_more (range_at d (head_of s) (segments s)) n k e)) h) in
          let u : (i : ℕ) × ((i < n) × (range_at d (head_of s) (segments s) i ≡ false)) = r f in
          let l : u.0 < n = u.1.0 in
          (u.0, ((let m : u.0 < suc n = omega arith in m), u.1.1))

  out_of_range : all_in_range d (head_of s) (segments s) ≡ false
      → (i : ℕ) × ((i < length (segments s)) × (InRange (range_for d (head_of s) (nth (segments s) i).kind) (nth (segments s) i) → ⊥))
  unfolding all_in_range
  out_of_range h =
      let u : (i : ℕ) × ((i < length (segments s)) × (range_at d (head_of s) (segments s) i ≡ false)) = find (length (segments s)) h in
      (u.0, (u.1.0, λ r. both (range_at d (head_of s) (segments s) u.0) (in_range-back (range_for d (head_of s) (nth (segments s) u.0).kind) (nth (segments s) u.0) r) u.1.1))

  clash_there : apart (segments s) ≡ false → (i : ℕ) × ((j : ℕ) × ((x : ℕ) × Share (segments s) i j x))
  clash_there h =
      let l : earlier_of (segments s) < length (segments s) = apart_not (segments s) h in
      (earlier_of (segments s), (later_of (segments s) (earlier_of (segments s)), (first-pair (segments s) l).shared))

  pub means : Means d s
  means =
      record {
        four = λ e. fails_at 0 [] ((metadata_allowed d.metadata else_refuse metadata_size) ∷ (reserved_allowed d.reserved else_refuse reserved_size) ∷ content_tests d s) (size_allowed d.sectors) 4 ascends e;
        seven = λ e. fails_at 0 ((size_allowed d.sectors else_refuse device_size) ∷ []) ((reserved_allowed d.reserved else_refuse reserved_size) ∷ content_tests d s) (metadata_allowed d.metadata) 7 ascends e;
        eight = λ e. fails_at 0 ((size_allowed d.sectors else_refuse device_size) ∷ (metadata_allowed d.metadata else_refuse metadata_size) ∷ []) (content_tests d s) (reserved_allowed d.reserved) 8 ascends e;
        fifteen = λ e. too_long (fails_at 0 (device_tests d) rest-15 (length_allowed (length s)) 15 ascends e);
        seventeen = λ e h gs r k q.
            both (well_formed d s) (subst (λ (z : List ℕ). well_formed d z ≡ true) q (formed_record d h gs (right-fits d h r) r (λ i l. record { kind = kind-small h (nth gs i).kind (k i l).0; start = (k i l).1.0; sectors = (k i l).1.1 }) (λ i l. (k i l).0)))
            (fails_at 0 upto-15 rest-17 (well_formed d s) 17 ascends e);
        eighteen = λ e. out_of_range (fails_at 0 (upto-15 ++ ((well_formed d s else_refuse record_form) ∷ [])) rest-18 (all_in_range d (head_of s) (segments s)) 18 ascends e);
        nineteen = λ e. clash_there (fails_at 0 (upto-15 ++ ((well_formed d s else_refuse record_form) ∷ (all_in_range d (head_of s) (segments s) else_refuse segment_place) ∷ [])) [] (apart (segments s)) 19 ascends e);
      }

pub meaning : Meaning
meaning = means

pub malformed : Malformed
unfolding length_allowed
malformed d s b device low high none = go (well_formed d s) refl
  where
    fit : (i : ℕ) → i < length (segments s) → Fit (nth (segments s) i)
    fit i l =
        let k : i < length (items_of s) / 20 = (let e : length (segments s) ≡ length (items_of s) / 20 = length-segments (items_of s) in omega arith) in
        subst Fit (sym (nth-segments (items_of s) i k)) (fit_of (window (items_of s) (item_bytes * i) item_bytes))

    long : length_allowed (length s) ≡ true
    long = and_both (leb 1 (length s)) (leb (length s) record_limit) (le-leb 1 (length s) low) (le-leb (length s) record_limit high)

    go : (w : Bool) → well_formed d s ≡ w → first (record_tests d s) ≡ 17
    go true w =
        let f : Formed d s = formed d s w in
        absurd (none (head_of s) (segments s) f.head (λ i l. (f.kinds i l, ((fit i l).start, (fit i l).sectors))) (record_again d s b w))
    go false w =
        first-after (device_tests d) (content_tests d s) (first-zero 0 (device_tests d) (device-ascending d) device)
        ∙ (first-pass (length_allowed (length s)) record_length _ long ∙ first_fail (well_formed d s) record_form _ w)

-- 19, and no lower number: by tests whose numbers ascend, of which the one of the clash has 19
clash_by : (ts : List Test) (s : List ℕ) → Ascending 0 ts → (first ts ≡ 19 → apart (segments s) ≡ false) → (apart (segments s) ≡ false → Fails ts 19)
    → (first ts ≡ 0 → apart (segments s) ≡ true) → ClashBy ts s
clash_by ts s up gives fails accepts = (forth, back)
  where
    forth : first ts ≡ 19 → ((k : ℕ) → k < 19 → Fails ts k → ⊥) × FirstPair (segments s) (named (first ts) s).first (named (first ts) s).second
    forth e = (
      λ k l f. (let m : first ts ≤ k = (first-lowest 0 ts up (omega arith)).1 k f in omega arith),
      subst (λ (n : ℕ). FirstPair (segments s) (named n s).first (named n s).second) (sym e) (first-named s (gives e)),
    )

    back : ((k : ℕ) → k < 19 → Fails ts k → ⊥) → (i j x : ℕ) → Share (segments s) i j x → first ts ≡ 19
    back lower i j x c =
        let a : apart (segments s) ≡ false = not_true-false (apart (segments s)) (λ h. apart_share (segments s) h i j x c) in
        elim (ℕ_discrete (first ts) 0) [
          | yes z ↦ absurd (both (apart (segments s)) (accepts z) a)
          | no z ↦
              let w : Fails ts (first ts) × ((k : ℕ) → Fails ts k → first ts ≤ k) = first-lowest 0 ts up (omega arith) in
              let u : first ts ≤ 19 = w.1 19 (fails a) in
              elim (dec_lt (first ts) 19) [
                | yes l ↦ absurd (lower (first ts) l w.0)
                | no l ↦ omega arith
              ]
        ]

pub clashing : Clashing
clashing d s = (
  clash_by (record_tests d s) s (record_ascending d s)
      (λ e. fails_at 0 (device_tests d ++ ((length_allowed (length s) else_refuse record_length) ∷ (well_formed d s else_refuse record_form) ∷ (all_in_range d (head_of s) (segments s) else_refuse segment_place) ∷ [])) [] (apart (segments s)) 19 (record_ascending d s) e)
      (λ a. inr (inr (inr (inr (inr (inr (inl (a, refl)))))))) (λ z. (accepted d s z).disjoint),
  clash_by (content_tests d s) s (content_ascending d s) (content_clash d s) (λ a. inr (inr (inr (inl (a, refl)))))
      (λ z. (first-zero 0 (content_tests d s) (content_ascending d s) z).1.1.1.0),
)

-- by meaning
pub clash_exactly : ClashExactly
clash_exactly d s small b = (forth, back)
  where
    forth : first (record_tests d s) ≡ 19 → (record_of (head_of s) (segments s) ≡ s) × (EachRight d (head_of s) (segments s) × FirstPair (segments s) (named 19 s).first (named 19 s).second)
    forth e =
        let a : AllHold (tests_but_last d s) =
        hold_before (tests_but_last d s) ((apart (segments s) else_refuse segment_clash) ∷ []) 19
        ((λ z. omega arith), ((λ z. omega arith), ((λ z. omega arith), ((λ z. omega arith), ((λ z. omega arith), ((λ z. omega arith), tt)))))) e in (
          record_again d s b a.1.1.1.1.0,
          (tests_right d s a, subst (λ (n : ℕ). FirstPair (segments s) (named n s).first (named n s).second) e ((clashing d s).0.0 e).1),
        )

    back : (h : Head) (gs : List Segment) (i j : ℕ) → EachRight d h gs → record_of h gs ≡ s → FirstPair gs i j
        → named (first (record_tests d s)) s ≡ record { number = 19; first = i; second = j }
    back h gs i j r e p =
        subst (λ (z : List ℕ). named (first (record_tests d z)) z ≡ record { number = 19; first = i; second = j }) e
        (let g : segments (record_of h gs) ≡ gs = segments_each d h gs small r in
        let q : FirstPair (segments (record_of h gs)) i j = subst (λ (z : List Segment). FirstPair z i j) (sym g) p in
        let a : apart (segments (record_of h gs)) ≡ false =
        not_true-false (apart (segments (record_of h gs))) (λ x. apart_share (segments (record_of h gs)) x i j q.shared.0 q.shared.1) in
        let n : first (record_tests d (record_of h gs)) ≡ 19 =
        first-after (tests_but_last d (record_of h gs)) ((apart (segments (record_of h gs)) else_refuse segment_clash) ∷ []) (tests_each d h gs small r)
        ∙ first_fail (apart (segments (record_of h gs))) segment_clash [] a in
        let w : ((named 19 (record_of h gs)).first ≡ i) × ((named 19 (record_of h gs)).second ≡ j) = (naming (record_of h gs)).only i j q in
        ap (λ (k : ℕ). named k (record_of h gs)) n
        ∙ λ t. record { number = named-number 19 (record_of h gs) t; first = w.0 t; second = w.1 t })

pub content : Content
content d s z = sym (first-after (device_tests d) (content_tests d s) (first-zero 0 (device_tests d) (device-ascending d) z))

-- the tests that follow those of an accepted record
after : (d : Device) (s : List ℕ) (us : List Test) → first (record_tests d s) ≡ 0 → first (record_tests d s ++ us) ≡ first us
after d s us a = first-after (record_tests d s) us (first-zero 0 (record_tests d s) (record_ascending d s) a)

-- segments that are handed on, and segments that are not, by the number of the call's tests
module _ (d : Device) (s : List ℕ) (p : ℕ) (t : List ℕ) where
  abbrev n : ℕ
  n = min (length t / 3) (length (segments s) - p)

  abbrev number : ℕ
  number = first (record_tests d s ++ some_room s p (length t))

  all_taken : length (take n (drop p (segments s))) ≡ n
  all_taken =
      let x : length (take n (drop p (segments s))) ≡ min n (length (drop p (segments s))) = length-take n (drop p (segments s)) in
      let y : length (drop p (segments s)) ≡ length (segments s) - p = length-drop p (segments s) in
      omega arith

  left : number ≡ 0 → segments_left d s p t ≡ all_values (take n (drop p (segments s))) ++ drop (3 * n) t
  unfolding handed_on
  left z = rw z

  handed : number ≡ 0 → Handed d s p t n
  unfolding handed_on
  handed z =
      let many : length (take n (drop p (segments s))) ≡ n = all_taken in
      record {
        answer = told_zero number (named number s) n z;
        there = λ i k. omega arith;
        room = omega arith;
        most = elim (dec_le (length (segments s)) (p + n)) [
          | yes e ↦ inl e
          | no e ↦ inr (omega arith)
        ];
        each = λ i k.
            ap (λ (q : List ℕ). take 3 (drop (3 * i) q)) (left z)
            ∙ (values_at (take n (drop p (segments s))) i (drop (3 * n) t) (let l : i < length (take n (drop p (segments s))) = omega arith in l)
            ∙ ap (λ (g : Segment). g.kind ∷ g.start ∷ g.sectors ∷ []) (get_or-take n (drop p (segments s)) i none k ∙ get_or-drop p (segments s) i none));
        past = ap (λ (q : List ℕ). drop (3 * n) q) (left z) ∙ drop_at (all_values (take n (drop p (segments s)))) (drop (3 * n) t) (3 * n) (values_length (take n (drop p (segments s))) ∙ omega arith);
      }

  not_handed : (m : ℕ) → 0 < m → number ≡ m → NotHanded d s p t m
  not_handed m l e = (
    ap (λ (k : ℕ). answered k s (handed_on s p (length t))) e ∙ told_other m (named m s) (handed_on s p (length t)) (λ z. omega arith),
    rw (e, ne_eqb m 0 (λ z. omega arith)),
  )

-- the test of the room
room-enough : (s : List ℕ) (p w : ℕ) → (length (segments s) ≤ p) ⊎ (3 ≤ w) → first (some_room s p w) ≡ 0
unfolding first
room-enough s p w (inl l) = rw (le-leb (length (segments s)) p l)
room-enough s p w (inr l) = rw (le-leb 3 w l, or-true (leb (length (segments s)) p))

room-short : (s : List ℕ) (p w : ℕ) → p < length (segments s) → w < 3 → first (some_room s p w) ≡ 1
unfolding first
room-short s p w l k = rw (lt-leb (length (segments s)) p l, lt-leb 3 w k)

pub handing : Handing
handing d s p t = (
  λ a h. (min (length t / 3) (length (segments s) - p), handed d s p t (after d s (some_room s p (length t)) a ∙ room-enough s p (length t) h)),
  (
    λ a l k. not_handed d s p t 1 (lit< tt) (after d s (some_room s p (length t)) a ∙ room-short s p (length t) l k),
    λ n l a. not_handed d s p t n l (sym (more_no d s (some_room s p (length t)) n (sym a) (λ z. omega arith))),
  ),
)

-- a record's tests, and those that follow them, have numbers that are known
record-known : (d : Device) (s : List ℕ) → first (record_tests d s) < 25
record-known d s = first_below 25 (record_tests d s) (lit< tt) (lit< tt, (lit< tt, (lit< tt, (lit< tt, (lit< tt, (lit< tt, (lit< tt, tt)))))))

one_more-known : (d : Device) (s : List ℕ) (b : Bool) (n : ℕ) → n < 25 → first (record_tests d s ++ ((b else_refuse n) ∷ [])) < 25
one_more-known d s b n l =
    first_below 25 (record_tests d s ++ ((b else_refuse n) ∷ [])) (lit< tt) (lit< tt, (lit< tt, (lit< tt, (lit< tt, (lit< tt, (lit< tt, (lit< tt, (l, tt))))))))

pub numbered : Numbered
unfolding checked
numbered d s p w =
    record {
      check = refusal_named (first (record_tests d s)) s (positions (segments s)) (record-known d s);
      order_none = told_other (first (record_tests d s)) (named (first (record_tests d s)) s) (positions (segments s));
      segment = refusal_named (first (record_tests d s ++ position_tests s p)) s (nth (segments s) p) (one_more-known d s _ 22 (lit< tt));
      many = refusal_named (first (record_tests d s)) s (length (segments s)) (record-known d s);
      head = refusal_named (first (record_tests d s)) s (head_of s) (record-known d s);
      handed = refusal_named (first (record_tests d s ++ some_room s p w)) s (handed_on s p w) (one_more-known d s _ 1 (lit< tt));
    }

pub valued : Valued
valued d s p =
    record {
      segment = told_zero (first (record_tests d s ++ position_tests s p)) (named (first (record_tests d s ++ position_tests s p)) s) (nth (segments s) p);
      many = told_zero (first (record_tests d s)) (named (first (record_tests d s)) s) (length (segments s));
      head = told_zero (first (record_tests d s)) (named (first (record_tests d s)) s) (head_of s);
    }
