-- What discovery answers, proved in the words of `specs/Demand.antt`.
use Prim.Native.Nat.{ℕ, ◌≤◌, ◌<◌}
use mathlib.Core.Path.{◌≡◌, refl, sym, ap, ap₂, subst, subst₂, ◌∙◌}
use mathlib.Core.Logic.{◌⊎◌, inl, inr}
use mathlib.Core.Bool.{Bool, true, false, cond, ◌&&◌, true≢false}
use mathlib.Core.List.{List, []}
use native.Mathlib.Omega.{arith}
use borrow.Author.Tests.{eqb-true, eqb-false, eq-eqb}
use lib.Dec.{eqb}
use Rattle.std.proofs.Common.{Option, Some, None, Result, Ok, Err}
use Rattle.refusal.specs.declared.Reason.{Reason}
use Rattle.refusal.specs.Refusals.{plain}
use Rattle.refusal.specs.Reasons.{refusal_of, reason}
use Rattle.endian.specs.Bytes.{same}
use Rattle.endian.proofs.Tests.{and_left, and_right, and_both, same_equal, equal_same}
use Rattle.refusal.specs.Numbers.{slice_size, identity}
use Rattle.layout.specs.Limits.{most_nanoseconds}
use Rattle.layout.specs.declared.Side.{Side}
use Rattle.layout.specs.declared.Side.TheVariants.{Front, Back}
use Rattle.layout.specs.declared.Area.{Area}
use Rattle.block.specs.declared.Holding.{Holding}
use Rattle.block.specs.declared.BlockFields.{BlockFields}
use Rattle.block.proofs.Readings.{reason-back-plain}
use Rattle.block.specs.Entry.{later_than, same_time, time_of}
use Rattle.block.specs.Block.{number, pool_of, blockdev_of, accepted_reading}
use Rattle.block.specs.Accepted.{Accepted}
use Rattle.block.proofs.Times.{same_facts, same_test}
use Rattle.copy.specs.declared.Present.{Present}
use Rattle.copy.specs.declared.CopyReading.{CopyReading}
use Rattle.copy.specs.Copy.{record_at, is_copy, area_bytes, other_side, present, copy_reading}
use Rattle.copy.specs.Answers.{copy_number}
use Rattle.copy.specs.Demand.{Sized, signature_block, first_bytes, moment, AcceptedCopy, WholeArea, PresentRecord}
use Rattle.copy.proofs.Demand.{sized-copy, copy-sized, area_bytes_lem, fields_in, nanoseconds, not_later-less, later_more, one_second, one_nanosecond, one_entry, present_record, nothing-whole, View, not_taken, taken, view}
use Rattle.discovery.specs.declared.Finding.{Finding}
use Rattle.discovery.specs.declared.Found.{Found}
use Rattle.discovery.specs.Discovery.{found_with, finding_of, alone_of, newest_of, together_of, same_device, same_uuids, decide_of, discovery, copy_on}
use Rattle.discovery.specs.Demand.{BothSized, SameIdentity, OneIdentity, WrongSize, NoBlock, TwoIdentities, NoRecord, TwoRecords, Finds, Exactly}

-- of one side and the other, all
by_side : (P : Side → Type 0) (s : Side) → P s → P (other_side s) → (t : Side) → P t
by_side P Front p q Front = p
by_side P Front p q Back = q
by_side P Back p q Front = q
by_side P Back p q Back = p

front-back : Front ≡ Back → ⊥
front-back e = let o : ◌≡◌ {A = ℕ} 0 1 = cc in omega arith

-- whole areas of one copy and of one time are one, with its bytes
abbrev bytes_at : List ℕ → Option Present → List ℕ
bytes_at c None = []
bytes_at c (Some p) = first_bytes c p.area p.holding.bytes

one_record : (c : List ℕ) (a : AcceptedCopy c) (x y : Area) (h k : Holding) → WholeArea c x h → WholeArea c y k → moment h ≡ moment k
    → first_bytes c x h.bytes ≡ first_bytes c y k.bytes
one_record c a x y h k v w e = ap (bytes_at c) (one_entry c a x y h k v.used w.used e)

-- one time, and the same bytes, in both words
pub same-moment : (h k : Holding) → same_time (time_of h) (time_of k) ≡ true → moment h ≡ moment k
same-moment h k e =
    let s : h.seconds ≡ k.seconds = (same_facts (time_of h) (time_of k) e).0 in
    let n : h.nanoseconds ≡ k.nanoseconds = (same_facts (time_of h) (time_of k) e).1 in
    omega arith

pub moment-same : (h k : Holding) → h.nanoseconds ≤ most_nanoseconds → k.nanoseconds ≤ most_nanoseconds → moment h ≡ moment k → same_time (time_of h) (time_of k) ≡ true
moment-same h k nh nk e = same_test (time_of h) (time_of k) (one_second h k nh nk e) (one_nanosecond h k nh nk e)

module _ (f b : List ℕ) (x : Area) (h : Holding) (y : Area) (k : Holding) where
  pub same_bytes : same (area_bytes f x h.bytes) (area_bytes b y k.bytes) ≡ true → first_bytes f x h.bytes ≡ first_bytes b y k.bytes
  same_bytes e = sym (area_bytes_lem f x h.bytes) ∙ (same_equal (area_bytes f x h.bytes) (area_bytes b y k.bytes) e ∙ area_bytes_lem b y k.bytes)

  pub bytes_same : first_bytes f x h.bytes ≡ first_bytes b y k.bytes → same (area_bytes f x h.bytes) (area_bytes b y k.bytes) ≡ true
  bytes_same e = equal_same (area_bytes f x h.bytes) (area_bytes b y k.bytes) (area_bytes_lem f x h.bytes ∙ (e ∙ sym (area_bytes_lem b y k.bytes)))

-- the identity, in both words
module _ (f b : List ℕ) where
  abbrev numbers : Bool
  numbers = same_device (fields_in f) (fields_in b)

  abbrev uuids : Bool
  uuids = same_uuids (accepted_reading (signature_block f)) (accepted_reading (signature_block b))

  abbrev one : Bool
  one = eqb (number (signature_block f) 20 8) (number (signature_block b) 20 8)

  abbrev two : Bool
  two = eqb (number (signature_block f) 160 4) (number (signature_block b) 160 4)

  abbrev three : Bool
  three = eqb (number (signature_block f) 164 4) (number (signature_block b) 164 4)

  abbrev four : Bool
  four = same (pool_of (signature_block f)) (pool_of (signature_block b))

  abbrev five : Bool
  five = same (blockdev_of (signature_block f)) (blockdev_of (signature_block b))

  pub same-identity : numbers && uuids ≡ true → SameIdentity f b
  same-identity h =
      let n : one && (two && three) ≡ true = and_left numbers uuids h in
      let u : four && five ≡ true = and_right numbers uuids h in
      record {
        sectors = eqb-true (number (signature_block f) 20 8) (number (signature_block b) 20 8) (and_left one (two && three) n);
        metadata = eqb-true (number (signature_block f) 160 4) (number (signature_block b) 160 4) (and_left two three (and_right one (two && three) n));
        reserved = eqb-true (number (signature_block f) 164 4) (number (signature_block b) 164 4) (and_right two three (and_right one (two && three) n));
        pool = same_equal (pool_of (signature_block f)) (pool_of (signature_block b)) (and_left four five u);
        device = same_equal (blockdev_of (signature_block f)) (blockdev_of (signature_block b)) (and_right four five u);
      }

  pub identity-same : SameIdentity f b → numbers && uuids ≡ true
  identity-same i =
      and_both numbers uuids
      (and_both one (two && three) (eq-eqb (number (signature_block f) 20 8) (number (signature_block b) 20 8) i.sectors)
      (and_both two three (eq-eqb (number (signature_block f) 160 4) (number (signature_block b) 160 4) i.metadata)
      (eq-eqb (number (signature_block f) 164 4) (number (signature_block b) 164 4) i.reserved)))
      (and_both four five (equal_same (pool_of (signature_block f)) (pool_of (signature_block b)) i.pool)
      (equal_same (blockdev_of (signature_block f)) (blockdev_of (signature_block b)) i.device))

-- What two slices give, by what they are.
data Outcome (f b : List ℕ) : Result Found Reason → Type 0 where
  wrong_size : WrongSize f b → Outcome f b (Err (reason 1))
  block_none : NoBlock f b → Outcome f b (Err (reason 10))
  two_identities : TwoIdentities f b → Outcome f b (Err (reason 11))
  no_record : NoRecord f b → Outcome f b (Err (reason 12))
  two_records : TwoRecords f b → Outcome f b (Err (reason 13))
  finds : (q : Finding) (o : Result BlockFields Reason) → Finds f b q o → Outcome f b (found_with q o)

module _ (f b : List ℕ) (z : BothSized f b) where
  -- the present record of a copy, where nothing whole in the other is later
  find : (s : Side) (x : Area) (h : Holding) (o : Result BlockFields Reason) → OneIdentity f b → PresentRecord (copy_on s f b) x h
      → ((y : Area) (k : Holding) → WholeArea (copy_on (other_side s) f b) y k → moment k ≤ moment h)
      → (s ≡ Back → (y : Area) (k : Holding) → WholeArea f y k → moment k < moment h)
      → (s ≡ Front → (y : Area) (k : Holding) → WholeArea b y k → moment k ≡ moment h → first_bytes b y k.bytes ≡ first_bytes f x h.bytes)
      → (AcceptedCopy (copy_on (other_side s) f b) → o ≡ Ok (fields_in (copy_on (other_side s) f b)))
      → (¬ AcceptedCopy (copy_on (other_side s) f b) → o ≡ Err (reason (copy_number (copy_reading (copy_on (other_side s) f b)))))
      → Finds f b (finding_of s (fields_in (copy_on s f b)) (record_at x h)) o
  find s x h o i p n l e t u =
      record {
        size = z;
        identity = i;
        h = h;
        whole = p.whole;
        bytes = refl;
        seconds = refl;
        nanoseconds = refl;
        fields = refl;
        none-later = by_side (λ (t : Side). (y : Area) (k : Holding) → WholeArea (copy_on t f b) y k → moment k ≤ moment h) s p.none-later n;
        in_back = l;
        in_front = e;
        both = t;
        one = u;
      }

  -- one copy read alone
  module _ (s : Side) (a : AcceptedCopy (copy_on s f b)) (d : ¬ AcceptedCopy (copy_on (other_side s) f b)) where
    not-both : OneIdentity f b
    not-both x y = absurd (d (by_side (λ (t : Side). AcceptedCopy (copy_on t f b)) Front x y (other_side s)))

    alone : (e : Reason) → e ≡ reason (copy_number (copy_reading (copy_on (other_side s) f b))) → (p : Option Present)
        → present (copy_on s f b) (fields_in (copy_on s f b)) ≡ p → Outcome f b (alone_of s (fields_in (copy_on s f b)) p e)
    alone e g None p =
        no_record
        (record {
          size = z;
          accepted = (s, a);
          identity = not-both;
          none = by_side (λ (t : Side). (x : Area) (h : Holding) → ¬ WholeArea (copy_on t f b) x h) s (nothing-whole (copy_on s f b) a p) (λ x h w. d w.accepted);
        })
    alone e g (Some r) p =
        finds (finding_of s (fields_in (copy_on s f b)) r) (Err e)
        (find s r.area r.holding (Err e) not-both (present_record (copy_on s f b) a r.area r.holding p) (λ y k w. absurd (d w.accepted))
        (λ t y k w. absurd (d (subst (λ (v : Side). AcceptedCopy (copy_on (other_side v) f b)) (sym t) w.accepted)))
        (λ t y k w. absurd (d (subst (λ (v : Side). AcceptedCopy (copy_on (other_side v) f b)) (sym t) w.accepted)))
        (λ t. absurd (d t)) (λ t. ap (λ (x : Reason). Err x) g))

  -- two accepted copies of one identity
  module _ (i : SameIdentity f b) (af : AcceptedCopy f) (ab : AcceptedCopy b) where
    accepted : (s : Side) → AcceptedCopy (copy_on s f b)
    accepted = by_side (λ (s : Side). AcceptedCopy (copy_on s f b)) Front af ab

    -- with both present records
    module _ (x : Area) (h : Holding) (y : Area) (k : Holding) (p : PresentRecord f x h) (q : PresentRecord b y k) where
      nh : h.nanoseconds ≤ most_nanoseconds
      nh = nanoseconds f af x h p.whole.used

      nk : k.nanoseconds ≤ most_nanoseconds
      nk = nanoseconds b ab y k q.whole.used

      in_front : moment k ≤ moment h → (moment k ≡ moment h → first_bytes b y k.bytes ≡ first_bytes f x h.bytes)
          → Outcome f b (found_with (finding_of Front (fields_in f) (record_at x h)) (Ok (fields_in b)))
      in_front l e =
          finds (finding_of Front (fields_in f) (record_at x h)) (Ok (fields_in b))
          (find Front x h (Ok (fields_in b)) (λ u v. i) p (λ v m w. let n : moment m ≤ moment k = q.none-later v m w in omega arith)
          (λ t. absurd (front-back t))
          (λ t v m w d.
          let n : moment m ≤ moment k = q.none-later v m w in
          let g : moment k ≡ moment h = omega arith in
          one_record b ab v y m k w q.whole (d ∙ sym g) ∙ e g)
          (λ t. refl) (λ t. absurd (t ab)))

      in_back : moment h < moment k → Outcome f b (found_with (finding_of Back (fields_in b) (record_at y k)) (Ok (fields_in f)))
      in_back l =
          finds (finding_of Back (fields_in b) (record_at y k)) (Ok (fields_in f))
          (find Back y k (Ok (fields_in f)) (λ u v. i) q (λ v m w. let n : moment m ≤ moment h = p.none-later v m w in omega arith)
          (λ t v m w. let n : moment m ≤ moment h = p.none-later v m w in omega arith)
          (λ t. absurd (front-back (sym t))) (λ t. refl) (λ t. absurd (t af)))

      newest : Outcome f b (newest_of f b (fields_in f) (fields_in b) (record_at x h) (record_at y k))
      newest =
          go (same_time (time_of h) (time_of k)) refl (same (area_bytes f x h.bytes) (area_bytes b y k.bytes)) refl (later_than (time_of k) (time_of h)) refl
        where
          go : (t : Bool) → same_time (time_of h) (time_of k) ≡ t → (u : Bool) → same (area_bytes f x h.bytes) (area_bytes b y k.bytes) ≡ u
              → (l : Bool) → later_than (time_of k) (time_of h) ≡ l → Outcome f b (newest_of f b (fields_in f) (fields_in b) (record_at x h) (record_at y k))
          go true t true u l v = let e : moment h ≡ moment k = same-moment h k t in rw (t, u) (in_front (omega arith) (λ d. sym (same_bytes f b x h y k u)))
          go true t false u l v =
              rw (t, u)
              (two_records
              (record { identity = i; x = x; h = h; front = p; y = y; k = k; back = q; time = same-moment h k t; differ = λ e. true≢false (sym (bytes_same f b x h y k e) ∙ u) }))
          go false t u s true v = rw (t, v) (in_back (later_more h k nh nk v))
          go false t u s false v =
              rw (t, v) (in_front (not_later-less h k nh nk v) (λ d. absurd (true≢false (sym (moment-same h k nh nk (sym d)) ∙ t))))

    together : (p q : Option Present) → present f (fields_in f) ≡ p → present b (fields_in b) ≡ q → Outcome f b (together_of f b (fields_in f) (fields_in b) p q)
    together None None p q =
        no_record
        (record {
          size = z;
          accepted = (Front, af);
          identity = λ u v. i;
          none = by_side (λ (t : Side). (x : Area) (h : Holding) → ¬ WholeArea (copy_on t f b) x h) Front (nothing-whole f af p) (nothing-whole b ab q);
        })
    together None (Some r) p q =
        finds (finding_of Back (fields_in b) r) (Ok (fields_in f))
        (find Back r.area r.holding (Ok (fields_in f)) (λ u v. i) (present_record b ab r.area r.holding q) (λ v m w. absurd (nothing-whole f af p v m w))
        (λ t v m w. absurd (nothing-whole f af p v m w)) (λ t. absurd (front-back (sym t))) (λ t. refl) (λ t. absurd (t af)))
    together (Some r) None p q =
        finds (finding_of Front (fields_in f) r) (Ok (fields_in b))
        (find Front r.area r.holding (Ok (fields_in b)) (λ u v. i) (present_record f af r.area r.holding p) (λ v m w. absurd (nothing-whole b ab q v m w))
        (λ t. absurd (front-back t)) (λ t v m w. absurd (nothing-whole b ab q v m w)) (λ t. refl) (λ t. absurd (t ab)))
    together (Some r) (Some s) p q =
        newest r.area r.holding s.area s.holding (present_record f af r.area r.holding p) (present_record b ab s.area s.holding q)

  -- the reason of a copy that is not taken
  reason_is : (c : List ℕ) (e : Reason) → refusal_of e ≡ plain (refusal_of e).number → copy_reading c ≡ Err e → e ≡ reason (copy_number (copy_reading c))
  reason_is c e w p = reason-back-plain e (copy_number (copy_reading c)) (w ∙ ap plain (sym (ap copy_number p)))

  decided : (r s : Result CopyReading Reason) → View f r → View b s → copy_reading f ≡ r → copy_reading b ≡ s → Outcome f b (decide_of r s f b)
  decided r s (not_taken n d l u v w) (not_taken m e k x t y) p q =
      block_none
      (record {
        size = z;
        neither = by_side (λ (s : Side). ¬ Accepted (signature_block (copy_on s f b))) Front (λ a. d (record { size = z Front; block = a })) (λ a. e (record { size = z Back; block = a }));
      })
  decided r s (not_taken n d l u v w) (taken y) p q = alone Back y d n (reason_is f n w p) (present b (fields_in b)) refl
  decided r s (taken x) (not_taken m e k w t y) p q = alone Front x e m (reason_is b m y q) (present f (fields_in f)) refl
  decided r s (taken x) (taken y) p q = go (numbers f b && uuids f b) refl
    where
      go : (t : Bool) → numbers f b && uuids f b ≡ t
          → Outcome f b (cond t (together_of f b (fields_in f) (fields_in b) (present f (fields_in f)) (present b (fields_in b))) (Err (reason identity)))
      go true t = together (same-identity f b t) x y (present f (fields_in f)) (present b (fields_in b)) refl refl
      go false t =
          two_identities (record { accepted = by_side (λ (s : Side). AcceptedCopy (copy_on s f b)) Front x y; differ = λ i. true≢false (sym (identity-same f b i) ∙ t) })

outcome : (f b : List ℕ) → Outcome f b (discovery f b)
unfolding discovery
outcome f b = go (is_copy f) refl (is_copy b) refl
  where
    not_sized : (c : List ℕ) → is_copy c ≡ false → ¬ Sized c
    not_sized c e s = true≢false (sym (sized-copy c s) ∙ e)

    go : (s : Bool) → is_copy f ≡ s → (t : Bool) → is_copy b ≡ t → Outcome f b (cond (s && t) (decide_of (copy_reading f) (copy_reading b) f b) (Err (reason slice_size)))
    go true s true t =
        decided f b (by_side (λ (v : Side). Sized (copy_on v f b)) Front (copy-sized f s) (copy-sized b t)) (copy_reading f) (copy_reading b) (view f) (view b) refl refl
    go true s false t = wrong_size (Back, not_sized b t)
    go false s t u = wrong_size (Front, not_sized f s)

-- two answers that are one
refused-same : (e x : Reason) → ◌≡◌ {A = Result Found Reason} (Err e) (Err x) → e ≡ x
refused-same e x h = cc

another : {X : Type 0} (e x : Reason) → eqb (refusal_of e).number (refusal_of x).number ≡ false → ◌≡◌ {A = Result Found Reason} (Err e) (Err x) → X
another e x d h =
    absurd (eqb-false (refusal_of e).number (refusal_of x).number d (ap (λ (r : Reason). (refusal_of r).number) (refused-same e x h)))

ok_same : (p q : Found) → ◌≡◌ {A = Result Found Reason} (Ok p) (Ok q) → p ≡ q
ok_same p q e = cc

pub found-same : (r : Finding) (o : Result BlockFields Reason) (q : Finding) (p : Result BlockFields Reason) → found_with q p ≡ found_with r o → q ≡ r
found-same r o q p e = ap (λ (x : Found). x.finding) (ok_same _ _ e)

pub same_other : (q r : Finding) (o p : Result BlockFields Reason) → found_with q o ≡ found_with r p → o ≡ p
same_other q r o p e = ap (λ (x : Found). x.other) (ok_same _ _ e)

pub refused_found : (r : Finding) (o : Result BlockFields Reason) (e : Reason) → Err e ≡ found_with r o → ⊥
refused_found r o e h = let z : ◌≡◌ {A = ℕ} 0 1 = cc in omega arith

not_found : {X : Type 0} (q : Finding) (o : Result BlockFields Reason) (e : Reason) → Err e ≡ found_with q o → X
not_found q o e h = absurd (refused_found q o e h)

not_refused : {X : Type 0} (q : Finding) (o : Result BlockFields Reason) (e : Reason) → found_with q o ≡ Err e → X
not_refused q o e h = absurd (refused_found q o e (sym h))

-- No two of these are of one pair of slices.
module _ (f b : List ℕ) where
  pick : (P : Result Found Reason → Type 0) → (WrongSize f b → P (Err (reason 1))) → (NoBlock f b → P (Err (reason 10))) → (TwoIdentities f b → P (Err (reason 11)))
      → (NoRecord f b → P (Err (reason 12))) → (TwoRecords f b → P (Err (reason 13))) → ((q : Finding) (o : Result BlockFields Reason) → Finds f b q o → P (found_with q o)) → P (discovery f b)
  pick P p1 p10 p11 p12 p13 p0 = go (discovery f b) (outcome f b)
    where
      go : (a : Result Found Reason) → Outcome f b a → P a
      go a (wrong_size m) = p1 m
      go a (block_none m) = p10 m
      go a (two_identities m) = p11 m
      go a (no_record m) = p12 m
      go a (two_records m) = p13 m
      go a (finds q o m) = p0 q o m

  not_sized : {X : Type 0} → WrongSize f b → BothSized f b → X
  not_sized w z = absurd (w.1 (z w.0))

  not_accepted : {X : Type 0} → NoBlock f b → (s : Side) → AcceptedCopy (copy_on s f b) → X
  not_accepted m s a = absurd (m.neither s a.block)

  not_one : {X : Type 0} → TwoIdentities f b → OneIdentity f b → X
  not_one m i = absurd (m.differ (i (m.accepted Front) (m.accepted Back)))

  not_whole : {X : Type 0} → NoRecord f b → (s : Side) (x : Area) (h : Holding) → WholeArea (copy_on s f b) x h → X
  not_whole m s x h w = absurd (m.none s x h w)

  sizes_11 : TwoIdentities f b → BothSized f b
  sizes_11 m s = (m.accepted s).size

  sizes_13 : TwoRecords f b → BothSized f b
  sizes_13 m = by_side (λ (s : Side). Sized (copy_on s f b)) Front m.front.whole.accepted.size m.back.whole.accepted.size

  not_two : (q : Finding) (o : Result BlockFields Reason) → TwoRecords f b → Finds f b q o → ⊥
  not_two q o m n = go q.side refl
    where
      go : (s : Side) → q.side ≡ s → ⊥
      go Front e =
          let w : WholeArea f q.area n.h = subst (λ (s : Side). WholeArea (copy_on s f b) q.area n.h) e n.whole in
          let l : moment n.h ≤ moment m.h = m.front.none-later q.area n.h w in
          let k : moment m.k ≤ moment n.h = n.none-later Back m.y m.k m.back.whole in
          let t : moment m.h ≡ moment m.k = m.time in
          m.differ
          (one_record f w.accepted m.x q.area m.h n.h m.front.whole w (omega arith)
          ∙ sym (n.in_front e m.y m.k m.back.whole (omega arith)))
      go Back e =
          let w : WholeArea b q.area n.h = subst (λ (s : Side). WholeArea (copy_on s f b) q.area n.h) e n.whole in
          let l : moment n.h ≤ moment m.k = m.back.none-later q.area n.h w in
          let k : moment m.h < moment n.h = n.in_back e m.x m.h m.front.whole in
          let t : moment m.h ≡ moment m.k = m.time in
          omega arith

  -- what is found is one record
  abbrev findingAt : Side → Finding → Option Present → Finding
  findingAt s q None = q
  findingAt s q (Some p) = finding_of s (fields_in (copy_on s f b)) p

  pub finding_is : (q : Finding) (o : Result BlockFields Reason) (n : Finds f b q o) → q ≡ finding_of q.side (fields_in (copy_on q.side f b)) (record_at q.area n.h)
  finding_is q o n =
      λ i. record { side = q.side; area = q.area; bytes = n.bytes i; seconds = n.seconds i; nanoseconds = n.nanoseconds i; fields = n.fields i }

  one_finding : (q r : Finding) (o p : Result BlockFields Reason) → Finds f b q o → Finds f b r p → q ≡ r
  one_finding q r o p m n = go q.side refl r.side refl
    where
      at : (s : Side) (q : Finding) (o : Result BlockFields Reason) (m : Finds f b q o) → q.side ≡ s → WholeArea (copy_on s f b) q.area m.h
      at s q o m e = subst (λ (t : Side). WholeArea (copy_on t f b) q.area m.h) e m.whole

      is : (s : Side) (q : Finding) (o : Result BlockFields Reason) (m : Finds f b q o) → q.side ≡ s → q ≡ finding_of s (fields_in (copy_on s f b)) (record_at q.area m.h)
      is s q o m e = finding_is q o m ∙ ap (λ (t : Side). finding_of t (fields_in (copy_on t f b)) (record_at q.area m.h)) e

      one_side : (s : Side) → q.side ≡ s → r.side ≡ s → q ≡ r
      one_side s d e =
          let v : WholeArea (copy_on s f b) q.area m.h = at s q o m d in
          let w : WholeArea (copy_on s f b) r.area n.h = at s r p n e in
          let l : moment m.h ≤ moment n.h = n.none-later s q.area m.h v in
          let k : moment n.h ≤ moment m.h = m.none-later s r.area n.h w in
          is s q o m d
          ∙ (ap (findingAt s q) (one_entry (copy_on s f b) v.accepted q.area r.area m.h n.h v.used w.used (omega arith))
          ∙ sym (is s r p n e))

      two-sides : (q r : Finding) (o p : Result BlockFields Reason) (m : Finds f b q o) (n : Finds f b r p) → q.side ≡ Front → r.side ≡ Back → ⊥
      two-sides q r o p m n d e =
          let l : moment m.h < moment n.h = n.in_back e q.area m.h (at Front q o m d) in
          let k : moment n.h ≤ moment m.h = m.none-later Back r.area n.h (at Back r p n e) in
          omega arith

      go : (s : Side) → q.side ≡ s → (t : Side) → r.side ≡ t → q ≡ r
      go Front d Front e = one_side Front d e
      go Front d Back e = absurd (two-sides q r o p m n d e)
      go Back d Front e = absurd (two-sides r q p o n m e d)
      go Back d Back e = one_side Back d e

  one_other : (q : Finding) (o p : Result BlockFields Reason) → Finds f b q o → Finds f b q p → o ≡ p
  one_other q o p m n = go (copy_reading (copy_on (other_side q.side) f b)) (view (copy_on (other_side q.side) f b))
    where
      go : (r : Result CopyReading Reason) → View (copy_on (other_side q.side) f b) r → o ≡ p
      go r (not_taken i d l u v w) = m.one d ∙ sym (n.one d)
      go r (taken a) = m.both a ∙ sym (n.both a)

  one_found : (q r : Finding) (o p : Result BlockFields Reason) → Finds f b q o → Finds f b r p → found_with q o ≡ found_with r p
  one_found q r o p m n =
      let e : q ≡ r = one_finding q r o p m n in
      ap₂ (λ (s : Finding) (t : Result BlockFields Reason). found_with s t) e (one_other r o p (subst (λ (s : Finding). Finds f b s o) e m) n)

  -- what each is gives its answer
  size_back : WrongSize f b → discovery f b ≡ Err (reason 1)
  size_back m =
      pick (λ (a : Result Found Reason). a ≡ Err (reason 1)) (λ n. refl) (λ n. not_sized m n.size) (λ n. not_sized m (sizes_11 n)) (λ n. not_sized m n.size)
      (λ n. not_sized m (sizes_13 n)) (λ q o n. not_sized m n.size)

  no_block-back : NoBlock f b → discovery f b ≡ Err (reason 10)
  no_block-back m =
      pick (λ (a : Result Found Reason). a ≡ Err (reason 10)) (λ n. not_sized n m.size) (λ n. refl) (λ n. not_accepted m Front (n.accepted Front))
      (λ n. not_accepted m n.accepted.0 n.accepted.1) (λ n. not_accepted m Front n.front.whole.accepted)
      (λ q o n. not_accepted m q.side n.whole.accepted)

  identity-back : TwoIdentities f b → discovery f b ≡ Err (reason 11)
  identity-back m =
      pick (λ (a : Result Found Reason). a ≡ Err (reason 11)) (λ n. not_sized n (sizes_11 m)) (λ n. not_accepted n Front (m.accepted Front)) (λ n. refl)
      (λ n. not_one m n.identity) (λ n. not_one m (λ x y. n.identity)) (λ q o n. not_one m n.identity)

  no_record-back : NoRecord f b → discovery f b ≡ Err (reason 12)
  no_record-back m =
      pick (λ (a : Result Found Reason). a ≡ Err (reason 12)) (λ n. not_sized n m.size) (λ n. not_accepted n m.accepted.0 m.accepted.1) (λ n. not_one n m.identity)
      (λ n. refl) (λ n. not_whole m Front n.x n.h n.front.whole) (λ q o n. not_whole m q.side q.area n.h n.whole)

  two_records-back : TwoRecords f b → discovery f b ≡ Err (reason 13)
  two_records-back m =
      pick (λ (a : Result Found Reason). a ≡ Err (reason 13)) (λ n. not_sized n (sizes_13 m)) (λ n. not_accepted n Front m.front.whole.accepted) (λ n. not_one n (λ x y. m.identity))
      (λ n. not_whole n Front m.x m.h m.front.whole) (λ n. refl) (λ q o n. absurd (not_two q o m n))

  found_back : (q : Finding) (o : Result BlockFields Reason) → Finds f b q o → discovery f b ≡ found_with q o
  found_back q o m =
      pick (λ (a : Result Found Reason). a ≡ found_with q o) (λ n. not_sized n m.size) (λ n. not_accepted n q.side m.whole.accepted) (λ n. not_one n m.identity)
      (λ n. not_whole n q.side q.area m.h m.whole) (λ n. absurd (not_two q o n m)) (λ r p n. one_found r q p o n m)

  -- and each answer is given for that alone
  size-on : discovery f b ≡ Err (reason 1) → WrongSize f b
  size-on =
      pick (λ (a : Result Found Reason). a ≡ Err (reason 1) → WrongSize f b) (λ m e. m) (λ m. another (reason 10) (reason 1) refl) (λ m. another (reason 11) (reason 1) refl) (λ m. another (reason 12) (reason 1) refl)
      (λ m. another (reason 13) (reason 1) refl) (λ q o m. not_refused q o (reason 1))

  no_block-on : discovery f b ≡ Err (reason 10) → NoBlock f b
  no_block-on =
      pick (λ (a : Result Found Reason). a ≡ Err (reason 10) → NoBlock f b) (λ m. another (reason 1) (reason 10) refl) (λ m e. m) (λ m. another (reason 11) (reason 10) refl) (λ m. another (reason 12) (reason 10) refl)
      (λ m. another (reason 13) (reason 10) refl) (λ q o m. not_refused q o (reason 10))

  identity-on : discovery f b ≡ Err (reason 11) → TwoIdentities f b
  identity-on =
      pick (λ (a : Result Found Reason). a ≡ Err (reason 11) → TwoIdentities f b) (λ m. another (reason 1) (reason 11) refl) (λ m. another (reason 10) (reason 11) refl) (λ m e. m) (λ m. another (reason 12) (reason 11) refl)
      (λ m. another (reason 13) (reason 11) refl) (λ q o m. not_refused q o (reason 11))

  no_record-on : discovery f b ≡ Err (reason 12) → NoRecord f b
  no_record-on =
      pick (λ (a : Result Found Reason). a ≡ Err (reason 12) → NoRecord f b) (λ m. another (reason 1) (reason 12) refl) (λ m. another (reason 10) (reason 12) refl) (λ m. another (reason 11) (reason 12) refl) (λ m e. m)
      (λ m. another (reason 13) (reason 12) refl) (λ q o m. not_refused q o (reason 12))

  two_records-on : discovery f b ≡ Err (reason 13) → TwoRecords f b
  two_records-on =
      pick (λ (a : Result Found Reason). a ≡ Err (reason 13) → TwoRecords f b) (λ m. another (reason 1) (reason 13) refl) (λ m. another (reason 10) (reason 13) refl) (λ m. another (reason 11) (reason 13) refl)
      (λ m. another (reason 12) (reason 13) refl) (λ m e. m) (λ q o m. not_refused q o (reason 13))

  found-on : (q : Finding) (o : Result BlockFields Reason) → discovery f b ≡ found_with q o → Finds f b q o
  found-on q o =
      pick (λ (a : Result Found Reason). a ≡ found_with q o → Finds f b q o) (λ m. not_found q o (reason 1)) (λ m. not_found q o (reason 10)) (λ m. not_found q o (reason 11)) (λ m. not_found q o (reason 12))
      (λ m. not_found q o (reason 13)) (λ r p m e. subst₂ (Finds f b) (found-same q o r p e) (same_other r q p o e) m)

  no_other : (e : Reason) → discovery f b ≡ Err e → (e ≡ reason 1) ⊎ ((e ≡ reason 10) ⊎ ((e ≡ reason 11) ⊎ ((e ≡ reason 12) ⊎ (e ≡ reason 13))))
  no_other e =
      pick (λ (a : Result Found Reason). a ≡ Err e → (e ≡ reason 1) ⊎ ((e ≡ reason 10) ⊎ ((e ≡ reason 11) ⊎ ((e ≡ reason 12) ⊎ (e ≡ reason 13)))))
      (λ m h. inl (refused-same e (reason 1) (sym h))) (λ m h. inr (inl (refused-same e (reason 10) (sym h))))
      (λ m h. inr (inr (inl (refused-same e (reason 11) (sym h))))) (λ m h. inr (inr (inr (inl (refused-same e (reason 12) (sym h))))))
      (λ m h. inr (inr (inr (inr (refused-same e (reason 13) (sym h)))))) (λ q o m. not_refused q o e)

pub exactly : Exactly
exactly f b =
    record {
      size = (size-on f b, size_back f b);
      block_none = (no_block-on f b, no_block-back f b);
      identity = (identity-on f b, identity-back f b);
      no_record = (no_record-on f b, no_record-back f b);
      two_records = (two_records-on f b, two_records-back f b);
      found = λ q o. (found-on f b q o, found_back f b q o);
      no_other = no_other f b;
    }
