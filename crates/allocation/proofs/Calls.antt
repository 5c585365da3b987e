-- What the calls answer, a return at a time.
use Rattle.std.proofs.Common.{◌≡◌, ℕ, suc, ◌+◌, ◌-◌, ◌≤◌, ◌<◌, Bool, true, false, List, ◌++◌, [], ◌∷◌, length, drop, cond, leb, sym, refl, ap, ◌∙◌, add-one, arith, drop_of_length-le, drop-cons, le-leb, lt-ltb, le-ltb}
use Rattle.std.specs.Prelude.{Ok, Err, Option, Some, None, find}
use Rattle.std.specs.Option.{ok_or}
use borrow.Author.Tests.{lt-leb}
use Rattle.refusal.specs.Numbers.{slice_size}
use Rattle.refusal.specs.Refusals.{plain_but}
use Rattle.refusal.specs.declared.Reason.{Reason}
use Rattle.refusal.specs.Tests.{Test, ◌else_refuse◌, first}
use Rattle.refusal.proofs.Order.{first-zero, first-after}
use Rattle.refusal.proofs.Reasons.{ok_zero, err_other, err_on, told_zero}
use Rattle.layout.specs.declared.Device.{Device}
use Rattle.layout.specs.Places.{data_start, data_end}
use Rattle.segments.specs.declared.Segment.{Segment}
use Rattle.segments.specs.declared.Range.{Range}
use Rattle.segments.specs.Segments.{none, nth}
use Rattle.segments.specs.Sectors.{allocated, free_sectors}
use Rattle.segments.proofs.Sectors.{counted, allocated-none, allocated_more}
use Rattle.items.specs.declared.Head.{Head}
use Rattle.runs.specs.declared.Run.{Run}
use Rattle.runs.specs.Runs.{fit_of, fitting}
use Rattle.items.specs.Head.{head_of, data_range, range_for, allows, item_bytes, most_segments}
use Rattle.items.specs.Items.{segments}
use Rattle.order.specs.Ordering.{positions}
use Rattle.order.proofs.Ordering.{positions-taken}
use Rattle.record.specs.Accept.{record_tests, named, answered, checked}
use Rattle.record.proofs.Testing.{record_ascending, more_no}
use Rattle.record.proofs.Accepted.{Accepted, accepted, ends, laid}
use Rattle.allocation.specs.Walking.{walked, meant, fit_in}
use Rattle.allocation.specs.Answers.{runs_in, fit_tests, table_tests}
use Rattle.allocation.specs.Change.{runs_for, own_tests}
use Rattle.allocation.proofs.Walking.{fit_found}
use Rattle.allocation.proofs.Finding.{runs-walked, for_any}

-- a record that is refused, before any other test
pub refused_on : {A B : Type 0} (d : Device) (s : List ℕ) (us : List Test) (v : A) (w : B) (e : Reason)
    → answered (first (record_tests d s)) s v ≡ Err e → Err e ≡ answered (first (record_tests d s ++ us)) s w
refused_on d s us v w e h =
    let n : ℕ = first (record_tests d s) in
    sym (err_on n (named n s) v w e h) ∙ ap (λ (k : ℕ). answered k s w) (more_no d s us n refl (err_other n (named n s) v e h))

-- one that is accepted: the tests that follow decide
pub after_record : (d : Device) (s : List ℕ) (us : List Test) → first (record_tests d s) ≡ 0 → first (record_tests d s ++ us) ≡ first us
after_record d s us z = first-after (record_tests d s) us (first-zero 0 (record_tests d s) (record_ascending d s) z)

pub accepted_on : {A : Type 0} (d : Device) (s : List ℕ) (us : List Test) (v w : A)
    → answered (first (record_tests d s)) s v ≡ Ok w → (first (record_tests d s) ≡ 0) × (first (record_tests d s ++ us) ≡ first us)
accepted_on d s us v w h =
    let z : first (record_tests d s) ≡ 0 = ok_zero (first (record_tests d s)) (named (first (record_tests d s)) s) v w h in
    (z, after_record d s us z)

-- the same of a check with an order, whose positions p give the free runs as the gaps between the segments
pub ordered_refused : {B : Type 0} (d : Device) (s : List ℕ) (us : List Test) (w : B) (e : Reason)
    → checked (first (record_tests d s)) s ≡ Err e → Err e ≡ answered (first (record_tests d s ++ us)) s w
unfolding checked
ordered_refused d s us w e h = refused_on d s us (positions (segments s)) w e h

pub record Ordered (d : Device) (s p : List ℕ) (us : List Test) : Type 0 where
  pub zero : first (record_tests d s) ≡ 0
  pub after : first (record_tests d s ++ us) ≡ first us
  pub runs : walked (data_range d) (segments s) (meant s p) ≡ runs_in d s

pub ordered_on : (d : Device) (s p : List ℕ) (us : List Test) → checked (first (record_tests d s)) s ≡ Ok p → Ordered d s p us
unfolding checked
ordered_on d s p us h =
    let a : (first (record_tests d s) ≡ 0) × (first (record_tests d s ++ us) ≡ first us) = accepted_on d s us (positions (segments s)) p h in
    let o : Ok (positions (segments s)) ≡ Ok p = sym (told_zero (first (record_tests d s)) (named (first (record_tests d s)) s) (positions (segments s)) a.0) ∙ h in
    let e : positions (segments s) ≡ p = cc in
    record {
      zero = a.0;
      after = a.1;
      runs = ap (walked (data_range d) (segments s)) (ap (meant s) (sym e) ∙ positions-taken (segments s)) ∙ sym (runs-walked d s (accepted d s a.0));
    }

-- free sectors: what the segments leave of the data range
pub total_left : (d : Device) (s : List ℕ) → first (record_tests d s) ≡ 0
    → (data_end d - data_start d - allocated (segments s) ≡ free_sectors (data_range d) (segments s))
    × ((allocated (segments s) ≤ data_end d - data_start d) × (data_start d ≤ data_end d))
total_left d s z =
    let a : Accepted d s = accepted d s z in
    let e : (data_start d < data_end d) × (data_end d + data_start d ≡ d.sectors) = ends d a.size a.metadata a.reserved in
    let c : allocated (segments s) + free_sectors (data_range d) (segments s) ≡ data_end d - data_start d = counted (data_range d) (segments s) (laid d s a) (omega arith) in
    (omega arith, (omega arith, omega arith))

-- the range of an allocation
pub range_is : (d : Device) (s : List ℕ) (h : Head) (r : Range) (k : ℕ) → first (record_tests d s) ≡ 0 → h ≡ head_of s → r ≡ range_for d h k → r ≡ data_range d
range_is d s h r k z e f = f ∙ (ap (λ (v : Head). range_for d v k) e ∙ for_any d s (accepted d s z) k)

-- the sum of the segments' lengths from position i on
pub allocated-drop : (gs : List Segment) (i : ℕ) → i < length gs → allocated (drop i gs) ≡ (nth gs i).sectors + allocated (drop (i + 1) gs)
allocated-drop gs i l = ap allocated (drop-cons gs i none l) ∙ (allocated_more (nth gs i) (drop (suc i) gs) ∙ ap (λ (k : ℕ). (nth gs i).sectors + allocated (drop k gs)) (sym (add-one i)))

pub allocated-end : (gs : List Segment) (i : ℕ) → length gs ≤ i → allocated (drop i gs) ≡ 0
allocated-end gs i l = ap allocated (drop_of_length-le gs {i = i} l) ∙ allocated-none

-- A search for m sectors in runs, after a record that is accepted.
module _ (d : Device) (s : List ℕ) (rs : List Run) (m : ℕ) (after : first (record_tests d s ++ fit_tests rs m) ≡ first (fit_tests rs m)) where
  pub fit-zero : m < 1 → first (record_tests d s ++ fit_tests rs m) ≡ 18
  unfolding first
  fit-zero l = rw (after, lt-leb 1 m l)

  pub fit_none : 1 ≤ m → fitting m rs ≡ false → first (record_tests d s ++ fit_tests rs m) ≡ 20
  unfolding first
  fit_none o f = rw (after, le-leb 1 m o, f)

  pub fit-some : 1 ≤ m → fitting m rs ≡ true → first (record_tests d s ++ fit_tests rs m) ≡ 0
  unfolding first
  fit-some o f = rw (after, le-leb 1 m o, f)

  pub fit_answered : 1 ≤ m → (r : Option Run) → r ≡ fit_in m rs → ok_or r Reason.NoRoom ≡ answered (first (record_tests d s ++ fit_tests rs m)) s (fit_of m rs)
  unfolding named plain_but
  fit_answered o r e = go (fitting m rs) refl
    where
      go : (b : Bool) → fitting m rs ≡ b → ok_or r Reason.NoRoom ≡ answered (first (record_tests d s ++ fit_tests rs m)) s (fit_of m rs)
      go true f =
          let q : r ≡ Some (fit_of m rs) = e ∙ ap (λ (b : Bool). cond b (Some (fit_of m rs)) None) f in
          rw (q, fit-some o f)
      go false f =
          let q : r ≡ None = e ∙ ap (λ (b : Bool). cond b (Some (fit_of m rs)) None) f in
          rw (q, fit_none o f)

-- a table with room for w runs, after a record that is accepted
module _ (d : Device) (s : List ℕ) (w : ℕ) (z : first (record_tests d s) ≡ 0) where
  abbrev room : List Test
  room = (leb (length (runs_in d s)) w else_refuse slice_size) ∷ []

  pub table-short : w < length (runs_in d s) → first (table_tests d s w) ≡ 1
  unfolding first
  table-short l = rw (after_record d s room z, lt-leb (length (runs_in d s)) w l)

  pub table_room : length (runs_in d s) ≤ w → first (table_tests d s w) ≡ 0
  unfolding first
  table_room l = rw (after_record d s room z, le-leb (length (runs_in d s)) w l)

-- An allocation's own tests, as far as each return of the code has come.
module _ (d : Device) (s : List ℕ) (k m w : ℕ) where
  pub own_kind : allows (head_of s) k ≡ false → first (own_tests d s k m w) ≡ 17
  unfolding first
  own_kind a = rw a

  module _ (a : allows (head_of s) k ≡ true) where
    pub own-zero : m < 1 → first (own_tests d s k m w) ≡ 18
    unfolding first
    own-zero l = rw (a, lt-leb 1 m l)

    module _ (o : 1 ≤ m) where
      pub own-full : most_segments (head_of s) ≤ length (segments s) → first (own_tests d s k m w) ≡ 21
      unfolding first
      own-full l = rw (a, le-leb 1 m o, le-ltb (length (segments s)) (most_segments (head_of s)) l)

      module _ (few : length (segments s) < most_segments (head_of s)) where
        pub own-none : fitting m (runs_for d s k) ≡ false → first (own_tests d s k m w) ≡ 20
        unfolding first
        own-none f = rw (a, le-leb 1 m o, lt-ltb (length (segments s)) (most_segments (head_of s)) few, f)

        pub own-short : fitting m (runs_for d s k) ≡ true → w < length s + item_bytes → first (own_tests d s k m w) ≡ 1
        unfolding first
        own-short f l = rw (a, le-leb 1 m o, lt-ltb (length (segments s)) (most_segments (head_of s)) few, f, lt-leb (length s + item_bytes) w l)

        pub own-yes : fitting m (runs_for d s k) ≡ true → length s + item_bytes ≤ w → first (own_tests d s k m w) ≡ 0
        unfolding first
        own-yes f l = rw (a, le-leb 1 m o, lt-ltb (length (segments s)) (most_segments (head_of s)) few, f, le-leb (length s + item_bytes) w l)

-- a search that found a run, and one that found none
pub fit_some : (m : ℕ) (rs : List Run) (r : Run) → Some r ≡ fit_in m rs → (fitting m rs ≡ true) × (r ≡ fit_of m rs)
fit_some m rs r e = go (fitting m rs) refl
  where
    go : (b : Bool) → fitting m rs ≡ b → (fitting m rs ≡ true) × (r ≡ fit_of m rs)
    go true f =
        let q : Some r ≡ Some (fit_of m rs) = e ∙ ap (λ (b : Bool). cond b (Some (fit_of m rs)) None) f in
        (f, (let k : r ≡ fit_of m rs = cc in k))
    go false f =
        let q : Some r ≡ None = e ∙ ap (λ (b : Bool). cond b (Some (fit_of m rs)) None) f in
        let z : ◌≡◌ {A = ℕ} 0 1 = cc in
        absurd (omega arith)

pub fit_not : (m : ℕ) (rs : List Run) → None ≡ fit_in m rs → fitting m rs ≡ false
fit_not m rs e = go (fitting m rs) refl
  where
    go : (b : Bool) → fitting m rs ≡ b → fitting m rs ≡ false
    go false f = f
    go true f =
        let q : None ≡ Some (fit_of m rs) = e ∙ ap (λ (b : Bool). cond b (Some (fit_of m rs)) None) f in
        let z : ◌≡◌ {A = ℕ} 0 1 = cc in
        absurd (omega arith)

-- the gaps that were found are the free runs, and what is answered of them
pub free_is : (d : Device) (s p : List ℕ) (r : Range) (xs : List Run) → checked (first (record_tests d s)) s ≡ Ok p → r ≡ data_range d
    → xs ≡ walked r (segments s) (meant s p) → (first (record_tests d s) ≡ 0) × (xs ≡ runs_in d s)
free_is d s p r xs h k e =
    let o : Ordered d s p [] = ordered_on d s p [] h in
    (o.zero, e ∙ (ap (λ (q : Range). walked q (segments s) (meant s p)) k ∙ o.runs))

pub free_value : {A : Type 0} (d : Device) (s p : List ℕ) (r : Range) (xs : List Run) (f : List Run → A) (v : A) → checked (first (record_tests d s)) s ≡ Ok p
    → r ≡ data_range d → xs ≡ walked r (segments s) (meant s p) → v ≡ f xs → Ok v ≡ answered (first (record_tests d s)) s (f (runs_in d s))
free_value d s p r xs f v h k e g =
    let q : (first (record_tests d s) ≡ 0) × (xs ≡ runs_in d s) = free_is d s p r xs h k e in
    ap Ok (g ∙ ap f q.1) ∙ sym (told_zero (first (record_tests d s)) (named (first (record_tests d s)) s) (f (runs_in d s)) q.0)

-- the gap that was found in the free runs, whatever range they were looked for in
pub fit_is : (d : Device) (s p : List ℕ) (us : List Test) (r : Range) (xs : List Run) (m : ℕ) (f : Option Run) → Ordered d s p us → r ≡ data_range d
    → xs ≡ walked r (segments s) (meant s p) → 1 ≤ m → f ≡ find (λ v. leb m v.sectors) xs → f ≡ fit_in m (runs_in d s)
fit_is d s p us r xs m f o k e l g =
    g
    ∙ (ap (find (λ v. leb m v.sectors)) (e ∙ (ap (λ (q : Range). walked q (segments s) (meant s p)) k ∙ o.runs))
    ∙ fit_found m (runs_in d s) l)
