-- Free runs, allocation and release by meaning, proved: the names of specs/Demand.antt.
use Prim.Native.Nat.{ℕ, suc, ◌+◌, ◌-◌, ◌*◌, ◌/◌, ◌^◌, ◌≤◌, ◌<◌}
use mathlib.Core.Path.{◌≡◌, refl, sym, ap, ◌∙◌, subst}
use mathlib.Core.Bool.{Bool, true, false, cond, not, ◌&&◌, ◌||◌, and-true}
use mathlib.Core.List.{List, [], ◌∷◌, ◌++◌}
use native.Mathlib.Decide.{dec_le, dec_lt}
use native.Mathlib.Nat.{le_refl}
use native.Mathlib.Omega.{arith}
use borrow.Author.Tests.{le-leb, lt-ltb, ne_eqb}
use lib.Dec.{eqb, leb, lit<}
use lib.ListN.{length, take, drop, get_or-append}
use lib.Seq.{take_at, drop_at, split_at}
use Rattle.endian.specs.Bytes.{splice, Bytes}
use Rattle.endian.proofs.Parts.{splice-fits}
use Rattle.std.specs.Prelude.{Ok, Err}
use Rattle.refusal.specs.Numbers.{slice_size}
use Rattle.refusal.specs.Refusals.{plain_but}
use Rattle.refusal.specs.Reasons.{reason_of}
use Rattle.refusal.specs.Tests.{Test, ◌else_refuse◌, first}
use Rattle.refusal.proofs.Reasons.{told_zero, told_other}
use Rattle.refusal.proofs.Order.{first-zero, first-after, first_all, first_below}
use Rattle.layout.specs.declared.Device.{Device}
use Rattle.layout.specs.Limits.{record_limit}
use Rattle.layout.specs.Places.{data_start, data_end}
use Rattle.search.specs.Search.{one}
use Rattle.search.proofs.Search.{and_false-right, both, not_true-false}
use Rattle.segments.specs.declared.Segment.{Segment}
use Rattle.segments.specs.declared.Range.{Range}
use Rattle.segments.specs.Segments.{none, nth, end_of, holds, InRange}
use Rattle.segments.specs.Order.{picked_at, Placed}
use Rattle.segments.specs.Sectors.{held_by, is_free, free_sectors}
use Rattle.segments.proofs.Segments.{holds_in, holds_low, holds_high}
use Rattle.segments.proofs.Sectors.{Laid, held_none, held_more, held-append, held_not, held_once, free_low, free_high, free-held, is_free_lem, held_not_free, free-same}
use Rattle.runs.specs.declared.Run.{Run}
use Rattle.runs.specs.Runs.{no_run, runs_of, run_at, fit_of, fitting}
use Rattle.runs.specs.Gaps.{gaps}
use Rattle.runs.specs.Demand.{FreeRun, InRun, LowestFit}
use Rattle.runs.proofs.Fit.{none-fits}
use Rattle.runs.proofs.Demand.{longest, every-run, ascending, all_free, fit}
use Rattle.items.specs.Head.{head_of, head_size, data_range, range_for, item_bytes, most_segments}
use Rattle.items.specs.Items.{segments}
use Rattle.items.specs.Making.{record_of, appended, removed, unless}
use Rattle.items.proofs.Heads.{most_room, room_most}
use Rattle.items.proofs.Items.{formed}
use Rattle.items.proofs.Making.{length_record, length-appended, appended_is, removed_is}
use Rattle.record.specs.Accept.{record_tests, named, answered, checked}
use Rattle.record.specs.Answers.{position_tests}
use Rattle.record.specs.Demand.{Right}
use Rattle.record.proofs.Testing.{record_ascending, more_no}
use Rattle.record.proofs.Naming.{refusal_named}
use Rattle.record.proofs.Accepted.{Accepted, accepted, laid}
use Rattle.record.proofs.Demand.{ordered_all}
use Rattle.record.proofs.Right.{read_head, read_segments, accepted_made, accepted-right}
use Rattle.record.proofs.Change.{right-append, right_remove, less}
use Rattle.allocation.specs.declared.Allocation.{Allocation}
use Rattle.allocation.specs.Tables.{numbers_of}
use Rattle.allocation.specs.Answers.{runs_in, fit_tests, table_tests, table_left, numbers_left}
use Rattle.allocation.specs.Change.{runs_for, own_tests, allocate_tests, allocation, allocate_left, given, room_tests, release_tests, release_left}
use Rattle.allocation.specs.Demand.{free_in, free_for, Runs, Fitting, Tables, Grantable, Granted, Allocated, Allocates, Freeable, Freed, Releases, RecordFirst, Owned, Refusing, Numbered, Valued}
use Rattle.allocation.proofs.Finding.{for_any}
use Rattle.allocation.proofs.Allowed.{Allowed, allowed, Releasable, releasable}
use Rattle.allocation.proofs.Leaving.{release-past, release-short, release-passed}
use Rattle.allocation.proofs.Tables.{numbers-length, numbers-at}
use Rattle.allocation.proofs.Calls.{after_record, ordered_on, fit-zero, fit_none, fit-some, table-short, table_room, own_kind, own-zero, own-full, own-none, own-short}

-- with the order that an accepted record has
between_runs : (d : Device) (s : List ℕ)
    → (p : List ℕ) × ((checked (first (record_tests d s)) s ≡ Ok p) × Placed (segments s) (take (length (segments s)) p))
    → (p : List ℕ) × ((checked (first (record_tests d s)) s ≡ Ok p)
    × (runs_in d s ≡ gaps (data_start d) (data_end d) (picked_at (segments s) (take (length (segments s)) p))))
between_runs d s (p, (e, _)) = (p, (e, sym (ordered_on d s p [] e).runs))

pub runs : Runs
runs d s h =
    record {
      longest = longest (free_in d s) (data_end d);
      ascending = ascending (free_in d s) (data_end d);
      every = every-run (free_in d s) (data_end d);
      all = λ x f. all_free (free_in d s) (data_end d) x (free_high (data_range d) (segments s) x f) f;
      between = between_runs d s (ordered_all d s h);
    }

-- REFUSED: the number, and what was lent as it was
refused_at : {A : Type 0} (s : List ℕ) (v : A) (t n : ℕ) → t ≡ n → 0 < n → answered t s v ≡ Err (reason_of (named n s))
refused_at s v t n e l = ap (λ (k : ℕ). answered k s v) e ∙ told_other n (named n s) v (λ z. omega arith)

kept_at : {A : Type 0} (made out : A) (t n : ℕ) → t ≡ n → 0 < n → cond (eqb t 0) made out ≡ out
kept_at made out t n e l = ap (λ (k : ℕ). cond (eqb k 0) made out) e ∙ ap (λ (b : Bool). cond b made out) (ne_eqb n 0 (λ z. omega arith))

given_at : {A : Type 0} (s : List ℕ) (v : A) (t : ℕ) → t ≡ 0 → answered t s v ≡ Ok v
given_at s v t z = told_zero t (named t s) v z

-- what an allocation answers that is not refused
abbrev placed : Device → List ℕ → ℕ → ℕ → Allocation
placed d s k m = record { start = (given d s k m).start; length = length s + item_bytes }

not_false-true : (b : Bool) → (b ≡ false → ⊥) → b ≡ true
not_false-true true h = refl
not_false-true false h = absurd (h refl)

pub fitting-run : Fitting
unfolding named plain_but
fitting-run d s m z = (
  λ l. ap (λ (n : ℕ). answered n s (fit_of m (runs_in d s))) (fit-zero d s (runs_in d s) m after l),
  (
    λ k o l h. (
      fit_of m (runs_in d s),
      (
        given_at s (fit_of m (runs_in d s)) (first (record_tests d s ++ fit_tests (runs_in d s) m)) (fit-some d s (runs_in d s) m after o (long k o l h)),
        (fit (free_in d s) (data_end d) m o).0 (long k o l h),
      ),
    ),
    λ o h. ap (λ (n : ℕ). answered n s (fit_of m (runs_in d s))) (fit_none d s (runs_in d s) m after o ((fit (free_in d s) (data_end d) m o).1.1 h)),
  ),
)
  where
    after : first (record_tests d s ++ fit_tests (runs_in d s) m) ≡ first (fit_tests (runs_in d s) m)
    after = after_record d s (fit_tests (runs_in d s) m) z

    long : (k : ℕ) → 1 ≤ m → k < length (runs_in d s) → m ≤ (run_at (runs_in d s) k).sectors → fitting m (runs_in d s) ≡ true
    long k o l h =
        not_false-true (fitting m (runs_in d s)) (λ e. let q : (run_at (runs_in d s) k).sectors < m = none-fits m (runs_in d s) e k l in absurd (omega arith))

-- THE TABLES
pub tables : Tables
unfolding named plain_but
tables d s z =
    record {
      table = λ t l.
          let o : first (table_tests d s (length t)) ≡ 0 = table_room d s (length t) z l in
          let e : table_left d s t ≡ runs_in d s ++ drop (length (runs_in d s)) t = rw o in
          record {
            answer = given_at s (length (runs_in d s)) (first (table_tests d s (length t))) o;
            each = λ k h. ap (λ (q : List Run). run_at q k) e ∙ get_or-append (runs_in d s) (drop (length (runs_in d s)) t) no_run k h;
            past = ap (λ (q : List Run). drop (length (runs_in d s)) q) e ∙ drop_at (runs_in d s) (drop (length (runs_in d s)) t) (length (runs_in d s)) refl;
          };
      table-small = λ t l.
          let o : first (table_tests d s (length t)) ≡ 1 = table-short d s (length t) z l in
          (ap (λ (n : ℕ). answered n s (length (runs_in d s))) o, rw o);
      numbers = λ t l.
          let o : first (table_tests d s (length t / 2)) ≡ 0 = table_room d s (length t / 2) z (let v : length (runs_in d s) ≤ length t / 2 = omega arith in v) in
          let e : numbers_left d s t ≡ numbers_of (runs_in d s) ++ drop (2 * length (runs_in d s)) t = rw o in
          record {
            answer = given_at s (length (runs_in d s)) (first (table_tests d s (length t / 2))) o;
            each = λ k h. ap (λ (q : List ℕ). take 2 (drop (2 * k) q)) e ∙ numbers-at (runs_in d s) k (drop (2 * length (runs_in d s)) t) h;
            past = ap (λ (q : List ℕ). drop (2 * length (runs_in d s)) q) e ∙ drop_at (numbers_of (runs_in d s)) (drop (2 * length (runs_in d s)) t) (2 * length (runs_in d s)) (numbers-length (runs_in d s));
          };
      numbers-small = λ t l.
          let o : first (table_tests d s (length t / 2)) ≡ 1 = table-short d s (length t / 2) z (let v : length t / 2 < length (runs_in d s) = omega arith in v) in
          (ap (λ (n : ℕ). answered n s (length (runs_in d s))) o, rw o);
    }

-- EXACTLY WHEN AN ALLOCATION IS NOT REFUSED
module _ (d : Device) (s : List ℕ) (k m w : ℕ) (z : first (record_tests d s) ≡ 0) where
  grant : first (allocate_tests d s k m w) ≡ 0 → Grantable d s k m w
  grant h =
      let p : Allowed d s k m w = allowed d s k m w h in
      let f : LowestFit (runs_for d s k) m (fit_of m (runs_for d s k)) = (fit (free_for d s k) (range_for d (head_of s) k).end m p.some).0 p.fits in
      record {
        kind = p.kind;
        some = p.some;
        more = most_room (head_of s) (length (segments s)) p.few;
        run = (fit_of m (runs_for d s k), (subst (FreeRun (free_for d s k) (range_for d (head_of s) k).end) f.same (longest (free_for d s k) (range_for d (head_of s) k).end f.at f.there), f.long));
        room = p.room;
      }

  fitted : 1 ≤ m → (r : Run) → FreeRun (free_for d s k) (range_for d (head_of s) k).end r → m ≤ r.sectors → fitting m (runs_for d s k) ≡ true
  fitted o r f l = go (fitting m (runs_for d s k)) refl
    where
      go : (b : Bool) → fitting m (runs_for d s k) ≡ b → fitting m (runs_for d s k) ≡ true
      go true e = e
      go false e =
          let u : (j : ℕ) × ((j < length (runs_for d s k)) × (run_at (runs_for d s k) j ≡ r)) = every-run (free_for d s k) (range_for d (head_of s) k).end r f in
          let n : (run_at (runs_for d s k) u.0).sectors < m = none-fits m (runs_for d s k) e u.0 u.1.0 in
          let q : (run_at (runs_for d s k) u.0).sectors ≡ r.sectors = ap (λ (v : Run). v.sectors) u.1.1 in
          absurd (omega arith)

  granting : Grantable d s k m w → first (allocate_tests d s k m w) ≡ 0
  granting g =
      first-after (record_tests d s) (own_tests d s k m w) (first-zero 0 (record_tests d s) (record_ascending d s) z)
      ∙ first_all (own_tests d s k m w) (
        g.kind,
        (
          le-leb 1 m g.some,
          (
            lt-ltb (length (segments s)) (most_segments (head_of s)) (room_most (head_of s) (length (segments s)) g.more),
            (fitted g.some g.run.0 g.run.1.0 g.run.1.1, (le-leb (length s + item_bytes) w g.room, tt)),
          ),
        ),
      )

pub granted : Granted
granted d s k m w z = (grant d s k m w z, granting d s k m w z)

-- EXACTLY WHEN A RELEASE IS NOT REFUSED
pub freeable : Freeable
freeable d s p w z = (forth, back)
  where
    forth : first (release_tests d s p w) ≡ 0 → (p < length (segments s)) × (length s - item_bytes ≤ w)
    forth h = let r : Releasable d s p w = releasable d s p w h in (r.there, r.room)

    back : (p < length (segments s)) × (length s - item_bytes ≤ w) → first (release_tests d s p w) ≡ 0
    back h = after_record d s (position_tests s p ++ room_tests s w) z ∙ release-passed s p w h.0 h.1

-- THE RECORD FIRST, THEN THE CALL'S OWN TESTS
pub record_first : RecordFirst
record_first d s k m w l =
    record {
      runs = refused_at s (length (runs_in d s)) (first (record_tests d s)) (first (record_tests d s)) refl l;
      run = refused_at s (run_at (runs_in d s) k) (first (record_tests d s)) (first (record_tests d s)) refl l;
      free = refused_at s (free_sectors (data_range d) (segments s)) (first (record_tests d s)) (first (record_tests d s)) refl l;
      fit = more (fit_tests (runs_in d s) m) (fit_of m (runs_in d s));
      table = more ((leb (length (runs_in d s)) w else_refuse slice_size) ∷ []) (length (runs_in d s));
      numbers = more ((leb (length (runs_in d s)) (w / 2) else_refuse slice_size) ∷ []) (length (runs_in d s));
      allocation = more (own_tests d s k m w) (placed d s k m);
      release = more (position_tests s k ++ room_tests s w) (length s - item_bytes);
    }
  where
    more : {A : Type 0} (us : List Test) (v : A) → answered (first (record_tests d s ++ us)) s v ≡ Err (reason_of (named (first (record_tests d s)) s))
    more us v = refused_at s v (first (record_tests d s ++ us)) (first (record_tests d s)) (sym (more_no d s us (first (record_tests d s)) refl (λ z. omega arith))) l

pub owned : Owned
owned d s k m p w z =
    record {
      kind = λ a. after_record d s (own_tests d s k m w) z ∙ own_kind d s k m w a;
      zero = λ a l. after_record d s (own_tests d s k m w) z ∙ own-zero d s k m w a l;
      full = λ a o l. after_record d s (own_tests d s k m w) z ∙ own-full d s k m w a o (not-few l);
      none = λ a o l h. after_record d s (own_tests d s k m w) z ∙ own-none d s k m w a o (room_most (head_of s) (length (segments s)) l) (unfit o h);
      short = λ v g l.
          after_record d s (own_tests d s k m w) z
          ∙ own-short d s k m w g.kind g.some (room_most (head_of s) (length (segments s)) g.more) (fitted d s k m w z g.some g.run.0 g.run.1.0 g.run.1.1) l;
      past = λ l. after_record d s (position_tests s p ++ room_tests s w) z ∙ release-past s p w l;
      small = λ l h. after_record d s (position_tests s p ++ room_tests s w) z ∙ release-short s p w l h;
    }
  where
    not-few : record_limit < head_size (head_of s) + item_bytes * (length (segments s) + 1) → most_segments (head_of s) ≤ length (segments s)
    not-few l =
        elim (dec_lt (length (segments s)) (most_segments (head_of s))) [
          | yes q ↦
              let r : head_size (head_of s) + item_bytes * (length (segments s) + 1) ≤ record_limit = most_room (head_of s) (length (segments s)) q in
              absurd (omega arith)
          | no q ↦ omega arith
        ]

    unfit : 1 ≤ m → ((r : Run) → FreeRun (free_for d s k) (range_for d (head_of s) k).end r → r.sectors < m) → fitting m (runs_for d s k) ≡ false
    unfit o h =
        not_true-false (fitting m (runs_for d s k)) (λ e.
        let f : LowestFit (runs_for d s k) m (fit_of m (runs_for d s k)) = (fit (free_for d s k) (range_for d (head_of s) k).end m o).0 e in
        let q : (fit_of m (runs_for d s k)).sectors < m = h (fit_of m (runs_for d s k)) (subst (FreeRun (free_for d s k) (range_for d (head_of s) k).end) f.same (longest (free_for d s k) (range_for d (head_of s) k).end f.at f.there)) in
        let u : m ≤ (fit_of m (runs_for d s k)).sectors = f.long in
        omega arith)

-- what was laid over the start of a buffer, and the bytes past it
laid_start : (out v : List ℕ) (n : ℕ) → length v ≡ n → n ≤ length out → take n (splice out 0 v) ≡ v
laid_start out v n e l = ap (take n) (splice-fits out 0 v (omega arith)) ∙ take_at v (drop (0 + length v) out) n e

laid_rest : (out v : List ℕ) (n : ℕ) → length v ≡ n → n ≤ length out → drop n (splice out 0 v) ≡ drop n out
laid_rest out v n e l =
    ap (drop n) (splice-fits out 0 v (omega arith))
    ∙ (drop_at v (drop (0 + length v) out) n e ∙ ap (λ (k : ℕ). drop k out) (let q : 0 + length v ≡ n = omega arith in q))

-- what a call leaves that is not refused
left_by : (n : ℕ) (made out : List ℕ) → n ≡ 0 → unless n made out ≡ made
left_by n made out e = rw e

-- a sector in a list with one segment more
free-append : (r : Range) (gs : List Segment) (g : Segment) (x : ℕ) → is_free r (gs ++ (g ∷ [])) x ≡ is_free r gs x && not (holds g x)
free-append r gs g x = go (holds g x) refl
  where
    sum : held_by (gs ++ (g ∷ [])) x ≡ held_by gs x + one (holds g x)
    sum =
        let a : held_by (gs ++ (g ∷ [])) x ≡ held_by gs x + held_by (g ∷ []) x = held-append gs (g ∷ []) x in
        let b : held_by (g ∷ []) x ≡ one (holds g x) + held_by [] x = held_more g [] x in
        let c : held_by [] x ≡ 0 = held_none x in
        omega arith

    go : (b : Bool) → holds g x ≡ b → is_free r (gs ++ (g ∷ [])) x ≡ is_free r gs x && not b
    go true e =
        let o : one (holds g x) ≡ 1 = ap one e in
        held_not_free r (gs ++ (g ∷ [])) x (let l : 1 ≤ held_by (gs ++ (g ∷ [])) x = omega (arith, sum) in l) ∙ sym (and_false-right (is_free r gs x) false refl)
    go false e =
        let o : one (holds g x) ≡ 0 = ap one e in
        free-same r (gs ++ (g ∷ [])) gs x (let l : held_by (gs ++ (g ∷ [])) x ≡ held_by gs x = omega (arith, sum) in l) ∙ sym (and-true (is_free r gs x))

or_yes : (b : Bool) → b || true ≡ true
or_yes true = refl
or_yes false = refl

-- and in a list with one less
free_remove : (r : Range) (gs : List Segment) (p x : ℕ) → Laid r gs → p < length gs
    → is_free r (take p gs ++ drop (suc p) gs) x ≡ is_free r gs x || holds (nth gs p) x
free_remove r gs p x w t = go (holds (nth gs p) x) refl
  where
    sum : held_by gs x ≡ held_by (take p gs ++ drop (suc p) gs) x + one (holds (nth gs p) x)
    sum =
        let a : held_by gs x ≡ held_by (take p gs ++ (nth gs p ∷ drop (suc p) gs)) x = ap (λ (z : List Segment). held_by z x) (split_at gs p none t) in
        let b : held_by (take p gs ++ (nth gs p ∷ drop (suc p) gs)) x ≡ held_by (take p gs) x + held_by (nth gs p ∷ drop (suc p) gs) x = held-append (take p gs) (nth gs p ∷ drop (suc p) gs) x in
        let c : held_by (nth gs p ∷ drop (suc p) gs) x ≡ one (holds (nth gs p) x) + held_by (drop (suc p) gs) x = held_more (nth gs p) (drop (suc p) gs) x in
        let e : held_by (take p gs ++ drop (suc p) gs) x ≡ held_by (take p gs) x + held_by (drop (suc p) gs) x = held-append (take p gs) (drop (suc p) gs) x in
        omega arith

    go : (b : Bool) → holds (nth gs p) x ≡ b → is_free r (take p gs ++ drop (suc p) gs) x ≡ is_free r gs x || b
    go true e =
        let o : one (holds (nth gs p) x) ≡ 1 = ap one e in
        let i : InRange r (nth gs p) = w.ranges p t in
        let low : (nth gs p).start ≤ x = holds_low (nth gs p) x e in
        let high : x < end_of (nth gs p) = holds_high (nth gs p) x e in
        let m : held_by gs x ≤ 1 = held_once gs w.disjoint x in
        let a : r.start ≤ (nth gs p).start = i.low in
        let b : end_of (nth gs p) ≤ r.end = i.high in
        is_free_lem r (take p gs ++ drop (suc p) gs) x (omega arith) (omega arith) (let l : held_by (take p gs ++ drop (suc p) gs) x ≡ 0 = omega (arith, sum) in l)
        ∙ sym (or_yes (is_free r gs x))
    go false e =
        let o : one (holds (nth gs p) x) ≡ 0 = ap one e in
        free-same r (take p gs ++ drop (suc p) gs) gs x (let l : held_by (take p gs ++ drop (suc p) gs) x ≡ held_by gs x = omega (arith, sum) in l)
        ∙ sym (or-false (is_free r gs x))
      where
        or-false : (b : Bool) → b || false ≡ b
        or-false true = refl
        or-false false = refl

-- ALLOCATION
module _ (d : Device) (s : List ℕ) (k m : ℕ) (out : List ℕ) (small : d.sectors < 2 ^ 64) (bytes : Bytes s) (h : first (allocate_tests d s k m (length out)) ≡ 0) where
  p : Allowed d s k m (length out)
  p = allowed d s k m (length out) h

  a : Accepted d s
  a = accepted d s p.zero

  g : Segment
  g = given d s k m

  lowest : LowestFit (runs_for d s k) m (fit_of m (runs_for d s k))
  lowest = (fit (free_for d s k) (range_for d (head_of s) k).end m p.some).0 p.fits

  the_run : FreeRun (free_for d s k) (range_for d (head_of s) k).end (fit_of m (runs_for d s k))
  the_run = subst (FreeRun (free_for d s k) (range_for d (head_of s) k).end) lowest.same (longest (free_for d s k) (range_for d (head_of s) k).end lowest.at lowest.there)

  free : (x : ℕ) → holds (given d s k m) x ≡ true → free_for d s k x ≡ true
  free x e =
      let low : (given d s k m).start ≤ x = holds_low (given d s k m) x e in
      let high : x < (given d s k m).start + m = holds_high (given d s k m) x e in
      let long : m ≤ (fit_of m (runs_for d s k)).sectors = lowest.long in
      the_run.free x (omega arith) (omega arith)

  right : Right d (head_of s) (segments s ++ (given d s k m ∷ []))
  right =
      right-append d (head_of s) (segments s) (given d s k m) (accepted-right d s p.zero) p.few p.kind range
      (λ i x l e f. both (holds (nth (segments s) i) x) e (held_not (segments s) x (free-held (range_for d (head_of s) k) (segments s) x (free x f)) i l))
    where
      range : InRange (range_for d (head_of s) k) (given d s k m)
      range =
          let long : m ≤ (fit_of m (runs_for d s k)).sectors = lowest.long in
          let o : 1 ≤ m = p.some in
          let in-run : (fit_of m (runs_for d s k)).start + (fit_of m (runs_for d s k)).sectors ≤ (range_for d (head_of s) k).end = the_run.inside in
          let f : free_for d s k (given d s k m).start ≡ true = free (given d s k m).start (holds_in (given d s k m) (given d s k m).start (omega arith) (omega arith)) in
          record { low = free_low (range_for d (head_of s) k) (segments s) (given d s k m).start f; some = o; high = omega arith }

  made : appended s (given d s k m) ≡ record_of (head_of s) (segments s ++ (given d s k m ∷ []))
  made = appended_is d s (given d s k m) bytes a.form

  leaves : allocate_left d s k m out ≡ splice out 0 (appended s (given d s k m))
  leaves = left_by (first (allocate_tests d s k m (length out))) (splice out 0 (appended s (given d s k m))) out h

  new : take (length s + item_bytes) (allocate_left d s k m out) ≡ record_of (head_of s) (segments s ++ (given d s k m ∷ []))
  new =
      ap (take (length s + item_bytes)) leaves
      ∙ (laid_start out (appended s (given d s k m)) (length s + item_bytes) (length-appended s (given d s k m)) p.room ∙ made)

  allocated_all : Allocated d s k m out
  allocated_all =
      record {
        answer = ap (λ (n : ℕ). allocation n s (given d s k m).start (length s + item_bytes)) h;
        lowest = lowest;
        starts = refl;
        free = free;
        new = new;
        past = ap (drop (length s + item_bytes)) leaves ∙ laid_rest out (appended s (given d s k m)) (length s + item_bytes) (length-appended s (given d s k m)) p.room;
        accepted = rw new (accepted_made d (head_of s) (segments s ++ (given d s k m ∷ [])) small right);
        head = rw new (read_head d (head_of s) (segments s ++ (given d s k m ∷ [])) small right);
        segments_are = rw new (read_segments d (head_of s) (segments s ++ (given d s k m ∷ [])) small right);
        elsewhere = λ x. rw new (ap (λ (z : List Segment). is_free (data_range d) z x) (read_segments d (head_of s) (segments s ++ (given d s k m ∷ [])) small right) ∙ free-append (data_range d) (segments s) (given d s k m) x);
      }

pub allocates : Allocates
allocates = allocated_all

-- RELEASE
module _ (d : Device) (s : List ℕ) (p : ℕ) (out : List ℕ) (small : d.sectors < 2 ^ 64) (bytes : Bytes s) (h : first (release_tests d s p (length out)) ≡ 0) where
  may : Releasable d s p (length out)
  may = releasable d s p (length out) h

  taken : Accepted d s
  taken = accepted d s may.zero

  abbrev others : List Segment
  others = take p (segments s) ++ drop (suc p) (segments s)

  still : Right d (head_of s) others
  still = right_remove d (head_of s) (segments s) p may.there (accepted-right d s may.zero)

  removed_made : removed s p ≡ record_of (head_of s) others
  removed_made = removed_is d s p bytes taken.form may.there

  size : length (removed s p) ≡ length s - item_bytes
  size =
      let n : length (record_of (head_of s) others) ≡ head_size (head_of s) + item_bytes * length others = length_record (head_of s) others in
      let f : length s ≡ head_size (head_of s) + item_bytes * length (segments s) = (formed d s taken.form).bytes in
      let l : length others + 1 ≡ length (segments s) = less d (head_of s) (segments s) p may.there in
      ap length removed_made ∙ (let q : length (record_of (head_of s) others) ≡ length s - 20 = omega arith in q)

  released_leaves : release_left d s p out ≡ splice out 0 (removed s p)
  released_leaves = left_by (first (release_tests d s p (length out))) (splice out 0 (removed s p)) out h

  rest : take (length s - item_bytes) (release_left d s p out) ≡ record_of (head_of s) others
  rest = ap (take (length s - item_bytes)) released_leaves ∙ (laid_start out (removed s p) (length s - item_bytes) size may.room ∙ removed_made)

  -- the room of the segment that was released
  abbrev gone : Segment
  gone = nth (segments s) p

  abbrev after : List ℕ
  after = record_of (head_of s) others

  after-zero : first (record_tests d after) ≡ 0
  after-zero = accepted_made d (head_of s) others small still

  -- its sectors are free, so that the run that its first sector is in has them all
  run_again : (r : Run) × (FreeRun (free_for d after gone.kind) (range_for d (head_of after) gone.kind).end r × (gone.sectors ≤ r.sectors))
  run_again = subst (λ (g : Range). (r : Run) × (FreeRun (is_free g (segments after)) g.end r × (gone.sectors ≤ r.sectors))) (sym (for_any d after (accepted d after after-zero) gone.kind))
      (subst (λ (gs : List Segment). (r : Run) × (FreeRun (is_free (data_range d) gs) (data_end d) r × (gone.sectors ≤ r.sectors))) (sym (read_segments d (head_of s) others small still)) found)
    where
      i : InRange (data_range d) gone
      i = (laid d s taken).ranges p may.there

      unheld : (x : ℕ) → gone.start ≤ x → x < end_of gone → is_free (data_range d) others x ≡ true
      unheld x l k = free_remove (data_range d) (segments s) p x (laid d s taken) may.there ∙ (ap (λ (b : Bool). is_free (data_range d) (segments s) x || b) (holds_in gone x l k) ∙ or_yes (is_free (data_range d) (segments s) x))

      found : (r : Run) × (FreeRun (is_free (data_range d) others) (data_end d) r × (gone.sectors ≤ r.sectors))
      found =
          let some : 1 ≤ gone.sectors = i.some in
          let high : end_of gone ≤ data_end d = i.high in
          let f : is_free (data_range d) others gone.start ≡ true = unheld gone.start (le_refl gone.start) (omega arith) in
          let u : InRun (runs_of (is_free (data_range d) others) (data_end d)) gone.start = all_free (is_free (data_range d) others) (data_end d) gone.start (omega arith) f in
          let r : Run = run_at (runs_of (is_free (data_range d) others) (data_end d)) u.at in
          let w : FreeRun (is_free (data_range d) others) (data_end d) r = longest (is_free (data_range d) others) (data_end d) u.at u.there in
          let low : r.start ≤ gone.start = u.low in
          let up : gone.start < r.start + r.sectors = u.high in
          elim (dec_le (end_of gone) (r.start + r.sectors)) [
            | yes l ↦ (r, (w, (let q : gone.sectors ≤ r.sectors = omega arith in q)))
            | no l ↦ absurd (both (is_free (data_range d) others (r.start + r.sectors)) (unheld (r.start + r.sectors) (omega arith) (omega arith)) (w.after (omega arith)))
          ]

  again : (w : ℕ) → length s ≤ w → first (allocate_tests d (take (length s - item_bytes) (release_left d s p out)) gone.kind gone.sectors w) ≡ 0
  again w l =
      rw rest
      (granting d after gone.kind gone.sectors w after-zero
      (record {
        kind = rw (read_head d (head_of s) others small still) ((accepted-right d s may.zero).each.kinds p may.there);
        some = ((laid d s taken).ranges p may.there).some;
        more = rw (read_head d (head_of s) others small still, read_segments d (head_of s) others small still) more_room;
        run = run_again;
        room = room-again;
      }))
    where
      fewer : length others + 1 ≡ length (segments s)
      fewer = less d (head_of s) (segments s) p may.there

      more_room : head_size (head_of s) + item_bytes * (length others + 1) ≤ record_limit
      more_room = rw fewer (accepted-right d s may.zero).each.bytes

      room-again : length after + item_bytes ≤ w
      room-again =
          let n : length after ≡ head_size (head_of s) + item_bytes * length others = length_record (head_of s) others in
          let f : length s ≡ head_size (head_of s) + item_bytes * length (segments s) = (formed d s taken.form).bytes in
          omega (arith, fewer)

  released_all : Freed d s p out
  released_all =
      record {
        answer = ap (λ (n : ℕ). answered n s (length s - item_bytes)) h;
        new = rest;
        past = ap (drop (length s - item_bytes)) released_leaves ∙ laid_rest out (removed s p) (length s - item_bytes) size may.room;
        accepted = rw rest (accepted_made d (head_of s) others small still);
        head = rw rest (read_head d (head_of s) others small still);
        segments_are = rw rest (read_segments d (head_of s) others small still);
        elsewhere = λ x. rw rest (ap (λ (z : List Segment). is_free (data_range d) z x) (read_segments d (head_of s) others small still) ∙ free_remove (data_range d) (segments s) p x (laid d s taken) may.there);
        again = again;
      }

pub releases : Releases
releases = released_all

pub refusing : Refusing
refusing d s n l =
    record {
      allocation = λ k m out e. (
        refused_at s (placed d s k m) (first (allocate_tests d s k m (length out))) n e l,
        kept_at (splice out 0 (appended s (given d s k m))) out (first (allocate_tests d s k m (length out))) n e l,
      );
      release = λ p out e. (
        refused_at s (length s - item_bytes) (first (release_tests d s p (length out))) n e l,
        kept_at (splice out 0 (removed s p)) out (first (release_tests d s p (length out))) n e l,
      );
      table = λ t e. (
        refused_at s (length (runs_in d s)) (first (table_tests d s (length t))) n e l,
        kept_at (runs_in d s ++ drop (length (runs_in d s)) t) t (first (table_tests d s (length t))) n e l,
      );
      numbers = λ t e. (
        refused_at s (length (runs_in d s)) (first (table_tests d s (length t / 2))) n e l,
        kept_at (numbers_of (runs_in d s) ++ drop (2 * length (runs_in d s)) t) t (first (table_tests d s (length t / 2))) n e l,
      );
    }

-- the numbers that the calls' tests give are known
abbrev Known : List Test → Type 0
Known ts = first ts < 25

record-known : (d : Device) (s : List ℕ) → Known (record_tests d s)
record-known d s = first_below 25 (record_tests d s) (lit< tt) (lit< tt, (lit< tt, (lit< tt, (lit< tt, (lit< tt, (lit< tt, (lit< tt, tt)))))))

one-known : (d : Device) (s : List ℕ) (b : Bool) → Known (record_tests d s ++ ((b else_refuse slice_size) ∷ []))
one-known d s b =
    first_below 25 (record_tests d s ++ ((b else_refuse slice_size) ∷ [])) (lit< tt) (lit< tt, (lit< tt, (lit< tt, (lit< tt, (lit< tt, (lit< tt, (lit< tt, (lit< tt, tt))))))))

fit-known : (d : Device) (s : List ℕ) (rs : List Run) (m : ℕ) → Known (record_tests d s ++ fit_tests rs m)
fit-known d s rs m =
    first_below 25 (record_tests d s ++ fit_tests rs m) (lit< tt) (lit< tt, (lit< tt, (lit< tt, (lit< tt, (lit< tt, (lit< tt, (lit< tt, (lit< tt, (lit< tt, tt)))))))))

allocate-known : (d : Device) (s : List ℕ) (k m w : ℕ) → Known (allocate_tests d s k m w)
allocate-known d s k m w =
    first_below 25 (allocate_tests d s k m w) (lit< tt)
    (lit< tt, (lit< tt, (lit< tt, (lit< tt, (lit< tt, (lit< tt, (lit< tt, (lit< tt, (lit< tt, (lit< tt, (lit< tt, (lit< tt, tt))))))))))))

release-known : (d : Device) (s : List ℕ) (p w : ℕ) → Known (release_tests d s p w)
release-known d s p w =
    first_below 25 (release_tests d s p w) (lit< tt) (lit< tt, (lit< tt, (lit< tt, (lit< tt, (lit< tt, (lit< tt, (lit< tt, (lit< tt, (lit< tt, tt)))))))))

pub numbered : Numbered
numbered d s k m w =
    record {
      runs = refusal_named (first (record_tests d s)) s (length (runs_in d s)) (record-known d s);
      run = refusal_named (first (record_tests d s)) s (run_at (runs_in d s) k) (record-known d s);
      free = refusal_named (first (record_tests d s)) s (free_sectors (data_range d) (segments s)) (record-known d s);
      fit = refusal_named (first (record_tests d s ++ fit_tests (runs_in d s) m)) s (fit_of m (runs_in d s)) (fit-known d s (runs_in d s) m);
      table = refusal_named (first (table_tests d s w)) s (length (runs_in d s)) (one-known d s (leb (length (runs_in d s)) w));
      numbers = refusal_named (first (table_tests d s (w / 2))) s (length (runs_in d s)) (one-known d s (leb (length (runs_in d s)) (w / 2)));
      allocation = refusal_named (first (allocate_tests d s k m w)) s (placed d s k m) (allocate-known d s k m w);
      release = refusal_named (first (release_tests d s k w)) s (length s - item_bytes) (release-known d s k w);
    }

pub valued : Valued
valued d s k z =
    record {
      runs = given_at s (length (runs_in d s)) (first (record_tests d s)) z;
      run = given_at s (run_at (runs_in d s) k) (first (record_tests d s)) z;
      free = given_at s (free_sectors (data_range d) (segments s)) (first (record_tests d s)) z;
    }
