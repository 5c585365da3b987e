-- Laws of the gaps that are left, one at a time, and of how many there are.
use Rattle.std.proofs.Common.{◌≡◌, ℕ, suc, ◌+◌, ◌≤◌, ◌<◌, true, false, List, [], ◌∷◌, length, sym, refl, ap, ◌∙◌, arith, lt-ltb, le-ltb, true≢false}
use Rattle.std.specs.Prelude.{Option, Some, None, MatchOption}
use Rattle.std.specs.Option.{is_some}
use Rattle.std.specs.Iterator.{YieldsFirst, item_count, MakesProgress}
use Rattle.std.proofs.lemmas.List.{nil_from_length, length-map}
use native.Mathlib.Decide.{dec_lt}
use Rattle.std.specs.Prelude.{find, leb}
use native.Mathlib.Decide.{dec_le}
use borrow.Author.Tests.{le-leb, lt-leb}
use Rattle.segments.specs.declared.Segment.{Segment}
use Rattle.segments.specs.declared.Range.{Range}
use Rattle.runs.specs.Runs.{fit_of}
use Rattle.segments.specs.Segments.{nth, end_of}
use Rattle.segments.specs.Order.{picked_at}
use Rattle.items.specs.Items.{segments_in}
use Rattle.runs.specs.declared.Run.{Run}
use Rattle.runs.specs.Runs.{run_to}
use Rattle.runs.specs.Gaps.{gap, gaps}
use Rattle.runs.proofs.Gaps.{gap-some, gap-none, gaps-nil, gaps-cons}
use Rattle.allocation.specs.declared.walk.Gaps.{Gaps}
use Rattle.allocation.specs.Walking.{walked, gap_to, left, fit_in}

-- a gap that is there, or none, before other runs
pub gap_there : (a b : ℕ) (rs xs : List Run) (r : Option Run) (N : Type 0) → xs ≡ gap a b rs → r ≡ gap_to a b → is_some r ≡ true → MatchOption r N (λ x. xs ≡ x ∷ rs)
gap_there a b rs xs None N e f h = absurd (true≢false (sym h))
gap_there a b rs xs (Some x) N e f h =
    elim (dec_lt a b) [
      | yes l ↦
          let g : Some x ≡ Some (run_to a b) = rw (lt-ltb a b l) at f in
          let k : xs ≡ run_to a b ∷ rs = e ∙ gap-some a b rs l in
          cc
      | no l ↦
          let g : Some x ≡ None = rw (le-ltb a b (omega arith)) at f in
          absurd (true≢false (ap is_some g))
    ]

pub gap_not : (a b : ℕ) (rs xs : List Run) (r : Option Run) → xs ≡ gap a b rs → r ≡ gap_to a b → is_some r ≡ false → xs ≡ rs
gap_not a b rs xs r e f h =
    elim (dec_lt a b) [
      | yes l ↦
          let g : r ≡ Some (run_to a b) = rw (lt-ltb a b l) at f in
          absurd (true≢false (sym (ap is_some g) ∙ h))
      | no l ↦ e ∙ gap-none a b rs (omega arith)
    ]

-- what is left at a segment, and past the last
pub left_more : (w : Gaps) (i : ℕ) (p : List ℕ) (g : Segment) → w.at.now ≡ i ∷ p → g ≡ nth (segments_in w.t.now) i
    → left w ≡ gap (end_of w.last) g.start (gaps (end_of g) w.end (picked_at (segments_in w.t.now) p))
left_more w i p g e f =
    ap (λ (q : List ℕ). gaps (end_of w.last) w.end (picked_at (segments_in w.t.now) q)) e
    ∙ (gaps-cons (end_of w.last) w.end (nth (segments_in w.t.now) i) (picked_at (segments_in w.t.now) p)
    ∙ ap (λ (z : Segment). gap (end_of w.last) z.start (gaps (end_of z) w.end (picked_at (segments_in w.t.now) p))) (sym f))

pub left_end : (w : Gaps) → length w.at.now ≡ 0 → left w ≡ gap (end_of w.last) w.end []
left_end w e =
    ap (λ (q : List ℕ). gaps (end_of w.last) w.end (picked_at (segments_in w.t.now) q)) (nil_from_length w.at.now e) ∙ gaps-nil (end_of w.last) w.end

-- the gap before the end, after which nothing is left
pub last_gap : (w v : Gaps) (xs : List Run) (r : Option Run) → xs ≡ left w → length w.at.now ≡ 0 → length v.at.now ≡ 0 → end_of v.last ≡ v.end
    → r ≡ gap_to (end_of w.last) w.end → MatchOption r ((xs ≡ []) × (left v ≡ [])) (λ x. xs ≡ x ∷ left v)
last_gap w v xs r h e f k m = go r refl
  where
    done : left v ≡ []
    done = left_end v f ∙ gap-none (end_of v.last) v.end [] (let l : v.end ≤ end_of v.last = omega arith in l)

    go : (q : Option Run) → r ≡ q → MatchOption q ((xs ≡ []) × (left v ≡ [])) (λ x. xs ≡ x ∷ left v)
    go None q = (gap_not (end_of w.last) w.end [] xs None (h ∙ left_end w e) (sym q ∙ m) refl, done)
    go (Some x) q = rw done (gap_there (end_of w.last) w.end [] xs (Some x) (Unit {0}) (h ∙ left_end w e) (sym q ∙ m) refl)

-- a gap that was given is one fewer
pub progress : (can : Gaps → Type 0) (s t : Gaps) (r : Option Run) → can t → YieldsFirst left s r t → MakesProgress can (item_count left) s r t
progress can s t None c y = record { on = λ _. tt; keeps = tt; rests = λ _. tt }
progress can s t (Some x) c y =
    let l : length (left s) ≡ suc (length (left t)) = ap length y in
    record { on = λ _. (c, tt, let m : length (left t) < length (left s) = omega arith in m); keeps = c; rests = λ _. tt }

-- there is at most one gap more than segments
pub gaps-few : (a e : ℕ) (gs : List Segment) → length (gaps a e gs) ≤ length gs + 1
gaps-few a e [] =
    elim (dec_lt a e) [
      | yes l ↦ rw (gaps-nil a e, gap-some a e [] l) (omega arith)
      | no l ↦ rw (gaps-nil a e, gap-none a e [] (let m : e ≤ a = omega arith in m)) (omega arith)
    ]
gaps-few a e (g ∷ gs) =
    let r : length (gaps (end_of g) e gs) ≤ length gs + 1 = gaps-few (end_of g) e gs in
    elim (dec_lt a g.start) [
      | yes l ↦ rw (gaps-cons a e g gs, gap-some a g.start (gaps (end_of g) e gs) l) (omega arith)
      | no l ↦ rw (gaps-cons a e g gs, gap-none a g.start (gaps (end_of g) e gs) (let m : g.start ≤ a = omega arith in m)) (omega arith)
    ]

pub walked-few : (r : Range) (gs : List Segment) (p : List ℕ) → length (walked r gs p) ≤ length p + 1
walked-few r gs p =
    let a : length (walked r gs p) ≤ length (picked_at gs p) + 1 = gaps-few r.start r.end (picked_at gs p) in
    omega (arith, length-map p (nth gs))

-- the first gap of m sectors or more, in the words of the format
pub fit_found : (m : ℕ) (rs : List Run) → 1 ≤ m → find (λ r. leb m r.sectors) rs ≡ fit_in m rs
unfolding fit_of
fit_found m [] o = rw (lt-leb m 0 o)
fit_found m (r ∷ rs) o =
    elim (dec_le m r.sectors) [
      | yes l ↦ rw (le-leb m r.sectors l, le-leb m r.sectors l)
      | no l ↦ rw (lt-leb m r.sectors (let k : r.sectors < m = omega arith in k)) (fit_found m rs o)
    ]
