-- Laws of the gaps between segments that follow one another, and that they are the free runs.
use Prim.Native.Nat.{ℕ, zero, suc, ◌+◌, ◌-◌, ◌≤◌, ◌<◌}
use mathlib.Core.Path.{◌≡◌, refl, sym, ap, ◌∙◌}
use mathlib.Core.Bool.{Bool, true, false, ◌&&◌}
use mathlib.Core.List.{List, [], ◌∷◌}
use native.Mathlib.Decide.{dec_lt}
use native.Mathlib.Nat.{le_refl, not-suc-le-zero}
use native.Mathlib.Omega.{arith}
use borrow.Author.Tests.{lt-ltb, le-ltb, eq-eqb, ne_eqb}
use lib.Dec.{eqb}
use Rattle.search.specs.Search.{within, one}
use Rattle.search.proofs.Search.{and_false-left, in_within, below-within}
use Rattle.segments.specs.declared.Segment.{Segment}
use Rattle.segments.specs.Segments.{end_of, holds}
use Rattle.segments.specs.Sectors.{held_by, is_free}
use Rattle.segments.proofs.Segments.{holds_in, not_holds_low, not_holds_high}
use Rattle.segments.specs.Order.{Chain}
use Rattle.segments.proofs.Sectors.{held_none, held_more}
use Rattle.runs.specs.declared.Run.{Run}
use Rattle.runs.specs.Runs.{run_to, runs_from, runs_of}
use Rattle.runs.specs.Gaps.{gap, gaps}
use Rattle.runs.specs.Demand.{Between}
use Rattle.runs.proofs.Runs.{next_free_here, next_free-none, next_taken_is, runs_none, runs-first, runs_skip}

pub gap-some : (a b : ℕ) (rs : List Run) → a < b → gap a b rs ≡ run_to a b ∷ rs
unfolding gap
gap-some a b rs h = rw (lt-ltb a b h)

pub gap-none : (a b : ℕ) (rs : List Run) → b ≤ a → gap a b rs ≡ rs
unfolding gap
gap-none a b rs h = rw (le-ltb a b h)

pub gaps-nil : (a e : ℕ) → gaps a e [] ≡ gap a e []
unfolding gaps
gaps-nil a e = refl

pub gaps-cons : (a e : ℕ) (g : Segment) (gs : List Segment) → gaps a e (g ∷ gs) ≡ gap a g.start (gaps (end_of g) e gs)
unfolding gaps
gaps-cons a e g gs = refl

-- a chain ends at e or before
pub chain_end : (a e : ℕ) (gs : List Segment) → Chain a e gs → a ≤ e
chain_end a e [] c = c
chain_end a e (g ∷ gs) c =
    let l : a ≤ g.start = c.0 in
    let m : end_of g ≤ e = chain_end (end_of g) e gs c.1.1 in
    omega arith

-- how many segments hold x: one more, or no more
held-yes : (g : Segment) (gs : List Segment) (x : ℕ) → holds g x ≡ true → held_by (g ∷ gs) x ≡ 1 + held_by gs x
held-yes g gs x h = held_more g gs x ∙ ap (λ (b : Bool). one b + held_by gs x) h

held_no : (g : Segment) (gs : List Segment) (x : ℕ) → holds g x ≡ false → held_by (g ∷ gs) x ≡ held_by gs x
held_no g gs x h = held_more g gs x ∙ (ap (λ (b : Bool). one b + held_by gs x) h ∙ (let q : 0 + held_by gs x ≡ held_by gs x = omega arith in q))

-- what is before a chain is in none of its segments
pub chain_before : (a e : ℕ) (gs : List Segment) → Chain a e gs → (x : ℕ) → x < a → held_by gs x ≡ 0
chain_before a e [] c x h = held_none x
chain_before a e (g ∷ gs) c x h =
    let l : a ≤ g.start = c.0 in
    held_no g gs x (not_holds_low g x (omega arith)) ∙ chain_before (end_of g) e gs c.1.1 x (omega arith)

-- The free runs of a test that passes the sectors in none of the segments.
module _ (p : ℕ → Bool) (e : ℕ) where
  -- p is so from a on
  abbrev pub Frees : ℕ → List Segment → Type 0
  Frees a gs = (x : ℕ) → a ≤ x → x < e → p x ≡ eqb (held_by gs x) 0

  -- from a up to b all is free, and b is not
  first : (n a b : ℕ) → a < b → b ≤ e → ((x : ℕ) → a ≤ x → x < b → p x ≡ true) → (b < e → p b ≡ false)
      → runs_from p e (suc n) a ≡ run_to a b ∷ runs_from p e n b
  first n a b l m h k =
      runs-first p e n a a b (next_free_here p e a (omega arith) (h a (le_refl a) l)) (omega arith) (next_taken_is p e a b (omega arith) m h k)

  pub runs-gaps : (n a : ℕ) (gs : List Segment) → Chain a e gs → Frees a gs → e - a < n → runs_from p e n a ≡ gaps a e gs
  runs-gaps zero a gs c f l = absurd (not-suc-le-zero l)
  runs-gaps (suc n) a [] c f l =
      elim (dec_lt a e) [
        | yes t ↦
            first n a e t (le_refl e) (λ x h k. f x h k ∙ eq-eqb (held_by [] x) 0 (held_none x)) (λ k. absurd (omega arith))
            ∙ (ap (λ (rs : List Run). run_to a e ∷ rs) (runs_none p e n e (next_free-none p e e (λ z h k. absurd (omega arith))))
            ∙ sym (gaps-nil a e ∙ gap-some a e [] t))
        | no t ↦ runs_none p e (suc n) a (next_free-none p e a (λ z h k. absurd (omega arith))) ∙ sym (gaps-nil a e ∙ gap-none a e [] (omega arith))
      ]
  runs-gaps (suc n) a (g ∷ gs) c f l =
      let s : a ≤ g.start = c.0 in
      let o : 1 ≤ g.sectors = c.1.0 in
      let m : end_of g ≤ e = chain_end (end_of g) e gs c.1.1 in
      elim (dec_lt a g.start) [
        | yes t ↦
            first n a g.start t (omega arith) before (λ k. taken g.start (le_refl g.start) (omega arith))
            ∙ (ap (λ (rs : List Run). run_to a g.start ∷ rs)
            (runs_skip p e n g.start (end_of g) (omega arith) taken ∙ runs-gaps n (end_of g) gs c.1.1 after (omega arith))
            ∙ sym (gaps-cons a e g gs ∙ gap-some a g.start (gaps (end_of g) e gs) t))
        | no t ↦
            runs_skip p e (suc n) a (end_of g) (omega arith) (λ z h k. taken z (omega arith) k)
            ∙ (runs-gaps (suc n) (end_of g) gs c.1.1 after (omega arith)
            ∙ sym (gaps-cons a e g gs ∙ gap-none a g.start (gaps (end_of g) e gs) (omega arith)))
      ]
    where
      before : (x : ℕ) → a ≤ x → x < g.start → p x ≡ true
      before x h k =
          let m : end_of g ≤ e = chain_end (end_of g) e gs c.1.1 in
          f x h (omega arith)
          ∙ eq-eqb (held_by (g ∷ gs) x) 0 (held_no g gs x (not_holds_low g x k) ∙ chain_before (end_of g) e gs c.1.1 x (omega arith))

      taken : (x : ℕ) → g.start ≤ x → x < end_of g → p x ≡ false
      taken x h k =
          let s : a ≤ g.start = c.0 in
          let m : end_of g ≤ e = chain_end (end_of g) e gs c.1.1 in
          let q : held_by (g ∷ gs) x ≡ 1 + held_by gs x = held-yes g gs x (holds_in g x h k) in
          f x (omega arith) (omega arith) ∙ ne_eqb (held_by (g ∷ gs) x) 0 (λ z. omega arith)

      after : Frees (end_of g) gs
      after x h k =
          let s : a ≤ g.start = c.0 in
          f x (omega arith) k ∙ ap (λ (n : ℕ). eqb n 0) (held_no g gs x (not_holds_high g x h))

-- THE FREE RUNS OF A RANGE ARE THE GAPS
pub between : Between
unfolding runs_of is_free
between r gs c =
    let m : r.start ≤ r.end = chain_end r.start r.end gs c in
    runs_skip (is_free r gs) r.end (suc r.end) 0 r.start (omega arith)
    (λ z h k. and_false-left (within r.start r.end z) (eqb (held_by gs z) 0) (below-within r.start r.end z k))
    ∙ runs-gaps (is_free r gs) r.end (suc r.end) r.start gs c
    (λ x h k. ap (λ (b : Bool). b && eqb (held_by gs x) 0) (in_within r.start r.end x h k)) (omega arith)
