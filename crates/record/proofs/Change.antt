-- Right records with a segment more and with one less.
use Prim.Native.Nat.{ℕ, suc, ◌+◌, ◌-◌, ◌*◌, ◌≤◌, ◌<◌}
use mathlib.Core.Path.{◌≡◌, refl, sym, ap, ◌∙◌, subst}
use mathlib.Core.Bool.{true, cond}
use mathlib.Core.Logic.{◌⊎◌, inl, inr}
use mathlib.Core.List.{List, [], ◌∷◌, ◌++◌}
use native.Mathlib.Decide.{dec_lt}
use native.Mathlib.Nat.{eq-or-lt_of_le}
use native.Mathlib.Omega.{arith}
use borrow.Author.Tests.{lt-ltb, le-ltb}
use lib.Dec.{ltb}
use lib.ListN.{length, take, drop, length-append, length-drop, get_or-append}
use lib.Seq.{get_or_at, get_or-append-add, length-take-le, get_or-take, get_or-drop}
use Rattle.layout.specs.declared.Device.{Device}
use Rattle.layout.specs.Limits.{record_limit}
use Rattle.segments.specs.declared.Segment.{Segment}
use Rattle.segments.specs.Segments.{none, nth, holds, InRange}
use Rattle.items.specs.declared.Head.{Head}
use Rattle.items.specs.Head.{head_size, allows, range_for, item_bytes, most_segments}
use Rattle.items.proofs.Heads.{most_room}
use Rattle.segments.specs.Demand.{Share}
use Rattle.record.specs.Demand.{Right}

-- every position of the longer list is an old one or the last
last_or : (i n : ℕ) → i < n + 1 → (i ≡ n) ⊎ (i < n)
last_or i n h = eq-or-lt_of_le (let l : i ≤ n = omega arith in l)

-- APPENDED
module _ (d : Device) (h : Head) (gs : List Segment) (g : Segment) where
  pub more : length (gs ++ (g ∷ [])) ≡ length gs + 1
  more = length-append gs (g ∷ [])

  pub old : (i : ℕ) → i < length gs → nth (gs ++ (g ∷ [])) i ≡ nth gs i
  old i l = get_or-append gs (g ∷ []) none i l

  pub new : nth (gs ++ (g ∷ [])) (length gs) ≡ g
  new = get_or_at gs g [] none (length gs) refl

  -- what holds of each old segment and of the new one holds of each
  pub each : (P : Segment → Type 0) → ((i : ℕ) → i < length gs → P (nth gs i)) → P g → (i : ℕ) → i < length (gs ++ (g ∷ [])) → P (nth (gs ++ (g ∷ [])) i)
  each P a b i l = go (last_or i (length gs) (rw more at l))
    where
      go : (i ≡ length gs) ⊎ (i < length gs) → P (nth (gs ++ (g ∷ [])) i)
      go (inl e) = subst P (sym (ap (nth (gs ++ (g ∷ []))) e ∙ new)) b
      go (inr k) = subst P (sym (old i k)) (a i k)

  pub right-append : Right d h gs → length gs < most_segments h → allows h g.kind ≡ true → InRange (range_for d h g.kind) g
      → ((i x : ℕ) → i < length gs → holds (nth gs i) x ≡ true → holds g x ≡ true → ⊥) → Right d h (gs ++ (g ∷ []))
  right-append r room kind range free =
      let m : length (gs ++ (g ∷ [])) ≡ length gs + 1 = more in
      let q : head_size h + item_bytes * (length gs + 1) ≤ record_limit = most_room h (length gs) room in
      record {
        each =
            record {
              size = r.each.size;
              metadata = r.each.metadata;
              reserved = r.each.reserved;
              head = r.each.head;
              bytes = omega arith;
              kinds = each (λ (z : Segment). allows h z.kind ≡ true) r.each.kinds kind;
              ranges = each (λ (z : Segment). InRange (range_for d h z.kind) z) r.each.ranges range;
            };
        apart = λ i j x c. between i j x c (last_or j (length gs) (rw m at c.there));
      }
    where
      between : (i j x : ℕ) → Share (gs ++ (g ∷ [])) i j x → (j ≡ length gs) ⊎ (j < length gs) → ⊥
      between i j x c (inl e) =
          let l : i < j = c.later in
          let k : i < length gs = omega arith in
          free i x k (rw (old i k) at c.one) (rw (ap (nth (gs ++ (g ∷ []))) e ∙ new) at c.other)
      between i j x c (inr k) =
          let l : i < j = c.later in
          let m : i < length gs = omega arith in
          r.apart i j x (record { later = l; there = k; one = rw (old i m) at c.one; other = rw (old j k) at c.other })

-- which old position a position of the shorter list is
abbrev pub old_of : ℕ → ℕ → ℕ
old_of p i = cond (ltb i p) i (i + 1)

-- REMOVED
module _ (d : Device) (h : Head) (gs : List Segment) (p : ℕ) (there : p < length gs) where
  abbrev rest : List Segment
  rest = take p gs ++ drop (suc p) gs

  front : length (take p gs) ≡ p
  front = length-take-le p gs (let l : p ≤ length gs = omega arith in l)

  pub less : length rest + 1 ≡ length gs
  less = rw (length-append, length-drop) (omega (arith, front))

  pub which : (i : ℕ) → nth rest i ≡ nth gs (old_of p i)
  which i =
      elim (dec_lt i p) [
        | yes l ↦
            let k : i < length (take p gs) = omega (arith, front) in
            rw (lt-ltb i p l) (get_or-append (take p gs) (drop (suc p) gs) none i k ∙ get_or-take p gs i none l)
        | no l ↦
            let m : p ≤ i = omega arith in
            let e : i ≡ length (take p gs) + (i - p) = omega (arith, front) in
            rw (le-ltb i p m) (ap (nth rest) e ∙ (get_or-append-add (take p gs) (drop (suc p) gs) (i - p) none ∙ (get_or-drop (suc p) gs (i - p) none ∙ ap (nth gs) (let q : suc p + (i - p) ≡ i + 1 = omega arith in q))))
      ]

  pub old_there : (i : ℕ) → i < length rest → old_of p i < length gs
  old_there i l =
      elim (dec_lt i p) [
        | yes k ↦ rw (lt-ltb i p k) (omega (arith, less))
        | no k ↦ rw (le-ltb i p (let m : p ≤ i = omega arith in m)) (omega (arith, less))
      ]

  pub old_order : (i j : ℕ) → i < j → old_of p i < old_of p j
  old_order i j l =
      elim (dec_lt i p) [
        | yes k ↦
            elim (dec_lt j p) [
              | yes q ↦ rw (lt-ltb i p k, lt-ltb j p q) l
              | no q ↦ rw (lt-ltb i p k, le-ltb j p (let m : p ≤ j = omega arith in m)) (omega arith)
            ]
        | no k ↦ rw (le-ltb i p (let m : p ≤ i = omega arith in m), le-ltb j p (let m : p ≤ j = omega arith in m)) (omega arith)
      ]

  pub right_remove : Right d h gs → Right d h rest
  right_remove r =
      let b : head_size h + item_bytes * length gs ≤ record_limit = r.each.bytes in
      record {
        each =
            record {
              size = r.each.size;
              metadata = r.each.metadata;
              reserved = r.each.reserved;
              head = r.each.head;
              bytes = omega (arith, less);
              kinds = λ i l. rw (which i) (r.each.kinds (old_of p i) (old_there i l));
              ranges = λ i l. rw (which i) (r.each.ranges (old_of p i) (old_there i l));
            };
        apart = λ i j x c.
            r.apart (old_of p i) (old_of p j) x
            (record { later = old_order i j c.later; there = old_there j c.there; one = rw (which i) at c.one; other = rw (which j) at c.other });
      }
