-- The present record by which areas are whole, of any accepted block.
use Prim.Native.Nat.{ℕ, ◌+◌, ◌≤◌}
use mathlib.Core.Path.{◌≡◌, refl, sym, ap, ap₂, subst, ◌∙◌}
use mathlib.Core.Logic.{◌↔◌}
use mathlib.Core.Bool.{Bool, true, false, true≢false}
use mathlib.Core.List.{List, ◌++◌}
use native.Mathlib.Nat.{le_refl}
use native.Mathlib.Omega.{arith}
use lib.ListN.{length, take, length-append}
use lib.Seq.{take_at, drop_at}
use Rattle.std.proofs.Common.{Some, None}
use Rattle.endian.specs.Bytes.{window, zeros}
use Rattle.endian.proofs.Tests.{length-zeros}
use Rattle.layout.specs.Limits.{record_limit}
use Rattle.layout.specs.declared.Area.{Area}
use Rattle.layout.specs.declared.Area.TheVariants.{A, B}
use Rattle.block.specs.declared.Holding.{Holding}
use Rattle.block.specs.Block.{fields_of}
use Rattle.block.specs.Writing.{holding_of}
use Rattle.block.specs.Accepted.{Accepted}
use Rattle.copy.specs.declared.Present.{Present}
use Rattle.copy.specs.Copy.{record_at, present_at, entry_in, other_area, by_area, newest, choose, present_by}
use Rattle.copy.specs.Demand.{signature_block, entry_for, moment, AcceptedCopy}
use Rattle.copy.proofs.Latest.{some-same}
use Rattle.copy.proofs.Demand.{fields_in, used-same, holding_in, one_entry, newest-later}
use Rattle.receive.specs.Demand.{size, entry_on}

-- By which areas are whole, a and d: the present record is the whole one with the later time; there is none where none is whole.
pub record Chosen (b : List ℕ) (a d : Bool) : Type 0 where
  pub at : (x : Area) (h : Holding)
      → (present_by (fields_of b) a d ≡ present_at x h
      ↔ ((by_area x a d ≡ true) × (entry_on b x ≡ Some h) × ((y : Area) (k : Holding) → by_area y a d ≡ true → entry_on b y ≡ Some k → moment k ≤ moment h)))
  pub none : present_by (fields_of b) a d ≡ None ↔ ((x : Area) → by_area x a d ≡ false)

abbrev pub OnlyUsed : List ℕ → Bool → Bool → Type 0
OnlyUsed b a d = (x : Area) → by_area x a d ≡ true → (h : Holding) × (entry_on b x ≡ Some h)

at_same : (x y : Area) (h k : Holding) → present_at x h ≡ present_at y k → (x ≡ y) × (h ≡ k)
at_same x y h k e =
    let p : record_at x h ≡ record_at y k = some-same _ _ e in
    (ap (λ (q : Present). q.area) p, ap (λ (q : Present). q.holding) p)

at-nothing : {X : Type 0} (x : Area) (h : Holding) → present_at x h ≡ None → X
at-nothing x h e = let o : ◌≡◌ {A = ℕ} 0 1 = cc in absurd (omega arith)

module _ (c : List ℕ) (k : AcceptedCopy c) where
  on_for : (x : Area) → entry_on (signature_block c) x ≡ entry_for c x
  on_for A = refl
  on_for B = refl

  -- the newest entry is the latest of the used ones
  newest-last : (x y : Area) (h i : Holding) → newest (fields_in c) ≡ x → entry_for c x ≡ Some h → entry_for c y ≡ Some i → moment i ≤ moment h
  newest-last x y h i n p q = (newest-later c k x h n p).none-later y i q

  module _ (a d : Bool) (u : OnlyUsed (signature_block c) a d) where
    abbrev Says : Area → Holding → Type 0
    Says x h = (by_area x a d ≡ true) × (entry_on (signature_block c) x ≡ Some h) × ((y : Area) (i : Holding) → by_area y a d ≡ true → entry_on (signature_block c) y ≡ Some i → moment i ≤ moment h)

    -- with the newest area n, whole or not, and the other
    module _ (n : Area) (e : newest (fields_in c) ≡ n) where
      held : (x : Area) (h : Holding) → entry_on (signature_block c) x ≡ Some h → holding_of (entry_in (fields_in c) x) ≡ h
      held x h p = holding_in c k x h (sym (on_for x) ∙ p)

      both : (x : Area) → by_area n a d ≡ false → by_area x a d ≡ true → x ≡ other_area n
      both x f t = go n x f t
        where
          go : (n x : Area) → by_area n a d ≡ false → by_area x a d ≡ true → x ≡ other_area n
          go A A f t = absurd (true≢false (sym t ∙ f))
          go A B f t = refl
          go B A f t = refl
          go B B f t = absurd (true≢false (sym t ∙ f))

      chosen_at : (s t : Bool) → by_area n a d ≡ s → by_area (other_area n) a d ≡ t → (x : Area) (h : Holding)
          → choose (fields_in c) s t n ≡ present_at x h → Says x h
      chosen_at true t p q x h o =
          let v : (i : Holding) × (entry_on (signature_block c) n ≡ Some i) = u n p in
          let g : (n ≡ x) × (holding_of (entry_in (fields_in c) n) ≡ h) = at_same n x _ h o in
          let i : v.0 ≡ h = sym (held n v.0 v.1) ∙ g.1 in
          let w : entry_on (signature_block c) x ≡ Some h = subst (λ (y : Area). entry_on (signature_block c) y ≡ Some h) g.0 (v.1 ∙ ap Some i) in (
            subst (λ (y : Area). by_area y a d ≡ true) g.0 p,
            w,
            λ y j r z. newest-last x y h j (e ∙ g.0) (sym (on_for x) ∙ w) (sym (on_for y) ∙ z),
          )
      chosen_at false true p q x h o =
          let m : Area = other_area n in
          let v : (i : Holding) × (entry_on (signature_block c) (other_area n) ≡ Some i) = u (other_area n) q in
          let g : (other_area n ≡ x) × (holding_of (entry_in (fields_in c) (other_area n)) ≡ h) = at_same (other_area n) x _ h o in
          let i : v.0 ≡ h = sym (held (other_area n) v.0 v.1) ∙ g.1 in
          let w : entry_on (signature_block c) x ≡ Some h = subst (λ (y : Area). entry_on (signature_block c) y ≡ Some h) g.0 (v.1 ∙ ap Some i) in (
            subst (λ (y : Area). by_area y a d ≡ true) g.0 q,
            w,
            λ y j r z.
                let l : y ≡ x = both y p r ∙ g.0 in
                let f : j ≡ h = used-same j h (sym z ∙ (ap (entry_on (signature_block c)) l ∙ w)) in
                rw f (le_refl (moment h)),
          )
      chosen_at false false p q x h o = at-nothing x h (sym o)

      at-chosen : (s t : Bool) → by_area n a d ≡ s → by_area (other_area n) a d ≡ t → (x : Area) (h : Holding)
          → Says x h → choose (fields_in c) s t n ≡ present_at x h
      at-chosen true t p q x h w =
          let v : (i : Holding) × (entry_on (signature_block c) n ≡ Some i) = u n p in
          let l : moment v.0 ≤ moment h = w.2 n v.0 p v.1 in
          let m : moment h ≤ moment v.0 = newest-last n x v.0 h e (sym (on_for n) ∙ v.1) (sym (on_for x) ∙ w.1) in
          ap (present_at n) (held n v.0 v.1) ∙ one_entry c k n x v.0 h (sym (on_for n) ∙ v.1) (sym (on_for x) ∙ w.1) (omega arith)
      at-chosen false true p q x h w =
          let l : x ≡ other_area n = both x p w.0 in
          ap₂ present_at (sym l) (held (other_area n) h (sym (ap (entry_on (signature_block c)) l) ∙ w.1))
      at-chosen false false p q x h w = absurd (true≢false (sym w.0 ∙ (ap (λ (y : Area). by_area y a d) (both x p w.0) ∙ q)))

      none-chosen : (s t : Bool) → by_area n a d ≡ s → by_area (other_area n) a d ≡ t → (x : Area) → choose (fields_in c) s t n ≡ None → by_area x a d ≡ false
      none-chosen true t p q x o = at-nothing n _ o
      none-chosen false true p q x o = at-nothing (other_area n) _ o
      none-chosen false false p q x o = go n x p q
        where
          go : (n x : Area) → by_area n a d ≡ false → by_area (other_area n) a d ≡ false → by_area x a d ≡ false
          go A A p q = p
          go A B p q = q
          go B A p q = q
          go B B p q = p

      chosen_none : (s t : Bool) → by_area n a d ≡ s → by_area (other_area n) a d ≡ t → ((x : Area) → by_area x a d ≡ false) → choose (fields_in c) s t n ≡ None
      chosen_none true t p q f = absurd (true≢false (sym p ∙ f n))
      chosen_none false true p q f = absurd (true≢false (sym q ∙ f (other_area n)))
      chosen_none false false p q f = refl

    copy-chosen : Chosen (signature_block c) a d
    copy-chosen =
        record {
          at = λ x h. (
            chosen_at (newest (fields_in c)) refl _ _ refl refl x h,
            at-chosen (newest (fields_in c)) refl _ _ refl refl x h,
          );
          none = (
            λ o x. none-chosen (newest (fields_in c)) refl _ _ refl refl x o,
            chosen_none (newest (fields_in c)) refl _ _ refl refl,
          );
        }

-- a copy with a given block
abbrev around : List ℕ → List ℕ
around b = zeros 512 ++ (b ++ zeros (3072 + record_limit + record_limit))

around_block : (b : List ℕ) → length b ≡ 512 → signature_block (around b) ≡ b
unfolding window
around_block b z =
    ap (take 512) (drop_at (zeros 512) (b ++ zeros (3072 + record_limit + record_limit)) 512 (length-zeros 512)) ∙ take_at b (zeros (3072 + record_limit + record_limit)) 512 z

around_size : (b : List ℕ) → length b ≡ 512 → length (around b) ≡ size
around_size b z =
    let e : length (zeros 512) ≡ 512 = length-zeros 512 in
    let f : length (zeros (3072 + record_limit + record_limit)) ≡ 3072 + record_limit + record_limit = length-zeros (3072 + record_limit + record_limit) in
    let g : length (b ++ zeros (3072 + record_limit + record_limit)) ≡ length b + length (zeros (3072 + record_limit + record_limit)) = length-append b (zeros (3072 + record_limit + record_limit)) in
    length-append (zeros 512) (b ++ zeros (3072 + record_limit + record_limit)) ∙ omega arith

pub chosen : (b : List ℕ) → Accepted b → (a d : Bool) → OnlyUsed b a d → Chosen b a d
chosen b k a d u =
    let e : signature_block (around b) ≡ b = around_block b k.size in
    subst (λ (z : List ℕ). Chosen z a d) e
    (copy-chosen (around b) (record { size = around_size b k.size; block = subst Accepted (sym e) k }) a d (subst (λ (z : List ℕ). OnlyUsed z a d) (sym e) u))
