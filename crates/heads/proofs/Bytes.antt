-- A change of a head byte for byte: a known head's bytes, and anything after them.
use Prim.Native.Nat.{ℕ}
use mathlib.Core.Path.{◌≡◌, refl, sym, ap, ◌∙◌}
use mathlib.Core.Bool.{true, true≢false}
use mathlib.Core.List.{List, [], ◌∷◌, ◌++◌}
use native.Mathlib.Omega.{arith}
use lib.ListN.{take, drop, get_or}
use Rattle.endian.specs.Bytes.{le, to_le}
use Rattle.endian.proofs.Numbers.{le-to_le}
use Rattle.layout.specs.declared.Device.{Device}
use Rattle.items.specs.declared.Head.{Head}
use Rattle.items.specs.declared.Head.TheVariants.{Plain, Marked, Unknown}
use Rattle.items.specs.Head.{head_kind, head_bytes, head_size, head_right, low_water}
use Rattle.items.proofs.Heads.{right_marked, unknown-wrong}
use Rattle.record.proofs.Demand.{four}
use Rattle.heads.specs.declared.Change.{Change}
use Rattle.heads.specs.Changing.{raised, lowered, remarked, head_after}
use Rattle.heads.specs.Demand.{Movable, KindBytes, ByteForByte}
use Rattle.heads.proofs.Heads.{not_plain}

-- the kinds that the bytes of each head say
plain_kind_lem : (b : ℕ) (x : List ℕ) → KindBytes 16 (head_bytes (Plain b) ++ x)
unfolding head_bytes head_size to_le
plain_kind_lem b x = refl

marked_kind_lem : (b m : ℕ) (x : List ℕ) → KindBytes 17 (head_bytes (Marked b m) ++ x)
unfolding head_bytes head_size to_le
marked_kind_lem b m x = refl

-- they are not both
one-kind : (s : List ℕ) → KindBytes 16 s → KindBytes 17 s → ⊥
one-kind s e f = let z : ◌≡◌ {A = ℕ} 16 17 = ap (λ (w : List ℕ). get_or w 0 0) (sym e ∙ f) in omega arith

plain_up : (b : ℕ) (x : List ℕ)
    → head_bytes (Marked b 0) ++ x ≡ (12 ∷ 0 ∷ 17 ∷ 0 ∷ []) ++ (take 4 (drop 4 (head_bytes (Plain b) ++ x)) ++ (0 ∷ 0 ∷ 0 ∷ 0 ∷ drop 8 (head_bytes (Plain b) ++ x)))
unfolding head_bytes head_size to_le
plain_up b x = refl

marked_back : (b m : ℕ) (x : List ℕ)
    → head_bytes (Plain b) ++ x ≡ (8 ∷ 0 ∷ 16 ∷ 0 ∷ []) ++ (take 4 (drop 4 (head_bytes (Marked b m) ++ x)) ++ drop 12 (head_bytes (Marked b m) ++ x))
unfolding head_bytes head_size to_le
marked_back b m x = refl

mark_set : (b m n : ℕ) (x : List ℕ)
    → head_bytes (Marked b n) ++ x ≡ take 8 (head_bytes (Marked b m) ++ x) ++ (to_le 4 n ++ drop 12 (head_bytes (Marked b m) ++ x))
unfolding head_bytes head_size to_le
mark_set b m n x = refl

-- A head that is right and can be changed so.
pub literal : (d : Device) (c : Change) (h : Head) (x : List ℕ) → head_right d h ≡ true → Movable c h
    → ByteForByte c (head_bytes h ++ x) (head_bytes (head_after c h) ++ x)
unfolding raised lowered remarked head_kind
literal d Change.Up (Plain b) x r m = (λ k. plain_up b x, λ k. absurd (one-kind (head_bytes (Plain b) ++ x) (plain_kind_lem b x) k))
literal d Change.Up (Marked b w) x r m = (λ k. absurd (one-kind (head_bytes (Marked b w) ++ x) k (marked_kind_lem b w x)), λ k. refl)
literal d Change.Up Unknown x r m = absurd (true≢false (sym r ∙ unknown-wrong d))
literal d Change.Back (Plain b) x r m = (λ k. absurd (one-kind (head_bytes (Plain b) ++ x) (plain_kind_lem b x) k), λ k. refl)
literal d Change.Back (Marked b w) x r m = (λ k. marked_back b w x, λ k. absurd (one-kind (head_bytes (Marked b w) ++ x) k (marked_kind_lem b w x)))
literal d Change.Back Unknown x r m = absurd (true≢false (sym r ∙ unknown-wrong d))
literal d (Change.Mark n) (Plain b) x r m = absurd (not_plain (Plain b) refl m)
literal d (Change.Mark n) (Marked b w) x r m =
    mark_set b w n x ∙ ap (λ (z : List ℕ). take 8 (head_bytes (Marked b w) ++ x) ++ (z ++ drop 12 (head_bytes (Marked b w) ++ x))) (four n)
literal d (Change.Mark n) Unknown x r m = absurd (true≢false (sym r ∙ unknown-wrong d))

-- the mark by its four bytes
mark_bytes : (b m : ℕ) (x : List ℕ) → take 4 (drop 8 (head_bytes (Marked b m) ++ x)) ≡ to_le 4 m
unfolding head_bytes head_size to_le
mark_bytes b m x = refl

no_mark : to_le 4 0 ≡ 0 ∷ 0 ∷ 0 ∷ 0 ∷ []
unfolding to_le
no_mark = refl

zero_mark : le (0 ∷ 0 ∷ 0 ∷ 0 ∷ []) ≡ 0
unfolding le
zero_mark = refl

-- the head has kind 17 and a mark that is not 0 exactly when its bytes say so
pub lost_bytes : (d : Device) (h : Head) (x : List ℕ) → head_right d h ≡ true → head_kind h ≡ 17 → (low_water h ≡ 0 → ⊥)
    → KindBytes 17 (head_bytes h ++ x) × (take 4 (drop 8 (head_bytes h ++ x)) ≡ 0 ∷ 0 ∷ 0 ∷ 0 ∷ [] → ⊥)
unfolding head_kind low_water
lost_bytes d (Plain b) x r k z = absurd (not_plain (Plain b) refl k)
lost_bytes d (Marked b m) x r k z = (
  marked_kind_lem b m x,
  λ e. z (sym (le-to_le 4 m (right_marked d b m r).1) ∙ (ap le (sym (mark_bytes b m x) ∙ e) ∙ zero_mark)),
)
lost_bytes d Unknown x r k z = absurd (true≢false (sym r ∙ unknown-wrong d))

pub bytes_lost : (d : Device) (h : Head) (x : List ℕ) → head_right d h ≡ true → KindBytes 17 (head_bytes h ++ x)
    → (take 4 (drop 8 (head_bytes h ++ x)) ≡ 0 ∷ 0 ∷ 0 ∷ 0 ∷ [] → ⊥) → (head_kind h ≡ 17) × (low_water h ≡ 0 → ⊥)
unfolding head_kind low_water
bytes_lost d (Plain b) x r k z = absurd (one-kind (head_bytes (Plain b) ++ x) (plain_kind_lem b x) k)
bytes_lost d (Marked b m) x r k z = (refl, λ e. z (mark_bytes b m x ∙ (ap (to_le 4) e ∙ no_mark)))
bytes_lost d Unknown x r k z = absurd (true≢false (sym r ∙ unknown-wrong d))
