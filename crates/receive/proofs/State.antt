-- What the state holds, and what a piece does to it.
use Prim.Native.Nat.{ℕ, zero, suc, ◌+◌, ◌-◌, ◌^◌, ◌≤◌, ◌<◌}
use mathlib.Core.Path.{◌≡◌, refl, sym, ap, ap₂, subst, ◌∙◌}
use mathlib.Core.Bool.{Bool, true, false, cond}
use mathlib.Core.List.{List, [], ◌∷◌, ◌++◌}
use native.Mathlib.Omega.{arith}
use lib.Dec.{lit<}
use lib.ListN.{length, take, drop, length-append}
use lib.Seq.{take_at, drop_at}
use Rattle.std.proofs.Common.{Result, Ok, Err}
use Rattle.refusal.specs.declared.Reason.{Reason}
use Rattle.endian.specs.Bytes.{Bytes, le, to_le, window, splice, zeros}
use Rattle.endian.proofs.Parts.{bytes_window, bytes_append, bytes_splice}
use Rattle.endian.proofs.Numbers.{length-to_le, le-to_le, to_le_bytes}
use Rattle.checksum.specs.Crc.{continued}
use Rattle.checksum.proofs.Laws.{checksum-below}
use Rattle.layout.specs.Limits.{record_limit, sector_bytes, block_offset, length_allowed}
use Rattle.layout.specs.Places.{area_offset}
use Rattle.layout.specs.declared.Area.{Area}
use Rattle.layout.specs.declared.Area.TheVariants.{A, B}
use Rattle.layout.proofs.Laws.{length_facts, length_test}
use Rattle.block.specs.declared.Holding.{Holding}
use Rattle.block.proofs.RoundTrip.{holding-back}
use Rattle.receive.specs.declared.Received.{Received}
use Rattle.receive.specs.Receive.{fresh, part, block_with, length_in, used_in, sum_with, advanced, taking}
use Rattle.receive.specs.Demand.{kept_after, state_after, after, unless_refused, bytes_taken, size, state_bytes, EachBytes, Kept, Holds, said, UsedBytes, Laying}
use Rattle.receive.proofs.Joined.{left, block_of, same_state, block_length}
use Rattle.receive.proofs.Following.{after-fresh, most, taking-fits}

-- what the state holds
holds-left : (c : List ℕ) → Holds c (left c)
unfolding area_offset
holds-left c = record { taken = refl; block = refl; a = refl; b = refl }

pub holds : (ps : List (List ℕ)) → Holds (bytes_taken fresh ps) (after fresh ps)
holds ps = subst (Holds (bytes_taken fresh ps)) (sym (after-fresh ps)) (holds-left (bytes_taken fresh ps))

-- its bytes, which say all of it
split : (x y u v : List ℕ) → length x ≡ length y → x ++ u ≡ y ++ v → (x ≡ y) × (u ≡ v)
split x y u v l e = (
  sym (take_at x u (length x) refl) ∙ (ap (take (length x)) e ∙ take_at y v (length x) (sym l)),
  sym (drop_at x u (length x) refl) ∙ (ap (drop (length x)) e ∙ drop_at y v (length x) (sym l)),
)

same_number : (n v w : ℕ) → v < 256 ^ n → w < 256 ^ n → to_le n v ≡ to_le n w → v ≡ w
same_number n v w h i e = sym (le-to_le n v h) ∙ (ap le e ∙ le-to_le n w i)

same_width : (n v w : ℕ) → length (to_le n v) ≡ length (to_le n w)
same_width n v w = length-to_le n v ∙ sym (length-to_le n w)

size_below : size < 256 ^ 8
unfolding record_limit
size_below = lit< tt

abbrev sums_of : Received → List ℕ
sums_of s = to_le 4 s.a ++ to_le 4 s.b

module _ (c d : List ℕ) (m : length c ≤ size) (n : length d ≤ size) (e : state_bytes (left c) ≡ state_bytes (left d)) where
  first-same : (to_le 8 (length c) ≡ to_le 8 (length d)) × (block_of c ++ sums_of (left c) ≡ block_of d ++ sums_of (left d))
  first-same = split (to_le 8 (length c)) (to_le 8 (length d)) _ _ (same_width 8 (length c) (length d)) e

  block_same : (block_of c ≡ block_of d) × (sums_of (left c) ≡ sums_of (left d))
  block_same = split (block_of c) (block_of d) _ _ (block_length c ∙ sym (block_length d)) first-same.1

  sums_same : (to_le 4 (left c).a ≡ to_le 4 (left d).a) × (to_le 4 (left c).b ≡ to_le 4 (left d).b)
  sums_same = split (to_le 4 (left c).a) (to_le 4 (left d).a) _ _ (same_width 4 (left c).a (left d).a) block_same.1

  all_left-same : left c ≡ left d
  all_left-same =
      same_state (length c) (length d) (block_of c) (block_of d) _ _ _ _
      (let l : size < 256 ^ 8 = size_below in same_number 8 (length c) (length d) (omega arith) (omega arith) first-same.0)
      block_same.0
      (same_number 4 (left c).a (left d).a (checksum-below _) (checksum-below _) sums_same.0)
      (same_number 4 (left c).b (left d).b (checksum-below _) (checksum-below _) sums_same.1)

state_length : (c : List ℕ) → length (state_bytes (left c)) ≡ 528
state_length c =
    length-append (to_le 8 (length c)) (block_of c ++ (to_le 4 (left c).a ++ to_le 4 (left c).b))
    ∙ ap₂ (λ (i k : ℕ). i + k) (length-to_le 8 (length c))
    (length-append (block_of c) (to_le 4 (left c).a ++ to_le 4 (left c).b)
    ∙ ap₂ (λ (i k : ℕ). i + k) (block_length c)
    (length-append (to_le 4 (left c).a) (to_le 4 (left c).b) ∙ ap₂ (λ (i k : ℕ). i + k) (length-to_le 4 (left c).a) (length-to_le 4 (left c).b)))

taken_bytes : (ps : List (List ℕ)) (s : Received) → EachBytes ps → Bytes (bytes_taken s ps)
taken_bytes [] s b = λ i. lit< tt
taken_bytes (p ∷ ps) s b = bytes_append (unless_refused (taking s p) p) (bytes_taken (state_after s p) ps) (one (taking s p)) (taken_bytes ps (state_after s p) b.1)
  where
    one : (a : Result Received Reason) → Bytes (unless_refused a p)
    one (Ok t) = b.0
    one (Err e) = λ i. lit< tt

zero_bytes : (n : ℕ) → Bytes (zeros n)
unfolding zeros
zero_bytes zero i = lit< tt
zero_bytes (suc n) zero = lit< tt
zero_bytes (suc n) (suc i) = zero_bytes n i

state_bytes_lem : (c : List ℕ) → Bytes c → Bytes (state_bytes (left c))
state_bytes_lem c b =
    bytes_append (to_le 8 (length c)) _ (to_le_bytes 8 (length c))
    (bytes_append (block_of c) _ (bytes_splice (zeros sector_bytes) 0 (window c block_offset sector_bytes) (zero_bytes sector_bytes) (bytes_window c block_offset sector_bytes b))
    (bytes_append (to_le 4 (left c).a) (to_le 4 (left c).b) (to_le_bytes 4 (left c).a) (to_le_bytes 4 (left c).b)))

fresh_bytes : state_bytes fresh ≡ zeros 528
unfolding fresh to_le zeros
fresh_bytes = refl

pub kept : Kept
kept =
    record {
      fields = λ s. refl;
      begun = fresh_bytes;
      many = λ ps. ap (λ (s : Received). length (state_bytes s)) (after-fresh ps) ∙ state_length (bytes_taken fresh ps);
      most = λ ps.
          (let e : length (state_bytes (after fresh ps)) ≡ 528 = ap (λ (s : Received). length (state_bytes s)) (after-fresh ps) ∙ state_length (bytes_taken fresh ps) in
          omega arith);
      bytes = λ ps b. subst (λ (s : Received). Bytes (state_bytes s)) (sym (after-fresh ps)) (state_bytes_lem (bytes_taken fresh ps) (taken_bytes ps fresh b));
      all = λ ps qs e.
          after-fresh ps
          ∙ (all_left-same (bytes_taken fresh ps) (bytes_taken fresh qs) (most ps) (most qs) (ap state_bytes (sym (after-fresh ps)) ∙ (e ∙ ap state_bytes (after-fresh qs)))
          ∙ sym (after-fresh qs));
    }

-- the used bytes of an area, by the block's own bytes
said_is : (block : List ℕ) (x : Area) → length_in block x ≡ said block x
said_is block A = ap (λ (h : Holding). h.bytes) (holding-back _ _ _ _)
said_is block B = ap (λ (h : Holding). h.bytes) (holding-back _ _ _ _)

used_by : (block : List ℕ) (x : Area) (t : Bool) → length_allowed (said block x) ≡ t → used_in block x ≡ cond t (said block x) 0
unfolding used_in
used_by block x t e =
    ap (λ (n : ℕ). cond (length_allowed n) n 0) (said_is block x) ∙ ap (λ (b : Bool). cond b (said block x) 0) e

not_allowed : (n : ℕ) → ¬ ((1 ≤ n) × (n ≤ record_limit)) → length_allowed n ≡ false
not_allowed n h = go (length_allowed n) refl
  where
    go : (t : Bool) → length_allowed n ≡ t → length_allowed n ≡ false
    go true e = absurd (h (length_facts n e))
    go false e = e

pub used : (block : List ℕ) (x : Area) → UsedBytes block x
used block x =
    record {
      some = λ l m. used_by block x true (length_test (said block x) l m);
      most = λ l. used_by block x false (not_allowed (said block x) (λ w. (let i : said block x ≤ record_limit = w.1 in absurd (omega arith))));
      least = λ z. used_by block x false (not_allowed (said block x) (λ w. (let i : 1 ≤ said block x = w.0 in absurd (omega arith))));
    }

-- what a piece does to any state
advanced_laying : (s : Received) (p : List ℕ)
    → ((advanced s p).block ≡ splice s.block (s.taken - 512) (part p s.taken 512 512))
    × ((advanced s p).a ≡ continued s.a (part p s.taken 4096 (used_in (advanced s p).block A)))
    × ((advanced s p).b ≡ continued s.b (part p s.taken (4096 + record_limit) (used_in (advanced s p).block B)))
unfolding advanced block_with sum_with area_offset
advanced_laying s p = (refl, refl, refl)

pub laying : (s : Received) (p : List ℕ) (fits : s.taken + length p ≤ size) → Laying s p fits
laying s p fits =
    let f : (state_after s p) ≡ advanced s p = ap (kept_after s) (taking-fits s p fits) in
    let g : (advanced s p).block ≡ (state_after s p).block = ap (λ (t : Received). t.block) (sym f) in
    record {
      block = sym g ∙ (advanced_laying s p).0;
      a = ap (λ (t : Received). t.a) f
          ∙ ((advanced_laying s p).1 ∙ ap (λ (b : List ℕ). continued s.a (part p s.taken 4096 (used_in b A))) g);
      b = ap (λ (t : Received). t.b) f
          ∙ ((advanced_laying s p).2 ∙ ap (λ (b : List ℕ). continued s.b (part p s.taken (4096 + record_limit) (used_in b B))) g);
    }
