-- Pieces that follow one another: which are taken, and the state that they leave.
use Prim.Native.Nat.{ℕ, ◌+◌, ◌≤◌, ◌<◌}
use mathlib.Core.Path.{◌≡◌, refl, sym, ap, subst, ◌∙◌}
use mathlib.Core.List.{List, [], ◌∷◌, ◌++◌, flatten, append_assoc, append-nil}
use native.Mathlib.Decide.{dec_le}
use native.Mathlib.Omega.{arith}
use borrow.Author.Tests.{le-leb, lt-leb}
use lib.ListN.{length, length-append}
use Rattle.refusal.specs.Numbers.{slice_size}
use Rattle.layout.specs.Places.{copy_bytes}
use Rattle.receive.specs.declared.Received.{Received}
use Rattle.std.proofs.Common.{Result, Ok, Err}
use Rattle.refusal.specs.declared.Reason.{Reason}
use Rattle.refusal.specs.Reasons.{reason, number_in}
use Rattle.receive.specs.Receive.{fresh, fits_in, advanced, taking}
use Rattle.receive.specs.Demand.{kept_after, state_after, after, unless_refused, bytes_taken, AllTaken, size, NoneRefused, NoTrace, AnyState, Passing}
use Rattle.receive.proofs.Joined.{left, advanced-joined, advanced-nothing, fresh-left, advanced-left}

pub copy-size : copy_bytes ≡ size
unfolding copy_bytes
copy-size = refl

-- a piece that fits, and one that does not
module _ (s : Received) (p : List ℕ) where
  pub taking-fits : s.taken + length p ≤ size → taking s p ≡ Ok (advanced s p)
  unfolding taking fits_in
  taking-fits h = rw (le-leb (s.taken + length p) copy_bytes (let e : copy_bytes ≡ size = copy-size in omega arith))

  pub taking-past : size < s.taken + length p → taking s p ≡ Err (reason slice_size)
  unfolding taking fits_in
  taking-past h = rw (lt-leb (s.taken + length p) copy_bytes (let e : copy_bytes ≡ size = copy-size in omega arith))

advanced_further : (s : Received) (p : List ℕ) → (advanced s p).taken ≡ s.taken + length p
unfolding advanced
advanced_further s p = refl

pub passing : (s : Received) (p : List ℕ) → Passing s p
passing s p =
    elim (dec_le (s.taken + length p) size) [
      | yes h ↦
          let e : number_in (taking s p) ≡ 0 = ap number_in (taking-fits s p h) in
          record {
            one = (λ o. absurd (omega arith), λ l. absurd (omega arith));
            zero = (λ z. h, λ l. e);
            kept = λ l. absurd (omega arith);
            further = λ l. ap (λ (t : Result Received Reason). (kept_after s t).taken) (taking-fits s p h) ∙ advanced_further s p;
          }
      | no h ↦
          let l : size < s.taken + length p = omega arith in
          let e : number_in (taking s p) ≡ 1 = ap number_in (taking-past s p l) in
          record {
            one = (λ o. l, λ m. e);
            zero = (λ z. absurd (omega arith), λ m. absurd (omega arith));
            kept = λ m. ap (kept_after s) (taking-past s p l);
            further = λ m. absurd (omega arith);
          }
    ]

-- The state after pieces is the one that the bytes taken leave: from bytes c on, one piece and then the others.
module _ (c p : List ℕ) (ps : List (List ℕ)) where
  module _ (h : length c + length p ≤ size) where
    after_one : after (left c) (p ∷ ps) ≡ after (left (c ++ p)) ps
    after_one = ap (λ (t : Result Received Reason). after (kept_after (left c) t) ps) (taking-fits (left c) p h) ∙ ap (λ (s : Received). after s ps) (advanced-left c p)

    bytes_one : bytes_taken (left c) (p ∷ ps) ≡ p ++ bytes_taken (left (c ++ p)) ps
    bytes_one =
        ap (λ (t : Result Received Reason). unless_refused t p ++ bytes_taken (kept_after (left c) t) ps) (taking-fits (left c) p h)
        ∙ ap (λ (s : Received). p ++ bytes_taken s ps) (advanced-left c p)

    all_one : AllTaken (left (c ++ p)) ps → AllTaken (left c) (p ∷ ps)
    all_one a = (
      ap number_in (taking-fits (left c) p h),
      subst (λ (s : Received). AllTaken s ps) (sym (ap (kept_after (left c)) (taking-fits (left c) p h) ∙ advanced-left c p)) a,
    )

  module _ (h : size < length c + length p) where
    after_none : after (left c) (p ∷ ps) ≡ after (left c) ps
    after_none = ap (λ (t : Result Received Reason). after (kept_after (left c) t) ps) (taking-past (left c) p h)

    bytes-none : bytes_taken (left c) (p ∷ ps) ≡ bytes_taken (left c) ps
    bytes-none = ap (λ (t : Result Received Reason). unless_refused t p ++ bytes_taken (kept_after (left c) t) ps) (taking-past (left c) p h)

after-left : (ps : List (List ℕ)) (c : List ℕ) → after (left c) ps ≡ left (c ++ bytes_taken (left c) ps)
after-left [] c = ap left (sym (append-nil c))
after-left (p ∷ ps) c =
    elim (dec_le (length c + length p) size) [
      | yes h ↦
          after_one c p ps h
          ∙ (after-left ps (c ++ p)
          ∙ ap left (append_assoc c p (bytes_taken (left (c ++ p)) ps) ∙ ap (λ (l : List ℕ). c ++ l) (sym (bytes_one c p ps h))))
      | no h ↦
          let l : size < length c + length p = omega arith in
          after_none c p ps l ∙ (after-left ps c ∙ ap (λ (b : List ℕ). left (c ++ b)) (sym (bytes-none c p ps l)))
    ]

-- never more than a copy
most-left : (ps : List (List ℕ)) (c : List ℕ) → length c ≤ size → length c + length (bytes_taken (left c) ps) ≤ size
most-left [] c m = omega arith
most-left (p ∷ ps) c m =
    elim (dec_le (length c + length p) size) [
      | yes h ↦
          let e : length (c ++ p) ≡ length c + length p = length-append c p in
          let i : length (c ++ p) + length (bytes_taken (left (c ++ p)) ps) ≤ size = most-left ps (c ++ p) (omega arith) in
          let f : length (bytes_taken (left c) (p ∷ ps)) ≡ length p + length (bytes_taken (left (c ++ p)) ps) = ap length (bytes_one c p ps h) ∙ length-append p (bytes_taken (left (c ++ p)) ps) in
          omega arith
      | no h ↦
          let l : size < length c + length p = omega arith in
          let f : length (bytes_taken (left c) (p ∷ ps)) ≡ length (bytes_taken (left c) ps) = ap length (bytes-none c p ps l) in
          let i : length c + length (bytes_taken (left c) ps) ≤ size = most-left ps c m in
          omega arith
    ]

-- where all fit none is refused
all_left : (ps : List (List ℕ)) (c : List ℕ) → length c + length (flatten ps) ≤ size → (AllTaken (left c) ps) × (bytes_taken (left c) ps ≡ flatten ps)
unfolding flatten
all_left [] c m = (tt, refl)
all_left (p ∷ ps) c m =
    let e : length (c ++ p) ≡ length c + length p = length-append c p in
    let f : length (p ++ flatten ps) ≡ length p + length (flatten ps) = length-append p (flatten ps) in
    let h : length c + length p ≤ size = omega arith in
    let i : (AllTaken (left (c ++ p)) ps) × (bytes_taken (left (c ++ p)) ps ≡ flatten ps) = all_left ps (c ++ p) (omega arith) in
    (all_one c p ps h i.0, bytes_one c p ps h ∙ ap (λ (l : List ℕ). p ++ l) i.1)

-- from the fresh state
pub after-fresh : (ps : List (List ℕ)) → after fresh ps ≡ left (bytes_taken fresh ps)
after-fresh ps = subst (λ (s : Received). after s ps ≡ left (bytes_taken s ps)) (sym fresh-left) (after-left ps [])

pub none-refused : NoneRefused
none-refused ps m =
    subst (λ (s : Received). (AllTaken s ps) × (bytes_taken s ps ≡ flatten ps)) (sym fresh-left) (all_left ps [] (omega arith))

pub no_trace : NoTrace
no_trace ps qs e = after-fresh ps ∙ (ap left e ∙ sym (after-fresh qs))

pub any_state : (s : Received) (room : length s.block ≡ 512) → AnyState s room
any_state s room =
    record {
      two = λ p q l.
          let e : length (p ++ q) ≡ length p + length q = length-append p q in
          let f : state_after s p ≡ advanced s p = ap (kept_after s) (taking-fits s p (omega arith)) in
          let n : (advanced s p).taken ≡ s.taken + length p = advanced_further s p in
          ap (λ (t : Received). taking t q) f
          ∙ (taking-fits (advanced s p) q (omega arith)
          ∙ (ap (λ (t : Received). Ok t) (advanced-joined s room p q) ∙ sym (taking-fits s (p ++ q) l)));
      nothing = λ l. taking-fits s [] (omega arith) ∙ ap (λ (t : Received). Ok t) (advanced-nothing s);
    }

pub most : (ps : List (List ℕ)) → length (bytes_taken fresh ps) ≤ size
most ps =
    let m : length (bytes_taken (left []) ps) ≤ size = (let i : 0 + length (bytes_taken (left []) ps) ≤ size = most-left ps [] (omega arith) in omega arith) in
    subst (λ (s : Received). length (bytes_taken s ps) ≤ size) (sym fresh-left) m
