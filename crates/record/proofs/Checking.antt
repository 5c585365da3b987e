-- What a check answers of a record that passes all tests but the last.
use Rattle.std.proofs.Common.{◌≡◌, ℕ, Bool, true, false, List, length, leb, refl, sym, ap, ◌∙◌, le-leb, is_ok}
use mathlib.Core.Bool.{true≢false}
use Rattle.std.specs.Prelude.{Ok, Err, Result, Option, MatchResult}
use Rattle.std.specs.Result.{IsErrAnd}
use Rattle.refusal.specs.declared.Reason.{Reason}
use Rattle.refusal.specs.declared.Reason.TheVariants as Reason
use Rattle.refusal.specs.Tests.{first}
use Rattle.layout.specs.declared.Device.{Device}
use Rattle.layout.specs.Limits.{length_allowed}
use Rattle.search.proofs.Search.{every_all}
use Rattle.segments.specs.Segments.{nth}
use Rattle.segments.specs.Clash.{apart}
use Rattle.segments.specs.Order.{all_some, orderly}
use Rattle.items.specs.Head.{head_of}
use Rattle.items.specs.Items.{segments, well_formed}
use Rattle.order.specs.declared.Clash.{Clash}
use Rattle.order.specs.Ordering.{order, has_order, positions_in}
use Rattle.order.proofs.Ordering.{order_not, order-yes}
use Rattle.record.specs.Accept.{all_in_range, content_tests, checked, clash_reason}
use Rattle.record.proofs.Naming.{clash_named}
use Rattle.record.proofs.Accepted.{ranges_all, fewer_of}

-- what a check answers by the order of the segments
abbrev pub ordered_as : Result (List ℕ) (Option Clash) → Result (List ℕ) Reason
ordered_as (Ok p) = Ok p
ordered_as (Err c) = Err (clash_reason c)

-- why, by an answer with no positions
abbrev reason_in : Result (Unit {0}) (Option Clash) → Result (List ℕ) Reason
reason_in (Ok u) = Err Reason.SegmentPlace
reason_in (Err c) = Err (clash_reason c)

pub mapped : (o : Result (List ℕ) (Option Clash)) (r : Result (List ℕ) Reason) (P : Option Clash → Reason → Type 0)
    → ((c : Option Clash) (e : Reason) → P c e → e ≡ clash_reason c) → MatchResult o (λ p. r ≡ Ok p) (λ c. IsErrAnd r (P c)) → r ≡ ordered_as o
mapped (Ok p) r P f h = h
mapped (Err c) (Ok p) P f h = absurd h
mapped (Err c) (Err e) P f h = ap Err (f c e h)

-- the positions in place, and why there are none
pub in_place : (o : Result (List ℕ) (Option Clash)) (p : List ℕ) → Ok tt ≡ has_order o → p ≡ positions_in o → Ok p ≡ ordered_as o
in_place (Ok q) p h e = ap Ok e
in_place (Err c) p h e = absurd (true≢false (ap is_ok h))

pub no_place : (o : Result (List ℕ) (Option Clash)) (c : Option Clash) → Err c ≡ has_order o → Err (clash_reason c) ≡ ordered_as o
no_place (Ok q) c h = absurd (true≢false (sym (ap is_ok h)))
no_place (Err e) c h = ap (λ (r : Result (Unit {0}) (Option Clash)). reason_in r) h

module _ (d : Device) (s : List ℕ) (b : length_allowed (length s) ≡ true) (w : well_formed d s ≡ true) (r : all_in_range d (head_of s) (segments s) ≡ true) where
  -- no segment is empty
  orderly_apart : orderly (segments s) ≡ apart (segments s)
  unfolding orderly all_some
  orderly_apart = rw (every_all (λ i. leb 1 (nth (segments s) i).sectors) (length (segments s)) (λ i l. le-leb 1 (nth (segments s) i).sectors (ranges_all d (head_of s) (segments s) r i l).some))

  pub ordered_checked : ordered_as (order (segments s)) ≡ checked (first (content_tests d s)) s
  unfolding first checked
  ordered_checked = go (apart (segments s)) refl
    where
      go : (a : Bool) → apart (segments s) ≡ a → ordered_as (order (segments s)) ≡ checked (first (content_tests d s)) s
      go true a = rw (b, w, r, a) (ap ordered_as (order-yes (segments s) (fewer_of d s b w) (orderly_apart ∙ a)))
      go false a = rw (b, w, r, a) (ap ordered_as (order_not (segments s) (orderly_apart ∙ a)) ∙ ap Err (clash_named s a))
