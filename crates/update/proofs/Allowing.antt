-- An update's number, in other words than its tests.
use Prim.Native.Nat.{ℕ, ◌^◌, ◌<◌}
use mathlib.Core.Path.{◌≡◌, sym, ap, subst, ◌∙◌}
use mathlib.Core.Bool.{true}
use mathlib.Core.List.{List}
use borrow.Author.Tests.{leb-true, le-leb, lt-leb, eqb-true}
use lib.ListN.{length}
use Rattle.std.specs.Prelude.{Result, Err}
use Rattle.refusal.specs.declared.Reason.{Reason}
use Rattle.endian.specs.Bytes.{Bytes}
use Rattle.endian.proofs.Tests.{and_left, and_right}
use Rattle.refusal.specs.Tests.{first, AllHold}
use Rattle.refusal.proofs.Order.{first-pass, first_fail, first_all, first-after}
use Rattle.layout.specs.declared.Device.{Device}
use Rattle.layout.specs.declared.Side.{Side}
use Rattle.layout.specs.declared.Side.TheVariants.{Front, Back}
use Rattle.layout.specs.Limits.{most_nanoseconds, nanoseconds_allowed, device_tests}
use Rattle.layout.specs.Places.{copy_bytes}
use Rattle.block.specs.declared.Time.{Time}
use Rattle.block.specs.Entry.{later_than, time_of}
use Rattle.block.specs.Block.{fields_of}
use Rattle.record.specs.Accept.{content_tests, record_tests}
use Rattle.items.specs.Head.{head_of}
use Rattle.items.specs.Items.{segments}
use Rattle.record.specs.Demand.{RightBytes}
use Rattle.record.proofs.Right.{right_content}
use Rattle.record.proofs.Demand as Records
use Rattle.copy.specs.Copy.{is_copy, device_in, block_in, record_at, newest}
use Rattle.discovery.specs.declared.Finding.{Finding}
use Rattle.discovery.specs.declared.Found.{Found}
use Rattle.discovery.specs.Discovery.{finding_of, found_with, discovery, is_in_step, copy_on}
use Rattle.discovery.specs.Newest.{time_at}
use Rattle.discovery.proofs.Latest.{found-same}
use Rattle.crash.specs.Crash.{copy_from}
use Rattle.stores.specs.States.{Presents}
use Rattle.stores.proofs.Blocks.{number_fits}
use Rattle.stores.proofs.Places.{device-accepted}
use Rattle.stores.proofs.Holding.{held_in, record_in}
use Rattle.stores.proofs.InStep.{Stepped, in_step_facts}
use Rattle.stores.proofs.States.{stepped-found, stepped_presents, presents_stepped}
use Rattle.update.specs.Update.{tests_after, update_tests, number_after, update_number}
use Rattle.update.specs.Demand.{Allowed, Exactly, InOrder, Ordered, Started}
use Rattle.update.proofs.Planning.{not_refused}

module _ (f b : List ℕ) (t : Time) (r : List ℕ) where
  abbrev both : Side → List ℕ
  both Front = f
  both Back = b

  small : (device_in f).sectors < 256 ^ 8
  small = number_fits (block_in f) 20 8

  -- of copies in step: the tests after discovery, by what the front copy says
  module _ (s : is_in_step f b ≡ true) where
    stepped : Stepped both
    stepped = in_step_facts both s

    number_is : update_number f b t r ≡ first (tests_after (is_in_step f b) (device_in f) (time_of (held_in f)) t r)
    unfolding update_number
    number_is = ap (λ (a : Result Found Reason). number_after a f b t r) (stepped-found both stepped)

    its_time : (u : Time) (q : List ℕ) → Presents f u q → time_of (held_in f) ≡ u
    its_time u q p = (stepped_presents both stepped Front u q p).0

    -- the device numbers of an accepted block are allowed
    device-allowed : AllHold (device_tests (device_in f))
    device-allowed = device-accepted (block_in f) (stepped.accepted Front)

    right_of : Bytes r → AllHold (content_tests (device_in f) r) → RightBytes (device_in f) r
    right_of bytes h =
        let z : first (record_tests (device_in f) r) ≡ 0 = first-after (device_tests (device_in f)) (content_tests (device_in f) r) device-allowed ∙ first_all (content_tests (device_in f) r) h in
        record {
          head = head_of r;
          list = segments r;
          right = ((Records.exactly (device_in f) r small bytes).0 z).1;
          is = ((Records.exactly (device_in f) r small bytes).0 z).0;
        }

  -- a number of 0, and what it says
  module _ (bytes : Bytes r) (z : update_number f b t r ≡ 0) where
    abbrev found : Finding
    found = (not_refused f b t r z).0.finding

    holds : AllHold (update_tests f b found t r)
    holds = (not_refused f b t r z).1.1

    is_found : discovery f b ≡ found_with found (not_refused f b t r z).0.other
    is_found = (not_refused f b t r z).1.0

    its-stepped : Stepped both
    its-stepped = in_step_facts both holds.0

    same-found : found ≡ finding_of Front (fields_of (block_in f)) (record_at (newest (fields_of (block_in f))) (held_in f))
    same-found = sym (found-same found _ _ _ (sym (stepped-found both its-stepped) ∙ is_found))

    at_copy : (w : Side) → Presents (copy_on w f b) (time_of (held_in f)) (record_in f)
    at_copy Front = presents_stepped both its-stepped Front
    at_copy Back = presents_stepped both its-stepped Back

    allowed : Allowed f b t r
    allowed =
        record {
          front-copy = eqb-true (length f) copy_bytes (and_left (is_copy f) (is_copy b) its-stepped.sizes);
          back-copy = eqb-true (length b) copy_bytes (and_right (is_copy f) (is_copy b) its-stepped.sizes);
          found = found;
          other = (not_refused f b t r z).0.other;
          answers = is_found;
          in_step = holds.0;
          nanoseconds = leb-true t.nanoseconds most_nanoseconds holds.1.0;
          old = time_of (held_in f);
          old_record = record_in f;
          presents = at_copy;
          later = ap (λ (q : Finding). later_than t (time_at q)) (sym same-found) ∙ holds.1.1.0;
          right = right_of holds.0 bytes (subst (λ (q : Finding). AllHold (content_tests q.fields.device r)) same-found holds.1.1.1);
        }

  -- and back
  module _ (a : Allowed f b t r) where
    not-any : update_number f b t r ≡ 0
    not-any =
        number_is a.in_step
        ∙ first_all (tests_after (is_in_step f b) (device_in f) (time_of (held_in f)) t r) (
          a.in_step,
          (
            le-leb t.nanoseconds most_nanoseconds a.nanoseconds,
            (ap (later_than t) (its_time a.in_step a.old a.old_record (a.presents Front)) ∙ a.later, right_content (device_in f) r small a.right),
          ),
        )

  by_answer : (a : Result Found Reason) → discovery f b ≡ a → update_number f b t r ≡ number_after a f b t r
  unfolding update_number
  by_answer a e = ap (λ (z : Result Found Reason). number_after z f b t r) e

  in_order : InOrder f b t r
  in_order =
      record {
        refused = λ n e. by_answer (Err n) e;
        apart = λ q o e h. by_answer (found_with q o) e ∙ first_fail (is_in_step f b) 16 _ h;
        limit = λ s h. number_is s ∙ (first-pass (is_in_step f b) 16 _ s ∙ first_fail (nanoseconds_allowed t.nanoseconds) 9 _ (lt-leb t.nanoseconds most_nanoseconds h));
        earlier = λ s n u q p h.
            number_is s
            ∙ (first-pass (is_in_step f b) 16 _ s
            ∙ (first-pass (nanoseconds_allowed t.nanoseconds) 9 _ (le-leb t.nanoseconds most_nanoseconds n)
            ∙ first_fail (later_than t (time_of (held_in f))) 14 _ (ap (later_than t) (its_time s u q p) ∙ h)));
        content = λ s n u q p h.
            number_is s
            ∙ (first-pass (is_in_step f b) 16 _ s
            ∙ (first-pass (nanoseconds_allowed t.nanoseconds) 9 _ (le-leb t.nanoseconds most_nanoseconds n)
            ∙ first-pass (later_than t (time_of (held_in f))) 14 _ (ap (later_than t) (its_time s u q p) ∙ h)));
      }

pub exactly : Exactly
exactly f b t r bytes = (allowed f b t r bytes, not-any f b t r)

pub ordered : Ordered
ordered f b t r = in_order f b t r

pub started : Started
started v d t r sd says bytes fits z =
    let a : Allowed (copy_from Front v d) (copy_from Back v d) t r = (exactly (copy_from Front v d) (copy_from Back v d) t r bytes).0 z in (
      a.old,
      (
        a.old_record,
        record {
          ready = record { sound = sd; says = says; in_step = (a.in_step, a.presents) };
          fits = fits;
          nanoseconds = a.nanoseconds;
          later = a.later;
          right = subst (λ (w : Device). RightBytes w r) (says Front) a.right;
        },
      ),
    )
