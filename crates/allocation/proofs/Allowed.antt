-- What it means that an allocation or a release is not refused.
use Prim.Native.Nat.{ℕ, ◌+◌, ◌-◌, ◌≤◌, ◌<◌}
use mathlib.Core.Path.{◌≡◌}
use mathlib.Core.Bool.{true}
use mathlib.Core.List.{List, ◌++◌}
use borrow.Author.Tests.{leb-true, ltb-true}
use lib.Dec.{lit<}
use lib.ListN.{length}
use Rattle.refusal.specs.Tests.{first, AllHold}
use Rattle.refusal.proofs.Order.{Numbered, first_holds, first_split}
use Rattle.layout.specs.declared.Device.{Device}
use Rattle.runs.specs.Runs.{fitting}
use Rattle.items.specs.Head.{head_of, allows, item_bytes, most_segments}
use Rattle.items.specs.Items.{segments}
use Rattle.record.specs.Accept.{record_tests}
use Rattle.record.specs.Answers.{position_tests}
use Rattle.record.proofs.Testing.{record_numbered}
use Rattle.allocation.specs.Change.{runs_for, own_tests, allocate_tests, room_tests, release_tests}

own_numbered : (d : Device) (s : List ℕ) (k m w : ℕ) → Numbered (own_tests d s k m w)
own_numbered d s k m w = (lit< tt, (lit< tt, (lit< tt, (lit< tt, (lit< tt, tt)))))

pub record Allowed (d : Device) (s : List ℕ) (k m w : ℕ) : Type 0 where
  pub zero : first (record_tests d s) ≡ 0
  pub kind : allows (head_of s) k ≡ true
  pub some : 1 ≤ m
  pub few : length (segments s) < most_segments (head_of s)
  pub fits : fitting m (runs_for d s k) ≡ true
  pub room : length s + item_bytes ≤ w

pub allowed : (d : Device) (s : List ℕ) (k m w : ℕ) → first (allocate_tests d s k m w) ≡ 0 → Allowed d s k m w
allowed d s k m w h =
    let p : (first (record_tests d s) ≡ 0) × (first (own_tests d s k m w) ≡ 0) = first_split (record_tests d s) (own_tests d s k m w) (record_numbered d s) h in
    let a : AllHold (own_tests d s k m w) = first_holds (own_tests d s k m w) (own_numbered d s k m w) p.1 in
    record {
      zero = p.0;
      kind = a.0;
      some = leb-true 1 m a.1.0;
      few = ltb-true (length (segments s)) (most_segments (head_of s)) a.1.1.0;
      fits = a.1.1.1.0;
      room = leb-true (length s + item_bytes) w a.1.1.1.1.0;
    }

release-numbered : (s : List ℕ) (p w : ℕ) → Numbered (position_tests s p ++ room_tests s w)
release-numbered s p w = (lit< tt, (lit< tt, tt))

pub record Releasable (d : Device) (s : List ℕ) (p w : ℕ) : Type 0 where
  pub zero : first (record_tests d s) ≡ 0
  pub there : p < length (segments s)
  pub room : length s - item_bytes ≤ w

pub releasable : (d : Device) (s : List ℕ) (p w : ℕ) → first (release_tests d s p w) ≡ 0 → Releasable d s p w
releasable d s p w h =
    let q : (first (record_tests d s) ≡ 0) × (first (position_tests s p ++ room_tests s w) ≡ 0) = first_split (record_tests d s) (position_tests s p ++ room_tests s w) (record_numbered d s) h in
    let a : AllHold (position_tests s p ++ room_tests s w) = first_holds (position_tests s p ++ room_tests s w) (release-numbered s p w) q.1 in
    record { zero = q.0; there = ltb-true p (length (segments s)) a.0; room = leb-true (length s - item_bytes) w a.1.0 }
