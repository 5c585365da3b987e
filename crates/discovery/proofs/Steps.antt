-- In step, proved in the words of `specs/Demand.antt`.
use Prim.Native.Nat.{ℕ}
use mathlib.Core.Path.{◌≡◌, sym, ap, ap₂, ◌∙◌}
use mathlib.Core.Bool.{Bool, true, ◌&&◌, true≢false}
use mathlib.Core.List.{List}
use Rattle.std.proofs.Common.{Result}
use Rattle.refusal.specs.declared.Reason.{Reason}
use Rattle.endian.specs.Bytes.{same}
use Rattle.endian.proofs.Tests.{and_left, and_right, and_both}
use Rattle.layout.specs.declared.Area.{Area}
use Rattle.block.specs.declared.Holding.{Holding}
use Rattle.block.specs.declared.Reading.{Reading}
use Rattle.block.specs.Entry.{same_time, time_of}
use Rattle.block.specs.Block.{accepted_reading}
use Rattle.block.specs.Writing.{holding_of}
use Rattle.block.proofs.Demand as Block
use Rattle.copy.specs.declared.CopyReading.{CopyReading}
use Rattle.copy.specs.Copy.{record_at, is_copy, area_bytes, entry_in, whole, newest, reading_in, copy_reading}
use Rattle.copy.specs.Demand.{Sized, signature_block, AcceptedCopy, WholeArea, LaterEntry}
use Rattle.copy.proofs.Demand.{sized-copy, copy-sized, fields_in, nanoseconds, holding_in, later-newest, newest-whole, whole-newest, View, not_taken, taken, view}
use Rattle.discovery.specs.Discovery.{same_device, same_uuids, sized, agree, stepped, in_step_of, is_in_step}
use Rattle.discovery.specs.Demand.{Stepped, InStep}
use Rattle.discovery.proofs.Demand.{same-moment, moment-same, same_bytes, bytes_same, same-identity, identity-same}

module _ (f b : List ℕ) where
  -- by what reading the two blocks answered
  abbrev step_of : Result Reading Reason → Result Reading Reason → Bool
  step_of r s = in_step_of r s f b

  -- the entry with the later time, by its place
  abbrev newestHolding : List ℕ → Holding
  newestHolding c = holding_of (entry_in (fields_in c) (newest (fields_in c)))

  newest-holding : (c : List ℕ) → AcceptedCopy c → (x : Area) (h : Holding) → LaterEntry c x h → newestHolding c ≡ h
  newest-holding c a x h l = ap (λ (y : Area). holding_of (entry_in (fields_in c) y)) (later-newest c a x h l) ∙ holding_in c a x h l.used

  abbrev records : Bool
  records = agree f b (record_at (newest (fields_in f)) (newestHolding f)) (record_at (newest (fields_in b)) (newestHolding b))

  abbrev one : Bool
  one = same_device (fields_in f) (fields_in b) && same_uuids (accepted_reading (signature_block f)) (accepted_reading (signature_block b))

  module _ (af : AcceptedCopy f) (ab : AcceptedCopy b) where
    in_step : one && stepped f (fields_in f) b (fields_in b) ≡ true → Stepped f b
    in_step e =
        let p : stepped f (fields_in f) b (fields_in b) ≡ true = and_right one (stepped f (fields_in f) b (fields_in b)) e in
        let q : whole b (fields_in b) (newest (fields_in b)) && records ≡ true =
        and_right (whole f (fields_in f) (newest (fields_in f))) (whole b (fields_in b) (newest (fields_in b)) && records) p in
        let r : records ≡ true = and_right (whole b (fields_in b) (newest (fields_in b))) records q in
        let u : (h : Holding) × LaterEntry f (newest (fields_in f)) h × WholeArea f (newest (fields_in f)) h =
        newest-whole f af (and_left (whole f (fields_in f) (newest (fields_in f))) (whole b (fields_in b) (newest (fields_in b)) && records) p) in
        let v : (h : Holding) × LaterEntry b (newest (fields_in b)) h × WholeArea b (newest (fields_in b)) h =
        newest-whole b ab (and_left (whole b (fields_in b) (newest (fields_in b))) records q) in
        let g : agree f b (record_at (newest (fields_in f)) u.0) (record_at (newest (fields_in b)) v.0) ≡ true =
        ap₂ (λ (h k : Holding). agree f b (record_at (newest (fields_in f)) h) (record_at (newest (fields_in b)) k)) (sym (newest-holding f af (newest (fields_in f)) u.0 u.1))
        (sym (newest-holding b ab (newest (fields_in b)) v.0 v.1))
        ∙ r in
        let t : Bool = same_time (time_of u.0) (time_of v.0) in
        let w : Bool = same (area_bytes f (newest (fields_in f)) u.0.bytes) (area_bytes b (newest (fields_in b)) v.0.bytes) in
        record {
          identity = same-identity f b (and_left one (stepped f (fields_in f) b (fields_in b)) e);
          x = newest (fields_in f);
          h = u.0;
          front = u.1;
          front-whole = u.2;
          y = newest (fields_in b);
          k = v.0;
          back = v.1;
          back_whole = v.2;
          time = same-moment u.0 v.0 (and_left t w g);
          bytes = same_bytes f b (newest (fields_in f)) u.0 (newest (fields_in b)) v.0 (and_right t w g);
        }

  step_in : Stepped f b → one && stepped f (fields_in f) b (fields_in b) ≡ true
  step_in s =
      let af : AcceptedCopy f = s.front-whole.accepted in
      let ab : AcceptedCopy b = s.back_whole.accepted in
      let t : Bool = same_time (time_of s.h) (time_of s.k) in
      let w : Bool = same (area_bytes f s.x s.h.bytes) (area_bytes b s.y s.k.bytes) in
      let g : agree f b (record_at s.x s.h) (record_at s.y s.k) ≡ true =
      and_both t w
      (moment-same s.h s.k (nanoseconds f af s.x s.h s.front-whole.used) (nanoseconds b ab s.y s.k s.back_whole.used) s.time)
      (bytes_same f b s.x s.h s.y s.k s.bytes) in
      let r : records ≡ true =
      ap₂ (λ (x y : Area). agree f b (record_at x (newestHolding f)) (record_at y (newestHolding b))) (later-newest f af s.x s.h s.front) (later-newest b ab s.y s.k s.back)
      ∙ (ap₂ (λ (h k : Holding). agree f b (record_at s.x h) (record_at s.y k)) (newest-holding f af s.x s.h s.front) (newest-holding b ab s.y s.k s.back) ∙ g) in
      and_both one (stepped f (fields_in f) b (fields_in b)) (identity-same f b s.identity)
      (and_both (whole f (fields_in f) (newest (fields_in f))) (whole b (fields_in b) (newest (fields_in b)) && records)
      (whole-newest f af s.x s.h s.front s.front-whole)
      (and_both (whole b (fields_in b) (newest (fields_in b))) records (whole-newest b ab s.y s.k s.back s.back_whole) r))

  -- by what reading the copies says
  decided : (r s : Result CopyReading Reason) → View f r → View b s → Sized f → Sized b → step_of (reading_in f) (reading_in b) ≡ true → Stepped f b
  decided r s (not_taken n d l u v w) y sf sb e = absurd (true≢false (sym e ∙ ap (λ (q : Result Reading Reason). step_of q (reading_in b)) (sym (v sf))))
  decided r s (taken x) (not_taken n d l u v w) sf sb e =
      absurd (true≢false (sym e ∙ ap₂ step_of ((Block.exactly (signature_block f)).0 x.block) (sym (v sb))))
  decided r s (taken x) (taken y) sf sb e =
      in_step x y (sym (ap₂ step_of ((Block.exactly (signature_block f)).0 x.block) ((Block.exactly (signature_block b)).0 y.block)) ∙ e)

  forth : is_in_step f b ≡ true → Stepped f b
  unfolding is_in_step
  forth e =
      let z : sized f b ≡ true = and_left (sized f b) (step_of (reading_in f) (reading_in b)) e in
      decided (copy_reading f) (copy_reading b) (view f) (view b) (copy-sized f (and_left (is_copy f) (is_copy b) z)) (copy-sized b (and_right (is_copy f) (is_copy b) z))
      (and_right (sized f b) (step_of (reading_in f) (reading_in b)) e)

  back : Stepped f b → is_in_step f b ≡ true
  unfolding is_in_step
  back s =
      and_both (sized f b) (step_of (reading_in f) (reading_in b))
      (and_both (is_copy f) (is_copy b) (sized-copy f s.front-whole.accepted.size) (sized-copy b s.back_whole.accepted.size))
      (ap₂ step_of ((Block.exactly (signature_block f)).0 s.front-whole.accepted.block) ((Block.exactly (signature_block b)).0 s.back_whole.accepted.block)
      ∙ step_in s)

pub steps : InStep
steps f b = (forth f b, back f b)
