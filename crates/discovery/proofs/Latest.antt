-- The record that discovery names is whole, and none whole is later: what `Demand.Finds` says, in the definitions' words.
use Prim.Native.Nat.{ℕ}
use mathlib.Core.Path.{◌≡◌, refl, sym, ap, subst, ◌∙◌}
use mathlib.Core.Bool.{true, false}
use mathlib.Core.List.{List}
use native.Mathlib.Omega.{arith}
use Rattle.std.proofs.Common.{Result, Ok, Err}
use Rattle.refusal.specs.declared.Reason.{Reason}
use Rattle.block.specs.Accepted.{Accepted}
use Rattle.layout.specs.declared.Side.{Side}
use Rattle.layout.specs.declared.Area.{Area}
use Rattle.block.specs.declared.Holding.{Holding}
use Rattle.block.specs.declared.BlockFields.{BlockFields}
use Rattle.block.specs.declared.Reading.{Reading}
use Rattle.block.specs.Entry.{later_than, time_of}
use Rattle.block.specs.Writing.{holding_of}
use Rattle.block.proofs.Demand as Block
use Rattle.copy.specs.Copy.{entry_in, whole, record_at, present_at, mapped, reading_in}
use Rattle.copy.specs.Demand.{signature_block, AcceptedCopy, WholeArea}
use Rattle.copy.proofs.Demand.{fields_in, nanoseconds, less-not_later, whole_area, area_whole, holding_in, record_present}
use Rattle.discovery.specs.declared.Finding.{Finding}
use Rattle.discovery.specs.Discovery.{found_with, finding_of, discovery, copy_on}
use Rattle.discovery.specs.Newest.{Newest}
use Rattle.discovery.specs.Demand.{Finds}
use Rattle.discovery.proofs.Demand.{exactly, finding_is, same_other}
pub use Rattle.discovery.proofs.Demand.{refused_found, found-same}

-- an accepted block's fields are its own
abbrev fields_read : List ℕ → Result BlockFields Reason
fields_read c = mapped (λ (r : Reading). r.fields) (reading_in c)

accepted-fields : (c : List ℕ) → AcceptedCopy c → fields_read c ≡ Ok (fields_in c)
accepted-fields c a = ap (mapped (λ (r : Reading). r.fields)) ((Block.exactly (signature_block c)).0 a.block)

fields-accepted : (c : List ℕ) (g : BlockFields) → fields_read c ≡ Ok g → Accepted (signature_block c)
fields-accepted c g e = go (reading_in c) refl e
  where
    go : (r : Result Reading Reason) → reading_in c ≡ r → mapped (λ (q : Reading). q.fields) r ≡ Ok g → Accepted (signature_block c)
    go (Ok q) h k = (Block.exactly (signature_block c)).1 q h
    go (Err x) h k = absurd (let o : ◌≡◌ {A = ℕ} 0 1 = cc in omega arith)

accepted-same : (g e : BlockFields) → ◌≡◌ {A = Result BlockFields Reason} (Ok g) (Ok e) → g ≡ e
accepted-same g e p = cc

-- what discovery finds is whole, and no whole record is later
pub newest-found : (f b : List ℕ) (r : Finding) (o : Result BlockFields Reason) → discovery f b ≡ found_with r o → Newest f b r
newest-found f b r o e = subst (Newest f b) (sym (finding_is f b r o n))
    (record {
      accepted = accepted-fields c a;
      its_present = record_present c a r.area h (record { whole = w; none-later = n.none-later r.side }) ∙ ap (present_at r.area) (sym k);
      its_area_is_whole = area_whole c r.area h w;
      is = ap (λ (i : Holding). finding_of r.side (fields_in c) (record_at r.area i)) (sym k);
      none-later = none-later;
    })
  where
    n : Finds f b r o
    n = ((exactly f b).found r o).0 e

    c : List ℕ
    c = copy_on r.side f b

    h : Holding
    h = n.h

    w : WholeArea c r.area h
    w = n.whole

    a : AcceptedCopy c
    a = w.accepted

    k : holding_of (entry_in (fields_in c) r.area) ≡ h
    k = holding_in c a r.area h w.used

    none-later : (s : Side) (g : BlockFields) (y : Area) → fields_read (copy_on s f b) ≡ Ok g
        → whole (copy_on s f b) g y ≡ true → later_than (time_of (holding_of (entry_in g y))) (time_of h) ≡ false
    none-later s g y v u =
        let d : AcceptedCopy (copy_on s f b) = record { size = n.size s; block = fields-accepted (copy_on s f b) g v } in
        let i : g ≡ fields_in (copy_on s f b) = accepted-same g (fields_in (copy_on s f b)) (sym v ∙ accepted-fields (copy_on s f b) d) in
        let m : (j : Holding) × WholeArea (copy_on s f b) y j = whole_area (copy_on s f b) d y (ap (λ (t : BlockFields). whole (copy_on s f b) t y) (sym i) ∙ u) in
        ap (λ (t : Holding). later_than (time_of t) (time_of h)) (ap (λ (t : BlockFields). holding_of (entry_in t y)) i ∙ holding_in (copy_on s f b) d y m.0 m.1.used)
        ∙ less-not_later h m.0 (nanoseconds c a r.area h w.used) (nanoseconds (copy_on s f b) d y m.0 m.1.used) (n.none-later s y m.0 m.1)

-- an answer says one other copy too
pub found_other : (r : Finding) (o : Result BlockFields Reason) (q : Finding) (p : Result BlockFields Reason) → found_with q p ≡ found_with r o → p ≡ o
found_other r o q p e = same_other q r p o e
