-- What sectors that could not be read can change, proved: two copies from one each.
use Prim.Native.Nat.{ℕ}
use mathlib.Core.Path.{◌≡◌, refl, sym, ap, ap₂, ◌∙◌}
use mathlib.Core.Bool.{Bool, true, cond, ◌&&◌}
use mathlib.Core.List.{List}
use borrow.Author.Tests.{eq-eqb}
use lib.Dec.{eqb}
use lib.ListN.{length, get_or-replicate}
use Rattle.std.specs.Prelude.{Option, Some, None, Result, Ok, Err}
use Rattle.endian.specs.Bytes.{same, zeros}
use Rattle.endian.proofs.Tests.{and_left, and_right, and_both}
use Rattle.refusal.specs.declared.Reason.{Reason}
use Rattle.refusal.specs.Numbers.{identity, two_records}
use Rattle.refusal.specs.Reasons.{reason}
use Rattle.layout.specs.declared.Area.{Area}
use Rattle.layout.specs.declared.Side.{Side}
use Rattle.layout.specs.declared.Side.TheVariants.{Front, Back}
use Rattle.layout.specs.Places.{copy_bytes}
use Rattle.block.specs.declared.Holding.{Holding}
use Rattle.block.specs.declared.BlockFields.{BlockFields}
use Rattle.block.specs.declared.Reading.{Reading}
use Rattle.block.specs.Entry.{later_than, same_time, time_of}
use Rattle.block.specs.Writing.{holding_of}
use Rattle.copy.specs.declared.Present.{Present}
use Rattle.discovery.specs.declared.Finding.{Finding}
use Rattle.discovery.specs.declared.Found.{Found}
use Rattle.copy.specs.Copy.{is_copy, area_bytes, entry_in, newest, mapped, present_at, present, reading_in}
use Rattle.discovery.specs.Discovery.{finding_of, found_with, alone_of, together_of, same_device, same_uuids, sized, discovery, stepped, in_step_of, is_in_step, copy_on, record_bytes}
use Rattle.discovery.specs.Newest.{Newest}
use Rattle.discovery.proofs.Deciding.{decide_at, discovery-sized}
use Rattle.discovery.proofs.Latest.{newest-found}
use Rattle.crash.specs.Crash.{copy_from}
use Rattle.sectors.specs.Sectors.{copy_sectors, is_read, known, settled}
use Rattle.sectors.specs.Demand.{SameCopy, SameBoth, Settled, NoneMarked, AllRead, Sure}
use Rattle.sectors.proofs.Alone.{whole_same, alone, none_marked, block_none}
use Rattle.sectors.proofs.Placed.{placed}

-- the fields of an accepted block, and of its present record the same bytes
present_bytes : {c e : List ℕ} → SameCopy c e → (v : Result Reading Reason) → reading_in c ≡ v → (x : BlockFields) → mapped (λ (r : Reading). r.fields) v ≡ Ok x
    → (y : Area) (h : Holding) → present c x ≡ present_at y h → area_bytes e y h.bytes ≡ area_bytes c y h.bytes
present_bytes {c} {e} s (Ok r) a x p y h q =
    let z : r.fields ≡ x = cc in
    s.bytes r y h a (ap (present c) z ∙ q)
present_bytes {c} {e} s (Err n) a x p y h q = cc

module _ {f b g k : List ℕ} (sf : SameCopy f g) (sb : SameCopy b k) where
  on : (s : Side) → SameCopy (copy_on s f b) (copy_on s g k)
  on Front = sf
  on Back = sb

  -- both blocks accepted
  module _ (r q : Reading) (ar : reading_in f ≡ Ok r) (aq : reading_in b ≡ Ok q) where
    abbrev x : BlockFields
    x = r.fields

    abbrev y : BlockFields
    y = q.fields

    together : (p s : Option Present) → present f x ≡ p → present b y ≡ s → together_of g k x y p s ≡ together_of f b x y p s
    together None None c e = refl
    together None (Some s) c e = refl
    together (Some p) None c e = refl
    together (Some p) (Some s) c e =
        ap₂
        (λ (u v : List ℕ). cond (same_time (time_of p.holding) (time_of s.holding))
        (cond (same u v) (found_with (finding_of Front x p) (Ok y)) (Err (reason two_records)))
        (cond (later_than (time_of s.holding) (time_of p.holding)) (found_with (finding_of Back y s) (Ok x)) (found_with (finding_of Front x p) (Ok y))))
        (sf.bytes r p.area p.holding ar c) (sb.bytes q s.area s.holding aq e)

    together-same : together_of g k x y (present g x) (present k y) ≡ together_of f b x y (present f x) (present b y)
    together-same = ap₂ (together_of g k x y) (sf.its_present r ar) (sb.its_present q aq) ∙ together (present f x) (present b y) refl refl

    stepped_same : stepped g x k y ≡ stepped f x b y
    stepped_same =
        ap₂ ◌&&◌ (whole_same f g (newest x) (entry_in x (newest x)) (sf.newest_area r ar))
        (ap₂ ◌&&◌ (whole_same b k (newest y) (entry_in y (newest y)) (sb.newest_area q aq))
        (ap₂ (λ (s t : List ℕ). same_time (time_of (holding_of (entry_in x (newest x)))) (time_of (holding_of (entry_in y (newest y)))) && same s t)
        (sf.newest_area r ar) (sb.newest_area q aq)))

  decided : (v w : Result Reading Reason) → reading_in f ≡ v → reading_in b ≡ w → decide_at g k v w ≡ decide_at f b v w
  decided (Err m) (Err n) p q = refl
  decided (Err m) (Ok s) p q = ap (λ (z : Option Present). alone_of Back s.fields z m) (sb.its_present s q)
  decided (Ok r) (Err n) p q = ap (λ (z : Option Present). alone_of Front r.fields z n) (sf.its_present r p)
  decided (Ok r) (Ok s) p q =
      ap (λ (z : Result Found Reason). cond (same_device r.fields s.fields && same_uuids r s) z (Err (reason identity))) (together-same r s p q)

  in_step : (v w : Result Reading Reason) → reading_in f ≡ v → reading_in b ≡ w → in_step_of v w g k ≡ in_step_of v w f b
  in_step (Err m) w p q = refl
  in_step (Ok r) (Err n) p q = refl
  in_step (Ok r) (Ok s) p q = ap (λ (z : Bool). (same_device r.fields s.fields && same_uuids r s) && z) (stepped_same r s p q)

  module _ (zf : sized f b ≡ true) (zg : sized g k ≡ true) where
    answers-same : discovery g k ≡ discovery f b
    answers-same =
        discovery-sized g k zg
        ∙ (ap₂ (decide_at g k) sf.reads sb.reads ∙ (decided (reading_in f) (reading_in b) refl refl ∙ sym (discovery-sized f b zf)))

    step_same : is_in_step g k ≡ is_in_step f b
    unfolding is_in_step
    step_same =
        ap₂ ◌&&◌ (zg ∙ sym zf)
        (ap₂ (λ (v w : Result Reading Reason). in_step_of v w g k) sf.reads sb.reads ∙ in_step (reading_in f) (reading_in b) refl refl)

    found-same : (r : Finding) (o : Result BlockFields Reason) → discovery f b ≡ found_with r o → record_bytes r g k ≡ record_bytes r f b
    found-same r o e =
        let n : Newest f b r = newest-found f b r o e in
        let l : r.bytes ≡ (holding_of (entry_in r.fields r.area)).bytes = ap (λ (q : Finding). q.bytes) n.is in
        ap (area_bytes (copy_on r.side g k) r.area) l
        ∙ (present_bytes (on r.side) (reading_in (copy_on r.side f b)) refl r.fields n.accepted r.area (holding_of (entry_in r.fields r.area)) n.its_present
        ∙ ap (area_bytes (copy_on r.side f b) r.area) (sym l))

    both-same : SameBoth f b g k
    both-same = record { answers = answers-same; step = step_same; bytes = found-same }

pub sizes : (f b : List ℕ) → length f ≡ copy_bytes → length b ≡ copy_bytes → sized f b ≡ true
sizes f b p q =
    and_both (is_copy f) (is_copy b) (eq-eqb (length f) copy_bytes p) (eq-eqb (length b) copy_bytes q)

pub settled_same : Settled
unfolding settled
settled_same f b g k fm bm af ab s =
    both-same (alone fm f g af (and_left (known f fm) (known b bm) s)) (alone bm b k ab (and_right (known f fm) (known b bm) s))
    (sizes f b af.size ab.size) (sizes g k af.size_too ab.size_too)

zero_marks : NoneMarked (zeros copy_sectors)
unfolding is_read zeros
zero_marks i l = ap (λ (x : ℕ). eqb x 0) (get_or-replicate copy_sectors i 0 1 l)

both_known : (f b fm bm : List ℕ) → NoneMarked fm → NoneMarked bm → settled f b fm bm ≡ true
unfolding settled
both_known f b fm bm p q = and_both (known f fm) (known b bm) (none_marked f fm p) (none_marked b bm q)

pub all_read : AllRead
all_read = record { none_marked = both_known; zero_marks = zero_marks; block_none = block_none }

pub sure : Sure
sure v d f b fm bm ok h rf rb =
    settled_same f b (copy_from Front v d) (copy_from Back v d) fm bm ((placed Front v d ok h).agrees fm f rf) ((placed Back v d ok h).agrees bm b rb)
