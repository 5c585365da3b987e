-- The calls that answer a bare number never give 19, and nothing stands beside a number that they give.
use Prim.Native.Nat.{ℕ, ◌+◌, ◌-◌, ◌<◌}
use mathlib.Core.Path.{◌≡◌, refl, sym, ap, ◌∙◌, subst}
use mathlib.Core.Bool.{Bool, true, false, cond, not, ◌&&◌, true≢false}
use mathlib.Core.List.{List, [], ◌∷◌}
use lib.Dec.{eqb, leb, ltb}
use lib.ListN.{length}
use native.Mathlib.Omega.{arith}
use borrow.Author.Tests.{eq-eqb, ne_eqb, ltb-true}
use Rattle.std.specs.Prelude.{Option, Some, None, Result, Ok, Err}
use Rattle.endian.specs.Bytes.{same}
use Rattle.endian.proofs.Tests.{and_left, and_right}
use Rattle.refusal.specs.Numbers.{slice_size, device_size, no_block, identity, no_record, two_records, segment_clash, no_such_store}
use Rattle.refusal.specs.Tests.{Test, first}
use Rattle.refusal.specs.Refusals.{plain}
use Rattle.refusal.specs.declared.Reason.{Reason}
use Rattle.refusal.specs.declared.Refusal.{Refusal}
use Rattle.refusal.specs.Reasons.{refusal_of, reason, reason_of, answer, refusal_in}
use Rattle.refusal.proofs.Order.{first-nil, first-pass, first_fail}
use Rattle.refusal.proofs.Reasons.{refusal_back}
use Rattle.layout.specs.declared.Device.{Device}
use Rattle.layout.specs.declared.Side.{Side}
use Rattle.layout.specs.declared.Side.TheVariants.{Front, Back}
use Rattle.layout.specs.Limits.{sector_bytes, size_allowed, device_tests}
use Rattle.layout.specs.Places.{block_sector, blocks_located, located, copy_bytes}
use Rattle.block.specs.declared.BlockFields.{BlockFields}
use Rattle.block.specs.Entry.{later_than, same_time, time_of}
use Rattle.block.specs.Block.{pool_of, blockdev_of, fields_of, read_tests, accepted_reading, reading}
use Rattle.block.specs.Writing.{write_tests}
use Rattle.copy.specs.declared.Present.{Present}
use Rattle.copy.specs.declared.PresentReading.{PresentReading}
use Rattle.copy.specs.Copy.{is_copy, block_in, area_bytes, other_area, other_side, mapped, reading_in, sized_reading, copy_reading_of, copy_reading, present_reading_of}
use Rattle.receive.specs.declared.Received.{Received}
use Rattle.receive.specs.Receive.{fits_in, taking, taken_reading, ended_with, ending}
use Rattle.discovery.specs.declared.Found.{Found}
use Rattle.discovery.specs.Discovery.{alone_of, newest_of, together_of, same_device, same_uuids, decide, decide_of}
use Rattle.discovery.specs.Discovery.{sized, discovery, is_in_step, read_answer, copy_on}
use Rattle.items.specs.declared.Head.TheVariants.{Plain, Marked}
use Rattle.items.specs.Making as Making
use Rattle.stores.specs.declared.Part.{Part}
use Rattle.sectors.specs.Apply.{apply_tests}
use Rattle.stores.specs.Stores.{sectors_of, with_entry}
use Rattle.stores.specs.Given.{within, lay_tests, block_answer, block_given, part_answer, part_tests, part_given}
use Rattle.update.specs.declared.Plan.{Plan}
use Rattle.update.specs.Plan as Update
use Rattle.mend.specs.declared.Rewrite.{Rewrite}
use Rattle.mend.specs.Mend.{emptied}
use Rattle.mend.specs.Plan as Mend
use Rattle.format.specs.Writing as Format
use Rattle.amseokbin.specs.Answers.{fields_from}
use Rattle.amseokbin.specs.Copies.{receive_answer, found_answer, step_of}
use Rattle.amseokbin.specs.Plans.{update_from, mend_from}
use Rattle.amseokbin.specs.Bare.{Other19, NoClash, Bare}
use Rattle.amseokbin.proofs.Telling.{telling}

-- no test of the list has the number 19 or one that is not known: of a list whose numbers are written out this is computed
abbrev pub free : List Test → Bool
free [] = true
free (t ∷ ts) = (not (eqb t.otherwise segment_clash) && ltb t.otherwise 25) && free ts

-- then what the list gives is none of these
abbrev Bare25 : ℕ → Type 0
Bare25 n = Other19 n × (n < 25)

not_equal : (m n : ℕ) → not (eqb m n) ≡ true → m ≡ n → ⊥
not_equal m n h e = true≢false (sym h ∙ ap not (eq-eqb m n e))

first-bare : (ts : List Test) → free ts ≡ true → Bare25 (first ts)
first-bare [] f = (λ e. let z : first [] ≡ 0 = first-nil in omega arith, let z : first [] ≡ 0 = first-nil in omega arith)
first-bare (t ∷ ts) f = go (first-bare ts) t.holds refl
  where
    h : not (eqb t.otherwise segment_clash) && ltb t.otherwise 25 ≡ true
    h = and_left (not (eqb t.otherwise segment_clash) && ltb t.otherwise 25) (free ts) f

    go : (free ts ≡ true → Bare25 (first ts)) → (b : Bool) → t.holds ≡ b → Bare25 (first (t ∷ ts))
    go r true p = subst Bare25 (sym (first-pass t.holds t.otherwise ts p)) (r (and_right (not (eqb t.otherwise segment_clash) && ltb t.otherwise 25) (free ts) f))
    go r false p =
        subst Bare25 (sym (first_fail t.holds t.otherwise ts p)) (
          not_equal t.otherwise segment_clash (and_left (not (eqb t.otherwise segment_clash)) (ltb t.otherwise 25) h),
          ltb-true t.otherwise 25 (and_right (not (eqb t.otherwise segment_clash)) (ltb t.otherwise 25) h),
        )

pub first-free : (ts : List Test) → free ts ≡ true → Other19 (first ts)
first-free ts f = (first-bare ts f).0

-- what holds of both answers holds of the one that a test chooses
either : {A : Type 0} (P : A → Type 0) (b : Bool) (x y : A) → P x → P y → P (cond b x y)
either P true x y p q = p
either P false x y p q = q

-- the refusal in an answer is bare
abbrev BareIn : {A : Type 0} → Result A Reason → Type 0
BareIn a = NoClash (refusal_in a)

-- a value, and the reasons that are given outside a list of tests
bare_plain : (n : ℕ) → Other19 n → NoClash (plain n)
bare_plain n h = (h, refl)

zero_bare : NoClash (plain 0)
zero_bare = bare_plain 0 (λ e. omega arith)

size_bare : NoClash (plain slice_size)
size_bare = bare_plain slice_size (λ e. omega arith)

none_bare : NoClash (plain no_such_store)
none_bare = bare_plain no_such_store (λ e. omega arith)

-- the reason of the first test that fails, and the answer by it
number_bare : {A : Type 0} (ts : List Test) (v : A) → free ts ≡ true → BareIn (answer (first ts) v)
number_bare ts v f = subst NoClash (sym (refusal_back (first ts) v (first-bare ts f).1)) (bare_plain (first ts) (first-free ts f))

-- an answer whose tests hold, or else the reason of the first that fails
tested : {A : Type 0} (ts : List Test) (g : Result A Reason) → free ts ≡ true → BareIn g → BareIn (cond (eqb (first ts) 0) g (Err (reason (first ts))))
tested ts g f h = go (eqb (first ts) 0) refl
  where
    same_reason : reason_of (plain (first ts)) ≡ reason (first ts)
    same_reason = ap (λ (b : Bool). cond b (Reason.SegmentClash 0 0) (reason (first ts))) (ne_eqb (first ts) segment_clash (first-free ts f))

    go : (b : Bool) → eqb (first ts) 0 ≡ b → BareIn (cond b g (Err (reason (first ts))))
    go true e = h
    go false e =
        subst (λ (r : Reason). NoClash (refusal_of r)) same_reason
        (subst (λ (b : Bool). BareIn (cond b (Ok (tt {0})) (Err (reason_of (plain (first ts)))))) e (number_bare ts (tt {0}) f))

-- as C has it
told_bare : {A : Type 0} (q : Refusal) (a : Result A Reason) → q ≡ refusal_in a → BareIn a → NoClash q
told_bare q a e h = subst NoClash (sym e) h

-- places
locate_blocks_law : (s : ℕ) → BareIn (blocks_located s)
locate_blocks_law s = either BareIn (size_allowed s) _ _ zero_bare (bare_plain device_size (λ e. omega arith))

-- of a block, of a copy's block, of a copy
read_law : (s : List ℕ) → BareIn (reading s)
unfolding reading
read_law s = number_bare (read_tests s) (accepted_reading s) refl

sized_law : (c : List ℕ) → BareIn (sized_reading c)
unfolding sized_reading
sized_law c = either BareIn (is_copy c) (reading_in c) (Err (reason slice_size)) (read_law (block_in c)) size_bare

-- an answer made of another by its value
mapped_law : {X Y : Type 0} (f : X → Y) (a : Result X Reason) → BareIn a → BareIn (mapped f a)
mapped_law f (Ok v) h = h
mapped_law f (Err e) h = h

copy_law : (c : List ℕ) → BareIn (copy_reading c)
unfolding copy_reading
copy_law c = mapped_law (copy_reading_of c) (sized_reading c) (sized_law c)

-- a copy in pieces, of any state
taking_told : (s : Received) (a : Result Received Reason) → BareIn a → NoClash (receive_answer s a).refusal
taking_told s (Ok t) h = zero_bare
taking_told s (Err r) h = h

taking_law : (s : Received) (p : List ℕ) → NoClash (receive_answer s (taking s p)).refusal
unfolding taking
taking_law s p = taking_told s (taking s p) (either BareIn (fits_in s.taken (length p)) _ _ zero_bare size_bare)

ending_law : (s : Received) → BareIn (ending s)
unfolding ending
ending_law s = mapped_law (ended_with s) (taken_reading s) (either BareIn (eqb s.taken copy_bytes) (reading s.block) (Err (reason slice_size)) (read_law s.block) size_bare)

-- discovery: neither its refusal is one with a pair nor what it says of the other copy
abbrev FoundBare : Result Found Reason → Type 0
FoundBare (Ok r) = BareIn r.other
FoundBare (Err e) = NoClash (refusal_of e)

-- one copy read alone: the other's reason is handed on
alone_law : (s : Side) (g : BlockFields) (p : Option Present) (e : Reason) → NoClash (refusal_of e) → FoundBare (alone_of s g p e)
alone_law s g None e h = bare_plain no_record (λ z. omega arith)
alone_law s g (Some p) e h = h

-- two present records
newest_law : (f b : List ℕ) (i j : BlockFields) (p q : Present) → FoundBare (newest_of f b i j p q)
newest_law f b i j p q =
    either FoundBare (same_time (time_of p.holding) (time_of q.holding)) _ _
    (either FoundBare (same (area_bytes f p.area p.holding.bytes) (area_bytes b q.area q.holding.bytes)) (Ok _) (Err (reason two_records)) zero_bare
    (bare_plain two_records (λ e. omega arith)))
    (either FoundBare (later_than (time_of q.holding) (time_of p.holding)) (Ok _) (Ok _) zero_bare zero_bare)

-- two accepted copies
together_law : (f b : List ℕ) (i j : BlockFields) (p q : Option Present) → FoundBare (together_of f b i j p q)
together_law f b i j None None = bare_plain no_record (λ e. omega arith)
together_law f b i j None (Some q) = zero_bare
together_law f b i j (Some p) None = zero_bare
together_law f b i j (Some p) (Some q) = newest_law f b i j p q

-- by what reading the two copies answered
decide_law : (r s : Result PresentReading Reason) (f b : List ℕ) → BareIn r → BareIn s → FoundBare (decide r s f b)
decide_law (Err m) (Err n) f b h k = bare_plain no_block (λ e. omega arith)
decide_law (Err m) (Ok s) f b h k = alone_law Back s.block.fields s.present m h
decide_law (Ok r) (Err n) f b h k = alone_law Front r.block.fields r.present n k
decide_law (Ok r) (Ok s) f b h k =
    either FoundBare (same_device r.block.fields s.block.fields && same_uuids r.block s.block) _ (Err (reason identity))
    (together_law f b r.block.fields s.block.fields r.present s.present) (bare_plain identity (λ e. omega arith))

-- of any two slices
discovery_law : (f b : List ℕ) → FoundBare (discovery f b)
unfolding discovery
discovery_law f b =
    either FoundBare (sized f b) (decide_of (copy_reading f) (copy_reading b) f b) (Err (reason slice_size))
    (decide_law (mapped present_reading_of (copy_reading f)) (mapped present_reading_of (copy_reading b)) f b
    (mapped_law present_reading_of (copy_reading f) (copy_law f)) (mapped_law present_reading_of (copy_reading b) (copy_law b)))
    size_bare

-- with a buffer for the record
found_law : (a : Result Found Reason) (room : ℕ) → FoundBare a → FoundBare (read_answer a room)
found_law (Err e) room h = h
found_law (Ok r) room h = either FoundBare (leb r.finding.bytes room) (Ok r) (Err (reason slice_size)) h size_bare

-- discovery's answer, as C has it
found_told : (a : Result Found Reason) (f b : List ℕ) → FoundBare a → NoClash (found_answer a f b).refusal
found_told (Ok r) f b h = zero_bare
found_told (Err e) f b h = h

other_told : (a : Result Found Reason) (f b : List ℕ) → FoundBare a → Other19 (found_answer a f b).other
other_told (Ok r) f b h = h.0
other_told (Err e) f b h = λ z. omega arith

-- in step, as C has it
step_told : (s t : Bool) → NoClash (step_of s t).refusal
step_told true t = zero_bare
step_told false t = size_bare

-- a block, with a copy of the right size and of any
block_law : (s : ℕ) (g : BlockFields) (c out : List ℕ) → BareIn (block_answer s g c out)
block_law s g c out = number_bare (write_tests out (pool_of (block_in c)) (blockdev_of (block_in c)) g) s refl

block_given_lem : (s : ℕ) (g : BlockFields) (c out : List ℕ) → BareIn (block_given s g c out)
block_given_lem s g c out = either BareIn (is_copy c) (block_answer s g c out) (Err (reason slice_size)) (block_law s g c out) size_bare

-- a store of one side
part_given_lem : (p : Part) (k : ℕ) (c r : List ℕ) (j : ℕ) (out : List ℕ) → BareIn (part_given p k c r j out)
part_given_lem p k c r j out =
    tested (part_tests k c r j out) (part_answer p k c j out) refl
    (either BareIn (ltb j k) _ _
    (either BareIn (within p.area j) (Ok _) (Err (reason no_such_store)) zero_bare none_bare)
    (block_law p.block p.fields c out))

-- a store of an update
update_law : (p : Plan) (f b r : List ℕ) (i : ℕ) (out : List ℕ) → BareIn (Update.store_answer p f b r i out)
update_law p f b r i out =
    tested (Update.store_tests p f b r i out) (Update.sides_answer p f b r i out) refl
    (either BareIn (leb i (Update.sectors_in p)) _ _
    (part_given_lem (Update.part_on Front p.front p.entry f) (Update.sectors_in p) f r i out)
    (part_given_lem (Update.part_on Back p.back p.entry b) (Update.sectors_in p) b r (i - (Update.sectors_in p + 1)) out))

-- a store of a mend that has none
none_law : (f b : List ℕ) (room : ℕ) → NoClash (refusal_of (reason (Mend.none_number f b room)))
none_law f b room = either (λ (n : ℕ). NoClash (refusal_of (reason n))) (sized f b && eqb room sector_bytes) no_such_store slice_size none_bare size_bare

-- a store of a mend, with its tests passed and with them
rewrite_law : (p : Rewrite) (x : BlockFields) (c : List ℕ) (i : ℕ) (out : List ℕ) → BareIn (Mend.rewrite_answer p x c i out)
rewrite_law p x c i out =
    either BareIn (eqb i 0) _ _ (block_given_lem (block_sector (other_side p.kept) x.device) (emptied x.device) c out)
    (either BareIn (leb i (sectors_of p.bytes + 1)) _ _
    (part_given_lem (Mend.part_for (other_side p.kept) p.area x) (sectors_of p.bytes) c (area_bytes c p.area p.bytes) (i - 1) out)
    (block_given_lem (block_sector p.kept x.device) (with_entry x (other_area p.area) None) c out))

needed_law : (p : Rewrite) (f b c : List ℕ) (i : ℕ) (out : List ℕ) → BareIn (Mend.needed_answer p f b c i out)
needed_law p f b c i out =
    tested (Mend.needed_tests p f b c i out) (Mend.rewrite_answer p (fields_of (block_in c)) c i out) refl (rewrite_law p (fields_of (block_in c)) c i out)

-- a store of any plan of a mend
mend_law : (m : Result (Option Rewrite) Reason) (f b : List ℕ) (i : ℕ) (out : List ℕ) → BareIn (Mend.store_answer m f b i out)
mend_law (Ok None) f b i out = none_law f b (length out)
mend_law (Ok (Some p)) f b i out = needed_law p f b (copy_on p.kept f b) i out
mend_law (Err e) f b i out = none_law f b (length out)

-- a store of two whole copies
format_law : (d : Device) (f b : List ℕ) (i : ℕ) (out : List ℕ) → BareIn (Format.store_answer d f b i out)
format_law d f b i out = number_bare (Format.store_tests d f b i out) _ refl

-- a mend worked out
plan_law : (a : Result Found Reason) (f b : List ℕ) → FoundBare a → BareIn (Mend.mending_after a f b)
plan_law (Err e) f b h = h
plan_law (Ok r) f b h = either BareIn (is_in_step f b) (Ok None) (Ok (Some _)) zero_bare zero_bare

mend_plan_law : (f b : List ℕ) → BareIn (Mend.mending f b)
unfolding Mend.mending
mend_plan_law f b = plan_law (discovery f b) f b (discovery_law f b)

-- call by call
pub bare : Bare
bare =
    record {
      locate_blocks = λ s. told_bare _ (blocks_located s) (telling.blocks (blocks_located s)).0 (locate_blocks_law s);
      places = λ d. told_bare _ (located d) (telling.places (located d)).0 (number_bare (device_tests d) _ refl);
      block_read = λ s. told_bare _ (reading s) (telling.block (reading s)).0 (read_law s);
      block_write = λ k out. bare_plain _ (first-free (write_tests out k.pool k.blockdev (fields_from k)) refl);
      copy_read = λ c. told_bare _ (copy_reading c) (telling.copy (copy_reading c)).0 (copy_law c);
      receive_piece = taking_law;
      receive_end = λ s. told_bare _ (ending s) (telling.copy (ending s)).0 (ending_law s);
      discover = λ f b. found_told (discovery f b) f b (discovery_law f b);
      discover_other = λ f b. other_told (discovery f b) f b (discovery_law f b);
      read_found = λ f b out.
          found_told (read_answer (discovery f b) (length out)) f b (found_law (discovery f b) (length out) (discovery_law f b));
      read_found_other = λ f b out.
          other_told (read_answer (discovery f b) (length out)) f b (found_law (discovery f b) (length out) (discovery_law f b));
      in_step = λ f b. step_told (sized f b) (is_in_step f b);
      apply = λ d content f b. bare_plain _ (first-free (apply_tests d content f b) refl);
      lay = λ c r. bare_plain _ (first-free (lay_tests c r) refl);
      record_begin = λ out size. bare_plain _ (first-free (Making.begin_tests out (Plain size)) refl);
      record_begin_marked = λ out size mark. bare_plain _ (first-free (Making.begin_tests out (Marked size mark)) refl);
      record_put = λ out i. told_bare _ (Making.put_answer out i) (telling.put (Making.put_answer out i)).0 (number_bare (Making.put_tests out i) _ refl);
      update_store = λ p f b r i out.
          told_bare _ (Update.store_answer (update_from p) f b r i out)
          (telling.store (Update.store_answer (update_from p) f b r i out) (Update.flush_after (update_from p) i)).0 (update_law (update_from p) f b r i out);
      mend_plan = λ f b. told_bare _ (Mend.mending f b) (telling.mend (Mend.mending f b)).0 (mend_plan_law f b);
      mend_store = λ p f b i out.
          told_bare _ (Mend.store_answer (mend_from p) f b i out)
          (telling.store (Mend.store_answer (mend_from p) f b i out) (Mend.flush_after (mend_from p) i)).0 (mend_law (mend_from p) f b i out);
      format_store = λ d f b i out.
          told_bare _ (Format.store_answer d f b i out) (telling.store (Format.store_answer d f b i out) (Format.flush_after i)).0 (format_law d f b i out);
    }
