-- What the C calls answer is the libraries' numbers and values; on a refusal zero in every other field.
use Prim.Native.Nat.{ℕ, ◌+◌, ◌^◌, ◌<◌}
use mathlib.Core.Path.{◌≡◌, refl, sym, ap, ap₂, ◌∙◌}
use mathlib.Core.Bool.{Bool, true, false, cond, ◌&&◌}
use lib.Dec.{eqb}
use mathlib.Core.List.{List, [], ◌∷◌, ◌++◌}
use native.Mathlib.Nat.{le_refl}
use Rattle.std.proofs.Common.{zero-le}
use lib.ListN.{length}
use Rattle.endian.specs.Bytes.{zeros}
use Rattle.refusal.specs.Tests.{first}
use Rattle.refusal.specs.Refusals.{plain}
use Rattle.layout.specs.Answers.{map_numbers, located_values, blocks_values}
use Rattle.layout.specs.declared.BlockSectors.{BlockSectors}
use Rattle.layout.specs.declared.DeviceMap.{DeviceMap}
use Rattle.std.specs.Prelude.{Option, Some, None, Result, Ok, Err}
use Rattle.refusal.specs.declared.Reason.{Reason}
use Rattle.refusal.specs.Reasons.{told, refusal_in}
use Rattle.refusal.proofs.Reasons.{told_zero, told_other}
use Rattle.segments.specs.declared.Segment.{Segment}
use Rattle.runs.specs.declared.Run.{Run}
use Rattle.discovery.specs.declared.Found.{Found}
use Rattle.mend.specs.declared.Rewrite.{Rewrite}
use Rattle.update.specs.declared.Plan.{Plan}
use Rattle.block.specs.declared.BlockFields.{BlockFields}
use Rattle.block.specs.declared.Reading.{Reading}
use Rattle.block.specs.declared.Holding.{Holding}
use Rattle.block.specs.Entry.{entry_of}
use Rattle.block.specs.Writing.{holding_of, write_tests, written}
use Rattle.block.specs.Demand.{EntryFits}
use Rattle.block.proofs.RoundTrip.{holding-back}
use Rattle.block.proofs.Demand.{exactly, write-after-read, read-after-write}
use Rattle.discovery.specs.declared.Finding.{Finding}
use Rattle.discovery.specs.Discovery.{discovery, is_in_step}
use Rattle.discovery.specs.Answers.{answer_values}
use Rattle.block.specs.Answers.{reading_values}
use Rattle.block.specs.Block.{number, device_of, pool_of, blockdev_of, entry_at, fields_of, reading, accepted_reading}
use Rattle.copy.specs.declared.CopyReading.{CopyReading}
use Rattle.copy.specs.Copy.{copy_reading}
use Rattle.receive.specs.declared.Received.{Received}
use Rattle.receive.specs.Receive.{fresh, taking, ending}
use Rattle.receive.specs.Demand.{kept_after, state_after, after, unless_refused, bytes_taken}
use Rattle.receive.proofs.Following.{taking-fits, taking-past}
use Rattle.receive.proofs.Demand.{pieces}
use Rattle.allocation.specs.declared.Allocation.{Allocation}
use Rattle.items.specs.declared.Head.{Head}
use Rattle.items.specs.Head.{head_of}
use Rattle.items.specs.Items.{segments}
use Rattle.items.specs.Making.{put_values}
use Rattle.record.specs.Accept.{record_tests, named}
use Rattle.record.specs.Answers.{segment_values, found_values, counted_values}
use Rattle.allocation.specs.Answers.{total_values, runs_values, run_values}
use Rattle.heads.specs.Changing.{changed_values}
use Rattle.allocation.specs.Change.{allocation_values, release_values}
use Rattle.stores.specs.Answers.{given_values}
use Rattle.mend.specs.Answers.{mending_values}
use Rattle.update.specs.Plan as Update
use Rattle.mend.specs.Plan as Mend
use Rattle.mend.proofs.Answering.{answering}
use Rattle.amseokbin.specs.Answers.{blocks_answer, places_answer, block_of, block_answer, fields_from}
use Rattle.amseokbin.specs.Copies.{copy_answer, receive_answer, found_answer, step_of}
use Rattle.amseokbin.specs.declared.Block.{Block}
use Rattle.amseokbin.specs.declared.BlockAnswer.{BlockAnswer}
use Rattle.amseokbin.specs.Records as Records
use Rattle.amseokbin.specs.Records.{no_head, head_told}
use Rattle.amseokbin.specs.Room as Room
use Rattle.amseokbin.specs.Plans.{store_answer, update_answer, mend_from, mend_answer}
use Rattle.amseokbin.specs.Demand.{Told, found_list, block_list, copy_values, Telling, Saying, Zeroing, Rereading, handed_on, unless_number, taken_in, Receiving, Planning}
use Rattle.amseokbin.proofs.Numbers.{first_known, named_reason}
use Rattle.amseokbin.proofs.Demand.{mend_back}

blocks_told : (a : Result BlockSectors Reason) → Told (blocks_answer a).refusal (refusal_in a) ((blocks_answer a).front ∷ (blocks_answer a).back ∷ []) (blocks_values a)
unfolding zeros
blocks_told (Ok b) = (refl, refl, le_refl _)
blocks_told (Err r) = (refl, refl, zero-le)

places_told : (a : Result DeviceMap Reason) → Told (places_answer a).refusal (refusal_in a) (map_numbers (places_answer a).map) (located_values a)
unfolding zeros
places_told (Ok p) = (refl, refl, le_refl _)
places_told (Err r) = (refl, refl, zero-le)

block_told : (a : Result Reading Reason) → Told (block_answer a).refusal (refusal_in a) (block_list (block_answer a).block) (reading_values a)
unfolding zeros
block_told (Ok x) = (refl, refl, le_refl _)
block_told (Err r) = (refl, refl, zero-le)

copy_told : (a : Result CopyReading Reason) → Told (copy_answer a).refusal (refusal_in a) (block_list (copy_answer a).block) (copy_values a)
unfolding zeros
copy_told (Ok c) = (refl, refl, le_refl _)
copy_told (Err r) = (refl, refl, zero-le)

found_told : (a : Result Found Reason) (f b : List ℕ) → Told (found_answer a f b).refusal (refusal_in a) (found_list (found_answer a f b)) (answer_values a)
unfolding zeros
found_told (Ok x) f b = (refl, refl, le_refl _)
found_told (Err r) f b = (refl, refl, zero-le)

store_told : (g : Result ℕ Reason) (flush : Bool) → Told (store_answer g flush).refusal (refusal_in g) ((store_answer g flush).sector ∷ []) (given_values g)
unfolding zeros
store_told (Ok s) flush = (refl, refl, le_refl _)
store_told (Err r) flush = (refl, refl, zero-le)

update_told : (a : Result Plan Reason) → (update_answer a).refusal ≡ refusal_in a
update_told (Ok p) = refl
update_told (Err r) = refl

mend_told : (m : Result (Option Rewrite) Reason) → Told (mend_answer m).refusal (refusal_in m) (Mend.stores_in (mend_from (mend_answer m).plan) ∷ []) (mending_values m)
unfolding zeros
mend_told (Ok None) = (refl, refl, le_refl _)
mend_told (Ok (Some p)) = (refl, ap (λ (m : Result (Option Rewrite) Reason). Mend.stores_in m ∷ []) (mend_back p), le_refl _)
mend_told (Err r) = (refl, refl, zero-le)

segment_told : (a : Result Segment Reason) → Told (Records.segment_answer a).refusal (refusal_in a) (segment_values (Records.segment_answer a).segment) (found_values a)
unfolding zeros
segment_told (Ok g) = (refl, refl, le_refl _)
segment_told (Err r) = (refl, refl, zero-le)

segments_told : (a : Result ℕ Reason) → Told (Records.counted_answer a).refusal (refusal_in a) ((Records.counted_answer a).count ∷ []) (counted_values a)
unfolding zeros
segments_told (Ok k) = (refl, refl, le_refl _)
segments_told (Err r) = (refl, refl, zero-le)

put_told : (a : Result ℕ Reason) → Told (Records.length_answer a).refusal (refusal_in a) ((Records.length_answer a).length ∷ []) (put_values a)
unfolding zeros
put_told (Ok k) = (refl, refl, le_refl _)
put_told (Err r) = (refl, refl, zero-le)

total_told : (a : Result ℕ Reason) → Told (Room.total_answer a).refusal (refusal_in a) ((Room.total_answer a).sectors ∷ []) (total_values a)
unfolding zeros
total_told (Ok k) = (refl, refl, le_refl _)
total_told (Err r) = (refl, refl, zero-le)

runs_told : (a : Result ℕ Reason) → Told (Records.counted_answer a).refusal (refusal_in a) ((Records.counted_answer a).count ∷ []) (runs_values a)
unfolding zeros
runs_told (Ok k) = (refl, refl, le_refl _)
runs_told (Err r) = (refl, refl, zero-le)

changed_told : (a : Result ℕ Reason) → Told (Records.length_answer a).refusal (refusal_in a) ((Records.length_answer a).length ∷ []) (changed_values a)
unfolding zeros
changed_told (Ok k) = (refl, refl, le_refl _)
changed_told (Err r) = (refl, refl, zero-le)

release_told : (a : Result ℕ Reason) → Told (Records.length_answer a).refusal (refusal_in a) ((Records.length_answer a).length ∷ []) (release_values a)
unfolding zeros
release_told (Ok k) = (refl, refl, le_refl _)
release_told (Err r) = (refl, refl, zero-le)

run_told : (a : Result Run Reason) → Told (Room.run_answer a).refusal (refusal_in a) ((Room.run_answer a).run.start ∷ (Room.run_answer a).run.sectors ∷ []) (run_values a)
unfolding zeros
run_told (Ok x) = (refl, refl, le_refl _)
run_told (Err r) = (refl, refl, zero-le)

allocation_told : (a : Result Allocation Reason) → Told (Room.allocation_answer a).refusal (refusal_in a) ((Room.allocation_answer a).start ∷ (Room.allocation_answer a).length ∷ []) (allocation_values a)
unfolding zeros
allocation_told (Ok p) = (refl, refl, le_refl _)
allocation_told (Err r) = (refl, refl, zero-le)

pub telling : Telling
telling =
    record {
      blocks = blocks_told;
      places = places_told;
      block = block_told;
      copy = copy_told;
      found = found_told;
      store = store_told;
      update = update_told;
      mend = mend_told;
      segment = segment_told;
      segments = segments_told;
      put = put_told;
      total = total_told;
      runs = runs_told;
      run = run_told;
      allocation = allocation_told;
      changed = changed_told;
      release = release_told;
    }

-- answers by their parts
abbrev block_done : Block → BlockAnswer
block_done k = record { refusal = plain 0; block = k }

pub saying : Saying
saying =
    record {
      block = λ x. (refl, refl);
      copy = λ c. refl;
      present-none = refl;
      present_a = λ h. refl;
      present_b = λ h. refl;
      step = λ f b e. ap (λ (s : Bool). step_of s (is_in_step f b)) e;
      head = λ d s e. ap (λ (a : Result Head Reason). head_told a (length (segments s))) (told_zero (first (record_tests d s)) (named (first (record_tests d s)) s) (head_of s) e);
    }

pub zeroing : Zeroing
zeroing =
    record {
      block_none = (refl, refl, refl, refl, refl);
      block = λ r. refl;
      copy = λ r. refl;
      found = λ r f b. refl;
      step = λ f b e. ap (λ (s : Bool). step_of s (is_in_step f b)) e;
      head = λ d s z.
          ap (λ (a : Result Head Reason). head_told a (length (segments s))) (told_other (first (record_tests d s)) (named (first (record_tests d s)) s) (head_of s) z)
          ∙ ap no_head (named_reason (first (record_tests d s)) s (first_known (record_tests d s) refl) z);
      store = λ r flush. refl;
      update = λ r. refl;
      mend = λ r. refl;
    }

-- a block's struct from its numbers, and back
fields_back : (s : List ℕ) (p u : List ℕ) → fields_from (block_of (fields_of s) p u) ≡ fields_of s
fields_back s p u = λ i. record { device = device_of s; a = entry 96 i; b = entry 128 i }
  where
    entry : (n : ℕ) → entry_of (holding_of (entry_at s n)).seconds (holding_of (entry_at s n)).nanoseconds (holding_of (entry_at s n)).bytes (holding_of (entry_at s n)).checksum ≡ entry_at s n
    entry n = ap (λ (h : Holding). entry_of h.seconds h.nanoseconds h.bytes h.checksum) (holding-back (number s n 8) (number s (n + 8) 4) (number s (n + 12) 4) (number s (n + 16) 4))

block_back : (k : Block) → block_of (fields_from k) k.pool k.blockdev ≡ k
block_back k = λ i. record { device = k.device; a = holding-back k.a.seconds k.a.nanoseconds k.a.bytes k.a.checksum i; b = holding-back k.b.seconds k.b.nanoseconds k.b.bytes k.b.checksum i; pool = k.pool; blockdev = k.blockdev }

entry_room : (s n u c : ℕ) → s < 2 ^ 64 → c < 2 ^ 32 → EntryFits (entry_of s n u c)
unfolding entry_of
entry_room s n u c a b = go (eqb s 0 && (eqb n 0 && (eqb u 0 && eqb c 0)))
  where
    go : (e : Bool) → EntryFits (cond e None (Some (record { seconds = s; nanoseconds = n; bytes = u; checksum = c })))
    go true = tt
    go false = (a, b)

pub rereading : Rereading
rereading =
    record {
      written_again = λ s out bytes ok room.
          let e : reading s ≡ Ok (accepted_reading s) = (exactly s).0 ok in
          let k : (block_answer (reading s)).block ≡ block_of (fields_of s) (pool_of s) (blockdev_of s) = ap (λ (r : Result Reading Reason). (block_answer r).block) e in
          let f : fields_from (block_answer (reading s)).block ≡ fields_of s = ap fields_from k ∙ fields_back s (pool_of s) (blockdev_of s) in (
            ap (λ (z : Block). z.pool) k,
            ap (λ (z : Block). z.blockdev) k,
            ap (λ (x : BlockFields). first (write_tests out (pool_of s) (blockdev_of s) x)) f ∙ (write-after-read s out bytes ok room).0,
            ap (written out (pool_of s) (blockdev_of s)) f ∙ (write-after-read s out bytes ok room).1,
          );
      read_again = λ out k s a c b d z.
          ap block_answer (read-after-write out k.pool k.blockdev (fields_from k) s (entry_room _ _ _ _ a c) (entry_room _ _ _ _ b d) z)
          ∙ ap block_done (block_back k);
    }

mend_needed : (f b : List ℕ) (q : Finding) (o : Result BlockFields Reason) → discovery f b ≡ Ok (record { finding = q; other = o }) → is_in_step f b ≡ false → Mend.mending f b ≡ Ok (Some (Mend.rewrite_of q))
unfolding Mend.mending
mend_needed f b q o e s = ap (λ (a : Result Found Reason). Mend.mending_after a f b) e ∙ ap (λ (t : Bool). cond t (Ok None) (Ok (Some (Mend.rewrite_of q)))) s

-- a copy in pieces: the states and the bytes are those of `receive`
state_told : (s : Received) (a : Result Received Reason) → (receive_answer s a).received ≡ kept_after s a
state_told s (Ok t) = refl
state_told s (Err e) = refl

handed_on_lem : (ps : List (List ℕ)) (s : Received) → handed_on s ps ≡ after s ps
handed_on_lem [] s = refl
handed_on_lem (p ∷ ps) s = ap (λ (t : Received). handed_on t ps) (state_told s (taking s p)) ∙ handed_on_lem ps (state_after s p)

-- a piece of any number but 0 is none of the bytes
bytes_told : (s : Received) (p : List ℕ) (a : Result Received Reason) → unless_number (receive_answer s a).refusal.number p ≡ unless_refused a p
bytes_told s p (Ok t) = refl
bytes_told s p (Err Reason.SliceSize) = refl
bytes_told s p (Err Reason.Signature) = refl
bytes_told s p (Err Reason.BlockChecksum) = refl
bytes_told s p (Err Reason.DeviceSize) = refl
bytes_told s p (Err Reason.NotZero) = refl
bytes_told s p (Err Reason.UuidByte) = refl
bytes_told s p (Err Reason.MetadataSize) = refl
bytes_told s p (Err Reason.ReservedSize) = refl
bytes_told s p (Err Reason.AreaEntry) = refl
bytes_told s p (Err Reason.NoBlock) = refl
bytes_told s p (Err Reason.Identity) = refl
bytes_told s p (Err Reason.NoRecord) = refl
bytes_told s p (Err Reason.TwoRecords) = refl
bytes_told s p (Err Reason.NotLater) = refl
bytes_told s p (Err Reason.RecordLength) = refl
bytes_told s p (Err Reason.NotInStep) = refl
bytes_told s p (Err Reason.RecordForm) = refl
bytes_told s p (Err Reason.SegmentPlace) = refl
bytes_told s p (Err (Reason.SegmentClash i j)) = refl
bytes_told s p (Err Reason.NoRoom) = refl
bytes_told s p (Err Reason.RecordFull) = refl
bytes_told s p (Err Reason.NoSegment) = refl
bytes_told s p (Err Reason.NoStore) = refl
bytes_told s p (Err Reason.HeadMove) = refl

taken_in_lem : (ps : List (List ℕ)) (s : Received) → taken_in s ps ≡ bytes_taken s ps
taken_in_lem [] s = refl
taken_in_lem (p ∷ ps) s =
    ap₂ (λ (k l : List ℕ). k ++ l) (bytes_told s p (taking s p))
    (ap (λ (t : Received). taken_in t ps) (state_told s (taking s p)) ∙ taken_in_lem ps (state_after s p))

pub receiving : Receiving
receiving =
    record {
      cut = λ c z ps e. ap copy_answer (ap ending (handed_on_lem ps fresh) ∙ (pieces.cut c z ps e).1);
      at_once = λ ps. ap copy_answer (ap ending (handed_on_lem ps fresh) ∙ ((pieces.at_once ps).same ∙ ap copy_reading (sym (taken_in_lem ps fresh))));
      taken = λ s p l.
          ap (receive_answer s) (taking-fits s p l)
          ∙ ap (λ (a : Result Received Reason). record { refusal = plain 0; received = kept_after s a }) (sym (taking-fits s p l));
      refused = λ s p l. ap (receive_answer s) (taking-past s p l);
      no_copy = λ s n. ap copy_answer (pieces.no_copy.state s n);
    }

pub planning : Planning
planning =
    record {
      update = λ f b t r e. ap (λ (n : ℕ). (update_answer (told n (named n r) (Update.plan_of f b t r))).plan) e;
      mend = λ f b q o e s. ap (λ (m : Result (Option Rewrite) Reason). (mend_answer m).plan) (mend_needed f b q o e s);
      in_step = λ f b s. ap (λ (m : Result (Option Rewrite) Reason). (mend_answer m).plan) ((answering f b).in_step.1 s);
    }
