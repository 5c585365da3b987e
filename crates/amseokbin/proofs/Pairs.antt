-- Beside 19 the two segments that clash, in every answer that C gets.
use Prim.Native.Nat.{ℕ}
use mathlib.Core.Path.{◌≡◌, refl, sym, ap, ◌∙◌, subst}
use mathlib.Core.Bool.{true}
use mathlib.Core.List.{List, ◌++◌}
use native.Mathlib.Decide.{ℕ_discrete}
use Rattle.refusal.specs.declared.Refusal.{Refusal}
use Rattle.refusal.specs.Tests.{Test, first}
use Rattle.refusal.proofs.Order.{first-zero, first-before, first-after}
use Rattle.layout.specs.declared.Device.{Device}
use Rattle.block.specs.declared.Time.{Time}
use Rattle.segments.specs.Demand.{FirstPair}
use Rattle.items.specs.Head.{head_of}
use Rattle.items.specs.Items.{segments}
use Rattle.record.specs.Accept.{record_tests, named}
use Rattle.record.specs.Answers as Record
use Rattle.record.proofs.Testing.{record_ascending}
use Rattle.record.proofs.Naming.{number_is, named_none, named_other}
use Rattle.record.proofs.Demand as Records
use Rattle.allocation.specs.Answers as Runs
use Rattle.allocation.specs.Change as Allocation
use Rattle.allocation.proofs.Demand as Room
use Rattle.heads.specs.declared.Change.{Change}
use Rattle.heads.specs.declared.Change.TheVariants.{Up, Back, Mark}
use Rattle.heads.specs.Changing.{head_tests, room_tests, change_tests, change_answer}
use Rattle.heads.proofs.Demand as Heads
use Rattle.update.specs.Update.{update_number}
use Rattle.update.specs.Plan as Update
use Rattle.update.proofs.Refusing as Updates
use Rattle.format.specs.Format.{format_number}
use Rattle.format.proofs.Demand as Formats
use Rattle.amseokbin.specs.declared.HeadAnswer.{HeadAnswer}
use Rattle.amseokbin.specs.Records as Told
use Rattle.amseokbin.specs.Pairs.{PairOf, Naming}
use Rattle.amseokbin.proofs.Bare.{free, first-free}
use Rattle.amseokbin.proofs.Telling.{telling, saying, zeroing}

-- what C is told of a head
head_refusal : (d : Device) (s : List ℕ) → (Told.head_answer d s).refusal ≡ named (first (record_tests d s)) s
head_refusal d s =
    elim (ℕ_discrete (first (record_tests d s)) 0) [
      | yes z ↦ ap (λ (a : HeadAnswer). a.refusal) (saying.head d s z) ∙ (sym (named_none s) ∙ ap (λ (n : ℕ). named n s) (sym z))
      | no z ↦ ap (λ (a : HeadAnswer). a.refusal) (zeroing.head d s z)
    ]

-- a refusal by its number
pair_of : (q : Refusal) (n : ℕ) (s : List ℕ) → q ≡ named n s → (n ≡ 19 → FirstPair (segments s) (named n s).first (named n s).second) → PairOf q s
pair_of q n s e h =
    let m : q.number ≡ n = number_is q n s e in
    record {
      pair = λ z. subst (λ (r : Refusal). FirstPair (segments s) r.first r.second) (sym e) (h (sym m ∙ z));
      nothing = λ z.
          let o : q.first ≡ 0 = ap (λ (r : Refusal). r.first) (e ∙ named_other n s (λ x. z (m ∙ x))) in
          let u : q.second ≡ 0 = ap (λ (r : Refusal). r.second) (e ∙ named_other n s (λ x. z (m ∙ x))) in
          (o, u);
    }

module _ (d : Device) (s : List ℕ) where
  -- by the record's tests
  by_record : first (record_tests d s) ≡ 19 → FirstPair (segments s) (named (first (record_tests d s)) s).first (named (first (record_tests d s)) s).second
  by_record e = ((Records.clashing d s).0.0 e).1

  -- by those and tests after them, of which none has 19
  by_more : (us : List Test) → free us ≡ true → first (record_tests d s ++ us) ≡ 19
      → FirstPair (segments s) (named (first (record_tests d s ++ us)) s).first (named (first (record_tests d s ++ us)) s).second
  by_more us f e =
      elim (ℕ_discrete (first (record_tests d s)) 0) [
        | yes z ↦
            absurd (first-free us f (sym (first-after (record_tests d s) us (first-zero 0 (record_tests d s) (record_ascending d s) z)) ∙ e))
        | no z ↦
            let b : first (record_tests d s ++ us) ≡ first (record_tests d s) = first-before 0 (record_tests d s) us (record_ascending d s) z in
            subst (λ (n : ℕ). FirstPair (segments s) (named n s).first (named n s).second) (sym b) (by_record (sym b ∙ e))
      ]

pub naming : Naming
naming d s =
    record {
      record_check = pair_of _ (first (record_tests d s)) s refl (by_record d s);
      record_head = pair_of _ (first (record_tests d s)) s
          (head_refusal d s)
          (by_record d s);
      record_segment = λ p.
          pair_of _ (first (record_tests d s ++ Record.position_tests s p)) s ((telling.segment (Record.segment_answer d s p)).0 ∙ (Records.numbered d s p 0).segment)
          (by_more d s (Record.position_tests s p) refl);
      record_segments = λ p w.
          pair_of _ (first (record_tests d s ++ Record.some_room s p w)) s ((telling.segments (Record.segments_answer d s p w)).0 ∙ (Records.numbered d s p w).handed)
          (by_more d s (Record.some_room s p w) refl);
      free_total = pair_of _ (first (record_tests d s)) s ((telling.total (Runs.total_answer d s)).0 ∙ (Room.numbered d s 0 0 0).free) (by_record d s);
      free_runs = λ w.
          pair_of _ (first (Runs.table_tests d s w)) s ((telling.runs (Runs.table_answer d s w)).0 ∙ (Room.numbered d s 0 0 w).table)
          (by_more d s _ refl);
      run_count = pair_of _ (first (record_tests d s)) s ((telling.runs (Runs.runs_answer d s)).0 ∙ (Room.numbered d s 0 0 0).runs) (by_record d s);
      run_at = λ k. pair_of _ (first (record_tests d s)) s ((telling.run (Runs.run_answer d s k)).0 ∙ (Room.numbered d s k 0 0).run) (by_record d s);
      first_fit = λ m.
          pair_of _ (first (record_tests d s ++ Runs.fit_tests (Runs.runs_in d s) m)) s ((telling.run (Runs.fit_answer d s m)).0 ∙ (Room.numbered d s 0 m 0).fit)
          (by_more d s (Runs.fit_tests (Runs.runs_in d s) m) refl);
      allocate = λ k m w.
          pair_of _ (first (Allocation.allocate_tests d s k m w)) s ((telling.allocation (Allocation.allocate_answer d s k m w)).0 ∙ (Room.numbered d s k m w).allocation)
          (by_more d s (Allocation.own_tests d s k m w) refl);
      release = λ p w.
          pair_of _ (first (Allocation.release_tests d s p w)) s ((telling.release (Allocation.release_answer d s p w)).0 ∙ (Room.numbered d s p 0 w).release)
          (by_more d s (Record.position_tests s p ++ Allocation.room_tests s w) refl);
      head-change = λ c w.
          pair_of _ (first (change_tests d s c w)) s ((telling.changed (change_answer d s c w)).0 ∙ Heads.numbered d s c w)
          (by_more d s (head_tests c (head_of s) ++ room_tests c s w) (head-free c w));
      update_check = λ f b t. pair_of _ (update_number f b t s) s refl (updating f b t);
      update_plan = λ f b t. pair_of _ (update_number f b t s) s (telling.update (Update.planned f b t s) ∙ (Updates.refusing).number f b t s) (updating f b t);
      format = λ f b p u t. pair_of _ (format_number f b d p u t s) s refl (Formats.naming f b d p u t s);
    }
  where
    head-free : (c : Change) → (w : ℕ) → free (head_tests c (head_of s) ++ room_tests c s w) ≡ true
    head-free Up w = refl
    head-free Back w = refl
    head-free (Mark n) w = refl

    updating : (f b : List ℕ) (t : Time) → update_number f b t s ≡ 19
        → FirstPair (segments s) (named (update_number f b t s) s).first (named (update_number f b t s) s).second
    updating f b t e = subst (λ (q : Refusal). FirstPair (segments s) q.first q.second) ((Updates.refusing).number f b t s) (Updates.naming f b t s e)
