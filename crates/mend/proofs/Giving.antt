-- What the calls of a mend give is what its groups have.
use Prim.Native.Nat.{ℕ, zero, suc, ◌+◌, ◌-◌, ◌^◌, ◌≤◌, ◌<◌}
use mathlib.Core.Path.{◌≡◌, refl, sym, ap, ap₂, subst, ◌∙◌}
use mathlib.Core.Bool.{Bool, true, false, cond, not, true≢false}
use mathlib.Core.Logic.{◌↔◌}
use mathlib.Core.List.{List, [], flatten}
use native.Mathlib.Nat.{not-suc-le-zero}
use native.Mathlib.Decide.{dec_lt, dec_le}
use native.Mathlib.Omega.{arith}
use borrow.Author.Tests.{lt-ltb, le-ltb, eq-eqb, ne_eqb, not-true}
use lib.Dec.{ltb, eqb}
use lib.ListN.{length}
use Rattle.std.specs.Prelude.{Option, Some, None, Result, Ok, Err}
use Rattle.refusal.specs.declared.Reason.{Reason}
use Rattle.refusal.specs.Reasons.{reason}
use Rattle.endian.proofs.Tests.{and_left, and_right, and_both}
use Rattle.refusal.specs.Numbers.{slice_size, no_such_store}
use Rattle.refusal.specs.Tests.{first}
use Rattle.refusal.proofs.Order.{first-pass, first_fail, first_all}
use Rattle.layout.specs.declared.Side.{Side}
use Rattle.layout.specs.declared.Side.TheVariants.{Front, Back}
use Rattle.layout.specs.declared.Area.{Area}
use Rattle.layout.specs.declared.Area.TheVariants.{A, B}
use Rattle.layout.specs.Limits.{length_allowed}
use Rattle.block.specs.declared.Holding.{Holding}
use Rattle.layout.specs.Places.{block_sector, area_sector}
use Rattle.block.specs.declared.BlockFields.{BlockFields}
use Rattle.block.specs.Block.{fields_of}
use Rattle.block.specs.Writing.{holding_of}
use Rattle.discovery.specs.declared.Finding.{Finding}
use Rattle.discovery.specs.declared.Found.{Found}
use Rattle.copy.specs.Copy.{is_copy, block_in, entry_in, other_area, other_side, newest, device_in}
use Rattle.discovery.specs.Discovery.{found_with, sized, discovery, is_in_step, copy_on, record_bytes}
use Rattle.crash.specs.Crash.{Store, Groups, stores, store_in, group_start}
use Rattle.stores.specs.declared.Part.{Part}
use Rattle.stores.specs.Stores.{sectors_of, with_entry}
use Rattle.stores.specs.Given.{block_given, block_left, part_given, part_left, lent_right}
use Rattle.stores.proofs.Blocks.{number_fits}
use Rattle.stores.proofs.Padding.{sectors_few}
use Rattle.stores.proofs.Places.{Sizes, sizes_accepted, device-accepted, area_below}
use Rattle.stores.proofs.Choosing.{lent_right_lem, block_given_lem, area_given, part_given_lem}
use Rattle.mend.specs.declared.Rewrite.{Rewrite}
use Rattle.mend.specs.Mend.{block_like, emptied, blanked, later_whole, rewriting, groups_after, mend_groups}
use Rattle.mend.specs.Plan.{rewrite_of, mending_after, mending, plan_stores, stores_in, group_in, group_of, flush_after, part_for, rewrite_answer, rewrite_bytes, needed_tests, needed_answer, needed_bytes, none_number, store_answer, store_bytes}
use Rattle.mend.specs.Demand.{MendGives, Giving}
use Rattle.mend.proofs.Choosing.{with_last, without_last, flush-past, at_start, at_part, at_end, needed_refused, needed_given, past-last, in-first, in-record, in-second, in-last}
use Rattle.mend.proofs.Kept.{Kept, kept_small, kept_allowed, found-sized, found_bytes, held, kept, found-later, found_long}
use Rattle.mend.proofs.Stores.{filledBlock, at_first, at_sector, at_second, at_last, at_least, count-whole, count-blank, start_one, start_two, start_three, start_four, by_store}
use Rattle.mend.proofs.Blocks.{Right, right-empty, right-filled, right_blank, like-writes, like-written}

-- nothing to store
starts_none : (g : ℕ) → group_start [] g ≡ 0
unfolding group_start flatten
starts_none zero = refl
starts_none (suc g) = refl

pub none_number_lem : (f b out : List ℕ) → sized f b ≡ true → length out ≡ 512 → none_number f b (length out) ≡ no_such_store
none_number_lem f b out z room = ap (λ (t : Bool). cond t no_such_store slice_size) (lent_right_lem f b out z room)

nothing : (f b : List ℕ) (m : Result (Option Rewrite) Reason) → stores_in m ≡ 0 → ((i : ℕ) → group_of m i ≡ 4)
    → ((i : ℕ) (out : List ℕ) → (store_answer m f b i out ≡ Err (reason (none_number f b (length out)))) × (store_bytes m f b i out ≡ out)) → MendGives f b m []
unfolding flatten
nothing f b m e n h =
    record {
      count = e;
      grouped = λ g i l p q. absurd (not-suc-le-zero (subst (λ (n : ℕ). i < n) (starts_none (suc g)) q));
      no_group = λ i l. n i;
      flush = λ g i l p q. absurd (not-suc-le-zero (subst (λ (n : ℕ). i < n) (starts_none (suc g)) q));
      no_flush = λ i l. sym (flush-past m i 0 (sym e) l);
      store = λ i out l room. absurd (not-suc-le-zero l);
      no_store = λ i out l z room. ((h i out).0 ∙ ap (λ (k : ℕ). Err (reason k)) (none_number_lem f b out z room), (h i out).1);
    }

-- a store is in one of the groups, or past the last
by_group_lem : (k n i : ℕ) (P : ℕ → Type 0) → (n ≤ i → P 4) → (i ≡ 0 → P 0) → (i ≤ k → P 1) → (i ≤ k + 1 → P 2) → (i < n → P 3) → P (group_in k n i)
by_group_lem k n i P past first sector second last =
    elim (dec_lt i n) [
      | yes l ↦
          elim (dec_lt 0 i) [
            | yes z ↦
                let y : i ≡ 0 → ⊥ = λ e. omega arith in
                elim (dec_le i k) [
                  | yes a ↦ subst P (in-record k n i l y a) (sector a)
                  | no a ↦
                      elim (dec_le i (k + 1)) [
                        | yes b ↦ subst P (in-second k n i l y (omega arith) b) (second b)
                        | no b ↦ subst P (in-last k n i l y (omega arith) (omega arith)) (last l)
                      ]
                ]
            | no z ↦ let y : i ≡ 0 = omega arith in subst P (in-first k n i l y) (first y)
          ]
      | no l ↦ let h : n ≤ i = omega arith in subst P (past-last k n i h) (past h)
    ]

-- areas
other_twice : (x : Area) → other_area (other_area x) ≡ x
other_twice A = refl
other_twice B = refl

-- a copy is kept
module _ (f b : List ℕ) (q : Finding) (o : Result BlockFields Reason) (e : discovery f b ≡ found_with q o) where
  abbrev c : List ℕ
  c = copy_on q.side f b

  abbrev fields : BlockFields
  fields = fields_of (block_in c)

  abbrev r : List ℕ
  r = record_bytes q f b

  abbrev k : ℕ
  k = sectors_of (length r)

  abbrev p : Rewrite
  p = rewrite_of q

  abbrev part : Part
  part = part_for (other_side q.side) q.area fields

  abbrev gs : Groups
  gs = rewriting q.side c q.area r

  abbrev n : ℕ
  n = length (stores gs)

  itself : Kept c q.area (held f b q o e) r
  itself = kept f b q o e

  -- as many sectors as the plan says
  filled : k ≡ sectors_of p.bytes
  filled = ap sectors_of (sym (found_long f b q o e))

  sizes : Sizes (device_in c)
  sizes = sizes_accepted (block_in c) itself.accepted

  tiny : k ≤ 1020
  tiny = sectors_few (length r) (kept_small itself)

  counted : plan_stores p ≡ n
  counted = go (later_whole c) refl
    where
      go : (t : Bool) → later_whole c ≡ t → plan_stores p ≡ n
      go true h = without_last p (ap not (found-later f b q o e ∙ h)) ∙ (ap (λ (m : ℕ). m + 2) (sym filled) ∙ sym (count-whole q.side c q.area r h))
      go false h = with_last p (ap not (found-later f b q o e ∙ h)) ∙ (ap (λ (m : ℕ). m + 3) (sym filled) ∙ sym (count-blank q.side c q.area r h))

  -- the group of a store
  its_group : (i : ℕ) → group_of (Ok (Some p)) i ≡ group_in k n i
  its_group i = ap₂ (λ (y z : ℕ). group_in y z i) (sym filled) counted

  abbrev start : ℕ → ℕ
  start g = group_start gs g

  in_group : (g i : ℕ) → g < 4 → start g ≤ i → i < start (suc g) → g ≡ group_in k n i
  in_group zero i l a b =
      let s : start 1 ≡ 1 = start_one q.side c q.area r in
      let m : k + 2 ≤ n = at_least q.side c q.area r in
      in-first k n i (omega arith) (omega arith)
  in_group (suc zero) i l a b =
      let s : start 1 ≡ 1 = start_one q.side c q.area r in
      let u : start 2 ≡ k + 1 = start_two q.side c q.area r in
      let m : k + 2 ≤ n = at_least q.side c q.area r in
      in-record k n i (omega arith) (λ z. omega arith) (omega arith)
  in_group (suc (suc zero)) i l a b =
      let s : start 2 ≡ k + 1 = start_two q.side c q.area r in
      let u : start 3 ≡ k + 2 = start_three q.side c q.area r in
      let m : k + 2 ≤ n = at_least q.side c q.area r in
      in-second k n i (omega arith) (λ z. omega arith) (omega arith) (omega arith)
  in_group (suc (suc (suc zero))) i l a b =
      let s : start 3 ≡ k + 2 = start_three q.side c q.area r in
      let u : start 4 ≡ n = start_four q.side c q.area r in
      in-last k n i (omega arith) (λ z. omega arith) (omega arith) (omega arith)
  in_group (suc (suc (suc (suc g)))) i l a b = absurd (omega arith)

  grouped : (g i : ℕ) → g < 4 → start g ≤ i → i < start (suc g) → group_of (Ok (Some p)) i ≡ g
  grouped g i l a b = its_group i ∙ sym (in_group g i l a b)

  -- a store from the end of a group on is not in it
  beyond : (g i : ℕ) → g < 4 → start (suc g) ≤ i → group_in k n i ≡ g → ⊥
  beyond zero i l a =
      let s : start 1 ≡ 1 = start_one q.side c q.area r in
      by_group_lem k n i (λ (y : ℕ). y ≡ 0 → ⊥) (λ z h. omega arith) (λ z h. omega arith) (λ z h. omega arith) (λ z h. omega arith) (λ z h. omega arith)
  beyond (suc zero) i l a =
      let s : start 2 ≡ k + 1 = start_two q.side c q.area r in
      by_group_lem k n i (λ (y : ℕ). y ≡ 1 → ⊥) (λ z h. omega arith) (λ z h. omega arith) (λ z h. omega arith) (λ z h. omega arith) (λ z h. omega arith)
  beyond (suc (suc zero)) i l a =
      let s : start 3 ≡ k + 2 = start_three q.side c q.area r in
      by_group_lem k n i (λ (y : ℕ). y ≡ 2 → ⊥) (λ z h. omega arith) (λ z h. omega arith) (λ z h. omega arith) (λ z h. omega arith) (λ z h. omega arith)
  beyond (suc (suc (suc zero))) i l a =
      let s : start 4 ≡ n = start_four q.side c q.area r in
      by_group_lem k n i (λ (y : ℕ). y ≡ 3 → ⊥) (λ z h. omega arith) (λ z h. omega arith) (λ z h. omega arith) (λ z h. omega arith) (λ z h. omega arith)
  beyond (suc (suc (suc (suc g)))) i l a = absurd (omega arith)

  -- a group ends with the last store or before it
  within : (g : ℕ) → g < 4 → start (suc g) ≤ n
  within zero l =
      let s : start 1 ≡ 1 = start_one q.side c q.area r in
      let m : k + 2 ≤ n = at_least q.side c q.area r in
      omega arith
  within (suc zero) l =
      let s : start 2 ≡ k + 1 = start_two q.side c q.area r in
      let m : k + 2 ≤ n = at_least q.side c q.area r in
      omega arith
  within (suc (suc zero)) l =
      let s : start 3 ≡ k + 2 = start_three q.side c q.area r in
      let m : k + 2 ≤ n = at_least q.side c q.area r in
      omega arith
  within (suc (suc (suc zero))) l = let s : start 4 ≡ n = start_four q.side c q.area r in omega arith
  within (suc (suc (suc (suc g)))) l = absurd (omega arith)

  -- a flush belongs after the last store of a group
  abbrev next : ℕ → Bool
  next i = eqb (group_of (Ok (Some p)) i) (group_of (Ok (Some p)) (suc i))

  flushed : (g i : ℕ) → g < 4 → start g ≤ i → i < start (suc g) → (flush_after (Ok (Some p)) i ≡ true ↔ suc i ≡ start (suc g))
  flushed g i l a b = (only, last)
    where
      here : group_of (Ok (Some p)) i ≡ g
      here = grouped g i l a b

      only : flush_after (Ok (Some p)) i ≡ true → suc i ≡ start (suc g)
      only h =
          elim (dec_lt (suc i) (start (suc g))) [
            | yes m ↦
                absurd
                (true≢false
                (sym (eq-eqb (group_of (Ok (Some p)) i) (group_of (Ok (Some p)) (suc i)) (here ∙ sym (grouped g (suc i) l (omega arith) m)))
                ∙ not-true (next i) (and_right (ltb i (plan_stores p)) (not (next i)) h)))
            | no m ↦ omega arith
          ]

      last : suc i ≡ start (suc g) → flush_after (Ok (Some p)) i ≡ true
      last h =
          let w : start (suc g) ≤ n = within g l in
          let t : plan_stores p ≡ n = counted in
          and_both (ltb i (plan_stores p)) (not (next i)) (lt-ltb i (plan_stores p) (omega arith))
          (ap not
          (ne_eqb (group_of (Ok (Some p)) i) (group_of (Ok (Some p)) (suc i)) (λ x.
          beyond g (suc i) l (omega arith) (sym (its_group (suc i)) ∙ (sym x ∙ here)))))

  here : is_copy c ≡ true
  here = go q.side
    where
      go : (s : Side) → is_copy (copy_on s f b) ≡ true
      go Front = and_left (is_copy f) (is_copy b) (found-sized f b q o e)
      go Back = and_right (is_copy f) (is_copy b) (found-sized f b q o e)

  allowed : length_allowed (length r) ≡ true
  allowed = kept_allowed itself

  -- the last store blanks the later entry
  its_blank : later_whole c ≡ false → with_entry fields (other_area q.area) None ≡ blanked fields
  its_blank h = ap (λ (x : Area). with_entry fields x None) (ap other_area (sym (itself.in_other h)) ∙ other_twice (newest fields))

  -- of any two copies y and z, of which the kept one is as it was
  module _ (y z : List ℕ) (right : sized y z ≡ true) (same : copy_on q.side y z ≡ c) (out : List ℕ) (room : length out ≡ 512) where
    -- a block that a mend stores
    block_of : (s : ℕ) (g : BlockFields) → Right c g → (block_given s g c out ≡ Ok s) × (block_left g c out ≡ block_like c g)
    block_of s g h =
        block_given_lem s g c out (block_like c g) here (like-writes c itself.accepted g h out room) (like-written c itself.accepted g h out room)

    -- the tests
    its_length : eqb (held f b q o e).bytes p.bytes ≡ true
    its_length = eq-eqb (held f b q o e).bytes p.bytes (sym (found_bytes f b q o e))

    tests-hold : (i : ℕ) → i < n → first (needed_tests p y z c i out) ≡ 0
    tests-hold i l =
        let t : plan_stores p ≡ n = counted in
        first_all (needed_tests p y z c i out) (lent_right_lem y z out right room, (itself.allowed, (its_length, (lt-ltb i (plan_stores p) (omega arith), device-accepted (block_in c) itself.accepted))))

    -- store i is given with its sector and its bytes
    abbrev GivenAt : ℕ → Type 0
    GivenAt i = (store_answer (Ok (Some p)) y z i out ≡ Ok (store_in gs i).sector) × (store_bytes (Ok (Some p)) y z i out ≡ (store_in gs i).content)

    -- what the plan's answers are at a number: g and w
    joined : (i : ℕ) → i < n → (g : Result ℕ Reason) (w : List ℕ) (s : Store) → (rewrite_answer p fields c i out ≡ g) × (rewrite_bytes p fields c i out ≡ w)
        → (g ≡ Ok s.sector) × (w ≡ s.content) → store_in gs i ≡ s → GivenAt i
    joined i l g w s h a u =
        let x : (needed_answer p y z c i out ≡ rewrite_answer p fields c i out) × (needed_bytes p y z c i out ≡ rewrite_bytes p fields c i out) =
        needed_given p y z c i out (tests-hold i l) in (
          ap (λ (t : List ℕ). needed_answer p y z t i out) same ∙ (x.0 ∙ (h.0 ∙ (a.0 ∙ ap (λ (t : Store). Ok t.sector) (sym u)))),
          ap (λ (t : List ℕ). needed_bytes p y z t i out) same ∙ (x.1 ∙ (h.1 ∙ (a.1 ∙ ap (λ (t : Store). t.content) (sym u)))),
        )

    -- the record's sectors and the block after them, by the plan's number of sectors
    of_part : (i : ℕ) → (i ≡ 0 → ⊥) → i ≤ k + 1
        → (rewrite_answer p fields c i out ≡ part_given part k c r (i - 1) out) × (rewrite_bytes p fields c i out ≡ part_left part k c r (i - 1) out)
    of_part i z l =
        subst (λ (m : ℕ).
        (rewrite_answer p fields c i out ≡ part_given part m c r (i - 1) out) × (rewrite_bytes p fields c i out ≡ part_left part m c r (i - 1) out))
        (sym filled) (at_part p fields c out i z (let f : k ≡ sectors_of p.bytes = filled in omega arith))

    sectors-fit : (device_in c).sectors < 256 ^ 8
    sectors-fit = number_fits (block_in c) 20 8

    pub given : (i : ℕ) → i < n → GivenAt i
    given i l = by_store q.side c q.area r (λ (j : ℕ). j < n → GivenAt j) first sector second last i l l
      where
        first : 0 < n → GivenAt 0
        first l =
            joined 0 l _ _ _ (at_start p fields c out)
            (block_of (block_sector (other_side q.side) (device_in c)) (emptied (device_in c)) (right-empty c itself.accepted))
            (at_first q.side c q.area r)

        sector : (j : ℕ) → j < k → suc j < n → GivenAt (suc j)
        sector j h l =
            let m : suc j - 1 ≡ j = omega arith in
            let s : k ≤ 1020 = tiny in
            let a : area_sector (other_side q.side) A (device_in c) + j < (device_in c).sectors = area_below (device_in c) sizes (other_side q.side) A j (omega arith) in
            let y : (device_in c).sectors < 256 ^ 8 = sectors-fit in
            let t : area_sector (other_side q.side) A (device_in c) ≤ 18446744073709551615 - j = omega arith in
            joined (suc j) l _ _ _ (of_part (suc j) (λ u. omega arith) (omega arith)) (
              ap (λ (u : ℕ). part_given part k c r u out) m ∙ (area_given part k c r j out here room allowed (omega arith) (omega arith) t).0,
              ap (λ (u : ℕ). part_left part k c r u out) m ∙ (area_given part k c r j out here room allowed (omega arith) (omega arith) t).1,
            )
            (at_sector q.side c q.area r j h)

        second : suc k < n → GivenAt (suc k)
        second l =
            joined (suc k) l _ _ _ (of_part (suc k) (λ u. omega arith) (omega arith))
            (part_given_lem part k c r (suc k - 1) out here room allowed (omega arith) (omega arith) part.block (filledBlock q.side c q.area r)
            (block_of part.block part.fields (right-filled c itself.accepted q.area)))
            (at_second q.side c q.area r)

        last : later_whole c ≡ false → suc (suc k) < n → GivenAt (suc (suc k))
        last h l =
            let m : k ≡ sectors_of p.bytes = filled in
            joined (suc (suc k)) l _ _ _ (at_end p fields c out (suc (suc k)) (λ u. omega arith) (omega arith))
            (subst (λ (g : BlockFields). (block_given (block_sector q.side (device_in c)) g c out ≡ Ok (block_sector q.side (device_in c))) × (block_left g c out ≡ block_like c (blanked fields)))
            (sym (its_blank h)) (block_of (block_sector q.side (device_in c)) (blanked fields) (right_blank c itself.accepted)))
            (at_last q.side c q.area r h)

  -- past the last, of any two copies of which the kept one has the found record's entry as it was
  module _ (y z : List ℕ) (right : sized y z ≡ true)
      (same : entry_in (fields_of (block_in (copy_on q.side y z))) q.area ≡ entry_in (fields_of (block_in c)) q.area) (out : List ℕ) (room : length out ≡ 512) where
    abbrev long : ℕ
    long = (holding_of (entry_in (fields_of (block_in (copy_on q.side y z))) q.area)).bytes

    as-held : long ≡ (held f b q o e).bytes
    as-held = ap (λ (x : Option Holding). (holding_of x).bytes) same

    test_fails : (i : ℕ) → n ≤ i → first (needed_tests p y z (copy_on q.side y z) i out) ≡ 23
    test_fails i l =
        let t : plan_stores p ≡ n = counted in
        first-pass (lent_right y z out) 1 _ (lent_right_lem y z out right room)
        ∙ (first-pass (length_allowed long) 15 _ (ap length_allowed as-held ∙ itself.allowed)
        ∙ (first-pass (eqb long p.bytes) 1 _ (eq-eqb long p.bytes (as-held ∙ sym (found_bytes f b q o e)))
        ∙ first_fail (ltb i (plan_stores p)) 23 _ (le-ltb i (plan_stores p) (omega arith))))

    pub past : (i : ℕ) → n ≤ i → (store_answer (Ok (Some p)) y z i out ≡ Err (reason no_such_store)) × (store_bytes (Ok (Some p)) y z i out ≡ out)
    past i l = needed_refused p y z (copy_on q.side y z) i out 23 (λ u. omega arith) (test_fails i l)

  needed : MendGives f b (Ok (Some p)) gs
  needed =
      record {
        count = counted;
        grouped = grouped;
        no_group = λ i l. its_group i ∙ sym (past-last k n i l);
        flush = flushed;
        no_flush = λ i l. sym (flush-past (Ok (Some p)) i n (sym counted) l);
        store = λ i out l room. given f b (found-sized f b q o e) refl out room i l;
        no_store = λ i out l z room. past f b z refl out room i l;
      }

module _ (f b : List ℕ) where
  by_answer : (a : Result Found Reason) → discovery f b ≡ a → MendGives f b (mending_after a f b) (groups_after a f b)
  by_answer (Err n) e = nothing f b (Err n) refl (λ i. refl) (λ i out. (refl, refl))
  by_answer (Ok a) e = go (is_in_step f b)
    where
      go : (t : Bool) → MendGives f b (cond t (Ok None) (Ok (Some (rewrite_of a.finding))))
          (cond t [] (rewriting a.finding.side (copy_on a.finding.side f b) a.finding.area (record_bytes a.finding f b)))
      go true = nothing f b (Ok None) refl (λ i. refl) (λ i out. (refl, refl))
      go false = needed f b a.finding a.other e

pub giving : Giving
unfolding mending mend_groups
giving f b = by_answer f b (discovery f b) refl
