-- Writing what was read gives the same bytes; reading what was written gives the same fields.
use Prim.Native.Nat.{ℕ, ◌+◌, ◌^◌, ◌≤◌, ◌<◌}
use mathlib.Core.Path.{◌≡◌, refl, sym, ap, ap₂, subst, ◌∙◌}
use mathlib.Core.Bool.{Bool, true, false, cond, ◌&&◌}
use mathlib.Core.List.{List, [], ◌∷◌, ◌++◌, map, flatten}
use native.Mathlib.Omega.{arith}
use borrow.Author.Tests.{eqb-true, eq-eqb, ne_eqb, leb-true}
use lib.Dec.{eqb, lit<, lit≤}
use native.Mathlib.Nat.{le_of_eq}
use lib.ListN.{length, get_or, take}
use lib.Seq.{take_all, drop_at}
use Rattle.std.proofs.Common.{Option, Some, None, Ok}
use Rattle.endian.specs.Bytes.{le, to_le, window, Bytes}
use Rattle.endian.proofs.Numbers.{le-to_le, to_le-le, length-to_le}
use Rattle.endian.proofs.Parts.{length-window-fits, bytes_window, window-append, window_rest}
use Rattle.endian.proofs.Tests.{and_left, and_right, equal_same, length-zeros}
use Rattle.refusal.specs.Tests.{AllHold}
use Rattle.checksum.specs.Crc.{checksum}
use Rattle.checksum.proofs.Laws.{checksum-below}
use Rattle.layout.specs.Limits.{size_allowed, length_allowed, most_nanoseconds, nanoseconds_allowed}
use Rattle.layout.proofs.Laws.{metadata_facts, length_facts, length-fits}
use Rattle.block.specs.declared.Holding.{Holding}
use Rattle.block.specs.declared.BlockFields.{BlockFields}
use Rattle.block.specs.Entry.{entry_of, entry_allowed, different_times}
use Rattle.block.specs.Block.{signature_bytes, number, pool_of, blockdev_of, entry_at, fields_of, limit_tests, read_tests, reading}
use Rattle.block.specs.Accepted as Obeying
use Rattle.block.specs.Writing.{holding_of, body_fields, block_of}
use Rattle.block.specs.Demand.{EntryFits}
use Rattle.block.proofs.Written.{length-signature, length_body, length-block_of}
use Rattle.refusal.proofs.Order.{first_all}
use Rattle.block.proofs.Readings.{accepted_reading_lem}
use Rattle.block.proofs.Exactly.{zero_test, each_fields}
use Rattle.block.proofs.Cuts.{cuts, cons, cuts_join, join_cuts}

-- the widths of the fields from offset 4 on, as the table has them
abbrev body_widths : List ℕ
body_widths = 16 ∷ 8 ∷ 4 ∷ 32 ∷ 32 ∷ 8 ∷ 4 ∷ 4 ∷ 4 ∷ 12 ∷ 8 ∷ 4 ∷ 4 ∷ 4 ∷ 12 ∷ 4 ∷ 4 ∷ 344 ∷ []

-- the four numbers of an entry, back from it
pub holding-back : (s n u c : ℕ) → holding_of (entry_of s n u c) ≡ record { seconds = s; nanoseconds = n; bytes = u; checksum = c }
unfolding entry_of
holding-back s n u c = go (eqb s 0 && (eqb n 0 && (eqb u 0 && eqb c 0))) refl
  where
    whole : Holding
    whole = record { seconds = s; nanoseconds = n; bytes = u; checksum = c }

    go : (b : Bool) → (eqb s 0 && (eqb n 0 && (eqb u 0 && eqb c 0))) ≡ b → holding_of (cond (eqb s 0 && (eqb n 0 && (eqb u 0 && eqb c 0))) None (Some whole)) ≡ whole
    go true h =
        let h2 : eqb n 0 && (eqb u 0 && eqb c 0) ≡ true = and_right (eqb s 0) (eqb n 0 && (eqb u 0 && eqb c 0)) h in
        let h3 : eqb u 0 && eqb c 0 ≡ true = and_right (eqb n 0) (eqb u 0 && eqb c 0) h2 in
        let es : s ≡ 0 = eqb-true s 0 (and_left (eqb s 0) (eqb n 0 && (eqb u 0 && eqb c 0)) h) in
        let en : n ≡ 0 = eqb-true n 0 (and_left (eqb n 0) (eqb u 0 && eqb c 0) h2) in
        let eu : u ≡ 0 = eqb-true u 0 (and_left (eqb u 0) (eqb c 0) h3) in
        let ec : c ≡ 0 = eqb-true c 0 (and_right (eqb u 0) (eqb c 0) h3) in
        rw (h, es, en, eu, ec)
    go false h = ap (λ (x : Bool). holding_of (cond x None (Some whole))) h

module _ (b : List ℕ) (bytes : Bytes b) (h : Obeying.Accepted b) where
  -- the bytes of a number, back from it
  back : (at n : ℕ) → at + n ≤ 512 → to_le n (number b at n) ≡ window b at n
  back at n l =
      let k : length (window b at n) ≡ n = length-window-fits b at n (rw h.size l) in
      ap (λ (m : ℕ). to_le m (number b at n)) (sym k) ∙ to_le-le (window b at n) (bytes_window b at n bytes)

  same_body : body_fields (pool_of b) (blockdev_of b) (fields_of b) ≡ cuts b 4 body_widths
  same_body =
      cons (sym h.signature)
      (cons (back 20 8 (lit≤ tt))
      (cons (sym h.flags)
      (cons refl
      (cons refl
      (cons (ap (λ (k : Holding). to_le 8 k.seconds) (holding-back (number b 96 8) (number b 104 4) (number b 108 4) (number b 112 4)) ∙ back 96 8 (lit≤ tt))
      (cons (ap (λ (k : Holding). to_le 4 k.nanoseconds) (holding-back (number b 96 8) (number b 104 4) (number b 108 4) (number b 112 4)) ∙ back 104 4 (lit≤ tt))
      (cons (ap (λ (k : Holding). to_le 4 k.bytes) (holding-back (number b 96 8) (number b 104 4) (number b 108 4) (number b 112 4)) ∙ back 108 4 (lit≤ tt))
      (cons (ap (λ (k : Holding). to_le 4 k.checksum) (holding-back (number b 96 8) (number b 104 4) (number b 108 4) (number b 112 4)) ∙ back 112 4 (lit≤ tt))
      (cons (sym h.zero_116)
      (cons (ap (λ (k : Holding). to_le 8 k.seconds) (holding-back (number b 128 8) (number b 136 4) (number b 140 4) (number b 144 4)) ∙ back 128 8 (lit≤ tt))
      (cons (ap (λ (k : Holding). to_le 4 k.nanoseconds) (holding-back (number b 128 8) (number b 136 4) (number b 140 4) (number b 144 4)) ∙ back 136 4 (lit≤ tt))
      (cons (ap (λ (k : Holding). to_le 4 k.bytes) (holding-back (number b 128 8) (number b 136 4) (number b 140 4) (number b 144 4)) ∙ back 140 4 (lit≤ tt))
      (cons (ap (λ (k : Holding). to_le 4 k.checksum) (holding-back (number b 128 8) (number b 136 4) (number b 140 4) (number b 144 4)) ∙ back 144 4 (lit≤ tt))
      (cons (sym h.zero_148)
      (cons (back 160 4 (lit≤ tt)) (cons (back 164 4 (lit≤ tt)) (cons (sym h.zero_168) refl)))))))))))))))))

  -- writing what was read
  pub write-back : block_of (pool_of b) (blockdev_of b) (fields_of b) ≡ b
  unfolding block_of
  write-back =
      let body : flatten (body_fields (pool_of b) (blockdev_of b) (fields_of b)) ≡ window b 4 508 = ap flatten same_body ∙ join_cuts b body_widths 4 in
      ap₂ ◌++◌ (ap (λ (x : List ℕ). to_le 4 (checksum x)) body ∙ (ap (to_le 4) (sym h.checksum) ∙ back 0 4 (lit≤ tt))) body
      ∙ (sym (window-append b 0 4 508) ∙ window_rest b 0 512 (rw h.size (lit≤ tt)))

-- an entry, back from its four numbers
pub entry-back : (e : Option Holding) → entry_allowed e ≡ true
    → entry_of (holding_of e).seconds (holding_of e).nanoseconds (holding_of e).bytes (holding_of e).checksum ≡ e
unfolding entry_of
entry-back None h = refl
entry-back (Some k) h =
    let l : 1 ≤ k.bytes = (length_facts k.bytes (and_left (length_allowed k.bytes) (nanoseconds_allowed k.nanoseconds) h)).0 in
    let n : eqb k.bytes 0 ≡ false = ne_eqb k.bytes 0 (λ e. let z : k.bytes ≡ 0 = e in omega arith) in
    ap (λ (x : Bool). cond x None (Some k)) (third (eqb k.seconds 0) (eqb k.nanoseconds 0) (eqb k.bytes 0) (eqb k.checksum 0) n)
  where
    third : (a b c d : Bool) → c ≡ false → (a && (b && (c && d))) ≡ false
    third true true c d e = ap (λ (x : Bool). x && d) e
    third true false c d e = refl
    third false b c d e = refl

-- the numbers of an entry fit their widths
pub entry-fits : (e : Option Holding) → entry_allowed e ≡ true → EntryFits e
    → ((holding_of e).seconds < 2 ^ 64) × ((holding_of e).nanoseconds < 2 ^ 32) × ((holding_of e).bytes < 2 ^ 32) × ((holding_of e).checksum < 2 ^ 32)
entry-fits None h k = (lit< tt, lit< tt, lit< tt, lit< tt)
entry-fits (Some w) h k =
    let n : w.nanoseconds ≤ most_nanoseconds = leb-true w.nanoseconds most_nanoseconds (and_right (length_allowed w.bytes) (nanoseconds_allowed w.nanoseconds) h) in
    (k.0, omega arith, length-fits w.bytes (and_left (length_allowed w.bytes) (nanoseconds_allowed w.nanoseconds) h), k.1)

module _ (p u : List ℕ) (f : BlockFields) (hp : length p ≡ 32) (hu : length u ≡ 32) where
  -- the block's fields have the table's widths
  widths : map length (to_le 4 (checksum (flatten (body_fields p u f))) ∷ body_fields p u f) ≡ 4 ∷ body_widths
  widths =
      cons (length-to_le 4 _)
      (cons length-signature
      (cons (length-to_le 8 _)
      (cons (length-zeros 4)
      (cons hp
      (cons hu
      (cons (length-to_le 8 _)
      (cons (length-to_le 4 _)
      (cons (length-to_le 4 _)
      (cons (length-to_le 4 _)
      (cons (length-zeros 12)
      (cons (length-to_le 8 _)
      (cons (length-to_le 4 _)
      (cons (length-to_le 4 _)
      (cons (length-to_le 4 _)
      (cons (length-zeros 12) (cons (length-to_le 4 _) (cons (length-to_le 4 _) (cons (length-zeros 344) refl))))))))))))))))))

  -- and are where the table has them
  laid_out : cuts (block_of p u f) 0 (4 ∷ body_widths) ≡ to_le 4 (checksum (flatten (body_fields p u f))) ∷ body_fields p u f
  unfolding block_of flatten
  laid_out =
      ap (cuts (block_of p u f) 0) (sym widths)
      ∙ cuts_join (to_le 4 (checksum (flatten (body_fields p u f))) ∷ body_fields p u f) [] 0 refl

  -- the k-th field, counted from 0
  field : (k : ℕ) → get_or (cuts (block_of p u f) 0 (4 ∷ body_widths)) k [] ≡ get_or (to_le 4 (checksum (flatten (body_fields p u f))) ∷ body_fields p u f) k []
  field k = ap (λ (l : List (List ℕ)). get_or l k []) laid_out

  covered : window (block_of p u f) 4 508 ≡ flatten (body_fields p u f)
  unfolding block_of window
  covered =
      ap (take 508) (drop_at (to_le 4 (checksum (flatten (body_fields p u f)))) (flatten (body_fields p u f)) 4 (length-to_le 4 _))
      ∙ take_all 508 (flatten (body_fields p u f)) (le_of_eq (length_body p u f hp hu))

  number_of : (at n v : ℕ) → v < 256 ^ n → window (block_of p u f) at n ≡ to_le n v → number (block_of p u f) at n ≡ v
  number_of at n v h e = ap le e ∙ le-to_le n v h

  checksum_of : number (block_of p u f) 0 4 ≡ checksum (window (block_of p u f) 4 508)
  checksum_of =
      number_of 0 4 (checksum (flatten (body_fields p u f))) (checksum-below (flatten (body_fields p u f))) (field 0) ∙ ap checksum (sym covered)

  module _ (s : f.device.sectors < 2 ^ 64) (fa : EntryFits f.a) (fb : EntryFits f.b) (t : AllHold (limit_tests p u f)) where
    allowed-a : entry_allowed f.a ≡ true
    allowed-a = and_left (entry_allowed f.a) (entry_allowed f.b && different_times f.a f.b) t.1.1.1.0

    allowed-b : entry_allowed f.b ≡ true
    allowed-b =
        and_left (entry_allowed f.b) (different_times f.a f.b)
        (and_right (entry_allowed f.a) (entry_allowed f.b && different_times f.a f.b) t.1.1.1.0)

    read-entry : (at : ℕ) (e : Option Holding) → entry_allowed e ≡ true → EntryFits e
        → window (block_of p u f) at 8 ≡ to_le 8 (holding_of e).seconds → window (block_of p u f) (at + 8) 4 ≡ to_le 4 (holding_of e).nanoseconds
        → window (block_of p u f) (at + 12) 4 ≡ to_le 4 (holding_of e).bytes → window (block_of p u f) (at + 16) 4 ≡ to_le 4 (holding_of e).checksum
        → entry_at (block_of p u f) at ≡ e
    read-entry at e a h w x y z =
        rw (
          number_of at 8 (holding_of e).seconds (entry-fits e a h).0 w,
          number_of (at + 8) 4 (holding_of e).nanoseconds (entry-fits e a h).1 x,
          number_of (at + 12) 4 (holding_of e).bytes (entry-fits e a h).2 y,
          number_of (at + 16) 4 (holding_of e).checksum (entry-fits e a h).3 z,
        )
        (entry-back e a)

    -- the numbers are the ones that were written
    pub read-fields : fields_of (block_of p u f) ≡ f
    read-fields =
        let m : f.device.metadata ≤ 16384 = (metadata_facts f.device.metadata t.1.0).2 in
        let r : f.device.reserved ≤ 65536 = leb-true f.device.reserved 65536 t.1.1.0 in
        rw (
          number_of 20 8 f.device.sectors s (field 2),
          number_of 160 4 f.device.metadata (omega arith) (field 16),
          number_of 164 4 f.device.reserved (omega arith) (field 17),
          read-entry 96 f.a allowed-a fa (field 6) (field 7) (field 8) (field 9),
          read-entry 128 f.b allowed-b fb (field 11) (field 12) (field 13) (field 14),
        )

    -- no test refuses what was written
    pub read-tests : size_allowed f.device.sectors ≡ true → AllHold (read_tests (block_of p u f))
    read-tests h = (
      eq-eqb (length (block_of p u f)) 512 (length-block_of p u f hp hu),
      (
        equal_same (window (block_of p u f) 4 16) signature_bytes (field 1),
        (
          eq-eqb (number (block_of p u f) 0 4) (checksum (window (block_of p u f) 4 508)) checksum_of,
          (
            ap size_allowed (number_of 20 8 f.device.sectors s (field 2)) ∙ h,
            (
              each_fields (block_of p u f) (zero_test (window (block_of p u f) 28 4) 4 (field 3)) (zero_test (window (block_of p u f) 116 12) 12 (field 10))
                  (zero_test (window (block_of p u f) 148 12) 12 (field 15)) (zero_test (window (block_of p u f) 168 344) 344 (field 18)),
              subst (λ (x : List ℕ). AllHold (limit_tests x (blockdev_of (block_of p u f)) (fields_of (block_of p u f)))) (sym (field 4))
                  (subst (λ (y : List ℕ). AllHold (limit_tests p y (fields_of (block_of p u f)))) (sym (field 5))
                  (subst (λ (g : BlockFields). AllHold (limit_tests p u g)) (sym read-fields) t)),
            ),
          ),
        ),
      ),
    )

    -- reading what was written
    pub read_back : size_allowed f.device.sectors ≡ true → reading (block_of p u f) ≡ Ok (record { fields = f; pool = p; blockdev = u })
    read_back h =
        accepted_reading_lem (block_of p u f) (first_all (read_tests (block_of p u f)) (read-tests h))
        ∙ rw (read-fields, field 4, field 5)
