-- A block is accepted exactly when it obeys the table and the limits, and a refusal is the lowest number that applies.
use Prim.Native.Nat.{ℕ, ◌+◌, ◌%◌, ◌≤◌}
use mathlib.Core.Path.{◌≡◌, refl, sym, ap, ap₂, ◌∙◌}
use mathlib.Core.Bool.{Bool, true, false, not, ◌&&◌, ◌||◌, true≢false}
use mathlib.Core.Logic.{◌⊎◌, inl, inr}
use mathlib.Core.List.{List}
use native.Mathlib.Omega.{arith}
use borrow.Author.Tests.{leb-true, le-leb, eqb-true, eq-eqb, not-true}
use lib.Dec.{leb, eqb}
use lib.ListN.{length, get_or}
use Rattle.std.proofs.Common.{Option, Some, None}
use Rattle.endian.specs.Bytes.{window, all_pass, zeros}
use Rattle.endian.proofs.Parts.{length-window-fits}
use Rattle.endian.proofs.Tests.{and_left, and_right, and_both, same_equal, equal_same, all_at, all_of, all_zeros, zeros_all}
use Rattle.checksum.specs.Crc as Crc
use Rattle.refusal.specs.Tests.{first, AllHold}
use Rattle.refusal.proofs.Order.{first-zero, first_all}
use Rattle.layout.specs.Limits.{length_allowed, most_nanoseconds, nanoseconds_allowed}
use Rattle.layout.proofs.Laws.{metadata_facts, metadata_test, length_facts, length_test}
use Rattle.block.specs.declared.Holding.{Holding}
use Rattle.block.specs.Entry.{same_time, entry_allowed, different_times, entries_allowed}
use Rattle.block.specs.Block.{signature_bytes, number, pool_of, blockdev_of, entry_at, is_hex, all_zero, zero_fields, read_tests}
use Rattle.block.specs.Accepted.{Hex, HexBytes, Within, Apart, Accepted}
use Rattle.block.proofs.Readings.{ascending}

or_cases : (a b : Bool) → a || b ≡ true → (a ≡ true) ⊎ (b ≡ true)
or_cases true b h = inl refl
or_cases false b h = inr h

or_left : (a b : Bool) → a ≡ true → a || b ≡ true
or_left a b h = ap (λ (x : Bool). x || b) h

or_right : (a b : Bool) → b ≡ true → a || b ≡ true
or_right true b h = refl
or_right false b h = h

hex_facts : (x : ℕ) → is_hex x ≡ true → Hex x
hex_facts x h = go (or_cases (leb 48 x && leb x 57) (leb 97 x && leb x 102) h)
  where
    go : (leb 48 x && leb x 57 ≡ true) ⊎ (leb 97 x && leb x 102 ≡ true) → Hex x
    go (inl k) = inl (leb-true 48 x (and_left (leb 48 x) (leb x 57) k), leb-true x 57 (and_right (leb 48 x) (leb x 57) k))
    go (inr k) = inr (leb-true 97 x (and_left (leb 97 x) (leb x 102) k), leb-true x 102 (and_right (leb 97 x) (leb x 102) k))

hex_test : (x : ℕ) → Hex x → is_hex x ≡ true
hex_test x (inl h) =
    or_left (leb 48 x && leb x 57) (leb 97 x && leb x 102) (and_both (leb 48 x) (leb x 57) (le-leb 48 x h.0) (le-leb x 57 h.1))
hex_test x (inr h) =
    or_right (leb 48 x && leb x 57) (leb 97 x && leb x 102) (and_both (leb 97 x) (leb x 102) (le-leb 97 x h.0) (le-leb x 102 h.1))

within_facts : (e : Option Holding) → entry_allowed e ≡ true → Within e
within_facts None h = tt
within_facts (Some k) h =
    let l : (1 ≤ k.bytes) × (k.bytes ≤ Rattle.layout.specs.Limits.record_limit) =
    length_facts k.bytes (and_left (length_allowed k.bytes) (nanoseconds_allowed k.nanoseconds) h) in
    (l.0, l.1, leb-true k.nanoseconds most_nanoseconds (and_right (length_allowed k.bytes) (nanoseconds_allowed k.nanoseconds) h))

within_test : (e : Option Holding) → Within e → entry_allowed e ≡ true
within_test None h = refl
within_test (Some k) h =
    and_both (length_allowed k.bytes) (nanoseconds_allowed k.nanoseconds) (length_test k.bytes h.0 h.1) (le-leb k.nanoseconds most_nanoseconds h.2)

apart_facts : (a b : Option Holding) → different_times a b ≡ true → Apart a b
unfolding same_time
apart_facts None b h = tt
apart_facts (Some k) None h = tt
apart_facts (Some k) (Some l) h = λ p q.
    true≢false
    (sym (and_both (eqb k.seconds l.seconds) (eqb k.nanoseconds l.nanoseconds) (eq-eqb k.seconds l.seconds p) (eq-eqb k.nanoseconds l.nanoseconds q))
    ∙ not-true (eqb k.seconds l.seconds && eqb k.nanoseconds l.nanoseconds) h)

apart_test : (a b : Option Holding) → Apart a b → different_times a b ≡ true
unfolding same_time
apart_test None b h = refl
apart_test (Some k) None h = refl
apart_test (Some k) (Some l) h = go (eqb k.seconds l.seconds) refl (eqb k.nanoseconds l.nanoseconds) refl
  where
    go : (x : Bool) → eqb k.seconds l.seconds ≡ x → (y : Bool) → eqb k.nanoseconds l.nanoseconds ≡ y
        → not (eqb k.seconds l.seconds && eqb k.nanoseconds l.nanoseconds) ≡ true
    go true p true q = absurd (h (eqb-true k.seconds l.seconds p) (eqb-true k.nanoseconds l.nanoseconds q))
    go true p false q = ap₂ (λ (s t : Bool). not (s && t)) p q
    go false p y q = ap (λ (s : Bool). not (s && eqb k.nanoseconds l.nanoseconds)) p

-- a UUID, and both entries
pub hex_bytes : (s : List ℕ) → all_pass is_hex s ≡ true → HexBytes s
hex_bytes s h = λ i k. hex_facts (get_or s i 0) (all_at is_hex s h i k)

pub bytes_hex : (s : List ℕ) → HexBytes s → all_pass is_hex s ≡ true
bytes_hex s h = all_of is_hex s (λ i k. hex_test (get_or s i 0) (h i k))

pub entries_facts : (a b : Option Holding) → entries_allowed a b ≡ true → Within a × (Within b × Apart a b)
entries_facts a b h =
    let l : entry_allowed b && different_times a b ≡ true = and_right (entry_allowed a) (entry_allowed b && different_times a b) h in (
      within_facts a (and_left (entry_allowed a) (entry_allowed b && different_times a b) h),
      (within_facts b (and_left (entry_allowed b) (different_times a b) l), apart_facts a b (and_right (entry_allowed b) (different_times a b) l)),
    )

pub entries_test : (a b : Option Holding) → Within a → Within b → Apart a b → entries_allowed a b ≡ true
entries_test a b x y z =
    and_both (entry_allowed a) (entry_allowed b && different_times a b) (within_test a x)
    (and_both (entry_allowed b) (different_times a b) (within_test b y) (apart_test a b z))

zero_facts : (b : List ℕ) (at n : ℕ) → at + n ≤ length b → all_zero (window b at n) ≡ true → window b at n ≡ zeros n
unfolding all_zero
zero_facts b at n l h = all_zeros (window b at n) h ∙ ap zeros (length-window-fits b at n l)

pub zero_test : (s : List ℕ) (n : ℕ) → s ≡ zeros n → all_zero s ≡ true
unfolding all_zero
zero_test s n e = ap (all_pass (λ (x : ℕ). eqb x 0)) e ∙ zeros_all n

-- the test of all four fields, and that of each
module _ (b : List ℕ) where
  abbrev flags : Bool
  flags = all_zero (window b 28 4)

  abbrev after-a : Bool
  after-a = all_zero (window b 116 12)

  abbrev after-b : Bool
  after-b = all_zero (window b 148 12)

  abbrev trailing : Bool
  trailing = all_zero (window b 168 344)

  pub fields_each : zero_fields b ≡ true → (flags ≡ true) × (after-a ≡ true) × (after-b ≡ true) × (trailing ≡ true)
  fields_each z =
      let y : after-a && (after-b && trailing) ≡ true = and_right flags (after-a && (after-b && trailing)) z in
      let x : after-b && trailing ≡ true = and_right after-a (after-b && trailing) y in
      (and_left flags (after-a && (after-b && trailing)) z, and_left after-a (after-b && trailing) y, and_left after-b trailing x, and_right after-b trailing x)

  pub each_fields : flags ≡ true → after-a ≡ true → after-b ≡ true → trailing ≡ true → zero_fields b ≡ true
  each_fields f x y z =
      and_both flags (after-a && (after-b && trailing)) f (and_both after-a (after-b && trailing) x (and_both after-b trailing y z))

-- a block that no test refuses obeys the table and the limits
pub obeys : (b : List ℕ) → first (read_tests b) ≡ 0 → Accepted b
obeys b e =
    let t : AllHold (read_tests b) = first-zero 0 (read_tests b) (ascending b) e in
    let n : length b ≡ 512 = eqb-true (length b) 512 t.0 in
    let z : (flags b ≡ true) × (after-a b ≡ true) × (after-b b ≡ true) × (trailing b ≡ true) = fields_each b t.1.1.1.1.0 in
    let h : all_pass is_hex (pool_of b) && all_pass is_hex (blockdev_of b) ≡ true = t.1.1.1.1.1.0 in
    let m : (number b 160 4 % 2 ≡ 0) × (2040 ≤ number b 160 4) × (number b 160 4 ≤ 16384) = metadata_facts (number b 160 4) t.1.1.1.1.1.1.0 in
    let w : Within (entry_at b 96) × (Within (entry_at b 128) × Apart (entry_at b 96) (entry_at b 128)) =
    entries_facts (entry_at b 96) (entry_at b 128) t.1.1.1.1.1.1.1.1.0 in
    record {
      size = n;
      checksum = eqb-true (number b 0 4) (Crc.checksum (window b 4 508)) t.1.1.0;
      signature = same_equal (window b 4 16) signature_bytes t.1.0;
      sectors = leb-true 2097152 (number b 20 8) t.1.1.1.0;
      flags = zero_facts b 28 4 (omega arith) z.0;
      pool = hex_bytes (pool_of b) (and_left (all_pass is_hex (pool_of b)) (all_pass is_hex (blockdev_of b)) h);
      device = hex_bytes (blockdev_of b) (and_right (all_pass is_hex (pool_of b)) (all_pass is_hex (blockdev_of b)) h);
      entry_a = w.0;
      zero_116 = zero_facts b 116 12 (omega arith) z.1;
      entry_b = w.1.0;
      times = w.1.1;
      zero_148 = zero_facts b 148 12 (omega arith) z.2;
      metadata_even = m.0;
      metadata_least = m.1;
      metadata_most = m.2;
      reserved = leb-true (number b 164 4) 65536 t.1.1.1.1.1.1.1.0;
      zero_168 = zero_facts b 168 344 (omega arith) z.3;
    }

-- and a block that obeys them is refused by none
pub no_refusal : (b : List ℕ) → Accepted b → first (read_tests b) ≡ 0
no_refusal b h =
    first_all (read_tests b) (
      eq-eqb (length b) 512 h.size,
      (
        equal_same (window b 4 16) signature_bytes h.signature,
        (
          eq-eqb (number b 0 4) (Crc.checksum (window b 4 508)) h.checksum,
          (
            le-leb 2097152 (number b 20 8) h.sectors,
            (
              each_fields b (zero_test (window b 28 4) 4 h.flags) (zero_test (window b 116 12) 12 h.zero_116)
                  (zero_test (window b 148 12) 12 h.zero_148) (zero_test (window b 168 344) 344 h.zero_168),
              (
                and_both (all_pass is_hex (pool_of b)) (all_pass is_hex (blockdev_of b))
                    (bytes_hex (pool_of b) h.pool) (bytes_hex (blockdev_of b) h.device),
                (
                  metadata_test (number b 160 4) h.metadata_even h.metadata_least h.metadata_most,
                  (
                    le-leb (number b 164 4) 65536 h.reserved,
                    (
                      entries_test (entry_at b 96) (entry_at b 128) h.entry_a h.entry_b h.times,
                      tt,
                    ),
                  ),
                ),
              ),
            ),
          ),
        ),
      ),
    )
