-- The conditions of refusals 1 to 9 in the words of the table are those of the tests.
use Prim.Native.Nat.{ℕ, ◌+◌, ◌-◌, ◌*◌, ◌/◌, ◌%◌, ◌≤◌, ◌<◌}
use mathlib.Core.Path.{◌≡◌, refl, sym, ap, ◌∙◌}
use mathlib.Core.Bool.{Bool, true, false, ◌&&◌, true≢false}
use mathlib.Core.Logic.{inl, inr}
use mathlib.Core.List.{List}
use native.Mathlib.Omega.{arith}
use borrow.Author.Tests.{leb-true, le-leb, eqb-true, eq-eqb}
use lib.Dec.{leb, eqb}
use lib.ListN.{length, get_or, drop}
use lib.Seq.{get_or-take, get_or-drop}
use Rattle.endian.specs.Bytes.{le, window, same, all_pass}
use Rattle.endian.proofs.Tests.{and_left, and_right, and_both, same_equal, equal_same, all_at, all_of}
use Rattle.endian.proofs.Parts.{window_rest, length-window-fits}
use Rattle.endian.proofs.Zero.{numbers_bytes, bytes_numbers}
use Rattle.checksum.specs.Crc as Crc
use Rattle.refusal.specs.Tests.{Fails}
use Rattle.layout.specs.Limits.{metadata_allowed}
use Rattle.layout.proofs.Laws.{metadata_facts, metadata_test}
use Rattle.block.specs.Entry.{entries_allowed}
use Rattle.block.specs.Block.{signature_bytes, number, pool_of, blockdev_of, entry_at, is_zero, is_hex, all_zero, zero_fields, checksum_right, read_tests}
use Rattle.block.specs.Accepted.{HexBytes, Within, Apart}
use Rattle.block.specs.Demand.{ZeroBytes, ZeroMeaning, Applies}
use Rattle.block.proofs.Exactly.{hex_bytes, bytes_hex, entries_facts, entries_test, fields_each, each_fields}

-- a test that fails, and what it tests
fails_not : (t : Bool) {R : Type 0} → (R → t ≡ true) → t ≡ false → ¬ R
fails_not t f e r = true≢false (sym (f r) ∙ e)

not_fails : (t : Bool) {R : Type 0} → (t ≡ true → R) → ¬ R → t ≡ false
not_fails true f n = absurd (n (f refl))
not_fails false f n = refl

-- all bytes are zero
zero_bytes : (s : List ℕ) → all_zero s ≡ true → ZeroBytes s
unfolding all_zero
zero_bytes s h i k = eqb-true (get_or s i 0) 0 (all_at is_zero s h i k)

bytes_zero : (s : List ℕ) → ZeroBytes s → all_zero s ≡ true
unfolding all_zero
bytes_zero s h = all_of is_zero s (λ i k. eq-eqb (get_or s i 0) 0 (h i k))

-- all bytes of s are in as many numbers as begin within it
covers : (s : List ℕ) → window s 0 (8 * ((length s + 7) / 8)) ≡ s
covers s = window_rest s 0 (8 * ((length s + 7) / 8)) (omega arith)

-- the last field of a block
trailing_length : (b : List ℕ) → length b ≡ 512 → length (window b 168 344) ≡ 344
trailing_length b n = length-window-fits b 168 344 (omega arith)

trailing_byte : (b : List ℕ) (i : ℕ) → i < 344 → get_or (window b 168 344) i 0 ≡ get_or b (168 + i) 0
unfolding window
trailing_byte b i h = get_or-take 344 (drop 168 b) i 0 h ∙ get_or-drop 168 b i 0

pub zero_meaning : ZeroMeaning
unfolding all_zero
zero_meaning =
    record {
      bytes = λ s. (zero_bytes s, bytes_zero s);
      numbers =
          λ s h. (
            (λ (z : all_zero s ≡ true) (k : ℕ) (l : 8 * k < length s).
                ap (λ (i : ℕ). le (window s i 8)) (let e : 8 * k ≡ 0 + 8 * k = omega arith in e)
                ∙ bytes_numbers s 8 h ((length s + 7) / 8) 0 (ap all_zero (covers s) ∙ z) k (omega arith)),
            (λ (n : (k : ℕ) → 8 * k < length s → number s (8 * k) 8 ≡ 0).
                sym (ap all_zero (covers s))
                ∙ numbers_bytes s 8 h ((length s + 7) / 8) 0
                (λ k l. ap (λ (i : ℕ). le (window s i 8)) (let e : 0 + 8 * k ≡ 8 * k = omega arith in e) ∙ n k (omega arith))),
          );
      trailing =
          λ b n. (
            (λ (z : all_zero (window b 168 344) ≡ true) (i : ℕ) (l : 168 ≤ i) (h : i < 512).
                let e : i ≡ 168 + (i - 168) = omega arith in
                let k : i - 168 < length (window b 168 344) = rw (trailing_length b n) (omega arith) in
                ap (λ (j : ℕ). get_or b j 0) e
                ∙ (sym (trailing_byte b (i - 168) (omega arith)) ∙ zero_bytes (window b 168 344) z (i - 168) k)),
            (λ (z : (i : ℕ) → 168 ≤ i → i < 512 → get_or b i 0 ≡ 0).
                bytes_zero (window b 168 344)
                (λ i k.
                let l : i < 344 = rw (trailing_length b n) at k in
                trailing_byte b i l ∙ z (168 + i) (omega arith) (omega arith))),
          );
      trailing_numbers = λ b h. (bytes_numbers b 8 h 43 168, numbers_bytes b 8 h 43 168);
    }

module _ (b : List ℕ) where
  abbrev Zeros : Type 0
  Zeros = ZeroBytes (window b 28 4) × (ZeroBytes (window b 116 12) × (ZeroBytes (window b 148 12) × ZeroBytes (window b 168 344)))

  zeros_facts : zero_fields b ≡ true → Zeros
  zeros_facts h =
      let e : (all_zero (window b 28 4) ≡ true) × (all_zero (window b 116 12) ≡ true) × (all_zero (window b 148 12) ≡ true) × (all_zero (window b 168 344) ≡ true) =
      fields_each b h in
      (zero_bytes (window b 28 4) e.0, (zero_bytes (window b 116 12) e.1, (zero_bytes (window b 148 12) e.2, zero_bytes (window b 168 344) e.3)))

  zeros_test : Zeros → zero_fields b ≡ true
  zeros_test h =
      each_fields b (bytes_zero (window b 28 4) h.0) (bytes_zero (window b 116 12) h.1.0) (bytes_zero (window b 148 12) h.1.1.0)
      (bytes_zero (window b 168 344) h.1.1.1)

  abbrev Uuids : Type 0
  Uuids = HexBytes (pool_of b) × HexBytes (blockdev_of b)

  abbrev p : Bool
  p = all_pass is_hex (pool_of b)

  abbrev u : Bool
  u = all_pass is_hex (blockdev_of b)

  uuids_facts : p && u ≡ true → Uuids
  uuids_facts h = (hex_bytes (pool_of b) (and_left p u h), hex_bytes (blockdev_of b) (and_right p u h))

  uuids_test : Uuids → p && u ≡ true
  uuids_test h = and_both p u (bytes_hex (pool_of b) h.0) (bytes_hex (blockdev_of b) h.1)

  abbrev l : ℕ
  l = number b 160 4

  sizes_facts : metadata_allowed l ≡ true → (l % 2 ≡ 0) × ((2040 ≤ l) × (l ≤ 16384))
  sizes_facts h = let m : (l % 2 ≡ 0) × (2040 ≤ l) × (l ≤ 16384) = metadata_facts l h in (m.0, (m.1, m.2))

  sizes_test : (l % 2 ≡ 0) × ((2040 ≤ l) × (l ≤ 16384)) → metadata_allowed l ≡ true
  sizes_test h = metadata_test l h.0 h.1.0 h.1.1

  abbrev Entries : Type 0
  Entries = Within (entry_at b 96) × (Within (entry_at b 128) × Apart (entry_at b 96) (entry_at b 128))

  entries : Entries → entries_allowed (entry_at b 96) (entry_at b 128) ≡ true
  entries h = entries_test (entry_at b 96) (entry_at b 128) h.0 h.1.0 h.1.1

  -- a number is above or below another
  below : (x y : ℕ) → leb x y ≡ false → y < x
  below x y h = let n : ¬ (x ≤ y) = fails_not (leb x y) (le-leb x y) h in omega arith

  not_below : (x y : ℕ) → y < x → leb x y ≡ false
  not_below x y h = not_fails (leb x y) (leb-true x y) (λ (k : x ≤ y). omega arith)

  pub fails_applies : (n : ℕ) → Fails (read_tests b) n → Applies b n
  fails_applies n (inl f) = inl (sym f.1, fails_not (eqb (length b) 512) (eq-eqb (length b) 512) f.0)
  fails_applies n (inr (inl f)) = inr (inl (sym f.1, fails_not (same (window b 4 16) signature_bytes) (equal_same (window b 4 16) signature_bytes) f.0))
  fails_applies n (inr (inr (inl f))) =
      inr (inr (inl (sym f.1, fails_not (checksum_right b) (eq-eqb (number b 0 4) (Crc.checksum (window b 4 508))) f.0)))
  fails_applies n (inr (inr (inr (inl f)))) = inr (inr (inr (inl (sym f.1, below 2097152 (number b 20 8) f.0))))
  fails_applies n (inr (inr (inr (inr (inl f))))) = inr (inr (inr (inr (inl (sym f.1, fails_not (zero_fields b) zeros_test f.0)))))
  fails_applies n (inr (inr (inr (inr (inr (inl f)))))) = inr (inr (inr (inr (inr (inl (sym f.1, fails_not (p && u) uuids_test f.0))))))
  fails_applies n (inr (inr (inr (inr (inr (inr (inl f))))))) =
      inr (inr (inr (inr (inr (inr (inl (sym f.1, fails_not (metadata_allowed l) sizes_test f.0)))))))
  fails_applies n (inr (inr (inr (inr (inr (inr (inr (inl f)))))))) =
      inr (inr (inr (inr (inr (inr (inr (inl (sym f.1, below (number b 164 4) 65536 f.0))))))))
  fails_applies n (inr (inr (inr (inr (inr (inr (inr (inr (inl f))))))))) =
      inr (inr (inr (inr (inr (inr (inr (inr (sym f.1, fails_not (entries_allowed (entry_at b 96) (entry_at b 128)) entries f.0))))))))
  fails_applies n (inr (inr (inr (inr (inr (inr (inr (inr (inr f))))))))) = absurd f

  pub applies_fails : (n : ℕ) → Applies b n → Fails (read_tests b) n
  applies_fails n (inl f) = inl (not_fails (eqb (length b) 512) (eqb-true (length b) 512) f.1, sym f.0)
  applies_fails n (inr (inl f)) = inr (inl (not_fails (same (window b 4 16) signature_bytes) (same_equal (window b 4 16) signature_bytes) f.1, sym f.0))
  applies_fails n (inr (inr (inl f))) =
      inr (inr (inl (not_fails (checksum_right b) (eqb-true (number b 0 4) (Crc.checksum (window b 4 508))) f.1, sym f.0)))
  applies_fails n (inr (inr (inr (inl f)))) = inr (inr (inr (inl (not_below 2097152 (number b 20 8) f.1, sym f.0))))
  applies_fails n (inr (inr (inr (inr (inl f))))) = inr (inr (inr (inr (inl (not_fails (zero_fields b) zeros_facts f.1, sym f.0)))))
  applies_fails n (inr (inr (inr (inr (inr (inl f)))))) = inr (inr (inr (inr (inr (inl (not_fails (p && u) uuids_facts f.1, sym f.0))))))
  applies_fails n (inr (inr (inr (inr (inr (inr (inl f))))))) =
      inr (inr (inr (inr (inr (inr (inl (not_fails (metadata_allowed l) sizes_facts f.1, sym f.0)))))))
  applies_fails n (inr (inr (inr (inr (inr (inr (inr (inl f)))))))) =
      inr (inr (inr (inr (inr (inr (inr (inl (not_below (number b 164 4) 65536 f.1, sym f.0))))))))
  applies_fails n (inr (inr (inr (inr (inr (inr (inr (inr f)))))))) =
      inr (inr (inr (inr (inr (inr (inr (inr (inl (not_fails (entries_allowed (entry_at b 96) (entry_at b 128)) (entries_facts (entry_at b 96) (entry_at b 128)) f.1, sym f.0)))))))))
