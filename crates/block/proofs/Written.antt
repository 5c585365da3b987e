-- Laws of a block that is written: what is stored field by field is the table's bytes.
use Prim.Native.Nat.{ℕ, ◌+◌}
use mathlib.Core.Path.{◌≡◌, refl, sym, ap, ap₂, ◌∙◌}
use mathlib.Core.Bool.{Bool, true, cond, ◌&&◌}
use mathlib.Core.List.{List, [], ◌++◌, append_assoc, append-nil, flatten}
use native.Mathlib.Omega.{arith}
use borrow.Author.Tests.{eqb-true, eq-eqb, ne_eqb}
use lib.Dec.{eqb, lit<}
use lib.ListN.{length, take, drop, length-append}
use lib.Seq.{take_all, take_at, drop_at, drop-append-add}
use Rattle.endian.specs.Bytes.{to_le, window, splice, zeros}
use Rattle.endian.proofs.Numbers.{length-to_le}
use Rattle.endian.proofs.Parts.{splice-fits, length-splice}
use Rattle.endian.proofs.Tests.{length-zeros, and_left, and_right, zeros-add}
use Rattle.checksum.specs.Crc.{checksum}
use Rattle.refusal.specs.Tests.{first, Ascending}
use Rattle.refusal.proofs.Order.{first-zero}
use Rattle.block.specs.declared.Holding.{Holding}
use Rattle.block.specs.declared.BlockFields.{BlockFields}
use Rattle.block.specs.Block.{signature_bytes}
use Rattle.block.specs.Writing.{holding_of, body_fields, block_of, sealed, write_tests, written}
use Rattle.block.specs.Laid.{entry_laid, body_laid}

pub length-entry_laid : (s : List ℕ) (at : ℕ) (h : Holding) → length (entry_laid s at h) ≡ length s
unfolding entry_laid
length-entry_laid s at h = simp length-splice

pub length-body_laid : (n : ℕ) (p u : List ℕ) (f : BlockFields) → length (body_laid n p u f) ≡ n
unfolding body_laid
length-body_laid n p u f = simp (length-splice, length-entry_laid, length-zeros)

-- s is o bytes, p, and then m zeros
record Begun (s p : List ℕ) (o m : ℕ) : Type 0 where
  is : s ≡ p ++ zeros m
  long : length p ≡ o

-- g of the zeros counted with what stands before them
gap : {s p : List ℕ} {o m : ℕ} (g k : ℕ) → m ≡ g + k → Begun s p o m → Begun s (p ++ zeros g) (o + g) k
gap {s} {p} {o} {m} g k e b =
    record {
      is = b.is ∙ (ap (λ (n : ℕ). p ++ zeros n) e ∙ (ap (λ (l : List ℕ). p ++ l) (zeros-add g k) ∙ sym (append_assoc p (zeros g) (zeros k))));
      long = length-append p (zeros g) ∙ ap₂ ◌+◌ b.long (length-zeros g);
    }

-- n bytes stored where the zeros begin
next : {s p : List ℕ} {o m : ℕ} (v : List ℕ) (n k : ℕ) → length v ≡ n → m ≡ n + k → Begun s p o m → Begun (splice s o v) (p ++ v) (o + n) k
next {s} {p} {o} {m} v n k l e b =
    let z : drop (o + length v) (p ++ zeros m) ≡ zeros k =
    ap₂ (λ (i : ℕ) (q : List ℕ). drop i (p ++ q)) (ap₂ ◌+◌ (sym b.long) l) (ap zeros e ∙ zeros-add n k)
    ∙ (drop-append-add p (zeros n ++ zeros k) n ∙ drop_at (zeros n) (zeros k) n (length-zeros n)) in
    let w : length (p ++ zeros m) ≡ o + m = length-append p (zeros m) ∙ ap₂ ◌+◌ b.long (length-zeros m) in
    record {
      is =
          ap (λ (q : List ℕ). splice q o v) b.is
          ∙ (splice-fits (p ++ zeros m) o v (omega arith)
          ∙ (ap₂ (λ (x y : List ℕ). x ++ (v ++ y)) (take_at p (zeros m) o b.long) z ∙ sym (append_assoc p v (zeros k))));
      long = length-append p v ∙ ap₂ ◌+◌ b.long l;
    }

-- the checksum of bytes 4 to 511, stored before them
pub sealed_of : (h b : List ℕ) → length h ≡ 4 → length b ≡ 508 → sealed (h ++ b) ≡ to_le 4 (checksum b) ++ b
unfolding sealed window
sealed_of h b n m =
    let w : take 508 (drop 4 (h ++ b)) ≡ b = ap (take 508) (drop_at h b 4 n) ∙ take_all 508 b (omega arith) in
    let l : length (h ++ b) ≡ 512 = length-append h b ∙ ap₂ ◌+◌ n m in
    let k : length (to_le 4 (checksum b)) ≡ 4 = length-to_le 4 (checksum b) in
    ap (λ (x : List ℕ). splice (h ++ b) 0 (to_le 4 (checksum x))) w
    ∙ (splice-fits (h ++ b) 0 (to_le 4 (checksum b)) (omega arith)
    ∙ ap (λ (x : List ℕ). to_le 4 (checksum b) ++ x) (ap (λ (i : ℕ). drop (0 + i) (h ++ b)) k ∙ drop_at h b 4 n))

pub length-signature : length signature_bytes ≡ 16
unfolding signature_bytes
length-signature = refl

module _ (p u : List ℕ) (f : BlockFields) (hp : length p ≡ 32) (hu : length u ≡ 32) where
  -- what is stored field by field is four zeros and the table's bytes
  pub laid_body : body_laid 512 p u f ≡ zeros 4 ++ flatten (body_fields p u f)
  unfolding body_laid entry_laid flatten
  laid_body =
      let start : Begun (zeros 512) [] 0 512 = record { is = refl; long = refl } in
      let names : Begun _ _ 96 416 =
      next u 32 416 hu refl
      (next p 32 448 hp refl
      (gap 4 480 refl (next (to_le 8 f.device.sectors) 8 484 (length-to_le 8 _) refl (next signature_bytes 16 492 length-signature refl (gap 4 508 refl start))))) in
      let first_entry : Begun _ _ 128 384 =
      gap 12 384 refl
      (next (to_le 4 (holding_of f.a).checksum) 4 396 (length-to_le 4 _) refl
      (next (to_le 4 (holding_of f.a).bytes) 4 400 (length-to_le 4 _) refl
      (next (to_le 4 (holding_of f.a).nanoseconds) 4 404 (length-to_le 4 _) refl
      (next (to_le 8 (holding_of f.a).seconds) 8 408 (length-to_le 8 _) refl names)))) in
      let second-entry : Begun _ _ 160 352 =
      gap 12 352 refl
      (next (to_le 4 (holding_of f.b).checksum) 4 364 (length-to_le 4 _) refl
      (next (to_le 4 (holding_of f.b).bytes) 4 368 (length-to_le 4 _) refl
      (next (to_le 4 (holding_of f.b).nanoseconds) 4 372 (length-to_le 4 _) refl
      (next (to_le 8 (holding_of f.b).seconds) 8 376 (length-to_le 8 _) refl first_entry)))) in
      let all-fields : Begun _ _ 168 344 =
      next (to_le 4 f.device.reserved) 4 344 (length-to_le 4 _) refl
      (next (to_le 4 f.device.metadata) 4 348 (length-to_le 4 _) refl second-entry) in
      all-fields.is ∙ simp (append_assoc, append-nil)

  pub length_body : length (flatten (body_fields p u f)) ≡ 508
  length_body =
      let e : length (body_laid 512 p u f) ≡ 4 + length (flatten (body_fields p u f)) =
      ap length laid_body ∙ (length-append (zeros 4) (flatten (body_fields p u f)) ∙ ap (λ (n : ℕ). n + length (flatten (body_fields p u f))) (length-zeros 4)) in
      let n : length (body_laid 512 p u f) ≡ 512 = length-body_laid 512 p u f in
      omega arith

  -- with its checksum it is the block
  pub sealed_body : sealed (body_laid 512 p u f) ≡ block_of p u f
  unfolding block_of
  sealed_body = ap sealed laid_body ∙ sealed_of (zeros 4) (flatten (body_fields p u f)) (length-zeros 4) length_body

pub length-block_of : (p u : List ℕ) (f : BlockFields) → length p ≡ 32 → length u ≡ 32 → length (block_of p u f) ≡ 512
unfolding block_of
length-block_of p u f hp hu =
    length-append (to_le 4 (checksum (flatten (body_fields p u f)))) (flatten (body_fields p u f))
    ∙ ap₂ ◌+◌ (length-to_le 4 (checksum (flatten (body_fields p u f)))) (length_body p u f hp hu)

-- what a writer leaves, from its number
pub written-refused : (out p u : List ℕ) (f : BlockFields) → (first (write_tests out p u f) ≡ 0 → ⊥) → out ≡ written out p u f
unfolding written
written-refused out p u f h = ap (λ (b : Bool). cond b (block_of p u f) out) (sym (ne_eqb (first (write_tests out p u f)) 0 h))

pub written-accepted : (out p u : List ℕ) (f : BlockFields) → first (write_tests out p u f) ≡ 0 → block_of p u f ≡ written out p u f
unfolding written
written-accepted out p u f e = ap (λ (b : Bool). cond b (block_of p u f) out) (sym (eq-eqb (first (write_tests out p u f)) 0 e))

pub write-ascending : (out p u : List ℕ) (f : BlockFields) → Ascending 0 (write_tests out p u f)
write-ascending out p u f = (lit< tt, (lit< tt, (lit< tt, (lit< tt, (lit< tt, (lit< tt, tt))))))

-- the sizes of what an accepted write was lent
pub write_sizes : (out p u : List ℕ) (f : BlockFields) → first (write_tests out p u f) ≡ 0
    → (length out ≡ 512) × (length p ≡ 32) × (length u ≡ 32)
write_sizes out p u f e =
    let h : eqb (length out) 512 && (eqb (length p) 32 && eqb (length u) 32) ≡ true = (first-zero 0 (write_tests out p u f) (write-ascending out p u f) e).0 in
    let k : eqb (length p) 32 && eqb (length u) 32 ≡ true = and_right (eqb (length out) 512) (eqb (length p) 32 && eqb (length u) 32) h in (
      eqb-true (length out) 512 (and_left (eqb (length out) 512) (eqb (length p) 32 && eqb (length u) 32) h),
      eqb-true (length p) 32 (and_left (eqb (length p) 32) (eqb (length u) 32) k),
      eqb-true (length u) 32 (and_right (eqb (length p) 32) (eqb (length u) 32) k),
    )

-- what an accepted write stores
pub sealed_laid : (out p u : List ℕ) (f : BlockFields) → first (write_tests out p u f) ≡ 0 → sealed (body_laid (length out) p u f) ≡ block_of p u f
sealed_laid out p u f z =
    let sizes : (length out ≡ 512) × (length p ≡ 32) × (length u ≡ 32) = write_sizes out p u f z in
    ap (λ (n : ℕ). sealed (body_laid n p u f)) sizes.0 ∙ sealed_body p u f sizes.1 sizes.2
