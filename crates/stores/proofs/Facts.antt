-- What times, readings and copies that hold a record have to say, on no device in particular.
use Prim.Native.Nat.{ℕ}
use mathlib.Core.Path.{◌≡◌, refl, sym, ap, ap₂, ◌∙◌}
use mathlib.Core.Bool.{Bool, true, false, true≢false}
use mathlib.Core.Logic.{◌⊎◌, inl, inr}
use mathlib.Core.List.{List}
use native.Mathlib.Decide.{ℕ_discrete}
use native.Mathlib.Omega.{arith}
use borrow.Author.Tests.{eq-eqb}
use lib.Dec.{eqb}
use lib.ListN.{length}
use Rattle.std.specs.Prelude.{Result, Ok, Err}
use Rattle.refusal.specs.declared.Reason.{Reason}
use Rattle.endian.specs.Bytes.{same}
use Rattle.endian.proofs.Tests.{and_both, same_equal, equal_same}
use Rattle.checksum.specs.Crc as Crc
use Rattle.refusal.specs.Tests.{first}
use Rattle.layout.specs.declared.Device.{Device}
use Rattle.layout.specs.declared.Side.TheVariants.{Front, Back}
use Rattle.layout.specs.declared.Area.{Area}
use Rattle.layout.specs.declared.Area.TheVariants.{A, B}
use Rattle.layout.specs.Places.{copy_bytes}
use Rattle.block.specs.declared.Time.{Time}
use Rattle.block.specs.declared.Holding.{Holding}
use Rattle.block.specs.declared.BlockFields.{BlockFields}
use Rattle.block.specs.declared.Reading.{Reading}
use Rattle.block.specs.Entry.{same_time}
use Rattle.block.specs.Block.{fields_of, read_tests, reading}
use Rattle.block.specs.Writing.{holding_of}
use Rattle.block.proofs.Readings.{refused_reading_lem}
use Rattle.block.proofs.Times.{same_test}
use Rattle.copy.specs.Copy.{block_in, area_bytes, entry_in, other_area, newest}
use Rattle.discovery.specs.Discovery.{sized}
use Rattle.crash.specs.Crash.{Sectors, Sound, copy_from}
use Rattle.crash.proofs.Copies.{length-copy}
use Rattle.stores.proofs.Holding.{held_in, record_in, Holds}
use Rattle.stores.proofs.InStep.{reading_facts}

pub other_differs : (x : Area) → other_area x ≡ x → ⊥
other_differs A e = let o : ◌≡◌ {A = ℕ} 0 1 = cc in omega arith
other_differs B e = let o : ◌≡◌ {A = ℕ} 0 1 = cc in omega arith

-- the same under equal names, and an equal record
pub renamed : {c : List ℕ} {f : BlockFields} {p q u w : List ℕ} {x : Area} {h : Holding} {r s : List ℕ} → p ≡ q → u ≡ w → r ≡ s → Holds c f p u x h r → Holds c f q w x h s
renamed {c} {f} {p} {q} {u} {w} {x} {h} {r} {s} a b e k =
    record {
      reads = k.reads ∙ ap₂ (λ (y z : List ℕ). reading-of f y z) a b;
      area = k.area;
      entry = k.entry;
      bytes = k.bytes ∙ e;
      sum = k.sum ∙ ap Crc.checksum e;
      long = k.long ∙ ap length e;
    }
  where
    reading-of : BlockFields → List ℕ → List ℕ → Result Reading Reason
    reading-of f y z = Ok (record { fields = f; pool = y; blockdev = z })

pub same_time-refl : (t : Time) → same_time t t ≡ true
same_time-refl t = same_test t t refl refl

pub sized_copies : (v : Device) (d e : Sectors) → Sound d → Sound e → sized (copy_from Front v d) (copy_from Back v e) ≡ true
sized_copies v d e sd se =
    and_both (eqb (length (copy_from Front v d)) copy_bytes) (eqb (length (copy_from Back v e)) copy_bytes)
    (eq-eqb (length (copy_from Front v d)) copy_bytes (length-copy Front v d sd)) (eq-eqb (length (copy_from Back v e)) copy_bytes (length-copy Back v e se))

-- two lists are the same or not
pub split : (a b : List ℕ) (x : Bool) → same a b ≡ x → (a ≡ b) ⊎ (a ≡ b → ⊥)
split a b true e = inl (same_equal a b e)
split a b false e = inr (λ q. true≢false (sym (equal_same a b q) ∙ e))

-- a block that is accepted only in one of two versions stands in one of them, or is refused
pub stands_as : (b o n : List ℕ) → ((b ≡ o → ⊥) → (b ≡ n → ⊥) → first (read_tests b) ≡ 0 → ⊥)
    → (b ≡ o) ⊎ ((b ≡ n) ⊎ ((e : Reason) × (reading b ≡ Err e)))
stands_as b o n x = go (split b o (same b o) refl) (split b n (same b n) refl)
  where
    go : (b ≡ o) ⊎ (b ≡ o → ⊥) → (b ≡ n) ⊎ (b ≡ n → ⊥) → (b ≡ o) ⊎ ((b ≡ n) ⊎ ((e : Reason) × (reading b ≡ Err e)))
    go (inl p) q = inl p
    go (inr p) (inl q) = inr (inl q)
    go (inr p) (inr q) =
        elim (ℕ_discrete (first (read_tests b)) 0) [
          | yes z ↦ absurd (x p q z)
          | no h ↦ inr (inr (_, refused_reading_lem b h))
        ]

-- what a copy that holds a record has in its newest area
pub its_record : {c : List ℕ} {f : BlockFields} {p u : List ℕ} {x : Area} {h : Holding} {r : List ℕ} → Holds c f p u x h r → (record_in c ≡ r) × (held_in c ≡ h)
its_record {c} {f} {p} {u} {x} {h} {r} k =
    let e : f ≡ fields_of (block_in c) = ap (λ (q : Reading). q.fields) (reading_facts (block_in c) _ k.reads).1 in
    let w : held_in c ≡ h =
    sym (ap (λ (g : BlockFields). holding_of (entry_in g (newest g))) e) ∙ (ap (λ (y : Area). holding_of (entry_in f y)) k.area ∙ ap holding_of k.entry) in
    (ap₂ (λ (y : Area) (q : Holding). area_bytes c y q.bytes) (sym (ap newest e) ∙ k.area) w ∙ k.bytes, w)
