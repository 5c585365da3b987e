-- A refused call changes no lent byte: an answer and the bytes that go with it are chosen by the same tests.
use Prim.Native.Nat.{ℕ, ◌+◌, ◌-◌, ◌*◌}
use mathlib.Core.Path.{◌≡◌, refl, ap}
use mathlib.Core.Bool.{Bool, true, false, cond, true≢false}
use mathlib.Core.List.{List, ◌++◌}
use borrow.Author.Tests.{ne_eqb}
use lib.Dec.{eqb, ltb}
use lib.ListN.{length}
use Rattle.endian.specs.Bytes.{zeros, splice}
use Rattle.std.specs.Prelude.{Result, Ok, Err, is_ok}
use Rattle.refusal.specs.declared.Reason.{Reason}
use Rattle.refusal.specs.Reasons.{reason}
use Rattle.refusal.specs.Tests.{first}
use Rattle.refusal.specs.Numbers.{slice_size, no_such_store}
use Rattle.layout.specs.declared.Area.{Area}
use Rattle.layout.specs.Places.{area_offset}
use Rattle.block.specs.declared.BlockFields.{BlockFields}
use Rattle.block.specs.Block.{pool_of, blockdev_of}
use Rattle.block.specs.Writing.{block_of, write_tests, written}
use Rattle.copy.specs.Copy.{is_copy, block_in}
use Rattle.stores.specs.declared.Part.{Part}
use Rattle.stores.specs.Given.{sector_in, within, block_answer, block_bytes, block_given, block_left, part_answer, part_bytes, part_tests, part_given, part_left, lay_tests, laid}
use Rattle.stores.specs.Stores.{sectors_of}
use Rattle.stores.specs.Demand.{Refusing}

-- a test chooses the answer and the bytes
pub either : (t : Bool) (a c : Result ℕ Reason) (b e out : List ℕ) (n : Reason) → (a ≡ Err n → b ≡ out) → (c ≡ Err n → e ≡ out)
    → cond t a c ≡ Err n → cond t b e ≡ out
either true a c b e out n f g h = f h
either false a c b e out n f g h = g h

pub at-refused : (s : ℕ) (n : Reason) → Ok s ≡ Err n → ⊥
at-refused s n e = true≢false (ap is_ok e)

block_inner : (s : ℕ) (g : BlockFields) (c out : List ℕ) (n : Reason) → block_answer s g c out ≡ Err n → block_bytes g c out ≡ out
unfolding written
block_inner s g c out n =
    either (eqb (first (write_tests out (pool_of (block_in c)) (blockdev_of (block_in c)) g)) 0) (Ok s) _ (block_of (pool_of (block_in c)) (blockdev_of (block_in c)) g) out out n
    (λ e. absurd (at-refused s n e)) (λ e. refl)

pub block_refuses : (s : ℕ) (g : BlockFields) (c out : List ℕ) (n : Reason) → block_given s g c out ≡ Err n → block_left g c out ≡ out
block_refuses s g c out n = either (is_copy c) (block_answer s g c out) (Err (reason slice_size)) (block_bytes g c out) out out n (block_inner s g c out n) (λ e. refl)

module _ (p : Part) (k : ℕ) (c r : List ℕ) (j : ℕ) (out : List ℕ) (n : Reason) where
  part_inner : part_answer p k c j out ≡ Err n → part_bytes p k c r j out ≡ out
  part_inner =
      either (ltb j k) (cond (within p.area j) (Ok (p.area + j)) (Err (reason no_such_store))) (block_answer p.block p.fields c out)
      (cond (within p.area j) (sector_in r j out) out) (block_bytes p.fields c out) out n
      (either (within p.area j) (Ok (p.area + j)) (Err (reason no_such_store)) (sector_in r j out) out out n (λ e. absurd (at-refused (p.area + j) n e)) (λ e. refl))
      (block_inner p.block p.fields c out n)

  pub part_refuses : part_given p k c r j out ≡ Err n → part_left p k c r j out ≡ out
  part_refuses =
      either (eqb (first (part_tests k c r j out)) 0) (part_answer p k c j out) (Err (reason (first (part_tests k c r j out)))) (part_bytes p k c r j out) out out n
      part_inner (λ e. refl)

lay_refuses : (c : List ℕ) (x : Area) (r : List ℕ) → (first (lay_tests c r) ≡ 0 → ⊥) → laid c x r ≡ c
unfolding laid
lay_refuses c x r h =
    ap (λ (t : Bool). cond t (splice c (area_offset x) (r ++ zeros (sectors_of (length r) * 512 - length r))) c) (ne_eqb (first (lay_tests c r)) 0 h)

pub refusing : Refusing
refusing = record { block = block_refuses; part = part_refuses; lay = lay_refuses }
