-- A copy as the code fills it, and both copies as formatting leaves them.
use Prim.Native.Nat.{ℕ, ◌-◌, ◌≤◌}
use mathlib.Core.Path.{◌≡◌, sym, ap, ◌∙◌}
use mathlib.Core.List.{List, ◌++◌}
use native.Mathlib.Decide.{ℕ_discrete}
use native.Mathlib.Omega.{arith}
use Rattle.std.proofs.lemmas.Bool.Decides.{nat_tests}
use lib.ListN.{length, take, drop}
use Rattle.endian.specs.Bytes.{window, zeros}
use Rattle.endian.proofs.Parts.{length-window-fits, window-part, splice-part}
use Rattle.endian.proofs.Tests.{length-zeros}
use Rattle.refusal.proofs.Reasons.{ok_zero}
use Rattle.std.specs.Prelude.{Ok}
use Rattle.refusal.specs.Tests.{first, AllHold}
use Rattle.refusal.proofs.Order.{first_all}
use Rattle.layout.specs.declared.Device.{Device}
use Rattle.layout.specs.declared.Area.TheVariants.{A}
use Rattle.layout.specs.Limits.{block_offset, sector_bytes}
use Rattle.layout.specs.Places.{copy_bytes}
use Rattle.block.specs.declared.Time.{Time}
use Rattle.block.specs.declared.BlockFields.{BlockFields}
use Rattle.block.specs.Block.{limit_tests}
use Rattle.block.specs.Writing.{write_tests, written}
use Rattle.block.proofs.Written.{length-block_of, written-refused, written-accepted, write_sizes}
use Rattle.record.specs.Accept.{named, answered}
use Rattle.stores.specs.Given.{laid}
use Rattle.format.specs.Format.{format_number, first_fields, formatted_copy, formatted}
use Rattle.format.specs.Filling.{filled}
use Rattle.format.proofs.Checking.{Taken, taken}

-- the signature block lies within a copy
pub block_fits : 1024 ≤ copy_bytes
unfolding copy_bytes
block_fits = omega arith

-- what a writer leaves is as long as what it was lent
length-written : (out p u : List ℕ) (x : BlockFields) → length out ≡ 512 → length (written out p u x) ≡ 512
length-written out p u x h =
    elim (ℕ_discrete (first (write_tests out p u x)) 0) [
      | yes z ↦
          ap length (sym (written-accepted out p u x z)) ∙ length-block_of p u x (write_sizes out p u x z).1 (write_sizes out p u x z).2
      | no k ↦ ap length (sym (written-refused out p u x k)) ∙ h
    ]

-- one copy, from what each call has left
module _ (c : List ℕ) (n : length c ≡ copy_bytes) (z : List ℕ) (ez : z ≡ zeros (length c)) where
  cleared : z ≡ zeros copy_bytes
  cleared = ez ∙ ap zeros n

  long : length z ≡ copy_bytes
  long = ap length cleared ∙ length-zeros copy_bytes

  part-fits : 1024 ≤ length z
  part-fits = omega (arith, long, block_fits)

  pub copy-filled : (p u : List ℕ) (x : BlockFields) (r w y : List ℕ) → w ≡ written (take (1024 - 512) (drop 512 z)) p u x
      → y ≡ laid (take 512 z ++ (w ++ drop (1024 - 512) (drop 512 z))) A r → y ≡ filled p u x r
  unfolding filled
  copy-filled p u x r w y ew ey =
      let e : w ≡ written (window z block_offset sector_bytes) p u x = ew ∙ ap (λ (o : List ℕ). written o p u x) (window-part z block_offset sector_bytes) in
      let l : length w ≡ 512 = ap length e ∙ length-written (window z block_offset sector_bytes) p u x (length-window-fits z block_offset sector_bytes part-fits) in
      rw (ey, splice-part z block_offset sector_bytes w part-fits l, e, cleared)

module _ {f b : List ℕ} {v : Device} {p u : List ℕ} {t : Time} {r : List ℕ} (k : Taken f b v p u t r) where
  -- the first entry is within its limits, and so is the block
  pub first_limits : AllHold (limit_tests p u (first_fields v t r))
  first_limits = (k.hex, (k.metadata, (k.reserved, (grind (arith, k.content.0, k.ns), tt))))

  pub first_writes : (out : List ℕ) → length out ≡ 512 → first (write_tests out p u (first_fields v t r)) ≡ 0
  first_writes out h = first_all (write_tests out p u (first_fields v t r)) (grind (arith, nat_tests, k.pool, k.device), (k.size, first_limits))

  -- where formatting is not refused, the writer does not refuse either
  pub filled-formatted : filled p u (first_fields v t r) r ≡ formatted_copy v p u t r
  unfolding filled formatted_copy
  filled-formatted =
      let n : length (window (zeros copy_bytes) block_offset sector_bytes) ≡ 512 =
      length-window-fits (zeros copy_bytes) block_offset sector_bytes (omega (arith, length-zeros copy_bytes, block_fits)) in
      rw (← written-accepted (window (zeros copy_bytes) block_offset sector_bytes) p u (first_fields v t r) (first_writes (window (zeros copy_bytes) block_offset sector_bytes) n))

-- both copies, where the tests refuse nothing
module _ (f b : List ℕ) (v : Device) (p u : List ℕ) (t : Time) (r : List ℕ) (w : Unit {0}) (h : Ok w ≡ answered (format_number f b v p u t r) r (tt {0})) where
  none : format_number f b v p u t r ≡ 0
  none = ok_zero (format_number f b v p u t r) (named (format_number f b v p u t r) r) (tt {0}) w (sym h)

  pub accepted_facts : Taken f b v p u t r
  accepted_facts = taken f b v p u t r none

  pub filled_after : (c : List ℕ) → filled p u (first_fields v t r) r ≡ formatted c f b v p u t r
  unfolding formatted
  filled_after c = rw none (filled-formatted accepted_facts)
