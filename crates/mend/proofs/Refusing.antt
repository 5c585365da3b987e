-- A refused store changes no lent byte.
use Prim.Native.Nat.{ℕ, ◌+◌, ◌-◌}
use mathlib.Core.Path.{◌≡◌, refl}
use mathlib.Core.List.{List}
use lib.Dec.{eqb, leb}
use Rattle.std.specs.Prelude.{Some, None, Ok, Err}
use Rattle.refusal.specs.declared.Reason.{Reason}
use Rattle.refusal.specs.Reasons.{reason}
use Rattle.refusal.specs.Tests.{first}
use Rattle.layout.specs.Places.{block_sector}
use Rattle.block.specs.declared.BlockFields.{BlockFields}
use Rattle.block.specs.Block.{fields_of}
use Rattle.copy.specs.Copy.{block_in, area_bytes, other_area, other_side}
use Rattle.discovery.specs.Discovery.{copy_on}
use Rattle.stores.specs.Stores.{sectors_of, with_entry}
use Rattle.stores.specs.Given.{block_given, block_left, part_given, part_left}
use Rattle.stores.proofs.Refusing.{either, block_refuses, part_refuses}
use Rattle.mend.specs.declared.Rewrite.{Rewrite}
use Rattle.mend.specs.Mend.{emptied}
use Rattle.mend.specs.Plan.{part_for, rewrite_answer, rewrite_bytes, needed_tests, needed_answer, needed_bytes}
use Rattle.mend.specs.Demand.{Refusing}

rewrite_refuses : (p : Rewrite) (x : BlockFields) (c : List ℕ) (i : ℕ) (out : List ℕ) (n : Reason) → rewrite_answer p x c i out ≡ Err n → rewrite_bytes p x c i out ≡ out
rewrite_refuses p x c i out n =
    either (eqb i 0) (block_given (block_sector (other_side p.kept) x.device) (emptied x.device) c out) _ (block_left (emptied x.device) c out) _ out n
    (block_refuses (block_sector (other_side p.kept) x.device) (emptied x.device) c out n)
    (either (leb i (sectors_of p.bytes + 1))
    (part_given (part_for (other_side p.kept) p.area x) (sectors_of p.bytes) c (area_bytes c p.area p.bytes) (i - 1) out) _
    (part_left (part_for (other_side p.kept) p.area x) (sectors_of p.bytes) c (area_bytes c p.area p.bytes) (i - 1) out) _ out n
    (part_refuses (part_for (other_side p.kept) p.area x) (sectors_of p.bytes) c (area_bytes c p.area p.bytes) (i - 1) out n)
    (block_refuses (block_sector p.kept x.device) (with_entry x (other_area p.area) None) c out n))

needed_refuses : (p : Rewrite) (f b c : List ℕ) (i : ℕ) (out : List ℕ) (n : Reason) → needed_answer p f b c i out ≡ Err n → needed_bytes p f b c i out ≡ out
needed_refuses p f b c i out n =
    either (eqb (first (needed_tests p f b c i out)) 0) (rewrite_answer p (fields_of (block_in c)) c i out) (Err (reason (first (needed_tests p f b c i out))))
    (rewrite_bytes p (fields_of (block_in c)) c i out) out out n (rewrite_refuses p (fields_of (block_in c)) c i out n) (λ e. refl)

pub refusing : Refusing
refusing (Ok None) f b i out n e = refl
refusing (Ok (Some p)) f b i out n e = needed_refuses p f b (copy_on p.kept f b) i out n e
refusing (Err k) f b i out n e = refl
