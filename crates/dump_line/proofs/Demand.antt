-- What holds of the line, proved.
use Prim.Native.Nat.{ℕ, ◌≤◌}
use mathlib.Core.Path.{◌≡◌, ap, ◌∙◌}
use mathlib.Core.List.{List, ◌++◌}
use native.Mathlib.Nat.{zero-add}
use native.Mathlib.Omega.{arith}
use lib.ListN.{length, drop}
use Rattle.endian.specs.Bytes.{splice}
use Rattle.endian.proofs.Parts.{splice-fits, splice-short}
use Rattle.dump_line.specs.Answers.{written_values}
use Rattle.refusal.specs.Reasons.{number_in}
use Rattle.dump_line.specs.Demand.{Writing}
use Rattle.dump_line.proofs.Lengths.{line_room, written-short, written-fits}
use Rattle.dump_line.proofs.Lines.{other_size}

-- a line that fits stands at the start
at_start : (out v : List ℕ) → length v ≤ length out → splice out 0 v ≡ v ++ drop (length v) out
at_start out v h = splice-fits out 0 v (omega arith) ∙ ap (λ (n : ℕ). v ++ drop n out) (zero-add (length v))

pub writing : Writing
writing =
    record {
      short = λ out v h. (ap number_in (written-short out v h), ap written_values (written-short out v h), splice-short out 0 v (omega arith));
      fits = λ out v h. (ap number_in (written-fits out v h), ap written_values (written-fits out v h), at_start out v h);
      room = line_room;
      other_size = other_size;
    }
