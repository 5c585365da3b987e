-- What holds of the line, in other terms. `proofs/Demand.antt` proves it.
use Rattle.std.specs.Prelude.{Result, Err, ℕ, ◌+◌, ◌≤◌, ◌<◌, ◌≡◌, List, [], ◌∷◌, ◌++◌, length, drop}
use Rattle.endian.specs.Bytes.{splice}
use Rattle.refusal.specs.Numbers.{slice_size}
use Rattle.layout.specs.Places.{copy_bytes}
use Rattle.refusal.specs.declared.Reason.{Reason}
use Rattle.refusal.specs.Reasons.{reason}
use Rattle.discovery.specs.declared.Found.{Found}
use Rattle.dump_line.specs.Line.{line_of, dump_line, line_bytes, written_of}
use Rattle.dump_line.specs.Answers.{written_values}
use Rattle.refusal.specs.Reasons.{number_in}

-- Number 1 is given exactly where the line has no room, and then nothing is changed; else its length, and it stands at the start, what
-- is past it as it was. Every line has room in `line_bytes`, also that of a dump of another size than two copies, which is `refused 1`.
pub record Writing : Type 0 where
  pub short : (out v : List ℕ) → length out < length v
      → (number_in (written_of out v) ≡ slice_size) × (written_values (written_of out v) ≡ []) × (splice out 0 v ≡ out)
  pub fits : (out v : List ℕ) → length v ≤ length out
      → (number_in (written_of out v) ≡ 0) × (written_values (written_of out v) ≡ length v ∷ []) × (splice out 0 v ≡ v ++ drop (length v) out)
  pub room : (a : Result Found Reason) → length (line_of a) ≤ line_bytes
  pub other_size : (d : List ℕ) → (length d ≡ copy_bytes + copy_bytes → ⊥) → dump_line d ≡ line_of (Err (reason slice_size))
