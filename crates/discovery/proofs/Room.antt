-- What `read_found` answers, by discovery's answer.
use Prim.Native.Nat.{ℕ, ◌≤◌, ◌<◌}
use mathlib.Core.Path.{◌≡◌, ap, ◌∙◌}
use mathlib.Core.Bool.{Bool, cond}
use borrow.Author.Tests.{le-leb, lt-leb}
use Rattle.std.proofs.Common.{Result, Err}
use Rattle.refusal.specs.declared.Reason.{Reason}
use Rattle.refusal.specs.Numbers.{slice_size}
use Rattle.refusal.specs.Reasons.{reason}
use Rattle.block.specs.declared.BlockFields.{BlockFields}
use Rattle.discovery.specs.declared.Finding.{Finding}
use Rattle.discovery.specs.declared.Found.{Found}
use Rattle.discovery.specs.Discovery.{found_with, read_answer}

module _ (a : Result Found Reason) (room : ℕ) (r : Finding) (o : Result BlockFields Reason) where
  pub no_room : a ≡ found_with r o → room < r.bytes → read_answer a room ≡ Err (reason slice_size)
  no_room e h = ap (λ (z : Result Found Reason). read_answer z room) e ∙ ap (λ (t : Bool). cond t (found_with r o) (Err (reason slice_size))) (lt-leb r.bytes room h)

  pub with_room : a ≡ found_with r o → r.bytes ≤ room → read_answer a room ≡ found_with r o
  with_room e h = ap (λ (z : Result Found Reason). read_answer z room) e ∙ ap (λ (t : Bool). cond t (found_with r o) (Err (reason slice_size))) (le-leb r.bytes room h)
