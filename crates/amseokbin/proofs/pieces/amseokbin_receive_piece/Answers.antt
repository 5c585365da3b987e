-- `amseokbin::pieces::amseokbin_receive_piece` meets its contract.
use Rattle.std.proofs.Common.{◌≡◌, refl, ap, ap₂, ◌∙◌, Result, Ok, Err}
use Rattle.refusal.specs.declared.Reason.{Reason}
use Rattle.refusal.specs.declared.Refusal.{Refusal}
use Rattle.refusal.specs.Reasons.{refusal_in}
use Rattle.receive.specs.declared.Received.{Received}
use Rattle.receive.specs.Receive.{taking, told, kept_after}
use Rattle.amseokbin.specs.declared.ReceiveAnswer.{ReceiveAnswer}
use Rattle.amseokbin.specs.Copies.{receive_answer}
use Rattle.amseokbin.proofs.pieces.amseokbin_receive_piece.Goals as goal

-- the refusal and the state that a caller has, put together, are the answer
together : (s : Received) (r : Result Received Reason) → record { refusal = refusal_in (told r); received = kept_after s r } ≡ receive_answer s r
together s (Ok t) = refl
together s (Err e) = refl

abbrev answer_of : Refusal → Received → ReceiveAnswer
answer_of n s = record { refusal = n; received = s }

pub returns : goal.returns
returns c =
    ap₂ answer_of (c.refusal_in.ensures ∙ ap refusal_in c.take-answer.ensures.value) c.take-answer.ensures.s_after
    ∙ together c.args.received (taking c.args.received c.args.piece.now)
