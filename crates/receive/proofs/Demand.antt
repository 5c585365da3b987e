-- What pieces that follow one another give, proved in the words of `specs/Demand.antt`.
use Prim.Native.Nat.{ℕ}
use mathlib.Core.Path.{◌≡◌, sym, ap, subst, ◌∙◌}
use mathlib.Core.List.{List, flatten}
use native.Mathlib.Omega.{arith}
use lib.ListN.{length}
use Rattle.copy.specs.Copy.{copy_reading}
use Rattle.copy.specs.Demand.{Reads}
use Rattle.copy.proofs.Demand as Copy
use Rattle.receive.specs.Receive.{fresh, ending}
use Rattle.receive.specs.Demand.{bytes_taken, AllTaken, answered, size, CutAnywhere, AtOnce, NoCopy, Pieces}
use Rattle.receive.proofs.Joined.{window-joined}
use Rattle.receive.proofs.Following.{after-fresh, any_state, no_trace, none-refused, passing}
use Rattle.receive.proofs.State.{holds, kept, laying, used}
use Rattle.receive.proofs.Answering.{ending-left, ending_of, short_state, unsized_read}

at_once : (ps : List (List ℕ)) → AtOnce ps
at_once ps =
    let e : answered ps ≡ copy_reading (bytes_taken fresh ps) = ap ending (after-fresh ps) ∙ ending-left (bytes_taken fresh ps) in
    record { same = e; means = subst (Reads (bytes_taken fresh ps)) (sym e) (Copy.exactly (bytes_taken fresh ps)) }

cut : CutAnywhere
cut c z ps e =
    let n : (AllTaken fresh ps) × (bytes_taken fresh ps ≡ flatten ps) = none-refused ps (let l : length (flatten ps) ≡ size = ap length e ∙ z in omega arith) in
    (n.0, (at_once ps).same ∙ ap copy_reading (n.1 ∙ e))

no_copy : NoCopy
no_copy =
    record {
      fewer = λ ps l. (at_once ps).same ∙ unsized_read (bytes_taken fresh ps) (λ e. (let f : length (bytes_taken fresh ps) ≡ size = e in absurd (omega arith)));
      state = short_state;
    }

pub pieces : Pieces
pieces =
    record {
      cut = cut;
      at_once = at_once;
      none-refused = none-refused;
      no_trace = no_trace;
      any_state = any_state;
      passing = passing;
      no_copy = no_copy;
      kept = kept;
      holds = holds;
      used = used;
      part = window-joined;
      laying = laying;
      ending = ending_of;
    }
