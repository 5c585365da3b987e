-- `allocation::free_run_numbers` meets its contract.
use Rattle.std.proofs.Common.{◌≡◌, ℕ, ◌*◌, ◌/◌, ◌++◌, List, length, drop, sym, ap, ◌∙◌, arith}
use Rattle.std.specs.Prelude.{Ok}
use Rattle.refusal.specs.Refusals.{plain_but}
use Rattle.runs.specs.declared.Run.{Run}
use Rattle.record.specs.Accept.{named, answered}
use Rattle.allocation.specs.Walking.{left}
use Rattle.allocation.specs.Tables.{numbers_of}
use Rattle.allocation.specs.Answers.{runs_in}
use Rattle.allocation.proofs.Calls.{free_is, table-short, table_room}
use Rattle.allocation.proofs.free_run_numbers.Goals as goal

pub returns-then-table-n : goal.returns-then-table-n
unfolding named plain_but
returns-then-table-n c =
    let q = free_is c.args.d c.args.s.now c.in_ok-at.at c.data_range.result (left c.gaps_in-gaps.result) (sym c.check_in_order.ensures ∙ c.in_ok-at.was) c.data_range.ensures c.gaps_in-gaps.ensures.all in
    let n : c.number-n.result ≡ length (runs_in c.args.d c.args.s.now) = c.number-n.ensures ∙ ap length q.1 in
    let t = table-short c.args.d c.args.s.now (length c.args.table.now / 2) q.0 (omega arith) in
    record { value = ap (λ (k : ℕ). answered k c.args.s.now (length (runs_in c.args.d c.args.s.now))) (sym t); table_after = rw t }

pub returns : goal.returns
returns c =
    let q = free_is c.args.d c.args.s.now c.in_ok-at.at c.data_range.result (left c.gaps_in-gaps.result) (sym c.check_in_order.ensures ∙ c.in_ok-at.was) c.data_range.ensures c.gaps_in-gaps.ensures.all in
    let n : c.number-n.result ≡ length (runs_in c.args.d c.args.s.now) = c.number-n.ensures ∙ ap length q.1 in
    let t = table_room c.args.d c.args.s.now (length c.args.table.now / 2) q.0 (omega arith) in
    record {
      value = ap Ok n ∙ ap (λ (k : ℕ). answered k c.args.s.now (length (runs_in c.args.d c.args.s.now))) (sym t);
      table_after = rw t (c.fill_numbers.ensures ∙ ap (λ (rs : List Run). numbers_of rs ++ drop (2 * length rs) c.args.table.now) q.1);
    }
