-- `heads::rewrite` meets its contract.
use Rattle.std.proofs.Common.{◌≡◌, [], ◌+◌, ◌≤◌, ◌++◌, length, sym, ap, ◌∙◌, arith}
use Rattle.std.proofs.lemmas.Result.{err_from_is_err_and}
use Rattle.std.specs.Prelude.{Ok, Err}
use Rattle.endian.specs.Bytes.{splice}
use Rattle.refusal.specs.Tests.{first}
use Rattle.refusal.specs.Reasons.{answer}
use Rattle.items.specs.Head.{head_of, head_bytes, head_size}
use Rattle.items.specs.Items.{items_of}
use Rattle.allocation.proofs.Calls.{refused_on, accepted_on}
use Rattle.heads.specs.Changing.{head_after, record_after, head_tests, room_tests, change_tests}
use Rattle.heads.proofs.Calls.{kept_by, head-refused, room-refused, room_there, after_small, done}
use Rattle.heads.proofs.rewrite.Goals as goal

pub returns-in_err-check : goal.returns-in_err-check
returns-in_err-check c =
    let r = refused_on c.args.d c.args.s.now (head_tests c.args.c (head_of c.args.s.now) ++ room_tests c.args.c c.args.s.now (length c.args.out.now)) tt
    (length (record_after c.args.c c.args.s.now)) c.in_err-check.field-0.0 (sym c.check.ensures ∙ c.in_err-check.was) in
    let p = err_from_is_err_and c.from_residual.result c.from_residual.ensures.1 in
    record { value = rw (p.1, p.2) r; out_after = kept_by (splice c.args.out.now 0 (record_after c.args.c c.args.s.now)) c.args.out.now c.args.s.now (first (change_tests c.args.d c.args.s.now c.args.c (length c.args.out.now))) (length (record_after c.args.c c.args.s.now)) _ r }

pub returns-in_err-check_head : goal.returns-in_err-check_head
returns-in_err-check_head c =
    let z = (accepted_on c.args.d c.args.s.now [] tt _ (sym c.check.ensures ∙ c.in_ok-check.was)).0 in
    let h : answer (first (head_tests c.args.c (head_of c.args.s.now))) (tt {0}) ≡ Err c.in_err-check_head.field-0.0 = rw (← c.head_of-h.ensures) (sym c.check_head.ensures ∙ c.in_err-check_head.was) in
    let r = head-refused c.args.d c.args.s.now c.args.c (length c.args.out.now) z c.in_err-check_head.field-0.0 h in
    let p = err_from_is_err_and c.from_residual-in_err-check_head.result c.from_residual-in_err-check_head.ensures.1 in
    record { value = rw (p.1, p.2) r; out_after = kept_by (splice c.args.out.now 0 (record_after c.args.c c.args.s.now)) c.args.out.now c.args.s.now (first (change_tests c.args.d c.args.s.now c.args.c (length c.args.out.now))) (length (record_after c.args.c c.args.s.now)) _ r }

pub overflow_add-size : goal.overflow_add-size
overflow_add-size c =
    let z = (accepted_on c.args.d c.args.s.now [] tt _ (sym c.check.ensures ∙ c.in_ok-check.was)).0 in
    let e : c.head_size-size.result ≡ head_size (head_after c.args.c (head_of c.args.s.now)) = rw (← c.head_of-h.ensures, ← c.head_after-after.ensures) c.head_size-size.ensures in
    let f : length c.items_of-t.result.now ≡ length (items_of c.args.s.now) = ap length c.items_of-t.ensures in
    record { fits = omega (arith, after_small c.args.d c.args.s.now c.args.c z) }

pub returns-then-out-size : goal.returns-then-out-size
returns-then-out-size c =
    let z = (accepted_on c.args.d c.args.s.now [] tt _ (sym c.check.ensures ∙ c.in_ok-check.was)).0 in
    let e : c.head_size-size.result ≡ head_size (head_after c.args.c (head_of c.args.s.now)) = rw (← c.head_of-h.ensures, ← c.head_after-after.ensures) c.head_size-size.ensures in
    let f : length c.items_of-t.result.now ≡ length (items_of c.args.s.now) = ap length c.items_of-t.ensures in
    let k : answer (first (head_tests c.args.c (head_of c.args.s.now))) (tt {0}) ≡ Ok c.in_ok-check_head.field-0 = rw (← c.head_of-h.ensures) (sym c.check_head.ensures ∙ c.in_ok-check_head.was) in
    let r = room-refused c.args.d c.args.s.now c.args.c (length c.args.out.now) z c.in_ok-check_head.field-0 k (omega (arith, c.if-out-size.true)) in
    record { value = r; out_after = kept_by (splice c.args.out.now 0 (record_after c.args.c c.args.s.now)) c.args.out.now c.args.s.now (first (change_tests c.args.d c.args.s.now c.args.c (length c.args.out.now))) (length (record_after c.args.c c.args.s.now)) _ r }

pub returns : goal.returns
returns c =
    let z = (accepted_on c.args.d c.args.s.now [] tt _ (sym c.check.ensures ∙ c.in_ok-check.was)).0 in
    let e : c.head_size-size.result ≡ head_size (head_after c.args.c (head_of c.args.s.now)) = rw (← c.head_of-h.ensures, ← c.head_after-after.ensures) c.head_size-size.ensures in
    let f : length c.items_of-t.result.now ≡ length (items_of c.args.s.now) = ap length c.items_of-t.ensures in
    let k : answer (first (head_tests c.args.c (head_of c.args.s.now))) (tt {0}) ≡ Ok c.in_ok-check_head.field-0 = rw (← c.head_of-h.ensures) (sym c.check_head.ensures ∙ c.in_ok-check_head.was) in
    let l : head_size (head_after c.args.c (head_of c.args.s.now)) + length (items_of c.args.s.now) ≤ length c.args.out.now = omega (arith, c.if-out-size.false) in
    let a : c.put_head.new.out ≡ splice c.args.out.now 0 (head_bytes (head_after c.args.c (head_of c.args.s.now))) = rw (← c.head_of-h.ensures, ← c.head_after-after.ensures) c.put_head.ensures.out_after in
    let b : c.put.new.s ≡ splice c.put_head.new.out (head_size (head_after c.args.c (head_of c.args.s.now))) (items_of c.args.s.now) = rw (← e, ← c.items_of-t.ensures) c.put.ensures.s_after in
    let d = done c.args.d c.args.s.now c.args.c c.args.out.now c.put_head.new.out c.put.new.s
    (room_there c.args.d c.args.s.now c.args.c (length c.args.out.now) z c.in_ok-check_head.field-0 k l) l a b in
    record { value = rw (e, f) d.0; out_after = d.1 }
