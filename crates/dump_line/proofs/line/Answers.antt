-- `dump_line::line` meets its contract.
use Prim.Native.Nat.{ℕ}
use mathlib.Core.Path.{◌≡◌, ap, ◌∙◌}
use mathlib.Core.List.{List}
use Rattle.endian.specs.Bytes.{splice}
use Rattle.discovery.specs.Discovery.{discovery}
use Rattle.dump_line.specs.Line.{line_of}
use Rattle.dump_line.proofs.Lengths.{line-short, line-put}
use Rattle.dump_line.proofs.line.Goals as goal

pub returns-then-put-clause-value : goal.returns-then-put-clause-value
returns-then-put-clause-value c = let w : List ℕ = line_of (discovery c.args.c.front.now c.args.c.back.now) in
    let e : c.as_bytes-v.result.now ≡ w = c.as_bytes-v.ensures ∙ (c.line_of-t.ensures ∙ ap line_of c.discover.ensures) in
    line-put _ _ w e c.if-put.ensures.value

pub returns-then-put-clause-out_after : goal.returns-then-put-clause-out_after
returns-then-put-clause-out_after c = let w : List ℕ = line_of (discovery c.args.c.front.now c.args.c.back.now) in
    let e : c.as_bytes-v.result.now ≡ w = c.as_bytes-v.ensures ∙ (c.line_of-t.ensures ∙ ap line_of c.discover.ensures) in
    c.put.ensures.s_after ∙ ap (splice c.args.out.now 0) e

pub returns-else-put-clause-value : goal.returns-else-put-clause-value
returns-else-put-clause-value c = let w : List ℕ = line_of (discovery c.args.c.front.now c.args.c.back.now) in
    let e : c.as_bytes-v.result.now ≡ w = c.as_bytes-v.ensures ∙ (c.line_of-t.ensures ∙ ap line_of c.discover.ensures) in
    line-short _ _ w e c.if-put.ensures.value

pub returns-else-put-clause-out_after : goal.returns-else-put-clause-out_after
returns-else-put-clause-out_after c = let w : List ℕ = line_of (discovery c.args.c.front.now c.args.c.back.now) in
    let e : c.as_bytes-v.result.now ≡ w = c.as_bytes-v.ensures ∙ (c.line_of-t.ensures ∙ ap line_of c.discover.ensures) in
    c.put.ensures.s_after ∙ ap (splice c.args.out.now 0) e
