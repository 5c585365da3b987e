-- `checksum::run` meets its contract: from where it stands, the bytes left bring the register where all of them do.
use Prim.Native.Nat.{ℕ, ◌+◌, ◌<◌, ◌/◌}
use mathlib.Core.Path.{sym, ap, ap₂, ◌∙◌}
use mathlib.Core.List.{List, ◌++◌, flatten}
use native.Mathlib.Omega.{arith}
use lib.ListN.{length, drop}
use Rattle.checksum.specs.Crc.{register}
use Rattle.checksum.proofs.Laws.{register-chunk, register-chunks, chunks-rest, register-drop, register-end}
use Rattle.checksum.proofs.run.Goals as goal

pub loop-e-init : goal.loop-e-init
loop-e-init c =
    ap (register c.args.c)
    (ap₂ (λ (x : List (List ℕ)) (y : List ℕ). flatten x ++ y) c.as_chunks.ensures.front c.as_chunks.ensures.back
    ∙ chunks-rest 8 (length c.args.s.now / 8) c.args.s.now)

pub loop-e-preserved : goal.loop-e-preserved
loop-e-preserved c =
    let es : List (List ℕ) = c.as_chunks.result.0.now in
    let i : ℕ = c.loop-e.e-index in
    let t : List ℕ = c.as_chunks.result.1.now in
    ap (λ (x : ℕ). register x (flatten (drop (i + 1) es) ++ t)) c.eight-r.ensures
    ∙ (sym (register-chunk c.loop-e.r es i t c.loop-e-test.true) ∙ c.loop-e.invariant)

pub loop-b-init : goal.loop-b-init
loop-b-init c = sym (register-chunks c.loop-e.r _ _ c.as_chunks.result.1.now c.loop-e-test.false) ∙ c.loop-e.invariant

pub loop-b-preserved : goal.loop-b-preserved
loop-b-preserved c =
    let s : List ℕ = c.as_chunks.result.1.now in
    let i : ℕ = c.loop-b.b-index in
    ap (λ (x : ℕ). register x (drop (i + 1) s)) c.one-r.ensures
    ∙ (sym (register-drop c.loop-b.r s i (let l : i < length s = omega arith in l)) ∙ c.loop-b.invariant)

pub returns : goal.returns
returns c = sym (register-end c.loop-b.r _ c.loop-b.b-index c.loop-b-test.false) ∙ c.loop-b.invariant
