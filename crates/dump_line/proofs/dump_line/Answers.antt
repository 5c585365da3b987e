-- `dump_line::dump_line` meets its contract.
use Prim.Native.Nat.{ℕ}
use mathlib.Core.Path.{◌≡◌, ap, ap₂, ◌∙◌}
use mathlib.Core.List.{List}
use native.Mathlib.Omega.{arith}
use lib.ListN.{length, take, drop}
use Rattle.endian.specs.Bytes.{window, splice}
use Rattle.endian.proofs.Parts.{window_rest}
use Rattle.layout.specs.Places.{copy_bytes}
use Rattle.discovery.specs.Discovery.{discovery}
use Rattle.dump_line.specs.Line.{line_of, dump_line, written_of}
use Rattle.dump_line.proofs.dump_line.Goals as goal

pub returns-clause-value : goal.returns-clause-value
unfolding window
returns-clause-value c = let d : List ℕ = c.args.d.now in
    let out : List ℕ = c.args.out.now in
    let f : c.window.result.now ≡ take copy_bytes d = c.window.ensures ∙ ap (λ (n : ℕ). take n d) c.copy_bytes-n.ensures in
    let b : c.window-2.result.now ≡ drop copy_bytes d =
    c.window-2.ensures ∙ (window_rest d c.copy_bytes-n.result (length d) (omega arith) ∙ ap (λ (n : ℕ). drop n d) c.copy_bytes-n.ensures) in
    let e : line_of (discovery c.window.result.now c.window-2.result.now) ≡ dump_line d = ap₂ (λ (x y : List ℕ). line_of (discovery x y)) f b in
    c.line.ensures.value ∙ ap (written_of out) e

pub returns-clause-out_after : goal.returns-clause-out_after
unfolding window
returns-clause-out_after c = let d : List ℕ = c.args.d.now in
    let out : List ℕ = c.args.out.now in
    let f : c.window.result.now ≡ take copy_bytes d = c.window.ensures ∙ ap (λ (n : ℕ). take n d) c.copy_bytes-n.ensures in
    let b : c.window-2.result.now ≡ drop copy_bytes d =
    c.window-2.ensures ∙ (window_rest d c.copy_bytes-n.result (length d) (omega arith) ∙ ap (λ (n : ℕ). drop n d) c.copy_bytes-n.ensures) in
    let e : line_of (discovery c.window.result.now c.window-2.result.now) ≡ dump_line d = ap₂ (λ (x y : List ℕ). line_of (discovery x y)) f b in
    c.line.ensures.out_after ∙ ap (splice out 0) e
