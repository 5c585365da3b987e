-- `text::Text::add` meets its contract.
use Prim.Native.Nat.{ℕ, ◌+◌}
use mathlib.Core.Path.{ap, ◌∙◌}
use mathlib.Core.List.{List}
use native.Mathlib.Omega.{arith}
use lib.ListN.{length, take}
use Rattle.endian.proofs.Parts.{fits-true, fits-false}
use Rattle.text.specs.Text.{text}
use Rattle.text.proofs.Texts.{unplaced, placed}
use borrow.Author.Rules.{rules}
use Rattle.text.proofs.Text.add.Goals as goal

pub returns-then-not-put : goal.returns-then-not-put
unfolding text
returns-then-not-put c = unplaced _ _ _ (search rules) (fits-false _ _ _ c.if-not-put.ensures.value)

pub returns : goal.returns
unfolding text
returns c =
    let b : List ℕ = c.args.self.bytes in
    let u : ℕ = c.args.self.used in
    let p : List ℕ = c.args.piece.now in
    ap (take (u + length p)) c.put.ensures.s_after ∙ placed b u p (search rules) (fits-true _ _ _ c.if-not-put.ensures.value)

pub overflow_add-result : goal.overflow_add-result
overflow_add-result c = omega (arith, fits-true _ _ _ c.if-not-put.ensures.value)
