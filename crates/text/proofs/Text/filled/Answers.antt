-- `text::Text::filled` meets its contract: the digits by themselves, or at the end of a row of c.
use Prim.Native.Nat.{ℕ, ◌-◌}
use mathlib.Core.Path.{◌≡◌, sym, ap, ◌∙◌}
use mathlib.Core.List.{List}
use native.Mathlib.Omega.{arith}
use lib.ListN.{length}
use Rattle.text.specs.Decimal.{decimal}
use Rattle.text.specs.Text.{text, added}
use Rattle.text.proofs.Texts.{rest, rest_length, filled_long, filled-short, filled_way}
use Rattle.text.proofs.Text.filled.Goals as goal

pub returns-then-width-at : goal.returns-then-width-at
returns-then-width-at c =
    let d : List ℕ = c.digits-row.result.bytes in
    let at : ℕ = c.digits-row.result.at in
    let w : ℕ = c.args.width in
    let p : List ℕ = decimal c.args.v in
    let l : length p ≡ 20 - at = rest_length d p at 20 c.digits-row.ensures.1 c.digits-row.ensures.2 in
    c.add.ensures
    ∙ ap (added (text c.args.self))
    (rest d at 20 c.digits-row.ensures.1
    ∙ (c.digits-row.ensures.2 ∙ sym (filled_long c.args.c w p (omega arith))))

pub returns-then-width-gt256 : goal.returns-then-width-gt256
returns-then-width-gt256 c = filled-short _ _ _ _ c.if-width-gt256.true

pub returns : goal.returns
returns c =
    c.add-2.ensures
    ∙ ap (added (text c.args.self))
    (filled_way c.args.c c.args.width c.digits-row.result.at c.digits-row.result.bytes _ _ c.digits-row.ensures.1 c.digits-row.ensures.2 c.digits-row.ensures.0 (omega arith) (omega arith) c.put.ensures.s_after)
