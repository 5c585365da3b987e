-- `words::joined` meets its contract.
use mathlib.Core.Path.{refl}
use Rattle.words.proofs.Words.{joined-parts}
use Rattle.words.proofs.joined.Goals as goal

pub returns : goal.returns
returns c =
    joined-parts _ _ _ _ _ _ _ _ _ _ _ _ c.requires refl c.window.ensures c.window-2.ensures c.window-3.ensures c.window-4.ensures c.window-5.ensures c.put.ensures.s_after c.put-2.ensures.s_after c.put-3.ensures.s_after c.put-4.ensures.s_after c.put-5.ensures.s_after
