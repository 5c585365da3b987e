-- The arms of the words' `match`.
use Prim.Native.Nat.{ℕ, ◌≤◌}
use mathlib.Core.Path.{◌≡◌, sym, ap, ◌∙◌}
use mathlib.Core.List.{List}
use lib.ListN.{get_or-eq_default}
use Rattle.refusal.specs.declared.Words.{Words}
use Rattle.refusal.specs.Words.{table, known, not_known, ascii, line_of, laid, words_of}

-- the arm of a number k that is known, with k's line w
pub arm : (n k : ℕ) (w : List ℕ) (r : Words) → n ≡ k → line_of k ≡ w → r ≡ laid w → r ≡ words_of n
arm n k w r e l h = h ∙ (ap laid (sym l) ∙ ap words_of (sym e))

-- the arm of all others
pub arm_rest : (n : ℕ) (r : Words) → known ≤ n → r ≡ laid (ascii not_known) → r ≡ words_of n
unfolding line_of
arm_rest n r p h = h ∙ ap (λ x. laid (ascii x)) (sym (get_or-eq_default table not_known p))
