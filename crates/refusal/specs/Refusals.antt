-- A refusal as a call answers it: its number, and what stands beside it.
use Rattle.std.specs.Prelude.{ℕ, cond, eqb}
use Rattle.refusal.specs.declared.Refusal.{Refusal}

-- zero in every other field
abbrev pub plain : ℕ → Refusal
plain n = record { number = n; first = 0; second = 0 }

-- zero in every other field, but for one number m: beside it a and b
unfoldable pub plain_but : ℕ → ℕ → ℕ → ℕ → Refusal
plain_but m a b n = cond (eqb n m) (record { number = n; first = a; second = b }) (plain n)
