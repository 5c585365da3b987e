-- Tests of all numbers below a limit: whether each passes, which is the lowest that passes, and sums.
use Rattle.std.specs.Prelude.{ℕ, zero, suc, ◌+◌, Bool, true, false, cond, ◌&&◌, leb, ltb}

-- p holds of every number below n
unfoldable pub every : (ℕ → Bool) → ℕ → Bool
every p zero = true
every p (suc n) = every p n && p n

-- the lowest number below n of which p holds; n where it holds of none
unfoldable pub least : (ℕ → Bool) → ℕ → ℕ
least p zero = zero
least p (suc n) = cond (ltb (least p n) n) (least p n) (cond (p n) n (suc n))

-- the sum of f over the numbers below n
unfoldable pub total : (ℕ → ℕ) → ℕ → ℕ
total f zero = 0
total f (suc n) = total f n + f n

-- x is from a up to, not including, b
abbrev pub within : ℕ → ℕ → ℕ → Bool
within a b x = leb a x && ltb x b

-- 1 for what is so, 0 for what is not
abbrev pub one : Bool → ℕ
one true = 1
one false = 0
