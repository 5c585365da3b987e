-- A text in the making, and what adding to it gives.
use Rattle.std.specs.Prelude.{ℕ, ◌+◌, ◌-◌, cond, List, ◌++◌, leb, length, take, replicate}
use Rattle.text.specs.declared.Text.{Text}

-- the bytes that a text has room for
abbrev pub capacity : ℕ
capacity = 256

-- the bytes that are used
unfoldable pub text : Text → List ℕ
text t = take t.used t.bytes

-- a text and one more piece, which is left out where it has no room
unfoldable pub added : List ℕ → List ℕ → List ℕ
added t p = cond (leb (length t + length p) capacity) (t ++ p) t

-- a piece with as many c before it as make it w long; a longer one is not cut
unfoldable pub filled : ℕ → ℕ → List ℕ → List ℕ
filled c w p = replicate (w - length p) c ++ p
