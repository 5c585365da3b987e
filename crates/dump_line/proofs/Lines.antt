-- What is printed for a dump of another size than two copies, and the format's example.
use Prim.Native.Nat.{ℕ, ◌+◌}
use mathlib.Core.Path.{◌≡◌, refl}
use mathlib.Core.Bool.{Bool, true, false, ◌&&◌}
use mathlib.Core.List.{List, [], ◌∷◌, flatten}
use native.Mathlib.Omega.{arith}
use borrow.Author.Tests.{eqb-true}
use lib.ListN.{length, take, drop, length-take, length-drop}
use Rattle.layout.specs.Places.{copy_bytes}
use Rattle.layout.specs.declared.Side.TheVariants.{Front}
use Rattle.layout.specs.declared.Area.TheVariants.{A}
use Rattle.block.specs.declared.BlockFields.{BlockFields}
use Rattle.refusal.specs.Reasons.{reason}
use Rattle.std.proofs.Common.{Ok, Err}
use Rattle.discovery.specs.Discovery.{sized, discovery}
use Rattle.text.specs.Decimal.{digits}
use Rattle.dump_line.specs.Line.{line_of, dump_line}

both_false : (x y : Bool) → (x ≡ true → y ≡ true → ⊥) → x && y ≡ false
both_false true true h = absurd (h refl refl)
both_false true false h = refl
both_false false y h = refl

not_copies : (d : List ℕ) → (length d ≡ copy_bytes + copy_bytes → ⊥) → sized (take copy_bytes d) (drop copy_bytes d) ≡ false
not_copies d h =
    both_false _ _
    (λ f b. h
    (let m : length (take copy_bytes d) ≡ copy_bytes = eqb-true _ _ f in
    let n : length (drop copy_bytes d) ≡ copy_bytes = eqb-true _ _ b in
    omega (arith, length-take copy_bytes d, length-drop copy_bytes d)))

-- fewer or more bytes than two copies have: `refused 1`
pub other_size : (d : List ℕ) → (length d ≡ copy_bytes + copy_bytes → ⊥) → dump_line d ≡ line_of (Err (reason 1))
unfolding discovery
other_size d h = rw (not_copies d h)

-- `found front a 28 10 5 both`
pub example : (x y : BlockFields) → line_of (Ok (record { finding = record { side = Front; area = A; bytes = 28; seconds = 10; nanoseconds = 5; fields = x }; other = Ok y }))
    ≡ 102 ∷ 111 ∷ 117 ∷ 110 ∷ 100 ∷ 32 ∷ 102 ∷ 114 ∷ 111 ∷ 110 ∷ 116 ∷ 32 ∷ 97 ∷ 32 ∷ 50 ∷ 56 ∷ 32 ∷ 49 ∷ 48 ∷ 32 ∷ 53 ∷ 32 ∷ 98 ∷ 111 ∷ 116 ∷ 104 ∷ 10 ∷ []
unfolding line_of flatten digits
example x y = refl

-- `refused 10`
pub example-refused : line_of (Err (reason 10)) ≡ 114 ∷ 101 ∷ 102 ∷ 117 ∷ 115 ∷ 101 ∷ 100 ∷ 32 ∷ 49 ∷ 48 ∷ 10 ∷ []
unfolding line_of flatten digits
example-refused = refl
