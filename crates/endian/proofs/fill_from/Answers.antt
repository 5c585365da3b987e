-- `endian::fill_from` meets its contract: the bytes written and those left are the source's.
use Prim.Native.Nat.{ℕ, suc, ◌≤◌}
use mathlib.Core.Path.{◌≡◌, refl, sym, ap, ap₂, ◌∙◌}
use mathlib.Core.List.{List, [], ◌∷◌, ◌++◌, append_assoc, append-nil}
use native.Mathlib.Numerals.{add-one}
use native.Mathlib.Omega.{arith}
use lib.ListN.{length, get_or, take, drop, set, length-set, drop_of_length-le}
use lib.Seq.{take-suc-set, take-length, drop-cons}
use Rattle.endian.proofs.fill_from.Goals as goal

pub loop-i-init : goal.loop-i-init
loop-i-init c = (refl, refl)

pub loop-i-preserved : goal.loop-i-preserved
loop-i-preserved c =
    let i : ℕ = c.loop-i.i in
    let d : List ℕ = c.loop-i.s in
    let v : List ℕ = c.args.v.now in (
      rw length-set c.loop-i.invariant.0,
      ap₂ ◌++◌ (ap (λ (n : ℕ). take n (set d i (get_or v i 0))) (add-one i) ∙ take-suc-set d i (get_or v i 0) (omega arith)) (ap (λ (n : ℕ). drop n v) (add-one i))
          ∙ (append_assoc (take i d) (get_or v i 0 ∷ []) (drop (suc i) v)
          ∙ (ap (λ (l : List ℕ). take i d ++ l) (sym (drop-cons v i 0 (omega arith))) ∙ c.loop-i.invariant.1)),
    )

pub returns : goal.returns
returns c =
    let i : ℕ = c.loop-i.i in
    let d : List ℕ = c.loop-i.s in
    let v : List ℕ = c.args.v.now in
    let e : i ≡ length d = omega arith in
    let f : length v ≤ i = omega arith in
    sym (append-nil d)
    ∙ (sym (ap₂ ◌++◌ (ap (λ (n : ℕ). take n d) e ∙ take-length d) (drop_of_length-le v f)) ∙ c.loop-i.invariant.1)
