-- A record laid into a lent copy.
use Prim.Native.Nat.{ℕ, ◌+◌, ◌-◌, ◌*◌, ◌≤◌}
use mathlib.Core.Path.{◌≡◌, ap, ap₂, ◌∙◌}
use mathlib.Core.Bool.{true}
use mathlib.Core.List.{List, ◌++◌}
use native.Mathlib.Omega.{arith}
use borrow.Author.Tests.{eq-eqb}
use lib.ListN.{length, take, drop, length-append, length-take, length-drop}
use Rattle.endian.specs.Bytes.{zeros, splice}
use Rattle.endian.proofs.Parts.{splice-part}
use Rattle.endian.proofs.Tests.{length-zeros}
use Rattle.refusal.proofs.Order.{first_all}
use Rattle.layout.specs.declared.Area.{Area}
use Rattle.layout.specs.Limits.{record_limit, length_allowed}
use Rattle.layout.specs.Places.{area_offset, copy_bytes}
use Rattle.layout.proofs.Laws.{length_facts}
use Rattle.stores.specs.Stores.{sectors_of}
use Rattle.stores.specs.Given.{lay_tests, laid}
use Rattle.stores.proofs.Padding.{padded-within, sectors-enough, zeros-begun}
use Rattle.stores.proofs.Whole.{area_fits}

-- a record of k sectors, laid from the start of its area on
module _ (c : List ℕ) (x : Area) (r : List ℕ) (long : length c ≡ copy_bytes) (right : length_allowed (length r) ≡ true) (at : ℕ) (ea : at ≡ area_offset x)
    (k : ℕ) (ek : k ≡ sectors_of (length r)) where
  -- its sectors lie within the area, and the area within the copy
  pub lay-fits : at + k * 512 ≤ length c
  lay-fits =
      let s : sectors_of (length r) * 512 ≤ record_limit = padded-within (length r) (length_facts (length r) right).1 in
      let a : area_offset x + record_limit ≤ copy_bytes = area_fits x in
      omega arith

  pub lay_stored : (w : List ℕ) → w ≡ splice (zeros (length (take (at + k * 512 - at) (drop at c)))) 0 r
      → take at c ++ (w ++ drop (at + k * 512 - at) (drop at c)) ≡ laid c x r
  unfolding laid
  lay_stored w ew =
      let f : at + k * 512 ≤ length c = lay-fits in
      let t : length (take (at + k * 512 - at) (drop at c)) ≡ k * 512 = simp (length-take, length-drop) (omega arith) in
      let b : length r ≤ 512 * sectors_of (length r) = sectors-enough (length r) in
      let e : w ≡ r ++ zeros (k * 512 - length r) = ew ∙ (ap (λ (q : ℕ). splice (zeros q) 0 r) t ∙ zeros-begun (k * 512) r (omega arith)) in
      let z : length (zeros (k * 512 - length r)) ≡ k * 512 - length r = length-zeros (k * 512 - length r) in
      let y : length w ≡ k * 512 = ap length e ∙ (length-append r (zeros (k * 512 - length r)) ∙ omega arith) in
      splice-part c at (k * 512) w f y
      ∙ (ap₂ (splice c) ea (e ∙ ap (λ (n : ℕ). r ++ zeros (n * 512 - length r)) ek)
      ∙ rw (first_all (lay_tests c r) (eq-eqb (length c) copy_bytes long, (right, tt))))
