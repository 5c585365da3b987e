-- Updates, cuts and mends, one after the other.
use Prim.Native.Nat.{ℕ, zero, suc, ◌≤◌, ◌<◌}
use mathlib.Core.Path.{◌≡◌, refl, sym, ap, subst}
use mathlib.Core.Logic.{◌⊎◌, inl, inr}
use mathlib.Core.List.{List, [], ◌∷◌, flatten}
use native.Mathlib.Decide.{ℕ_discrete}
use borrow.Author.Tests.{eq-eqb, ne_eqb}
use native.Mathlib.Omega.{arith}
use lib.ListN.{length, take, length-append}
use Rattle.layout.specs.declared.Device.{Device}
use Rattle.block.specs.declared.Time.{Time}
use Rattle.crash.specs.Crash.{Sectors, Sound, Groups, stores, store_in, put, group_start, landed, Stored, CutIn, all_landed}
use Rattle.crash.proofs.Landing.{landed-size}
use Rattle.crash.proofs.Groups.{whole_start}
use Rattle.stores.specs.States.{Ready, Answered, Excused, AllFit, before}
use Rattle.update.specs.Demand.{Outcome, groups_on}
use Rattle.update.proofs.Demand.{demand3}
use Rattle.mend.specs.Demand.{after}
use Rattle.mend.proofs.Demand.{mended}
use Rattle.claims.specs.Chain.{AllSized, Cuts, Cutting, Starts, Onward, Landing, Chain}

pub onward : Onward
onward v d u q k t r fits ns later right = record { ready = k; fits = fits; nanoseconds = ns; later = later; right = right }

-- the first groups have no more stores than all
taken : (gs : Groups) (g : ℕ) → group_start gs g ≤ length (stores gs)
unfolding group_start flatten
taken gs zero = omega arith
taken [] (suc g) = omega arith
taken (s ∷ gs) (suc g) = omega (arith, taken gs g, length-append s (stores (take g gs)), length-append s (stores gs))

module _ (v : Device) (gs : Groups) (d : Sectors) (s : Sound d) (fit : AllSized gs) where
  -- the device as before a group is sound
  before_sound : (g : ℕ) → Sound (before gs g d)
  before_sound g =
      record {
        size = landed-size (store_in gs) d s.size (group_start gs g)
            (λ i l. fit i (omega (arith, taken gs g)));
      }

  pub cuts : (g : ℕ) → Cuts v gs g d
  cuts g =
      record {
        none = (record { wild = 0; sound = before_sound g; each = λ n. inl refl }, λ x. x.1 refl);
        all = (record { wild = 0; sound = before_sound (suc g); each = λ n. inr (inl refl) }, λ x. x.2 refl);
        wild = λ i w a b l.
            record {
              wild = (store_in gs i).sector;
              sound = record { size = λ n. sized i w l n };
              each = λ n. anywhere i w a b n;
            };
      }
    where
      torn : ℕ → List ℕ → Sectors
      torn i w = put (before gs g d) (record { sector = (store_in gs i).sector; content = w })

      sized : (i : ℕ) (w : List ℕ) → length w ≡ 512 → (n : ℕ) → length (torn i w n) ≡ 512
      sized i w l n =
          elim (ℕ_discrete n (store_in gs i).sector) [
            | yes h ↦ rw (eq-eqb n (store_in gs i).sector h) l
            | no h ↦ rw (ne_eqb n (store_in gs i).sector h) ((before_sound g).size n)
          ]

      anywhere : (i : ℕ) (w : List ℕ) → group_start gs g ≤ i → i < group_start gs (suc g) → (n : ℕ)
          → (torn i w n ≡ before gs g d n) ⊎ ((torn i w n ≡ before gs (suc g) d n) ⊎ ((n ≡ (store_in gs i).sector) × Stored (store_in gs) (group_start gs g) (group_start gs (suc g)) n))
      anywhere i w a b n =
          elim (ℕ_discrete n (store_in gs i).sector) [
            | yes h ↦ inr (inr (h, (i, a, b, sym h)))
            | no h ↦ inl (rw (ne_eqb n (store_in gs i).sector h))
          ]

pub cutting : Cutting
cutting v gs g d s fit = cuts v gs d s fit g

-- all stores landed is a cut after the last group, and no block stands in another version then
after_last : (v : Device) (d : Sectors) (gs : Groups) → Sound d → AllFit v gs
    → CutIn gs (length gs) d (all_landed gs d) × (Excused v gs (length gs) d (all_landed gs d) → ⊥)
after_last v d gs s fit =
    subst (λ (e : Sectors). CutIn gs (length gs) d e × (Excused v gs (length gs) d e → ⊥)) (ap (λ (m : ℕ). landed (store_in gs) m d) (whole_start gs))
    (cuts v gs d s (λ i l. (fit i l).size) (length gs)).none

pub landing : Landing
landing v d u q t r s =
    let gs : Groups = groups_on v d t r in
    let three : AllFit v gs × ((length gs ≡ 4) × ((e : Sectors) (g : ℕ) → CutIn gs g d e → (Excused v gs g d e → ⊥) → Outcome v d e u q t r g)) = demand3 v d u q t r s in
    let four : length gs ≡ 4 = three.1.0 in
    let last : CutIn gs (length gs) d (all_landed gs d) × (Excused v gs (length gs) d (all_landed gs d) → ⊥) = after_last v d gs s.ready.sound three.0 in
    let o : Outcome v d (all_landed gs d) u q t r (length gs) =
    three.1.1 (all_landed gs d) (length gs) last.0 last.1 in
    let k : Ready v (all_landed gs d) t r = (o.landed (omega arith)).1 in
    (k, onward v (all_landed gs d) t r k)

-- a mend of what a cut has left
mend_on : (v : Device) (e : Sectors) (t : Time) (r : List ℕ) → Answered v e t r → Ready v (after v e) t r × Starts v (after v e) t r
mend_on v e t r a = ((mended v e t r a).0, onward v (after v e) t r (mended v e t r a).0)

pub chain : Chain
chain v d u q t r s e g c x =
    let o : Outcome v d e u q t r g = (demand3 v d u q t r s).1.1 e g c x in
    (λ n. mend_on v e t r (o.new n), λ n. mend_on v e u q (o.old n))
