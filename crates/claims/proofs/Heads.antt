-- A head changed, as an update.
use Prim.Native.Nat.{ℕ}
use mathlib.Core.Path.{◌≡◌, refl, sym, ◌∙◌}
use mathlib.Core.Logic.{inl, inr}
use mathlib.Core.Bool.{Bool, true, false, true≢false}
use mathlib.Core.List.{List}
use Rattle.endian.specs.Bytes.{same}
use Rattle.endian.proofs.Tests.{same_equal, equal_same}
use Rattle.layout.specs.declared.Side.TheVariants.{Front}
use Rattle.layout.specs.Places.{block_sector}
use Rattle.block.specs.declared.Time.{Time}
use Rattle.crash.specs.Crash.{copy_from}
use Rattle.update.specs.Update.{new_block}
use Rattle.update.specs.Demand.{Outcome}
use Rattle.update.proofs.Demand.{demand3}
use Rattle.claims.specs.Heads.{MovedOn, Kept, SegmentsKept}
use Rattle.claims.proofs.Chain.{onward}

pub moved_on : MovedOn
moved_on v d u q k c out n r m t fits ns later = onward v d u q k t r fits ns later m.right

pub segments_kept : SegmentsKept
segments_kept v d u q t r start c out n m e g cut fine =
    go ((demand3 v d u q t r start).1.1 e g cut fine) (same (e (block_sector Front v)) (new_block (copy_from Front v d) t r)) refl
  where
    go : Outcome v d e u q t r g → (b : Bool) → same (e (block_sector Front v)) (new_block (copy_from Front v d) t r) ≡ b
        → (w : Time) × ((p : List ℕ) × (Kept v e u q t r w p))
    go o true h = (
      t,
      (
        r,
        record {
          found = o.new (same_equal (e (block_sector Front v)) (new_block (copy_from Front v d) t r) h);
          which = inr (refl, refl);
          same = m.segments_are;
          block = m.block;
        },
      ),
    )
    go o false h = (
      u,
      (
        q,
        record {
          found = o.old (λ f. true≢false (sym (equal_same (e (block_sector Front v)) (new_block (copy_from Front v d) t r) f) ∙ h));
          which = inl (refl, refl);
          same = refl;
          block = refl;
        },
      ),
    )
