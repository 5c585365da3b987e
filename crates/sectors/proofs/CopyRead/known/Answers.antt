-- `sectors::CopyRead::known` meets its contract.
use mathlib.Core.Path.{◌≡◌, refl, ap, ◌∙◌}
use mathlib.Core.Bool.{Bool, true, false}
use Prim.Native.Nat.{ℕ}
use native.Mathlib.Omega.{arith}
use Rattle.std.proofs.Common.{rules}
use Rattle.std.proofs.lemmas.Iterator.{cases_from_all, YieldsList-from_range}
use Rattle.search.specs.Search.{every}
use Rattle.sectors.specs.Sectors.{copy_sectors, block_read, passes}
use Rattle.sectors.proofs.Calls.{every_range, known_by}
use Rattle.sectors.proofs.CopyRead.known.Goals as goal

pub returns : goal.returns
returns c =
    let p : ℕ → Bool = passes (block_read c.read_present-q.result) c.newest_whole-w.result c.args.self.marks.now in
    every_range p c.copy_sectors.result c.all.result
    (cases_from_all _ _ _ (λ i. p i ≡ true) (λ i. p i ≡ false) c.all.ensures.ran
    (YieldsList-from_range 0 c.copy_sectors.result c.copy_sectors.result refl (omega arith)) (λ x q k. search rules) (λ x q k. search rules))
    ∙ (ap (every p) c.copy_sectors.ensures
    ∙ (ap (λ (w : Bool). every (passes (block_read c.read_present-q.result) w c.args.self.marks.now) copy_sectors) c.newest_whole-w.ensures
    ∙ known_by c.args.self.bytes.now c.args.self.marks.now c.read_present-q.result c.read_present-q.ensures))
