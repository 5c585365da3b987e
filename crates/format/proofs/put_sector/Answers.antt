-- `format::put_sector` meets its contract: the sector, laid over all of the slice, is what is left.
use Rattle.std.proofs.Common.{◌≡◌, ℕ, ◌+◌, ◌*◌, ◌≤◌, ◌<◌, length, sym, ◌∙◌, ap, arith, List}
use Rattle.endian.specs.Bytes.{splice}
use Rattle.endian.proofs.Parts.{length-window-fits, splice-whole}
use Rattle.layout.specs.Limits.{record_limit, sector_bytes}
use Rattle.layout.specs.Places.{copy_bytes}
use Rattle.sectors.specs.Sectors.{copy_sectors}
use Rattle.sectors.specs.Demand.{nth_sector}
use Rattle.format.proofs.put_sector.Goals as goal

-- a sector of a copy is within it
within : (c : List ℕ) (k : ℕ) → length c ≡ copy_bytes → k < copy_sectors → sector_bytes * k + sector_bytes ≤ length c
unfolding copy_bytes copy_sectors record_limit
within c k e l = omega arith

pub returns-clause-out_after : goal.returns-clause-out_after
returns-clause-out_after c =
    let v : List ℕ = nth_sector c.args.c.now c.args.k in
    let n : length v ≡ sector_bytes =
    length-window-fits c.args.c.now (sector_bytes * c.args.k) sector_bytes (within c.args.c.now c.args.k c.requires.c_size c.requires.k_bound) in
    c.put.ensures.s_after ∙ (ap (λ (w : List ℕ). splice c.args.out.now 0 w) c.window.ensures ∙ splice-whole c.args.out.now v (n ∙ sym c.requires.out_size))
