-- `checksum::eight` meets its contract.
use mathlib.Core.Path.{◌≡◌, ap, ap₂, ◌∙◌}
use native.Mathlib.Omega.{arith}
use lib.ListN.{length}
use lib.Bits.{bit_xor}
use Rattle.shifts.specs.Shifts.{shifts}
use Rattle.checksum.proofs.Lookup.{eight_law}
use Rattle.checksum.proofs.eight.Goals as goal

pub returns : goal.returns
returns c =
    ap₂ bit_xor c.far_word.ensures (c.near_word-last.ensures ∙ ap (shifts 32) c.read_u32.ensures)
    ∙ eight_law c.args.c c.args.s.now _ c.ranges.c.fits (let e : length c.args.s.now ≡ 8 = omega arith in e)
    (ap (bit_xor c.args.c) c.read_u32-2.ensures)
