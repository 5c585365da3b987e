-- `allocation::release` meets its contract.
use Rattle.std.proofs.Common.{◌≡◌, sym, ◌∙◌, arith, length}
use Rattle.items.specs.Making.{place}
use Rattle.allocation.proofs.Leaving.{release-place, release-written}
use Rattle.allocation.proofs.release.Goals as goal

pub lay_without-requires : goal.lay_without-requires
lay_without-requires c =
    omega (arith, c.place_in.ensures, (release-place c.args.d c.args.s.now c.args.position (length c.args.out.now) c.in_ok-length.length (sym c.released_of.ensures ∙ c.in_ok-length.was)).1)

pub returns-clause-out_after : goal.returns-clause-out_after
returns-clause-out_after c =
    let h = sym c.released_of.ensures ∙ c.in_ok-length.was in
    let l = (release-place c.args.d c.args.s.now c.args.position (length c.args.out.now) c.in_ok-length.length h).1 in
    let e : c.place_in.result ≡ place c.args.s.now c.args.position = omega (arith, c.place_in.ensures, l) in
    release-written c.args.d c.args.s.now c.args.position c.args.out.now c.in_ok-length.length c.place_in.result c.lay_without.new.out h e c.lay_without.ensures
