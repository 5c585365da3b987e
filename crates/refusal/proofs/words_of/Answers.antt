-- `refusal::words_of` meets its contract, an arm at a time.
use Rattle.std.proofs.Common.{◌≤◌, refl, arith}
use Rattle.refusal.specs.Words.{known, line_of}
use Rattle.refusal.proofs.Arms.{arm, arm_rest}
use Rattle.refusal.proofs.words_of.Goals as goal

pub returns-in-0 : goal.returns-in-0
unfolding line_of
returns-in-0 c = arm _ 0 _ _ c.in-0.is refl c.lay.ensures

pub returns-in-1 : goal.returns-in-1
unfolding line_of
returns-in-1 c = arm _ 1 _ _ c.in-1.is refl c.lay-in-1.ensures

pub returns-in-2 : goal.returns-in-2
unfolding line_of
returns-in-2 c = arm _ 2 _ _ c.in-2.is refl c.lay-in-2.ensures

pub returns-in-3 : goal.returns-in-3
unfolding line_of
returns-in-3 c = arm _ 3 _ _ c.in-3.is refl c.lay-in-3.ensures

pub returns-in-4 : goal.returns-in-4
unfolding line_of
returns-in-4 c = arm _ 4 _ _ c.in-4.is refl c.lay-in-4.ensures

pub returns-in-5 : goal.returns-in-5
unfolding line_of
returns-in-5 c = arm _ 5 _ _ c.in-5.is refl c.lay-in-5.ensures

pub returns-in-6 : goal.returns-in-6
unfolding line_of
returns-in-6 c = arm _ 6 _ _ c.in-6.is refl c.lay-in-6.ensures

pub returns-in-7 : goal.returns-in-7
unfolding line_of
returns-in-7 c = arm _ 7 _ _ c.in-7.is refl c.lay-in-7.ensures

pub returns-in-8 : goal.returns-in-8
unfolding line_of
returns-in-8 c = arm _ 8 _ _ c.in-8.is refl c.lay-in-8.ensures

pub returns-in-9 : goal.returns-in-9
unfolding line_of
returns-in-9 c = arm _ 9 _ _ c.in-9.is refl c.lay-in-9.ensures

pub returns-in-10 : goal.returns-in-10
unfolding line_of
returns-in-10 c = arm _ 10 _ _ c.in-10.is refl c.lay-in-10.ensures

pub returns-in-11 : goal.returns-in-11
unfolding line_of
returns-in-11 c = arm _ 11 _ _ c.in-11.is refl c.lay-in-11.ensures

pub returns-in-12 : goal.returns-in-12
unfolding line_of
returns-in-12 c = arm _ 12 _ _ c.in-12.is refl c.lay-in-12.ensures

pub returns-in-13 : goal.returns-in-13
unfolding line_of
returns-in-13 c = arm _ 13 _ _ c.in-13.is refl c.lay-in-13.ensures

pub returns-in-14 : goal.returns-in-14
unfolding line_of
returns-in-14 c = arm _ 14 _ _ c.in-14.is refl c.lay-in-14.ensures

pub returns-in-15 : goal.returns-in-15
unfolding line_of
returns-in-15 c = arm _ 15 _ _ c.in-15.is refl c.lay-in-15.ensures

pub returns-in-16 : goal.returns-in-16
unfolding line_of
returns-in-16 c = arm _ 16 _ _ c.in-16.is refl c.lay-in-16.ensures

pub returns-in-17 : goal.returns-in-17
unfolding line_of
returns-in-17 c = arm _ 17 _ _ c.in-17.is refl c.lay-in-17.ensures

pub returns-in-18 : goal.returns-in-18
unfolding line_of
returns-in-18 c = arm _ 18 _ _ c.in-18.is refl c.lay-in-18.ensures

pub returns-in-19 : goal.returns-in-19
unfolding line_of
returns-in-19 c = arm _ 19 _ _ c.in-19.is refl c.lay-in-19.ensures

pub returns-in-20 : goal.returns-in-20
unfolding line_of
returns-in-20 c = arm _ 20 _ _ c.in-20.is refl c.lay-in-20.ensures

pub returns-in-21 : goal.returns-in-21
unfolding line_of
returns-in-21 c = arm _ 21 _ _ c.in-21.is refl c.lay-in-21.ensures

pub returns-in-22 : goal.returns-in-22
unfolding line_of
returns-in-22 c = arm _ 22 _ _ c.in-22.is refl c.lay-in-22.ensures

pub returns-in-23 : goal.returns-in-23
unfolding line_of
returns-in-23 c = arm _ 23 _ _ c.in-23.is refl c.lay-in-23.ensures

pub returns-in-24 : goal.returns-in-24
unfolding line_of
returns-in-24 c = arm _ 24 _ _ c.in-24.is refl c.lay-in-24.ensures

pub returns-in-25-to-255 : goal.returns-in-25-to-255
unfolding line_of
returns-in-25-to-255 c =
    let l : known ≤ c.args.n = omega arith in arm_rest _ _ l c.lay-in-25-to-255.ensures
