-- Where a day falls, as the function that finds its date has it: results as variables, each with what its call promised.
use Rattle.std.proofs.Common.{Some, None}
use Prim.Native.Nat.{ℕ, ◌/◌, ◌%◌, ◌≤◌, ◌<◌}
use mathlib.Core.Path.{◌≡◌, ap, ◌∙◌}
use mathlib.Core.Bool.{Bool, true, false, cond, ◌||◌}
use native.Mathlib.Omega.{arith}
use borrow.Author.Tests.{lt-ltb, le-ltb}
use lib.Dec.{eqb, lit≤}
use Rattle.calendar.specs.declared.Place.{Place}
use Rattle.calendar.specs.Calendar.{all_days, all_seconds, leap, year_length, month_in, month_length, year_of, month_of, dated, date_of}
use Rattle.calendar.proofs.Walks.{all_years, all_months, Falls, falls}

pub year_falls : (day : ℕ) → day < all_days → Falls year_length 1970 8030 day (year_of day)
year_falls day h = falls year_length 8030 1970 day (rw all_years h)

pub month_falls : (y : Place) → y.rest < year_length y.at → Falls (month_length y.at) 1 12 y.rest (month_of y)
month_falls y h = falls (month_length y.at) 12 1 y.rest (rw all_months h)

month_short : (b : Bool) (m : ℕ) → month_in b m ≤ 31
unfolding month_in
month_short b m = short (eqb m 2) b ((eqb m 4 || eqb m 6) || (eqb m 9 || eqb m 11))
  where
    short : (x y z : Bool) → cond x (cond y 29 28) (cond z 30 31) ≤ 31
    short true true z = lit≤ tt
    short true false z = lit≤ tt
    short false y true = lit≤ tt
    short false y false = lit≤ tt

pub year_place : (day : ℕ) (y : Place) → day < all_days → y ≡ year_of day → (y.at < 10000) × (y.rest < year_length y.at)
year_place day y h e = rw e (let r : Falls year_length 1970 8030 day (year_of day) = year_falls day h in (r.high, r.inside))

pub month_place : (y m : Place) → y.rest < year_length y.at → m ≡ month_of y → (m.at < 13) × (m.rest < 31)
month_place y m h e =
    rw e
    (let r : Falls (month_length y.at) 1 12 y.rest (month_of y) = month_falls y h in
    let i : (month_of y).rest < month_length y.at (month_of y).at = r.inside in
    let s : month_length y.at (month_of y).at ≤ 31 = month_short (leap y.at) (month_of y).at in
    (r.high, omega arith))

pub past : (s : ℕ) → all_seconds ≤ s → None ≡ date_of s
unfolding date_of
past s h = rw (le-ltb s all_seconds h)

pub date : (s : ℕ) (y m : Place) → s < all_seconds → y ≡ year_of (s / 86400) → m ≡ month_of y → Some (dated y m (s % 86400)) ≡ date_of s
unfolding date_of
date s y m h e f =
    rw (lt-ltb s all_seconds h) (ap (λ (z : Place). Some (dated y z (s % 86400))) f ∙ ap (λ (z : Place). Some (dated z (month_of z) (s % 86400))) e)
