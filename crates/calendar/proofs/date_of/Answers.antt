-- `calendar::date_of` meets its contract.
use Prim.Native.Nat.{◌/◌}
use native.Mathlib.Omega.{arith}
use Rattle.calendar.proofs.Dates.{year_place, month_place, past, date}
use Rattle.calendar.proofs.date_of.Goals as goal

pub returns-then-seconds-ge253402300800 : goal.returns-then-seconds-ge253402300800
returns-then-seconds-ge253402300800 c = past _ c.if-seconds-ge253402300800.true

pub returns : goal.returns
returns c =
    date _ _ _ (omega arith) c.year_of-y.ensures c.month_of-m.ensures

pub overflow_cast-result : goal.overflow_cast-result
overflow_cast-result c =
    omega (arith, (year_place (c.args.seconds / 86400) _ (omega arith) c.year_of-y.ensures).0)

pub overflow_cast-result-2 : goal.overflow_cast-result-2
overflow_cast-result-2 c =
    omega (arith, (month_place _ _ (year_place (c.args.seconds / 86400) _ (omega arith) c.year_of-y.ensures).1 c.month_of-m.ensures).0)

pub overflow_add-result : goal.overflow_add-result
overflow_add-result c =
    omega (arith, (month_place _ _ (year_place (c.args.seconds / 86400) _ (omega arith) c.year_of-y.ensures).1 c.month_of-m.ensures).1)

pub overflow_cast-result-3 : goal.overflow_cast-result-3
overflow_cast-result-3 c =
    omega (arith, (month_place _ _ (year_place (c.args.seconds / 86400) _ (omega arith) c.year_of-y.ensures).1 c.month_of-m.ensures).1)
