-- What a date means, proved.
use Rattle.std.proofs.Common.{Some, None}
use Prim.Native.Nat.{ℕ, ◌+◌, ◌-◌, ◌*◌, ◌/◌, ◌%◌, ◌≤◌, ◌<◌}
use mathlib.Core.Path.{◌≡◌, refl, sym, ap, subst, ◌∙◌}
use mathlib.Core.Bool.{Bool, true, false, cond}
use native.Mathlib.Decide.{dec_le}
use native.Mathlib.Omega.{arith}
use borrow.Author.Tests.{ltb-true}
use lib.Dec.{ltb}
use Rattle.calendar.specs.declared.Date.{Date}
use Rattle.calendar.specs.declared.Place.{Place}
use Rattle.calendar.specs.Calendar.{all_days, all_seconds, leap, year_length, month_in, month_length, sum, walk, year_of, month_of, dated, date_of}
use Rattle.calendar.specs.Demand.{Valid, day_number, seconds_of, Meaning, Every, Past, Anchors}
use Rattle.calendar.proofs.Walks.{all_years, all_months, Falls, found, falls_below}
use Rattle.calendar.proofs.Dates.{year_falls, month_falls, past, date}

-- a choice that gives a date was for the first
chosen : (b : Bool) (x d : Date) → cond b (Some x) None ≡ Some d → (b ≡ true) × (x ≡ d)
chosen true x d e = (refl, cc)
chosen false x d e = absurd (let z : ◌≡◌ {A = ℕ} 0 1 = cc in omega arith)

-- where a day falls and the time of day are a date with so many seconds before it
holds : (s : ℕ) (y m : Place) → Falls year_length 1970 8030 (s / 86400) y → Falls (month_length y.at) 1 12 y.rest m
    → Valid (dated y m (s % 86400)) × (seconds_of (dated y m (s % 86400)) ≡ s)
holds s y m p q =
    let y1 : 1970 ≤ y.at = p.low in
    let y2 : y.at < 1970 + 8030 = p.high in
    let y3 : sum year_length 1970 (y.at - 1970) + y.rest ≡ s / 86400 = p.whole in
    let m1 : 1 ≤ m.at = q.low in
    let m2 : m.at < 1 + 12 = q.high in
    let m3 : sum (month_length y.at) 1 (m.at - 1) + m.rest ≡ y.rest = q.whole in
    let m4 : m.rest < month_length y.at m.at = q.inside in (
      record {
        early = y1;
        late = omega arith;
        month_low = m1;
        month_high = omega arith;
        day_low = omega arith;
        day_high = omega arith;
        hours = omega arith;
        minutes = omega arith;
        seconds = omega arith;
      },
      omega arith,
    )

pub meaning : Meaning
unfolding date_of
meaning s d e =
    let c : (ltb s all_seconds ≡ true) × (dated (year_of (s / 86400)) (month_of (year_of (s / 86400))) (s % 86400) ≡ d) = chosen _ _ d e in
    let h : s < all_seconds = ltb-true s all_seconds c.0 in
    let y : Falls year_length 1970 8030 (s / 86400) (year_of (s / 86400)) = year_falls (s / 86400) (omega arith) in
    subst (λ (z : Date). Valid z × (seconds_of z ≡ s)) c.1
    (holds s (year_of (s / 86400)) (month_of (year_of (s / 86400))) y (month_falls (year_of (s / 86400)) y.inside))

-- a date by its fields
same_date : (d : Date) (y mo da h mi se : ℕ) → y ≡ d.year → mo ≡ d.month → da ≡ d.day → h ≡ d.hour → mi ≡ d.minute → se ≡ d.second
    → record { year = y; month = mo; day = da; hour = h; minute = mi; second = se } ≡ d
same_date d y mo da h mi se a b c e f g = rw (a, b, c, e, f, g)

-- the day of the year, its place there, and the year's among the years
abbrev day_of_year : Date → ℕ
day_of_year d = sum (month_length d.year) 1 (d.month - 1) + (d.day - 1)

abbrev in_month : Date → Place
in_month d = record { at = d.month; rest = d.day - 1 }

abbrev in_year : Date → Place
in_year d = record { at = d.year; rest = day_of_year d }

in_month_lem : (d : Date) → Valid d → Falls (month_length d.year) 1 12 (day_of_year d) (in_month d)
in_month_lem d v =
    let a : 1 ≤ d.month = v.month_low in
    let b : d.month ≤ 12 = v.month_high in
    let c : 1 ≤ d.day = v.day_low in
    let e : d.day ≤ month_length d.year d.month = v.day_high in
    record { low = a; high = omega arith; inside = omega arith; whole = refl }

in_year_lem : (d : Date) → Valid d → Falls year_length 1970 8030 (day_number d) (in_year d)
in_year_lem d v =
    let a : 1970 ≤ d.year = v.early in
    let b : d.year ≤ 9999 = v.late in
    let c : day_of_year d < sum (month_length d.year) 1 12 = falls_below (month_length d.year) 12 1 (day_of_year d) (in_month d) (in_month_lem d v) in
    record { low = a; high = omega arith; inside = rw all_months at c; whole = omega arith }

-- the time of day behind a number of days
module _ (n h m s : ℕ) (hours : h < 24) (minutes : m < 60) (seconds : s < 60) where
  abbrev all : ℕ
  all = n * 86400 + h * 3600 + m * 60 + s

  days_of : all / 86400 ≡ n
  days_of = omega arith

  hour_of : all % 86400 / 3600 ≡ h
  hour_of = omega arith

  minute_of : all % 86400 % 3600 / 60 ≡ m
  minute_of = omega arith

  second_of : all % 86400 % 60 ≡ s
  second_of = omega arith

pub every : Every
every d v =
    let h : d.hour < 24 = v.hours in
    let m : d.minute < 60 = v.minutes in
    let s : d.second < 60 = v.seconds in
    let b : day_number d < sum year_length 1970 8030 = falls_below year_length 8030 1970 (day_number d) (in_year d) (in_year_lem d v) in
    let l : day_number d < all_days = (rw all_years at b) in
    let y : in_year d ≡ year_of (seconds_of d / 86400) =
    sym (ap year_of (days_of (day_number d) d.hour d.minute d.second h m s) ∙ found year_length 8030 1970 (day_number d) (in_year d) (in_year_lem d v)) in
    let p : in_month d ≡ month_of (in_year d) = sym (found (month_length d.year) 12 1 (day_of_year d) (in_month d) (in_month_lem d v)) in
    sym (date (seconds_of d) (in_year d) (in_month d) (omega arith) y p)
    ∙ ap Some
    (same_date d _ _ _ _ _ _ refl refl (let w : 1 ≤ d.day = v.day_low in omega arith) (hour_of (day_number d) d.hour d.minute d.second h m s) (minute_of (day_number d) d.hour d.minute d.second h m s) (second_of (day_number d) d.hour d.minute d.second h m s))

-- a date is not past the end
not_past : (s : ℕ) → date_of s ≡ None → all_seconds ≤ s
not_past s e =
    elim (dec_le all_seconds s) [
      | yes l ↦ l
      | no l ↦
          absurd
          (let q : Some (dated (year_of (s / 86400)) (month_of (year_of (s / 86400))) (s % 86400)) ≡ None =
          date s (year_of (s / 86400)) (month_of (year_of (s / 86400))) (omega arith) refl refl ∙ e in
          let z : ◌≡◌ {A = ℕ} 0 1 = cc in
          omega arith)
    ]

pub only_past : Past
only_past = (
  λ s h. sym (past s (let e : sum year_length 1970 8030 ≡ all_days = all_years in omega arith)),
  λ s e. let l : all_seconds ≤ s = not_past s e in let a : sum year_length 1970 8030 ≡ all_days = all_years in omega arith,
)

-- computed
pub anchors : Anchors
unfolding date_of walk year_length month_in leap
anchors = record {
  first = refl;
  before-leap_day = refl;
  leap_day = refl;
  after-leap_day = refl;
  century = refl;
  no_leap_day = refl;
  march = refl;
  months = refl;
  final = refl;
  past = refl;
}
