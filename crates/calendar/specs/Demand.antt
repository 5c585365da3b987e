-- What a date means: the day number of a civil date, that a date is found for each second and each date found, and some
-- dates by themselves. `proofs/Demand.antt` proves it.
use Rattle.std.specs.Prelude.{Some, None, ℕ, ◌+◌, ◌-◌, ◌*◌, ◌≤◌, ◌<◌, ◌≡◌, [], ◌∷◌, map}
use Rattle.calendar.specs.declared.Date.{Date}
use Rattle.calendar.specs.Calendar.{year_length, month_length, sum, date_of}

-- a date that there is, from 1970 to 9999
pub record Valid (d : Date) : Type 0 where
  pub early : 1970 ≤ d.year
  pub late : d.year ≤ 9999
  pub month_low : 1 ≤ d.month
  pub month_high : d.month ≤ 12
  pub day_low : 1 ≤ d.day
  pub day_high : d.day ≤ month_length d.year d.month
  pub hours : d.hour < 24
  pub minutes : d.minute < 60
  pub seconds : d.second < 60

-- the days before a date: those of the years and of the months before it, and of the month
abbrev pub day_number : Date → ℕ
day_number d = sum year_length 1970 (d.year - 1970) + sum (month_length d.year) 1 (d.month - 1) + (d.day - 1)

-- the seconds before it
abbrev pub seconds_of : Date → ℕ
seconds_of d = day_number d * 86400 + d.hour * 3600 + d.minute * 60 + d.second

-- The date of a number of seconds is one that there is, with so many seconds before it.
abbrev pub Meaning : Type 0
Meaning = (s : ℕ) (d : Date) → date_of s ≡ Some d → Valid d × (seconds_of d ≡ s)

-- Every date from 1970 to 9999 is the date of its seconds, so that no two have the same.
abbrev pub Every : Type 0
Every = (d : Date) → Valid d → date_of (seconds_of d) ≡ Some d

-- Past the year 9999, and only there, there is none: its years have as many days.
abbrev pub Past : Type 0
Past =
    ((s : ℕ) → sum year_length 1970 8030 * 86400 ≤ s → date_of s ≡ None)
    × ((s : ℕ) → date_of s ≡ None → sum year_length 1970 8030 * 86400 ≤ s)

-- the date and time of a number of seconds
abbrev pub Shows : ℕ → ℕ → ℕ → ℕ → ℕ → ℕ → ℕ → Type 0
Shows s y mo d h mi se = date_of s ≡ Some (record { year = y; month = mo; day = d; hour = h; minute = mi; second = se })

-- Dates that are known without any rule of the calendar.
pub record Anchors : Type 0 where
  -- the first second
  pub first : Shows 0 1970 1 1 0 0 0
  -- the leap day of a hundredth year that has one: the last second before it, its first, and the first after it
  pub before-leap_day : Shows 951782399 2000 2 28 23 59 59
  pub leap_day : Shows 951782400 2000 2 29 0 0 0
  pub after-leap_day : Shows 951868800 2000 3 1 0 0 0
  -- the last second before the year 2100
  pub century : Shows 4102444799 2099 12 31 23 59 59
  -- a hundredth year that has no leap day: the last second of its February, and the next
  pub no_leap_day : Shows 4107542399 2100 2 28 23 59 59
  pub march : Shows 4107542400 2100 3 1 0 0 0
  -- the months of a year that is no leap year, in their order
  pub months :
      map (month_length 2023) (1 ∷ 2 ∷ 3 ∷ 4 ∷ 5 ∷ 6 ∷ 7 ∷ 8 ∷ 9 ∷ 10 ∷ 11 ∷ 12 ∷ [])
      ≡ 31 ∷ 28 ∷ 31 ∷ 30 ∷ 31 ∷ 30 ∷ 31 ∷ 31 ∷ 30 ∷ 31 ∷ 30 ∷ 31 ∷ []
  -- the last second of all, and the next
  pub final : Shows 253402300799 9999 12 31 23 59 59
  pub past : date_of 253402300800 ≡ None
