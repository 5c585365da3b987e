-- The date of a number of seconds since 1970-01-01 00:00:00 UTC, by the Gregorian calendar. A day has 86,400 seconds.
use Rattle.std.specs.Prelude.{Some, None, Option, ℕ, zero, suc, ◌+◌, ◌-◌, ◌/◌, ◌%◌, Bool, cond, not, ◌&&◌, ◌||◌, ltb, eqb}
use Rattle.calendar.specs.declared.Date.{Date}
use Rattle.calendar.specs.declared.Place.{Place}

-- a leap year: every fourth, but of the hundreds only every fourth
unfoldable pub leap : ℕ → Bool
leap y = (eqb (y % 4) 0 && not (eqb (y % 100) 0)) || eqb (y % 400) 0

-- the days of a year
unfoldable pub year_length : ℕ → ℕ
year_length y = cond (leap y) 366 365

-- the days of month m, in a leap year or not
unfoldable pub month_in : Bool → ℕ → ℕ
month_in b m = cond (eqb m 2) (cond b 29 28) (cond ((eqb m 4 || eqb m 6) || (eqb m 9 || eqb m 11)) 30 31)

-- the days of month m of year y
abbrev pub month_length : ℕ → ℕ → ℕ
month_length y = month_in (leap y)

-- the length of k years or months from i on
unfoldable pub sum : (ℕ → ℕ) → ℕ → ℕ → ℕ
sum f i zero = 0
sum f i (suc k) = f i + sum f (i + 1) k

-- the year or month in which day n falls, counted from the first day of i, and its day there; k at most are passed
unfoldable pub walk : (ℕ → ℕ) → ℕ → ℕ → ℕ → Place
walk f zero i n = record { at = i; rest = n }
walk f (suc k) i n = cond (ltb n (f i)) (record { at = i; rest = n }) (walk f k (i + 1) (n - f i))

-- the days of the years 1970 to 9999, and their seconds
abbrev pub all_days : ℕ
all_days = 2932897

abbrev pub all_seconds : ℕ
all_seconds = 253402300800

-- the year of a day, and the month of the day of a year
abbrev pub year_of : ℕ → Place
year_of day = walk year_length 8030 1970 day

abbrev pub month_of : Place → Place
month_of y = walk (month_length y.at) 12 1 y.rest

-- the date of a day's month and the time t of the day
abbrev pub dated : Place → Place → ℕ → Date
dated y m t =
    record { year = y.at; month = m.at; day = m.rest + 1; hour = t / 3600; minute = t % 3600 / 60; second = t % 60 }

-- the date of a number of seconds
unfoldable pub date_of : ℕ → Option Date
date_of s =
    cond (ltb s all_seconds) (Some (dated (year_of (s / 86400)) (month_of (year_of (s / 86400))) (s % 86400))) None
