-- The civil calendar of UTC, by its own rules (ISO 8601, the Gregorian calendar), and months added
-- to moments.
use Rattle.std.specs.Prelude.{ℕ, ◌≤◌, zero, suc, ◌+◌, ◌-◌, ◌*◌, ◌/◌, ◌%◌, nat_lt, nat_le, min}
use Rattle.std.specs.Prelude.{Option, None, Some, if◌then◌else◌, pos}
use Rattle.jiff_core.specs.Calendar.{days_in_month, days_in_year}
use Rattle.moment_core.specs.Moment.{last_second}

-- a civil date: the year, the month from 1 to 12, and the day of the month from 1
pub record Civil : Type 0 where
  pub year : ℕ
  pub month : ℕ
  pub day : ℕ

-- how many days a month has, as jiff's calendar tells
abbrev pub month_days : ℕ → ℕ → ℕ
month_days year month = days_in_month (pos year) month

-- a date of the calendar from 1970 on
pub record IsCivil (c : Civil) : Type 0 where
  pub year : 1970 ≤ c.year
  pub month : (1 ≤ c.month) × (c.month ≤ 12)
  pub day : (1 ≤ c.day) × (c.day ≤ month_days c.year c.month)

-- the date of the next day
abbrev pub next_day : Civil → Civil
next_day c =
    if nat_lt c.day (month_days c.year c.month) then record c { day = c.day + 1 } else
    (if nat_lt c.month 12 then record { year = c.year; month = c.month + 1; day = 1 } else
    record { year = c.year + 1; month = 1; day = 1 })

-- the date of a day, counted from 1970-01-01
unfoldable pub civil : ℕ → Civil
civil zero = record { year = 1970; month = 1; day = 1 }
civil (suc n) = next_day (civil n)

-- the days of so many years from 1970 on
unfoldable pub days_of_years : ℕ → ℕ
days_of_years zero = 0
days_of_years (suc n) = days_of_years n + days_in_year (pos (1970 + n))

-- the days of so many months of a year, from January on
unfoldable pub days_of_months : ℕ → ℕ → ℕ
days_of_months year zero = 0
days_of_months year (suc n) = days_of_months year n + month_days year (n + 1)

-- the day of a date from 1970 on, counted from 1970-01-01
abbrev pub day_number : Civil → ℕ
day_number c = days_of_years (c.year - 1970) + days_of_months c.year (c.month - 1) + (c.day - 1)

-- the same day of the month so many months on, or that month's last day where there is no such day
abbrev pub months_on : Civil → ℕ → Civil
months_on c n =
    let months = c.year * 12 + (c.month - 1) + n in
    let year = months / 12 in
    let month = months % 12 + 1 in
    record { year = year; month = month; day = min c.day (month_days year month) }

-- the seconds of a day
abbrev pub day_seconds : ℕ
day_seconds = 86_400

-- a second, where it is a moment
abbrev pub in_range : ℕ → Option ℕ
in_range seconds = if nat_le seconds last_second then Some seconds else None

-- the moment so many months on: its day's date so many months on, at the same second of the day
unfoldable pub months_after : ℕ → ℕ → Option ℕ
months_after moment n =
    let day = day_number (months_on (civil (moment / day_seconds)) n) in
    in_range (day * day_seconds + moment % day_seconds)

-- the moment so many days on
abbrev pub days_after : ℕ → ℕ → Option ℕ
days_after moment n = in_range (moment + day_seconds * n)
