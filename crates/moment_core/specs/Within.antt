-- What functions within the crate say of one another: no public contract stands on it.
use Rattle.std.specs.Prelude.{◌≡◌, pos, ℕ, ◌/◌, ◌%◌, List, ◌++◌, codes}
use Rattle.jiff_core.specs.declared.civil.date.Date.{Date}
use Rattle.moment_core.specs.Calendar.{Civil, IsCivil}
use Rattle.moment_core.specs.MomentText.{two_digits, four_digits}

-- ---- a date of jiff's beside a civil date

-- the date has the parts of this civil date
pub record HasParts (d : Date) (c : Civil) : Type 0 where
  pub civil : IsCivil c
  pub year : d.year ≡ pos c.year
  pub month : d.month ≡ c.month
  pub day : d.day ≡ c.day

-- ---- the two halves of a moment's text

-- a date, with the T that ends it
abbrev pub date_part_text : ℕ → ℕ → ℕ → List ℕ
date_part_text year month day =
    four_digits year ++ codes "-" ++ two_digits month ++ codes "-" ++ two_digits day ++ codes "T"

-- the time of day of a second of the day
abbrev pub time_text : ℕ → List ℕ
time_text second =
    two_digits (second / 3600) ++ codes ":" ++ two_digits (second / 60 % 60) ++ codes ":"
    ++ two_digits (second % 60) ++ codes "Z"
