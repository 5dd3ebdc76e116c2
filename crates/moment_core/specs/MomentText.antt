-- The text of a moment, as YYYY-MM-DDTHH:MM:SSZ (RFC 3339, in UTC).
use Rattle.std.specs.Prelude.{ℕ, ◌+◌, ◌/◌, ◌%◌, List, [], ◌∷◌, ◌++◌, codes}
use Rattle.moment_core.specs.Calendar.{civil, day_seconds}

-- a number of at most two digits, as two
abbrev pub two_digits : ℕ → List ℕ
two_digits n = (48 + n / 10 % 10) ∷ (48 + n % 10) ∷ []

-- a number of at most four digits, as four
abbrev pub four_digits : ℕ → List ℕ
four_digits n = two_digits (n / 100) ++ two_digits (n % 100)

-- a moment as YYYY-MM-DDTHH:MM:SSZ (RFC 3339, in UTC)
unfoldable pub moment_text : ℕ → List ℕ
moment_text moment =
    let date = civil (moment / day_seconds) in
    let second = moment % day_seconds in
    four_digits date.year ++ codes "-" ++ two_digits date.month ++ codes "-"
    ++ two_digits date.day ++ codes "T" ++ two_digits (second / 3600) ++ codes ":"
    ++ two_digits (second / 60 % 60) ++ codes ":" ++ two_digits (second % 60) ++ codes "Z"
