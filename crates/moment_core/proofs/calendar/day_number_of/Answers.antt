use Rattle.std.proofs.Common.{◌≡◌, ℕ, pos, ◌≤◌, ◌<◌, to_z, w8, w16, Some, ap, ◌∙◌, arith}
use Rattle.std.proofs.lemmas.Int.{ints}
use Rattle.jiff_core.specs.{declared.civil.date.Date.Date, Date.epoch_day, Date.IsYmd}
use Rattle.jiff_core.proofs.SignedLemmas.{signed_arith}
use Rattle.moment_core.specs.Calendar.{Civil, IsCivil, day_number}
use Rattle.moment_core.proofs.Dates.{number_is}
use Rattle.moment_core.proofs.calendar.day_number_of.Goals as goal

-- the day of a date with these parts
day_is : (d : Date) (of : Civil) (y m n : ℕ) → IsCivil of → y ≡ of.year → m ≡ of.month → n ≡ of.day → y ≤ 9999
    → m < 100 → n < 100 → IsYmd (to_z w16 y) (to_z w8 m) (to_z w8 n) d → epoch_day d ≡ pos (day_number of)
day_is d of y m n is year month day y_in m_in n_in ymd =
    let same_year : to_z w16 y ≡ pos y = omega (arith, ints) in
    let same_month : to_z w8 m ≡ pos m = omega (arith, ints) in
    let same_day : to_z w8 n ≡ pos n = omega (arith, ints) in
    number_is d of (record {
      civil = is;
      year = ymd.0 ∙ same_year ∙ ap (λ (k : ℕ). pos k) year;
      month = omega (arith, signed_arith, ymd.1 ∙ same_month, month);
      day = omega (arith, signed_arith, ymd.2 ∙ same_day, day);
    })

pub returns-then-day-lt-DAYS_BEFORE-clause-value : goal.returns-then-day-lt-DAYS_BEFORE-clause-value
returns-then-day-lt-DAYS_BEFORE-clause-value c of is year month day =
    let e = day_is c.in-Ok.date of c.args.year c.args.month c.args.day is year month day c.requires.year_in
    c.requires.month_in c.requires.day_in c.in-Ok.ensures.value in
    absurd (omega (arith, signed_arith, e, c.days_since_min-day.ensures.value))

pub returns-clause-value : goal.returns-clause-value
returns-clause-value c of is year month day =
    let e = day_is c.in-Ok.date of c.args.year c.args.month c.args.day is year month day c.requires.year_in
    c.requires.month_in c.requires.day_in c.in-Ok.ensures.value in
    let same : c.from.result ≡ day_number of = omega (arith, signed_arith, e, c.days_since_min-day.ensures.value) in
    ap (λ (k : ℕ). Some k) same
