-- A day's date is jiff's.
use Rattle.std.proofs.Common.{◌≡◌, ℕ, zero, suc, ◌+◌, ◌-◌, ◌*◌, ◌/◌, ◌%◌, ◌<◌, ◌≤◌, inl, inr, refl, sym, ap, ◌∙◌, arith}
use Rattle.std.proofs.Common.{ℤ, pos, ◌+ℤ◌}
use Rattle.std.proofs.lemmas.Bool.{cases_lt, le-leb, lt-leb}
use Rattle.std.specs.Prelude.{Bool, cond, Option, None, Some, IsSome, IfSome, ◌↔◌, min}
use Rattle.moment_core.specs.Calendar.{Civil, IsCivil, in_range, months_after, months_on, month_days, civil}
use Rattle.moment_core.specs.Calendar.{days_of_years, days_of_months, day_number}
use Rattle.moment_core.specs.{Moment.last_second, Moment.IsMoment, Within.HasParts}
use Rattle.jiff_core.specs.Calendar.{day_count, days_from_civil, days_in_month, days_in_year}
use Rattle.jiff_core.specs.{declared.civil.date.Date.Date, Date.epoch_day}
use Rattle.jiff_core.specs.Calendar as jiff
use Rattle.jiff_core.proofs.CalendarLemmas.{day_count-epoch, day_count-next_year, day_count-end, day_count-day_of_year}
use Rattle.jiff_core.proofs.CalendarLemmas.{days_from_civil-day_count}
use Rattle.jiff_core.proofs.{SignedLemmas.signed_arith, DateLemmas.epoch_day_injective}
use Rattle.moment_core.proofs.Civils.{civil_is, days_of_years_more, days_of_years_mono, days_of_years_none}
use Rattle.moment_core.proofs.Civils.{month_days_bounds}

-- jiff counts the days of years from the year -10000 on
years_count : (n : ℕ) → day_count (pos (1970 + n)) 1 1 ≡ 4_371_953 + days_of_years n
years_count zero = omega (arith, day_count-epoch, days_of_years_none)
years_count (suc n) =
    let next : pos (1970 + suc n) ≡ pos (1970 + n) +ℤ pos 1 = omega (arith, signed_arith) in
    omega (
      arith,
      years_count n,
      day_count-next_year (pos (1970 + n)) (pos (1970 + suc n))
          (omega (arith, signed_arith)) next,
      days_of_years_more n (suc n) refl,
    )

months_same : (y n : ℕ) → jiff.days_of_months (pos y) n ≡ days_of_months y n
unfolding days_of_months jiff.days_of_months
months_same y zero = refl
months_same y (suc n) =
    let place : suc n ≡ n + 1 = omega arith in
    ap (λ (k : ℕ). k + days_in_month (pos y) (suc n)) (months_same y n)
    ∙ ap (λ (k : ℕ). days_of_months y n + month_days y k) place

-- jiff's count of a date, by the calendar's own numbers
count_is : (c : Civil) → IsCivil c → day_count (pos c.year) c.month c.day ≡ 4_371_953 + day_number c
count_is c is =
    let year : 1970 + (c.year - 1970) ≡ c.year = omega (arith, is.year) in
    let first = ap (λ (y : ℕ). day_count (pos y) 1 1) (sym year) ∙ years_count (c.year - 1970) in
    omega (
      arith,
      first,
      day_count-day_of_year (pos c.year) c.month c.day is.day.0,
      months_same c.year (c.month - 1),
      is.day.0,
    )

-- the last day of the calendar
last_day : days_of_years 8030 ≡ 2_932_897
last_day = omega (arith, years_count 8030, day_count-end)

pub year_bound : (c : Civil) → IsCivil c → day_number c ≤ 2_932_896 → c.year ≤ 9999
year_bound c is le = elim (cases_lt 9999 c.year) [
  | inl late ↦
      let more = days_of_years_mono 8030 (c.year - 1970 - 8030) in
      let same : c.year - 1970 - 8030 + 8030 ≡ c.year - 1970 = omega (arith, late) in
      absurd (omega (arith, more, ap days_of_years same, last_day, le))
  | inr early ↦ early
]

abbrev date_of : (c : Civil) → IsCivil c → c.year ≤ 9999 → Date
date_of c is le = record {
  year = pos c.year;
  month = c.month;
  day = c.day;
  year_in = (omega (arith, signed_arith), omega (arith, signed_arith));
  month_in = is.month;
  day_in = is.day;
}

epoch_is : (c : Civil) → IsCivil c → days_from_civil (pos c.year) c.month c.day ≡ pos (day_number c)
epoch_is c is = omega (arith, signed_arith, days_from_civil-day_count (pos c.year) c.month c.day, count_is c is)

-- jiff's date of a day is the day's date
pub date_is : (d : Date) (n : ℕ) → n ≤ 2_932_896 → epoch_day d ≡ pos n → HasParts d (civil n)
date_is d n le e =
    let of = civil_is n in
    let low : (civil n).year ≤ 9999 = year_bound (civil n) of.civil (omega (arith, of.number)) in
    let same = epoch_day_injective d (date_of (civil n) of.civil low) (e
    ∙ sym (epoch_is (civil n) of.civil ∙ ap (λ (k : ℕ). pos k) of.number)) in
    record { civil = of.civil; year = same.0; month = same.1; day = same.2 }

-- and the day of jiff's date is the number of the civil date
pub number_is : (d : Date) (c : Civil) → HasParts d c → epoch_day d ≡ pos (day_number c)
number_is d c parts =
    ap (λ (y : ℤ). days_from_civil y d.month d.day) parts.year
    ∙ ap (λ (m : ℕ). days_from_civil (pos c.year) m d.day) parts.month
    ∙ ap (days_from_civil (pos c.year) c.month) parts.day ∙ epoch_is c parts.civil

-- the calendar's last date is in 9999: a later one has a later day
pub late_year : (c : Civil) → IsCivil c → 9999 < c.year → 2_932_897 ≤ day_number c
late_year c is late =
    let more = days_of_years_mono 8030 (c.year - 1970 - 8030) in
    let same : c.year - 1970 - 8030 + 8030 ≡ c.year - 1970 = omega (arith, late) in
    omega (arith, more, ap days_of_years same, last_day)

-- so many months on there is a date
pub months_on_civil : (c : Civil) (n : ℕ) → IsCivil c → IsCivil (months_on c n)
months_on_civil c n is =
    let months = c.year * 12 + (c.month - 1) + n in
    let low : 1970 * 12 ≤ months = omega (arith, is.year) in
    let bounds = month_days_bounds (months / 12) (months % 12 + 1) in
    record {
      year = omega (arith, low);
      month = (omega arith, omega arith);
      day = (omega (arith, is.day.0, bounds.0), omega arith);
    }

-- the date that months make of a date's parts
pub later_parts : (date later : Date) (c : Civil) (n total : ℕ) → HasParts date c
    → total ≡ c.year * 12 + (c.month - 1) + n →
    later.year ≡ pos (total / 12) → later.month ≡ total % 12 + 1
    → later.day ≡ min date.day (month_days (total / 12) (total % 12 + 1)) → HasParts later (months_on c n)
later_parts date later c n total has e year month day = record {
  civil = months_on_civil c n has.civil;
  year = year ∙ ap (λ (t : ℕ). pos (t / 12)) e;
  month = month ∙ ap (λ (t : ℕ). t % 12 + 1) e;
  day = day ∙ ap (λ (t : ℕ). min date.day (month_days (t / 12) (t % 12 + 1))) e
      ∙ ap (λ (d : ℕ). min d (month_days ((c.year * 12 + (c.month - 1) + n) / 12)
      ((c.year * 12 + (c.month - 1) + n) % 12 + 1))) has.day;
}

-- the total of months, from the date's own numbers
pub total_is : (date : Date) (c : Civil) (n year month total : ℕ) → HasParts date c → pos year ≡ date.year
    → month ≡ date.month - 1 → total ≡ year * 12 + month + n → total ≡ c.year * 12 + (c.month - 1) + n
total_is date c n year month total has y m t =
    let same : pos year ≡ pos c.year = y ∙ has.year in
    let years : year ≡ c.year = omega (arith, signed_arith, same) in
    omega (arith, t, years, m, has.month)

-- ---- sums of months

abbrev in_range_of : ℕ → Option ℕ
in_range_of = in_range

range_is : (n : ℕ) (o : Option ℕ) → (IsSome o ↔ IsMoment n) → IfSome o (λ m. m ≡ n) → o ≡ in_range n
range_is n None both value = elim (cases_lt last_second n) [
  | inl past ↦ sym (ap (λ (b : Bool). cond b (Some n) None) (lt-leb n last_second past))
  | inr within ↦ absurd (cc (both.1 within))
]
range_is n (Some m) both value = ap (λ (k : ℕ). Some k) value
    ∙ sym (ap (λ (b : Bool). cond b (Some n) None) (le-leb n last_second (both.0 refl)))

-- the sum is past the range where its year is
pub past_range : (s n : ℕ) → 9999 < (months_on (civil (s / 86_400)) n).year → None ≡ months_after s n
unfolding months_after
past_range s n late =
    let date = months_on (civil (s / 86_400)) n in
    let far = late_year date (months_on_civil (civil (s / 86_400)) n (civil_is (s / 86_400)).civil) late in
    sym (ap (λ (b : Bool). cond b (Some (day_number date * 86_400 + s % 86_400)) None)
    (lt-leb (day_number date * 86_400 + s % 86_400) last_second (omega (arith, far))))

-- what a check for the range answers
pub sum_is : (s n day : ℕ) (o : Option ℕ) → day ≡ day_number (months_on (civil (s / 86_400)) n)
    → (IsSome o ↔ IsMoment (day * 86_400 + s % 86_400)) → IfSome o (λ m. m ≡ day * 86_400 + s % 86_400)
    → o ≡ months_after s n
unfolding months_after
sum_is s n day o e in_range value = range_is (day * 86_400 + s % 86_400) o in_range value
    ∙ ap (λ (d : ℕ). in_range_of (d * 86_400 + s % 86_400)) e
