-- A date of the calendar is that of its number: two dates with one number are one.
use Rattle.std.proofs.Common.{◌≡◌, ℕ, ◌+◌, ◌-◌, ◌*◌, ◌/◌, ◌%◌, ◌<◌, ◌≤◌, sym, ap, ◌∙◌, arith, inl, inr}
use Rattle.std.proofs.lemmas.Bool.{cases_lt}
use Rattle.moment_core.specs.Calendar.{Civil, IsCivil, month_days, civil, day_number}
use Rattle.moment_core.proofs.Civils.{civil_is}
use Rattle.moment_core.proofs.Forward.{first_of, next_first, later_first, number_by}

-- the month of a date, months being counted through the years
abbrev month_of : Civil → ℕ
month_of c = c.year * 12 + (c.month - 1)

-- the number of a date lies in its month
record IsWithin (c : Civil) : Type 0 where
  pub year : c.year ≡ month_of c / 12
  pub month : c.month ≡ month_of c % 12 + 1
  pub number : day_number c ≡ first_of (month_of c) + (c.day - 1)
  pub end : day_number c < first_of (month_of c + 1)

within : (c : Civil) → IsCivil c → IsWithin c
within c is =
    let months = month_of c in
    let year : c.year ≡ months / 12 = omega (arith, is.month.0, is.month.1) in
    let month : c.month ≡ months % 12 + 1 = omega (arith, is.month.0, is.month.1) in
    let number = number_by c months year month in
    let days = ap (λ (y : ℕ). month_days y c.month) year ∙ ap (month_days (months / 12)) month in
    let low : 1970 * 12 ≤ months = omega (arith, is.year) in
    record {
      year = year;
      month = month;
      number = number;
      end = omega (arith, number, days, next_first months low, is.day.0, is.day.1);
    }

-- a date of a later month has a later number
later_month : (c e : Civil) → IsCivil c → IsCivil e → month_of c < month_of e → day_number c < day_number e
later_month c e is its lt =
    let next = month_of c + 1 in
    let place : month_of e - next + next ≡ month_of e = omega (arith, lt) in
    let later = later_first next (month_of e - next) (omega (arith, is.year)) in
    omega (arith, (within c is).end, (within e its).number, later, ap first_of place)

same_month : (c e : Civil) → IsCivil c → IsCivil e → day_number c ≡ day_number e → month_of c ≡ month_of e
same_month c e is its same = elim (cases_lt (month_of c) (month_of e)) [
  | inl before ↦ absurd (omega (arith, same, later_month c e is its before))
  | inr from ↦ elim (cases_lt (month_of e) (month_of c)) [
    | inl after ↦ absurd (omega (arith, same, later_month e c its is after))
    | inr to ↦ omega (arith, from, to)
  ]
]

abbrev date_by : ℕ → ℕ → ℕ → Civil
date_by year month day = record { year = year; month = month; day = day }

same_parts : {y1 m1 d1 y2 m2 d2 : ℕ} → y1 ≡ y2 → m1 ≡ m2 → d1 ≡ d2 → date_by y1 m1 d1 ≡ date_by y2 m2 d2
same_parts {y1} {m1} {d1} {y2} {m2} year month day =
    ap (λ (y : ℕ). date_by y m1 d1) year ∙ ap (λ (m : ℕ). date_by y2 m d1) month ∙ ap (λ (d : ℕ). date_by y2 m2 d) day

one_date : (c e : Civil) → IsCivil c → IsCivil e → day_number c ≡ day_number e → c ≡ e
one_date c e is its same =
    let here = within c is in
    let there = within e its in
    let months = same_month c e is its same in
    let year : c.year ≡ e.year = here.year ∙ ap (λ (m : ℕ). m / 12) months ∙ sym there.year in
    let month : c.month ≡ e.month = here.month ∙ ap (λ (m : ℕ). m % 12 + 1) months ∙ sym there.month in
    let day : c.day ≡ e.day =
    omega (arith, same, here.number, there.number, ap first_of months, is.day.0, its.day.0) in
    same_parts year month day

pub date_of_number : (c : Civil) → IsCivil c → civil (day_number c) ≡ c
date_of_number c is =
    let of = civil_is (day_number c) in
    one_date (civil (day_number c)) c of.civil is of.number
