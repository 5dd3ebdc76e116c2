-- Each day's date is one of the calendar, and its number is the day.
use Rattle.std.proofs.Common.{◌≡◌, ℕ, zero, suc, ◌+◌, ◌-◌, ◌<◌, ◌≤◌, cond, nat_lt, Bool, true, false, refl, sym, ap}
use Rattle.std.proofs.Common.{◌∙◌, arith}
use Rattle.std.proofs.lemmas.Bool.{ltb-false, ltb-true}
use Rattle.std.specs.Prelude.{pos}
use Rattle.jiff_core.specs.Calendar.{days_in_year, is_leap_year}
use Rattle.moment_core.specs.Calendar.{Civil, IsCivil, month_days, next_day, civil, days_of_years, days_of_months}
use Rattle.moment_core.specs.Calendar.{day_number}

-- the days of a year
abbrev pub year_days : ℕ → ℕ
year_days year = days_in_year (pos year)

pub month_days_bounds : (y m : ℕ) → (28 ≤ month_days y m) × (month_days y m ≤ 31)
month_days_bounds y m = grind arith

-- the months of a year make the year
months_of : (y : ℕ) → (b : Bool) → is_leap_year (pos y) ≡ b → days_of_months y 12 ≡ cond b 366 365
unfolding days_of_months
months_of y true e = rw e refl
months_of y false e = rw e refl

pub days_of_months_all : (y : ℕ) → days_of_months y 12 ≡ year_days y
days_of_months_all y = months_of y (is_leap_year (pos y)) refl

pub days_of_months_more : (y m : ℕ) → 1 ≤ m → days_of_months y m ≡ days_of_months y (m - 1) + month_days y m
unfolding days_of_months
days_of_months_more y zero le = absurd (omega arith)
days_of_months_more y (suc m) le =
    let back : suc m - 1 ≡ m = omega arith in
    let place : m + 1 ≡ suc m = omega arith in
    ap (λ (k : ℕ). days_of_months y m + month_days y k) place
    ∙ ap (λ (k : ℕ). days_of_months y k + month_days y (suc m)) (sym back)

days_of_years_suc : (n : ℕ) → days_of_years (suc n) ≡ days_of_years n + year_days (1970 + n)
unfolding days_of_years
days_of_years_suc n = refl

pub days_of_years_more : (n k : ℕ) → k ≡ suc n → days_of_years k ≡ days_of_years n + year_days (1970 + n)
days_of_years_more n k is = ap days_of_years is ∙ days_of_years_suc n

pub days_of_months_none : (y : ℕ) → days_of_months y 0 ≡ 0
unfolding days_of_months
days_of_months_none y = refl

-- ---- the next day

-- the next day is a date, and its number is one more
pub record IsNext (c next : Civil) : Type 0 where
  pub civil : IsCivil next
  pub number : day_number next ≡ day_number c + 1

next_in_month : (c : Civil) → IsCivil c → c.day < month_days c.year c.month → IsNext c (record c { day = c.day + 1 })
next_in_month c is lt = record {
  civil = record { year = is.year; month = is.month; day = (omega arith, omega arith) };
  number = omega (arith, is.day.0);
}

next_month : (c : Civil) → IsCivil c → month_days c.year c.month ≤ c.day → c.month < 12
    → IsNext c (record { year = c.year; month = c.month + 1; day = 1 })
next_month c is le lt = record {
  civil = record {
    year = is.year;
    month = (omega arith, omega arith);
    day =
        (omega arith, omega (arith, month_days_bounds c.year (c.month + 1)));
  };
  number =
      let back : c.month + 1 - 1 ≡ c.month = omega arith in
      let more = ap (days_of_months c.year) back ∙ days_of_months_more c.year c.month is.month.0 in
      omega (arith, more, is.day.0, is.day.1);
}

next_year : (c : Civil) → IsCivil c → month_days c.year c.month ≤ c.day → 12 ≤ c.month
    → IsNext c (record { year = c.year + 1; month = 1; day = 1 })
next_year c is le last = record {
  civil = record {
    year = omega (arith, is.year);
    month = (omega arith, omega arith);
    day =
        (omega arith, omega (arith, month_days_bounds (c.year + 1) 1));
  };
  number =
      let december : c.month ≡ 12 = omega (arith, is.month.1) in
      let years = days_of_years_more (c.year - 1970) (c.year + 1 - 1970) (omega (arith, is.year)) in
      let same : 1970 + (c.year - 1970) ≡ c.year = omega (arith, is.year) in
      let length = ap year_days same in
      let first = ap (days_of_months (c.year + 1)) (let e : 1 - 1 ≡ 0 = omega arith in e)
      ∙ days_of_months_none (c.year + 1) in
      let months = days_of_months_more c.year c.month is.month.0 in
      let all = ap (days_of_months c.year) december ∙ days_of_months_all c.year in
      omega (arith, years, length, first, months, all, is.day.0, is.day.1);
}

pick_next : (c : Civil) → IsCivil c → (in_month in_year : Bool) → nat_lt c.day (month_days c.year c.month) ≡ in_month
    → nat_lt c.month 12 ≡ in_year →
    IsNext c (cond in_month (record c { day = c.day + 1 })
    (cond in_year (record { year = c.year; month = c.month + 1; day = 1 })
    (record { year = c.year + 1; month = 1; day = 1 })))
pick_next c is true in_year e f = next_in_month c is (ltb-true _ _ e)
pick_next c is false true e f = next_month c is (ltb-false _ _ e) (ltb-true _ _ f)
pick_next c is false false e f = next_year c is (ltb-false _ _ e) (ltb-false _ _ f)

next_is : (c : Civil) → IsCivil c → IsNext c (next_day c)
next_is c is = pick_next c is (nat_lt c.day (month_days c.year c.month)) (nat_lt c.month 12) refl refl

-- ---- each day

pub record IsDateOf (n : ℕ) (c : Civil) : Type 0 where
  pub civil : IsCivil c
  pub number : day_number c ≡ n

first_day : IsDateOf 0 (record { year = 1970; month = 1; day = 1 })
unfolding days_of_years days_of_months
first_day = record {
  civil = record {
    year = omega arith;
    month = (omega arith, omega arith);
    day =
        (omega arith, omega (arith, month_days_bounds 1970 1));
  };
  number = refl;
}

pub civil_is : (n : ℕ) → IsDateOf n (civil n)
unfolding civil
civil_is zero = first_day
civil_is (suc n) =
    let before = civil_is n in
    let next = next_is (civil n) before.civil in
    record { civil = next.civil; number = next.number ∙ ap (λ (k : ℕ). k + 1) before.number ∙ omega arith }

pub days_of_years_mono : (n k : ℕ) → days_of_years n ≤ days_of_years (k + n)
days_of_years_mono n zero = omega (arith, ap days_of_years (let e : 0 + n ≡ n = omega arith in e))
days_of_years_mono n (suc k) = omega (
  arith,
  days_of_years_mono n k,
  days_of_years_more (k + n) (suc k + n)
      (omega arith),
)

pub days_of_years_none : days_of_years 0 ≡ 0
unfolding days_of_years
days_of_years_none = refl
