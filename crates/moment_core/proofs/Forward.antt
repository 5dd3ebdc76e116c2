-- A moment some months on is no earlier.
use Rattle.std.proofs.Common.{◌≡◌, ℕ, zero, suc, ◌+◌, ◌-◌, ◌*◌, ◌/◌, ◌%◌, ◌<◌, ◌≤◌, cond, Bool, true, false, Some, None}
use Rattle.std.proofs.Common.{refl, sym, ap, ◌∙◌, arith, inl, inr}
use Rattle.std.proofs.lemmas.Bool.{cases_lt}
use Rattle.moment_core.specs.Calendar.{Civil, IsCivil, month_days, civil, days_of_years, days_of_months, day_number}
use Rattle.moment_core.specs.Calendar.{months_on, months_after}
use Rattle.moment_core.proofs.Civils.{civil_is, days_of_months_all, days_of_months_more, days_of_months_none}
use Rattle.moment_core.proofs.Civils.{days_of_years_more, year_days}

-- the first day of a month, months being counted through the years
abbrev pub first_of : ℕ → ℕ
first_of months = days_of_years (months / 12 - 1970) + days_of_months (months / 12) (months % 12)

abbrev pub length_of : ℕ → ℕ
length_of months = month_days (months / 12) (months % 12 + 1)

within_year : (k : ℕ) → k % 12 < 11 → first_of (k + 1) ≡ first_of k + length_of k
within_year k lt =
    let year : (k + 1) / 12 ≡ k / 12 = omega (arith, lt) in
    let month : (k + 1) % 12 ≡ k % 12 + 1 = omega (arith, lt) in
    let back : k % 12 + 1 - 1 ≡ k % 12 = omega arith in
    let years = ap (λ (y : ℕ). days_of_years (y - 1970)) year in
    let months = ap (λ (y : ℕ). days_of_months y ((k + 1) % 12)) year ∙ ap (days_of_months (k / 12)) month in
    let more = days_of_months_more (k / 12) (k % 12 + 1) (omega arith) in
    let same = ap (days_of_months (k / 12)) back in
    omega (arith, years, months, more, same)

over_year : (k : ℕ) → 1970 * 12 ≤ k → 11 ≤ k % 12 → first_of (k + 1) ≡ first_of k + length_of k
over_year k low last =
    let december : k % 12 ≡ 11 = omega (arith, last) in
    let year : (k + 1) / 12 ≡ k / 12 + 1 = omega (arith, december) in
    let january : (k + 1) % 12 ≡ 0 = omega (arith, december) in
    let years = ap (λ (y : ℕ). days_of_years (y - 1970)) year in
    let next = days_of_years_more (k / 12 - 1970) (k / 12 + 1 - 1970) (omega (arith, low)) in
    let its : 1970 + (k / 12 - 1970) ≡ k / 12 = omega (arith, low) in
    let length = ap year_days its in
    let months = ap (λ (m : ℕ). days_of_months ((k + 1) / 12) m) january ∙ days_of_months_none ((k + 1) / 12) in
    let all = days_of_months_all (k / 12) in
    let more = days_of_months_more (k / 12) 12 (omega arith) in
    let eleven : 12 - 1 ≡ 11 = omega arith in
    let before = ap (days_of_months (k / 12)) (eleven ∙ sym december) in
    let twelve = ap (λ (m : ℕ). month_days (k / 12) (m + 1)) december in
    omega (arith, years, next, length, months, all, more, before, twelve)

pub next_first : (k : ℕ) → 1970 * 12 ≤ k → first_of (k + 1) ≡ first_of k + length_of k
next_first k low = elim (cases_lt (k % 12) 11) [ inl lt ↦ within_year k lt | inr le ↦ over_year k low le ]

pub later_first : (k n : ℕ) → 1970 * 12 ≤ k → first_of k ≤ first_of (n + k)
later_first k zero low = omega (arith, ap first_of (let e : 0 + k ≡ k = omega arith in e))
later_first k (suc n) low =
    let place : suc n + k ≡ n + k + 1 = omega arith in
    omega (arith, later_first k n low, next_first (n + k) (omega (arith, low)), ap first_of place)

-- the number of a date, by its months
pub number_by : (c : Civil) (months : ℕ) → c.year ≡ months / 12 → c.month ≡ months % 12 + 1
    → day_number c ≡ first_of months + (c.day - 1)
number_by c months year month =
    let back : c.month - 1 ≡ months % 12 = omega (arith, month) in
    omega (
      arith,
      ap (λ (y : ℕ). days_of_years (y - 1970)) year,
      ap (λ (y : ℕ). days_of_months y (c.month - 1)) year,
      ap (days_of_months (months / 12)) back,
    )

forward : (c : Civil) (n : ℕ) → IsCivil c → day_number c ≤ day_number (months_on c n)
forward c n is = by n
  where
    by : (n : ℕ) → day_number c ≤ day_number (months_on c n)
    by zero =
        let months = c.year * 12 + (c.month - 1) + 0 in
        let year : c.year ≡ months / 12 = omega (arith, is.month.0, is.month.1) in
        let month : c.month ≡ months % 12 + 1 = omega (arith, is.month.0, is.month.1) in
        let days = ap (λ (y : ℕ). month_days y c.month) year ∙ ap (month_days (months / 12)) month in
        omega (
          arith,
          number_by c months year month,
          number_by (months_on c 0) months refl refl,
          days,
          is.day.0,
          is.day.1,
        )
    by (suc n) =
        let here = c.year * 12 + (c.month - 1) in
        let months = here + suc n in
        let year : c.year ≡ here / 12 = omega (arith, is.month.0, is.month.1) in
        let month : c.month ≡ here % 12 + 1 = omega (arith, is.month.0, is.month.1) in
        let days = ap (λ (y : ℕ). month_days y c.month) year ∙ ap (month_days (here / 12)) month in
        let low : 1970 * 12 ≤ here = omega (arith, is.year) in
        let next = next_first here low in
        let later = later_first (here + 1) n (omega (arith, low)) in
        let place : n + (here + 1) ≡ months = omega arith in
        omega (
          arith,
          number_by c here year month,
          number_by (months_on c (suc n)) months refl refl,
          days,
          is.day.0,
          is.day.1,
          next,
          later,
          ap first_of place,
        )

sum_in_range : (seconds r : ℕ) (b : Bool) → cond b (Some seconds) None ≡ Some r → seconds ≡ r
sum_in_range seconds r true e = cc
sum_in_range seconds r false e = absurd cc

-- so many months after a moment is no earlier than it
pub months_forward : (m n r : ℕ) → months_after m n ≡ Some r → m ≤ r
unfolding months_after
months_forward m n r e =
    let date = civil_is (m / 86_400) in
    let days = forward (civil (m / 86_400)) n date.civil in
    let sum = sum_in_range _ r _ e in
    omega (arith, days, date.number, sum)
