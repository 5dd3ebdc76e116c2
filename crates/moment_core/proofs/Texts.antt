-- The text of a moment, part by part.
use Rattle.std.proofs.Common.{◌≡◌, ℕ, ◌+◌, ◌*◌, ◌/◌, ◌%◌, ◌<◌, ◌≤◌, List, ◌++◌, take, drop, length, get_or, refl, sym}
use Rattle.std.proofs.Common.{ap, ◌∙◌, arith}
use Rattle.std.specs.Prelude.{Option, None, Some, IsSome, IfSome, ◌↔◌}
use Rattle.moment_core.specs.Calendar.{Civil, IsCivil, civil, day_number}
use Rattle.moment_core.specs.Within.{date_part_text, time_text}
use Rattle.moment_core.specs.{Moment.IsMoment, MomentText.two_digits, MomentText.moment_text}
use Rattle.moment_core.proofs.{Civils.civil_is, Civils.month_days_bounds, Dates.year_bound}

abbrev pub date_at : ℕ → Civil
date_at m = civil (m / 86_400)

-- a moment's text, from the parts of its date
pub text_is : (m s year month day : ℕ) → s ≡ m → year ≡ (date_at s).year → month ≡ (date_at s).month
    → day ≡ (date_at s).day → date_part_text year month day ++ time_text (s % 86_400) ≡ moment_text m
unfolding moment_text
text_is m s year month day e y mo d =
    ap (λ (k : ℕ). date_part_text k month day ++ time_text (s % 86_400)) y
    ∙ ap (λ (k : ℕ). date_part_text (date_at s).year k day ++ time_text (s % 86_400)) mo
    ∙ ap (λ (k : ℕ). date_part_text (date_at s).year (date_at s).month k ++ time_text (s % 86_400)) d
    ∙ ap moment_text e

-- the parts of a moment's date
pub record IsInYears (c : Civil) : Type 0 where
  pub civil : IsCivil c
  pub last : c.year ≤ 9999
  pub month : c.month < 100
  pub day : c.day < 100

pub in_years : (m : ℕ) → IsMoment m → IsInYears (date_at m)
in_years m is =
    let of = civil_is (m / 86_400) in
    record {
      civil = of.civil;
      last = year_bound (date_at m) of.civil (omega (arith, of.number, is));
      month = omega (arith, of.civil.month);
      day = omega (arith, of.civil.day, month_days_bounds (date_at m).year (date_at m).month);
    }

-- two digits, and the number that they are of
pub record IsOf (digits : List ℕ) (n : ℕ) : Type 0 where
  pub small : n < 100
  pub same : digits ≡ two_digits n

-- where the parts of a moment stand in its text
pub record IsTextOf (text : List ℕ) (m : ℕ) : Type 0 where
  pub century : IsOf (take 2 (drop 0 text)) ((date_at m).year / 100)
  pub year : IsOf (take 2 (drop 2 text)) ((date_at m).year % 100)
  pub month : IsOf (take 2 (drop 5 text)) (date_at m).month
  pub day : IsOf (take 2 (drop 8 text)) (date_at m).day
  pub hour : IsOf (take 2 (drop 11 text)) (m % 86_400 / 3600)
  pub minute : IsOf (take 2 (drop 14 text)) (m % 86_400 / 60 % 60)
  pub second : IsOf (take 2 (drop 17 text)) (m % 86_400 % 60)

stands : (text : List ℕ) (m at n : ℕ) → n < 100 → take 2 (drop at (moment_text m)) ≡ two_digits n → text ≡ moment_text m
    → IsOf (take 2 (drop at text)) n
stands text m at n small there e = record { small = small; same = ap (λ (s : List ℕ). take 2 (drop at s)) e ∙ there }

pub format_date_and_time : (text : List ℕ) (m : ℕ) → IsMoment m → text ≡ moment_text m → IsTextOf text m
unfolding moment_text
format_date_and_time text m is e =
    let years = in_years m is in
    record {
      century = stands text m 0 _ (omega (arith, years.last)) refl e;
      year = stands text m 2 _ (omega arith) refl e;
      month = stands text m 5 _ (years.month) refl e;
      day = stands text m 8 _ (years.day) refl e;
      hour = stands text m 11 _ (omega arith) refl e;
      minute = stands text m 14 _ (omega arith) refl e;
      second = stands text m 17 _ (omega arith) refl e;
    }

-- a moment from its parts
pub from_parts : (m : ℕ) → m ≡ day_number (date_at m) * 86_400 + m % 86_400 / 3600 * 3600 + m % 86_400 / 60 % 60 *
    60 + m % 86_400 % 60
from_parts m = omega (arith, (civil_is (m / 86_400)).number)

pub text_length : (text : List ℕ) (m : ℕ) → text ≡ moment_text m → length text ≡ 20
unfolding moment_text
text_length text m e = ap length e

pub some_same : (a b : ℕ) → Some a ≡ Some b → a ≡ b
some_same a b e = cc

-- the moment of a second that is one
pub some_is : (o : Option ℕ) (m n : ℕ) → IsMoment m → n ≡ m → (IsSome o ↔ IsMoment n) → IfSome o (λ k. k ≡ n)
    → o ≡ Some m
some_is None m n is e in_range value = absurd (cc (in_range.1 (omega (arith, is, e))))
some_is (Some k) m n is e in_range value = ap (λ (k : ℕ). Some k) (value ∙ e)

-- the digits are read as this value, or are not of a number
abbrev pub Reads : List ℕ → Option ℕ → Type 0
Reads digits value = (n : ℕ) → n < 100 → digits ≡ two_digits n → value ≡ Some n

pub unread : {digits : List ℕ} {n : ℕ} → IsOf digits n → Reads digits None → ⊥
unread {digits} {n} of none = let e = none n of.small of.same in cc

read_as : {digits : List ℕ} {n value : ℕ} → IsOf digits n → Reads digits (Some value) → value ≡ n
read_as {digits} {n} {value} of reads = some_same value n (reads n of.small of.same)

-- the numbers that are read where a moment's text has its date are the date's
pub record IsDateRead (hundreds ones of_month of_day m : ℕ) : Type 0 where
  pub year : hundreds * 100 + ones ≡ (date_at m).year
  pub month : of_month ≡ (date_at m).month
  pub day : of_day ≡ (date_at m).day

pub date_read : {century year month day : ℕ} (text : List ℕ) (m : ℕ) → IsMoment m → text ≡ moment_text m
    → Reads (take 2 (drop 0 text)) (Some century) → Reads (take 2 (drop 2 text)) (Some year)
    → Reads (take 2 (drop 5 text)) (Some month) → Reads (take 2 (drop 8 text)) (Some day)
    → IsDateRead century year month day m
date_read {century} {year} {month} {day} text m is e of_century of_year of_month of_day =
    let at = format_date_and_time text m is e in
    let high = read_as at.century of_century in
    let low = read_as at.year of_year in
    record { year = omega (arith, high, low); month = read_as at.month of_month; day = read_as at.day of_day }

-- and so for the time of day
pub time_read : {hour minute second : ℕ} (text : List ℕ) (m : ℕ) → IsMoment m → text ≡ moment_text m
    → Reads (take 2 (drop 11 text)) (Some hour) → Reads (take 2 (drop 14 text)) (Some minute)
    → Reads (take 2 (drop 17 text)) (Some second)
    → m ≡ day_number (date_at m) * 86_400 + hour * 3600 + minute * 60 + second
time_read {hour} {minute} {second} text m is e of_hour of_minute of_second =
    let at = format_date_and_time text m is e in
    omega (arith, from_parts m, read_as at.hour of_hour, read_as at.minute of_minute, read_as at.second of_second)

-- two digits are of one number below 100
pub one_number : (a b : ℕ) → a < 100 → b < 100 → two_digits a ≡ two_digits b → a ≡ b
one_number a b a_in b_in e =
    let tens : 48 + a / 10 % 10 ≡ 48 + b / 10 % 10 = ap (λ (s : List ℕ). get_or s 0 0) e in
    let ones : 48 + a % 10 ≡ 48 + b % 10 = ap (λ (s : List ℕ). get_or s 1 0) e in
    omega arith

reads_same : {digits : List ℕ} {a : ℕ} → IsOf digits a → Reads digits (Some a)
reads_same {digits} {a} of b small other =
    ap (λ (k : ℕ). Some k) (one_number a b of.small small (sym of.same ∙ other))

-- the text of a moment reads as the moment's own parts
pub one_moment : (m n : ℕ) → IsMoment m → IsMoment n → moment_text m ≡ moment_text n → m ≡ n
one_moment m n of_m of_n e =
    let at = format_date_and_time (moment_text m) m of_m refl in
    let date = date_read (moment_text m) n of_n e
    (reads_same at.century) (reads_same at.year) (reads_same at.month) (reads_same at.day) in
    let time = time_read (moment_text m) n of_n e
    (reads_same at.hour) (reads_same at.minute) (reads_same at.second) in
    let year : (date_at m).year ≡ (date_at n).year = omega (arith, date.year) in
    let number = ap (λ (k : ℕ). day_number (record { year = k; month = (date_at m).month; day = (date_at m).day })) year
    ∙ ap (λ (k : ℕ). day_number (record { year = (date_at n).year; month = k; day = (date_at m).day })) date.month
    ∙ ap (λ (k : ℕ). day_number (record { year = (date_at n).year; month = (date_at n).month; day = k })) date.day in
    let same : day_number (date_at m) ≡ day_number (date_at n) = number in
    omega (arith, from_parts m, time, same)
