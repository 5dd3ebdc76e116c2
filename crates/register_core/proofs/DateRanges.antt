-- Every date of a key is a moment.
use Rattle.std.proofs.Common.{ℕ, Bool, true, false, cond, List, [], ◌∷◌, ◌++◌, Option, sym, subst, arith}
use Rattle.std.proofs.lemmas.List.Sums.{fold-append}
use Rattle.std.specs.{Prelude.fold, List.AllByRecursion}
use Rattle.lifecycle_core.specs.declared.dates.Dates.{Dates}
use Rattle.moment_core.specs.{Calendar.months_after, Moment.IsMoment}
use Rattle.period_core.specs.Fitting.{dates_with_defaults, months_on_date, defaulted_dates_cut_to_limits}
use Rattle.period_core.specs.Fitting.{with_default_deactivation, with_default_protect_stop}
use Rattle.period_core.specs.Period.{Period}
use Rattle.register_requests.specs.declared.request.Command.TheVariants.{Register as Registers, Activate, SetDates}
use Rattle.register_requests.specs.declared.request.Command.TheVariants.{Revoke, Destroy}
use Rattle.register_requests.specs.Request.{IsCommand, IsDate, IsEdit, IsRequest}
use Rattle.register_requests.specs.{declared.request.Command.Command, declared.request.Edit.Edit}
use Rattle.register_requests.specs.{declared.request.Request.Request, Subject.is_key, Within.Subject.key_concerned}
use Rattle.register_core.specs.Effect.{dates_after, date_after_edit, unset_dates}
use Rattle.register_core.specs.History.{Placed, count, dates, own_from, period, type}
use Rattle.register_core.specs.{Dates.AreDates, Fold.IsLawful}
use Rattle.register_core.proofs.Histories.{concerning, placed}

-- ---- what dates are made of

months_in : (m n : ℕ) → IsDate (months_after m n)
unfolding months_after
months_in m n = grind arith

limit_in : (date : Option ℕ) (months : ℕ) → IsDate (months_on_date date months)
limit_in date months = grind (arith, months_in)

edited_in : (edit : Edit) (date : Option ℕ) → IsEdit edit → IsDate date → IsDate (date_after_edit edit date)
edited_in edit date e a = grind arith

-- ---- dates

with_stop : (p : Period) (d : Dates) → AreDates d → AreDates (with_default_protect_stop p d)
with_stop p d are = grind (arith, limit_in)

with_end : (p : Period) (d : Dates) → AreDates d → AreDates (with_default_deactivation p d)
with_end p d are = grind (arith, limit_in)

filled_in : (p : Period) (d : Dates) → AreDates d → AreDates (dates_with_defaults p d)
filled_in p d are = with_end p (with_default_protect_stop p d) (with_stop p d are)

trimmed_in : (p : Period) (d : Dates) → AreDates d → AreDates (defaulted_dates_cut_to_limits p d)
trimmed_in p d are = grind (arith, limit_in)

after : (p : Period) (d : Dates) (t : ℕ) (c : Command) → IsMoment t → IsCommand c → AreDates d
    → AreDates (dates_after p d t c)
after p d t (Registers new) m is are = search (filled_in)
after p d t (Activate key) m is are = search (trimmed_in)
after p d t (SetDates key activation protect_stop deactivation) m is are = search (filled_in, edited_in)
after p d t (Revoke key reason occurrence) m is are = grind arith
after p d t (Destroy key) m is are = grind arith
after p d t c m is are = are

-- ---- histories

module _ (periods : Placed → Period) where
  abbrev step : Dates → Placed → Dates
  step d p = dates_after (periods p) d p.request.moment p.request.command

  once : (before : List Request) (q : Request) (k : ℕ) (d : Dates) → IsRequest q → AreDates d
      → AreDates (fold step d (concerning before q k))
  once before q k d is are = by (is_key k (key_concerned (count before) q.command))
    where
      by : (b : Bool) → AreDates (fold step d (cond b (placed before q ∷ []) []))
      by true = after (periods (placed before q)) d q.moment q.command is.moment is.command are
      by false = are

  those_from : (later before : List Request) (k : ℕ) (d : Dates) → AllByRecursion IsRequest later → AreDates d
      → AreDates (fold step d (own_from before later k))
  those_from [] before k d all are = are
  those_from (q ∷ later) before k d all are =
      subst AreDates (sym (fold-append step d (concerning before q k) (own_from (before ++ q ∷ []) later k)))
      (those_from later (before ++ q ∷ []) k _ all.1 (once before q k d all.0 are))

none_set : AreDates unset_dates
none_set = grind arith

-- each date of a key is none, or a moment
pub dates_in_range : (h : List Request) → AllByRecursion IsRequest h → (k : ℕ) → AreDates (dates h k)
dates_in_range h all k = those_from (λ p. period p.before (type h k)) h [] k unset_dates all none_set

-- its Protect Stop Date is
pub stop_in_range : (h : List Request) → IsLawful h → (k : ℕ) → IsDate (dates h k).protect_stop
stop_in_range h lawful k = (dates_in_range h lawful.in_range k).protect_stop
