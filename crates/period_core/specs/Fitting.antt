-- Which dates fit a usage period, and what Fill and Trim make of dates. All of it is this register's
-- own.
use Rattle.std.specs.Prelude.{◌≡◌, ◌≤◌, ℕ, nat_lt, nat_le, min, Bool, true, not, ◌&&◌, ◌||◌, List, [], ◌∷◌, Option}
use Rattle.std.specs.Prelude.{None, Some, is_some, is_none, Result, Ok, Err, IsTrue, if◌then◌else◌}
use Rattle.std.specs.Option.{option_and_then}
use Rattle.lifecycle_core.specs.declared.dates.Dates.{Dates}
use Rattle.moment_core.specs.Calendar.{months_after}
use Rattle.period_core.specs.declared.date_fitting.DateRefusal.TheVariants.{DateOrder, PeriodTooLong, DateRange}
use Rattle.period_core.specs.{Period.Period, declared.date_fitting.DateRefusal.DateRefusal}

-- the first date is not after the second, where both are set
abbrev pub is_not_after : Option ℕ → Option ℕ → Bool
is_not_after (Some first) (Some second) = nat_le first second
is_not_after (Some first) None = true
is_not_after None second = true

-- so many months after a date, where the date is set and the sum is a moment
abbrev pub months_on_date : Option ℕ → ℕ → Option ℕ
months_on_date date months = option_and_then (λ moment. months_after moment months) date

-- the last moment of originator use, so many months after Activation
abbrev pub originator_limit : Period → Dates → Option ℕ
originator_limit p d = months_on_date d.activation p.originator

-- the last moment of recipient use, so many months after Protect Stop
abbrev pub recipient_limit : Period → Dates → Option ℕ
recipient_limit p d = months_on_date d.protect_stop p.recipient

-- Activation, Protect Stop and Deactivation are in this order
abbrev pub are_dates_in_order : Dates → Bool
are_dates_in_order d =
    is_not_after d.activation d.protect_stop && is_not_after d.protect_stop d.deactivation
    && is_not_after d.activation d.deactivation

-- dates fit a period: they are in order, and neither use is longer than its months. A limit past the
-- range limits nothing
pub record Fits (p : Period) (d : Dates) : Type 0 where
  pub order : IsTrue (are_dates_in_order d)
  pub originator : IsTrue (is_not_after d.protect_stop (originator_limit p d))
  pub recipient : IsTrue (is_not_after d.deactivation (recipient_limit p d))

-- either use is longer than its months
abbrev pub is_either_use_too_long : Period → Dates → Bool
is_either_use_too_long p d =
    not (is_not_after d.protect_stop (originator_limit p d)) || not (is_not_after d.deactivation (recipient_limit p d))

-- ---- defaults

-- the earlier of two dates; one that has no value counts as later than every moment
abbrev pub earlier_of : Option ℕ → Option ℕ → Option ℕ
earlier_of None second = second
earlier_of (Some first) None = Some first
earlier_of (Some first) (Some second) = Some (min first second)

-- step 1: Protect Stop, where Activation is set and it is not
abbrev pub with_default_protect_stop : Period → Dates → Dates
with_default_protect_stop p d =
    if is_some d.activation && is_none d.protect_stop
    then record d { protect_stop = earlier_of (originator_limit p d) d.deactivation } else d

-- step 2: Deactivation, where Activation is set and it is not
abbrev pub with_default_deactivation : Period → Dates → Dates
with_default_deactivation p d =
    if is_some d.activation && is_none d.deactivation
    then record d { deactivation = recipient_limit p d } else d

-- the date, but no later than the limit
abbrev pub cut_to_limit : Option ℕ → Option ℕ → Option ℕ
cut_to_limit None limit = None
cut_to_limit (Some date) None = Some date
cut_to_limit (Some date) (Some limit) = Some (min date limit)

-- the dates with the defaults of Protect Stop, and then of Deactivation, where these are not set
abbrev pub dates_with_defaults : Period → Dates → Dates
dates_with_defaults p d = with_default_deactivation p (with_default_protect_stop p d)

-- the dates of an activation: each step's date cut to its limit
abbrev pub defaulted_dates_cut_to_limits : Period → Dates → Dates
defaulted_dates_cut_to_limits p d =
    let first = with_default_protect_stop p d in
    let stop = cut_to_limit first.protect_stop (originator_limit p first) in
    let stopped = record first { protect_stop = stop } in
    let second = with_default_deactivation p stopped in
    record second { deactivation = cut_to_limit second.deactivation (recipient_limit p second) }

-- ---- refusals

-- A date after its limit is refused, and the refusal names the limit. A date or a limit that is not set gives no
-- refusal. Own.
abbrev pub too_long_refusal : Option ℕ → Option ℕ → Option DateRefusal
too_long_refusal (Some date) (Some limit) = if nat_lt limit date then Some (PeriodTooLong limit) else None
too_long_refusal (Some date) None = None
too_long_refusal None limit = None

-- dates that are not in order are refused for it
abbrev pub order_refusal : Dates → Option DateRefusal
order_refusal d = if are_dates_in_order d then None else Some DateOrder

-- a default was past the range, and its date is still unset
abbrev pub range_refusal : Dates → Option DateRefusal
range_refusal d =
    if is_some d.activation && (is_none d.protect_stop || is_none d.deactivation)
    then Some DateRange else None

-- of refusals in order, each where its condition holds: the first that does
abbrev pub first_that_holds : {R : Type 0} → List (Option R) → Option R
first_that_holds [] = None
first_that_holds (None ∷ others) = first_that_holds others
first_that_holds (Some refusal ∷ others) = Some refusal

-- why Fill refuses dates, in order: by what they are with their defaults
abbrev pub fill_refusals : Period → Dates → List (Option DateRefusal)
fill_refusals p d =
    let full = dates_with_defaults p d in
    order_refusal full
    ∷ too_long_refusal full.protect_stop (originator_limit p full)
    ∷ too_long_refusal full.deactivation (recipient_limit p full)
    ∷ range_refusal full
    ∷ []

-- why Trim does: no period is too long after it, so for the order and the range alone
abbrev pub trim_refusals : Period → Dates → List (Option DateRefusal)
trim_refusals p d =
    let full = defaulted_dates_cut_to_limits p d in order_refusal full ∷ range_refusal full ∷ []

-- the dates, unless a refusal holds of them
abbrev pub unless_refused : Option DateRefusal → Dates → Result Dates DateRefusal
unless_refused None d = Ok d
unless_refused (Some refusal) d = Err refusal

-- what Fill makes of dates: those with their defaults, or the first refusal that holds
abbrev pub fill_of : Period → Dates → Result Dates DateRefusal
fill_of p d = unless_refused (first_that_holds (fill_refusals p d)) (dates_with_defaults p d)

-- what Trim does: those cut to their limits, or the first refusal that holds
abbrev pub trim_of : Period → Dates → Result Dates DateRefusal
trim_of p d = unless_refused (first_that_holds (trim_refusals p d)) (defaulted_dates_cut_to_limits p d)

-- ---- what they owe

-- a date that was set stays as it was
abbrev pub KeepsDate : Option ℕ → Option ℕ → Type 0
KeepsDate None new = Unit {0}
KeepsDate (Some date) new = new ≡ Some date

-- Protect Stop and Deactivation change in this way alone, and the other dates are as they were
pub record ChangesStops (Changes : Option ℕ → Option ℕ → Type 0) (old new : Dates) : Type 0 where
  pub activation : new.activation ≡ old.activation
  pub protect_stop : Changes old.protect_stop new.protect_stop
  pub deactivation : Changes old.deactivation new.deactivation
  pub initial : new.initial ≡ old.initial
  pub destroy : new.destroy ≡ old.destroy
  pub compromise : new.compromise ≡ old.compromise
  pub compromise_occurrence : new.compromise_occurrence ≡ old.compromise_occurrence

-- what was given is kept
abbrev pub KeepsGiven : Dates → Dates → Type 0
KeepsGiven = ChangesStops KeepsDate

-- a date that was set stays set, and becomes no later
abbrev pub CutsDate : Option ℕ → Option ℕ → Type 0
CutsDate None new = Unit {0}
CutsDate (Some date) None = ⊥
CutsDate (Some date) (Some new) = new ≤ date

-- what was given becomes no later
abbrev pub CutsGiven : Dates → Dates → Type 0
CutsGiven = ChangesStops CutsDate

-- what a call answered and left is this outcome: at a refusal the dates are as they were
abbrev pub Gives : Result Dates DateRefusal → Result (Unit {0}) DateRefusal → Dates → Dates → Type 0
Gives (Ok dates) (Ok done) old new = new ≡ dates
Gives (Ok dates) (Err refusal) old new = ⊥
Gives (Err refusal) (Ok done) old new = ⊥
Gives (Err refusal) (Err given) old new = (given ≡ refusal) × (new ≡ old)
