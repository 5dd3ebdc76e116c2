-- What a command does to a key: to its type, its owner, its dates and its custody.
use Rattle.std.specs.Prelude.{ℕ, ◌==◌, Bool, true, false, unwrap_or, ◌&&◌, List, [], Option, None, Some, is_none}
use Rattle.std.specs.Prelude.{if◌then◌else◌}
use Rattle.lifecycle_core.specs.{declared.dates.Dates.Dates, declared.row.Row.Row, State.state_at, Reason.is_compromise}
use Rattle.period_core.specs.declared.date_fitting.DateRefusal.{DateRefusal}
use Rattle.period_core.specs.Fitting.{cut_to_limit, dates_with_defaults, defaulted_dates_cut_to_limits, fill_refusals}
use Rattle.period_core.specs.Fitting.{trim_refusals}
use Rattle.period_core.specs.{declared.key_type.KeyType.KeyType, KeyType.key_type_code, Period.Period}
use Rattle.register_requests.specs.declared.request.Command.TheVariants.{Register, Activate, SetDates, Revoke, Assign}
use Rattle.register_requests.specs.declared.request.Command.TheVariants.{AddCustodian, RemoveCustodian, Approve}
use Rattle.register_requests.specs.declared.request.Command.TheVariants.{Withdraw, Destroy, SetQuorum, SetPeriod}
use Rattle.register_requests.specs.declared.request.Registration.{Registration}
use Rattle.register_requests.specs.declared.request.Edit.TheVariants.{Keep, Clear, Set}
use Rattle.register_requests.specs.Subject.{Subject, Makes, Names, NoKey, subject}
use Rattle.register_requests.specs.{declared.request.Command.Command, declared.request.Edit.Edit}
use Rattle.register_core.specs.declared.fitting.Fitting.TheVariants.{Filled, Trimmed, Unfitted}
use Rattle.register_core.specs.declared.change.CustodyChange.{CustodyChange}
use Rattle.register_core.specs.declared.change.CustodyChange.TheVariants.{Kept, CustodianAdded, CustodianRemoved}
use Rattle.register_core.specs.declared.change.CustodyChange.TheVariants.{Approved, Withdrawn, ApprovalsEnded, NeedSet}
use Rattle.register_core.specs.{declared.fitting.Fitting.Fitting, declared.view.Held.Held}

-- the type of a key after a command about it: a registration gives it, and no other command changes it
abbrev pub kind_by : KeyType → Subject → KeyType
kind_by before (Makes registration) = registration.kind
kind_by before (Names key) = before
kind_by before NoKey = before

-- the owner after a command
abbrev pub owner_after : List ℕ → Command → List ℕ
owner_after before (Register new) = new.owner
owner_after before (Assign key owner) = owner
owner_after before _ = before

-- ---- dates

-- no date is set before a key is registered
abbrev pub unset_dates : Dates
unset_dates = record {
  initial = 0;
  activation = None;
  protect_stop = None;
  deactivation = None;
  destroy = None;
  compromise = None;
  compromise_occurrence = None;
}

-- the dates of the key as it stands; where there is none, no date is set
abbrev pub dates_before : Option Held → Dates
dates_before None = unset_dates
dates_before (Some held) = held.row.dates

-- what an edit makes of a date: the same, none, or another
abbrev pub date_after_edit : Edit → Option ℕ → Option ℕ
date_after_edit Keep before = before
date_after_edit Clear before = None
date_after_edit (Set date) before = Some date

-- The dates that a command at the moment t gives a key that has the dates d, before they are fitted to the usage
-- periods of its type. Activate, Revoke and Destroy set them as KMIP 1.2, sections 4.19 to 4.21, says.
abbrev pub asked_dates : Dates → ℕ → Command → Dates
asked_dates d t (Register new) = record unset_dates {
  initial = t;
  activation = new.activation;
  protect_stop = new.protect_stop;
  deactivation = new.deactivation;
}
asked_dates d t (Activate key) = record d { activation = Some t }
asked_dates d t (SetDates key activation protect_stop deactivation) = record d {
  activation = date_after_edit activation d.activation;
  protect_stop = date_after_edit protect_stop d.protect_stop;
  deactivation = date_after_edit deactivation d.deactivation;
}
-- A compromise sets the Compromise Occurrence Date to the one given, or else to the Initial Date. Any other reason sets
-- the Deactivation Date to t and cuts a Protect Stop Date after it to t (own).
asked_dates d t (Revoke key reason occurrence) =
    if is_compromise reason
    then record d { compromise = Some t; compromise_occurrence = Some (unwrap_or occurrence d.initial) }
    else record d { deactivation = Some t; protect_stop = cut_to_limit d.protect_stop (Some t) }
asked_dates d t (Destroy key) = record d { destroy = Some t }
asked_dates d t _ = d

-- the dates that a registration at t asks for
abbrev pub given_dates : ℕ → Registration → Dates
given_dates t new = asked_dates unset_dates t (Register new)

-- how the dates that a command asks for are fitted to the period of the key's type
abbrev pub fitting : Command → Fitting
fitting (Register new) = Filled
fitting (SetDates key activation protect_stop deactivation) = Filled
fitting (Activate key) = Trimmed
fitting _ = Unfitted

-- the dates, fitted to the period
abbrev pub fitted : Period → Fitting → Dates → Dates
fitted p Filled d = dates_with_defaults p d
fitted p Trimmed d = defaulted_dates_cut_to_limits p d
fitted p Unfitted d = d

-- why dates that are fitted so do not fit the period, in order
abbrev pub fitting_refusals : Period → Fitting → Dates → List (Option DateRefusal)
fitting_refusals p Filled d = fill_refusals p d
fitting_refusals p Trimmed d = trim_refusals p d
fitting_refusals p Unfitted d = []

-- the dates of a key after a command at the moment t, where this is the period of its type
abbrev pub dates_after : Period → Dates → ℕ → Command → Dates
dates_after p d t c = fitted p (fitting c) (asked_dates d t c)

-- dates, with the state that they give at t
abbrev pub row_with_dates_at : Dates → ℕ → Row
row_with_dates_at d t = record { dates = d; state = state_at d t }

-- ---- usage periods

-- the period of a type after a command, if the office set one
abbrev pub period_after : KeyType → Option Period → Command → Option Period
period_after kind before (SetPeriod other period) =
    if key_type_code other == key_type_code kind then Some period else before
period_after kind before _ = before

-- the dates are fitted to the period of the key's type
abbrev pub is_fitted : Fitting → Bool
is_fitted Filled = true
is_fitted Trimmed = true
is_fitted Unfitted = false

-- the command gives its key dates, which are fitted to the period of the type
abbrev pub sets_dates : Command → Bool
sets_dates c = is_fitted (fitting c)

-- the type of the key that is made or named, where the one that is named is there
abbrev pub type_of : Option Held → Subject → Option KeyType
type_of key (Makes registration) = Some registration.kind
type_of (Some held) (Names number) = Some held.kind
type_of _ _ = None

-- The type whose period the dates that a command asks for are fitted to. Where they are not, or the key is not there,
-- it is none.
abbrev pub needed_period_type : Option Held → Command → Option KeyType
needed_period_type key c = if sets_dates c then type_of key (subject c) else None

-- ---- custody

-- how many approvals the destruction of a key needs after a command that names it, if its owner asked for a number
abbrev pub need_after : Option ℕ → Command → Option ℕ
need_after before (SetQuorum key need) = Some need
need_after before _ = before

-- the custody of a key with these dates after a caller's command
abbrev pub custody_change : Dates → List ℕ → Command → CustodyChange
custody_change d caller (Revoke key reason occurrence) =
    if is_compromise reason && is_none d.destroy then ApprovalsEnded else Kept
custody_change d caller (AddCustodian key name) = CustodianAdded name
custody_change d caller (RemoveCustodian key name) = CustodianRemoved name
custody_change d caller (Approve key) = Approved caller
custody_change d caller (Withdraw key) = Withdrawn caller
custody_change d caller (SetQuorum key need) = NeedSet need
custody_change d caller _ = Kept
