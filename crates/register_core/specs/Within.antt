-- What functions within the crate say of one another: no public contract stands on it.
use Rattle.std.specs.Prelude.{List, ℕ, Option, None, Result, ◌≡◌, IfSome, [], ◌∷◌, ◌++◌, Some, filter, fold, not}
use Rattle.register_core.specs.{declared.kept_reply.KeptReply.KeptReply, declared.fitting.Fitting.Fitting}
use Rattle.register_core.specs.{declared.view.Held.Held, KeyName.KeyName, History.own}
use Rattle.register_core.specs.KeptReply.{kept_with, reply}
use Rattle.register_requests.specs.{declared.request.Request.Request, declared.request.Command.Command}
use Rattle.register_requests.specs.{declared.request.Edit.Edit, Subject.subject}
use Rattle.lifecycle_core.specs.declared.dates.Dates.{Dates}
use Rattle.lifecycle_core.specs.declared.reason.Reason.TheVariants.{KeyCompromise, Unspecified}
use Rattle.period_core.specs.{declared.date_fitting.DateRefusal.DateRefusal, declared.key_type.KeyType.KeyType}
use Rattle.period_core.specs.Fitting.{first_that_holds, unless_refused}
use Rattle.period_core.specs.Period.{Period, period_or_default}
use Rattle.register_requests.specs.declared.request.Command.TheVariants.{SetDates, Revoke}
use Rattle.register_core.specs.Effect.{asked_dates, fitted, fitting_refusals, kind_by, dates_after, dates_before}
use Rattle.register_core.specs.Effect.{type_of, need_after}
use Rattle.register_core.specs.Custody.{added_by, approved_by, is_ended, stays_custodian}

-- ---- beside `specs/Custody.antt`

-- ---- a key as it stands

-- one name, or none, as a list
abbrev pub name_list : Option (List ℕ) → List (List ℕ)
name_list None = []
name_list (Some name) = name ∷ []

-- the custodian that a request adds, where the later ones let it stay
abbrev pub custodian_of : Request → List Request → List (KeyName)
custodian_of q later = filter (stays_custodian later) (added_by q.command)

-- the approval that a request between these gives, where no later one ends it
abbrev pub approval_of : List Request → Request → List Request → List (KeyName)
approval_of before q later =
    filter (λ entry. not (is_ended (before ++ q ∷ []) entry later)) (approved_by q.caller q.command)

-- how many the owner of key k asked for last, if it asked for a number
abbrev pub set_need : List Request → ℕ → Option ℕ
set_need h k = fold (λ before p. need_after before p.request.command) None (own h k)

-- ---- beside `specs/Decision.antt`

-- The dates are those after the command at t of the key that it makes, or that it names and that stands so, by the
-- period that is set for the key's type, if one is.
abbrev pub AreDatesAfter : Option Period → Option Held → ℕ → Command → Dates → Type 0
AreDatesAfter set key t c d =
    IfSome (type_of key (subject c)) (λ kind. d ≡ dates_after (period_or_default set kind) (dates_before key) t c)

-- ---- beside `specs/Effect.antt`

-- the type after a command: a registration gives it, and nothing changes it
abbrev pub kind_after : KeyType → Command → KeyType
kind_after before c = kind_by before (subject c)

-- the dates that edits ask for
abbrev pub edited_dates : Edit → Edit → Edit → Dates → Dates
edited_dates activation protect_stop deactivation d = asked_dates d 0 (SetDates 1 activation protect_stop deactivation)

-- the dates that a revocation at t with a compromise asks for
abbrev pub compromised : ℕ → Option ℕ → Dates → Dates
compromised t occurrence d = asked_dates d t (Revoke 1 KeyCompromise occurrence)

-- the dates that a revocation at t without one asks for
abbrev pub deactivated : ℕ → Dates → Dates
deactivated t d = asked_dates d t (Revoke 1 Unspecified None)

-- the dates, fitted to the period, or why they do not fit it
abbrev pub fitted_or_refusal : Period → Fitting → Dates → Result Dates DateRefusal
fitted_or_refusal p how d = unless_refused (first_that_holds (fitting_refusals p how d)) (fitted p how d)

-- ---- beside `specs/KeptReply.antt`

-- what is kept of a request that is accepted after these
abbrev pub kept_of : List Request → Request → KeptReply
kept_of before q = kept_with q (reply before q)
