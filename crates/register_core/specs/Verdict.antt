-- What a request comes to after a history: it is accepted, it repeats one that was, or it is refused.
use Rattle.std.specs.Prelude.{ℕ, nat_lt, nat_le, Bool, true, false, not, ◌&&◌, ◌||◌, List, [], ◌∷◌, codes, Option}
use Rattle.std.specs.Prelude.{filter, None, Some, is_some, Result, Ok, Err, if◌then◌else◌}
use Rattle.std.specs.{Option.option_and_then, Option.option_map, Str.bytes_eq}
use Rattle.lifecycle_core.specs.{declared.state.State.State, declared.state.State.TheVariants.PreActive, State.state_at}
use Rattle.lifecycle_core.specs.{State.is_reached_at}
use Rattle.register_requests.specs.declared.request.Command.TheVariants.{Register, SetDates, Revoke}
use Rattle.register_requests.specs.declared.command_rule.Giver.TheVariants.{Owner, Custodian, Office}
use Rattle.register_requests.specs.{declared.request.Request.Request, declared.request.Command.Command}
use Rattle.register_requests.specs.{declared.request.Edit.Edit, declared.request.Edit.TheVariants.Keep, Name.is_among}
use Rattle.register_requests.specs.{Request.command_text, CommandRule.is_one_of, CommandRule.rule}
use Rattle.register_requests.specs.{declared.command_rule.Giver.Giver, declared.version.Version.Version}
use Rattle.register_requests.specs.{Version.current, Version.knows, Subject.named_by, Subject.subject}
use Rattle.register_core.specs.declared.answer.Answer.TheVariants.{Accepted, Repeated, Refused}
use Rattle.register_core.specs.declared.reply.Refusal.TheVariants.{BadLine, RequestReused, MomentBehind, UnknownKey}
use Rattle.register_core.specs.declared.reply.Refusal.TheVariants.{NotOwner, NotCustodian, WrongState, DateFrozen}
use Rattle.register_core.specs.declared.reply.Refusal.TheVariants.{DateOrder, PeriodTooLong, DateRange, OccurrenceLater}
use Rattle.register_core.specs.declared.reply.Refusal.TheVariants.{Full, NotOffice}
use Rattle.register_core.specs.History.{latest, count, period}
use Rattle.register_core.specs.KeptReply.{reply, is_under, kept}
use Rattle.register_core.specs.Effect.{asked_dates, dates_before, fitting, fitting_refusals, type_of}
use Rattle.register_core.specs.{declared.answer.Answer.Answer, declared.view.Held.Held, declared.view.View.View}
use Rattle.register_core.specs.{declared.kept_reply.KeptReply.KeptReply, declared.reply.Reply.Reply}
use Rattle.register_core.specs.{declared.reply.Refusal.Refusal, Custody.held, CustodyRefusal.custody_refusal_in}
use Rattle.period_core.specs.{declared.date_fitting.DateRefusal.DateRefusal, Fitting.first_that_holds}
use Rattle.period_core.specs.{declared.key_type.KeyType.KeyType, Period.Period, Period.period_or_default}
use Rattle.period_core.specs.declared.date_fitting.DateRefusal.TheVariants as dates

-- ---- the refusals, each where its condition holds

-- the moment is below the latest
abbrev pub moment_refusal : ℕ → ℕ → Option Refusal
moment_refusal last t = if nat_lt t last then Some (MomentBehind last) else None

-- the refusal of a request whose dates are refused for this
abbrev pub refusal_of_dates : DateRefusal → Refusal
refusal_of_dates dates.DateOrder = DateOrder
refusal_of_dates (dates.PeriodTooLong limit) = PeriodTooLong limit
refusal_of_dates dates.DateRange = DateRange

-- the dates that the command asks for at t do not fit the period of the key's type
abbrev pub dates_refusal : (KeyType → Period) → Option Held → ℕ → Command → Option Refusal
dates_refusal periods key t c =
    option_and_then (λ kind.
    option_map refusal_of_dates
    (first_that_holds (fitting_refusals (periods kind) (fitting c) (asked_dates (dates_before key) t c))))
    (type_of key (subject c))

-- the command names a key that is not there
abbrev pub key_refusal : Option Held → Command → Option Refusal
key_refusal None c = if is_some (named_by (subject c)) then Some UnknownKey else None
key_refusal (Some held) c = None

-- the caller is another than the one who may give the command (of a key that is not there key_refusal speaks)
abbrev pub giver_refusal : Giver → Option Held → List ℕ → Option Refusal
giver_refusal Office key caller = if bytes_eq caller (codes "office") then None else Some NotOffice
giver_refusal Owner (Some held) caller = if bytes_eq caller held.owner then None else Some NotOwner
giver_refusal Custodian (Some held) caller = if is_among caller held.custodians then None else Some NotCustodian
giver_refusal _ key caller = None

-- the state that the key has at t is none of those that the command is for
abbrev pub state_refusal : List State → Option Held → ℕ → Option Refusal
state_refusal states None t = None
state_refusal states (Some held) t =
    let state = state_at held.row.dates t in if is_one_of states state then None else Some (WrongState state)

-- an edit keeps a date only where it is =
abbrev pub keeps_date : Edit → Bool
keeps_date Keep = true
keeps_date _ = false

-- an Activation Date that is not kept outside Pre-Active, or a Protect Stop at most t that is not kept
abbrev pub freeze_refusal : Option Held → ℕ → Command → Option Refusal
freeze_refusal (Some held) t (SetDates key activation protect_stop deactivation) =
    let d = held.row.dates in
    if (not (keeps_date activation) && not (is_one_of (PreActive ∷ []) (state_at d t)))
    || (not (keeps_date protect_stop) && is_reached_at d.protect_stop t)
    then Some DateFrozen else None
freeze_refusal _ t _ = None

-- the occurrence of a compromise is after t
abbrev pub occurrence_refusal : ℕ → Command → Option Refusal
occurrence_refusal t (Revoke key reason (Some occurrence)) = if nat_lt t occurrence then Some OccurrenceLater else None
occurrence_refusal t _ = None

-- The most keys that a register takes, destroyed keys counted too. Own.
abbrev pub max_keys : ℕ
max_keys = 1_000_000

-- the command makes a key, and there are as many as the register takes
abbrev pub limit_refusal : ℕ → Command → Option Refusal
limit_refusal keys (Register new) = if nat_le max_keys keys then Some Full else None
limit_refusal keys _ = None

-- Why a request is refused for its moment, its key, its caller or the key's state, in order; the key is the one that it
-- names, as it stands.
abbrev pub entry_refusals : ℕ → Option Held → Request → List (Option Refusal)
entry_refusals last key q =
    moment_refusal last q.moment
    ∷ key_refusal key q.command
    ∷ giver_refusal (rule q.command).giver key q.caller
    ∷ state_refusal (rule q.command).states key q.moment
    ∷ []

-- All refusals of a request in order, each where its condition holds: by the latest moment, the number of keys, the
-- periods of the types, and the key that it names, as it stands.
abbrev pub refusals : Version → ℕ → ℕ → (KeyType → Period) → Option Held → Request → List (Option Refusal)
refusals version last keys periods key q =
    first_that_holds (entry_refusals last key q)
    ∷ freeze_refusal key q.moment q.command
    ∷ dates_refusal periods key q.moment q.command
    ∷ custody_refusal_in version key q.caller q.command
    ∷ occurrence_refusal q.moment q.command
    ∷ limit_refusal keys q.command
    ∷ []

-- The refusal of a request in a version where the latest moment, the number of keys, the periods of the types and the
-- key that it names are these, or none: it is accepted.
abbrev pub judge_in : Version → ℕ → ℕ → (KeyType → Period) → Option Held → Request → Option Refusal
judge_in version last keys periods key q = first_that_holds (refusals version last keys periods key q)

-- the refusal of a request in this program's version by what the decision rests on, or none
abbrev pub judge : ℕ → ℕ → (KeyType → Period) → Option Held → Request → Option Refusal
judge = judge_in current

-- the key that the command names, as it stands
abbrev pub named_key : List Request → Command → Option Held
named_key h c = option_and_then (held h) (named_by (subject c))

-- the judgement of a request after a history: the first refusal that holds, or none
abbrev pub judgement_in : Version → List Request → Request → Option Refusal
judgement_in version h q =
    first_that_holds (refusals version (latest h) (count h) (period h) (named_key h q.command) q)

-- the refusal of a request after a history in this program's version, or none: it is accepted
abbrev pub judgement : List Request → Request → Option Refusal
judgement = judgement_in current

-- the refusal of a request where this is what the decision rests on
abbrev pub judge_view : View → Request → Option Refusal
judge_view view q = judge view.latest view.keys (period_or_default view.period) view.key q

-- ---- verdicts

-- what a request comes to after a history
pub data Verdict : Type 0 where
  Accepts : Verdict
  Repeats : Reply → Verdict
  Refuses : Refusal → Verdict

-- what a judgement comes to
abbrev pub verdict_by : Option Refusal → Verdict
verdict_by None = Accepts
verdict_by (Some refusal) = Refuses refusal

-- the commands are equal: each has one text
abbrev pub is_same_command : Command → Command → Bool
is_same_command c d = bytes_eq (command_text c) (command_text d)

-- the repeat check, which comes before the judgement: what is kept under the request's caller and number decides
abbrev pub unless_kept : List KeptReply → Command → Verdict → Verdict
unless_kept [] c judged = judged
unless_kept (before ∷ more) c judged =
    if bytes_eq (command_text before.command) (command_text c) then Repeats before.reply else Refuses RequestReused

-- what a command comes to whose caller and number are those of a request that was accepted
abbrev pub repeated : KeptReply → Command → Verdict
repeated before c = unless_kept (before ∷ []) c Accepts

-- What a request comes to after a history in a version. A command that the version does not know is a bad line. A
-- number that the caller has used repeats its first reply, or is refused for another command. Any other request is
-- judged.
abbrev pub verdict_in : Version → List Request → Request → Verdict
verdict_in version h q =
    if knows version q.command
    then unless_kept (filter (is_under q.caller q.number) (kept h)) q.command (verdict_by (judgement_in version h q))
    else Refuses BadLine

-- what a request comes to after a history in this program's version
abbrev pub verdict : List Request → Request → Verdict
verdict = verdict_in current

-- the verdict accepts the request
abbrev pub is_accepted : Verdict → Bool
is_accepted Accepts = true
is_accepted (Repeats first) = false
is_accepted (Refuses refusal) = false

-- the reply or the refusal, where this is the reply if it is accepted
abbrev pub told : Verdict → Reply → Result Reply Refusal
told Accepts new = Ok new
told (Repeats first) new = Ok first
told (Refuses refusal) new = Err refusal

-- what a request is answered, where this is the reply if it is accepted
abbrev pub answer_by : Verdict → Reply → Answer
answer_by Accepts new = Accepted new
answer_by (Repeats first) new = Repeated first
answer_by (Refuses refusal) new = Refused refusal

-- what a request is answered after a history in a version
abbrev pub answer_in : Version → List Request → Request → Answer
answer_in version h q = answer_by (verdict_in version h q) (reply h q)

-- what a request is answered after a history in this program's version
abbrev pub answer : List Request → Request → Answer
answer = answer_in current
