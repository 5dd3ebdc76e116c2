-- A key by itself, and what a decision sees over tables, of a key and of the usage periods, whatever history these
-- are of if any; and what it comes to.
use Rattle.std.specs.Prelude.{ℕ, nat_lt, [], length, Option, None, unwrap_or, if◌then◌else◌}
use Rattle.std.specs.{List.cons_option, Option.option_and_then, Option.option_map}
use Rattle.period_core.specs.{declared.key_type.KeyType.KeyType, Period.Period, Period.period_or_default}
use Rattle.register_core.specs.declared.answer.Answer.TheVariants.{Accepted, Repeated, Refused}
use Rattle.register_core.specs.Verdict.{Verdict, judge, unless_kept, verdict_by}
use Rattle.register_core.specs.{declared.answer.Answer.Answer, declared.change.Change.Change, declared.key.Key.Key}
use Rattle.register_core.specs.{declared.kept_reply.KeptReply.KeptReply, declared.reply.Refusal.Refusal}
use Rattle.register_core.specs.{declared.reply.Reply.Reply, declared.view.Held.Held, Decision.change_by_request}
use Rattle.register_core.specs.{Decision.reply_to, KeptReply.kept_with, Settings.need_at, Settings.period_at}
use Rattle.register_requests.specs.declared.request.Request.{Request}
use Rattle.register_requests.specs.CommandRule.{looks_at_custody, looks_at_need}
use Rattle.register_requests.specs.{declared.request.Command.Command, Quorum.min_approvals, Subject.named}
use Rattle.register_rows.specs.AcceptedRequest.{with_request}
use Rattle.register_tables.specs.{TableChanges.key_at, TableReads.loaded, Tables.Tables}

-- how many approvals the destruction of a key needs
abbrev pub need_over : Tables → ℕ → ℕ
need_over t number = unwrap_or (need_at number t.needs) min_approvals

-- The approvals that the destruction of a key needs where the command's decision looks at that, and otherwise the
-- least.
abbrev pub need_for : Tables → Command → ℕ → ℕ
need_for t c number = if looks_at_need c then need_over t number else min_approvals

-- the key, with nobody in its custody
abbrev pub held_without_custody : Key → Held
held_without_custody k = record {
  kind = k.kind;
  owner = k.owner;
  row = k.row;
  need = min_approvals;
  custodians = [];
  approvals = [];
}

-- the key with this number, with nobody in its custody
abbrev pub key_without_custody : Tables → ℕ → Option Held
key_without_custody t number = option_map held_without_custody (key_at t.keys number)

-- the key with this number, with its custody, where its destruction needs so many approvals
abbrev pub key_with_custody : Tables → ℕ → ℕ → Option Held
key_with_custody t number need = option_map (λ key. (loaded number need t key).0) (key_at t.keys number)

-- the key with this number, with its custody where a decision on the command looks at that
abbrev pub key_for : Tables → Command → ℕ → Option Held
key_for t c number =
    if looks_at_custody c
    then key_with_custody t number (need_for t c number)
    else key_without_custody t number

-- The key that the request names, as its decision needs it; none where its moment is below the latest, which refuses
-- the request whatever the key is.
abbrev pub key_needed : Tables → Request → Option Held
key_needed t q =
    if nat_lt q.moment t.counts.latest then None else option_and_then (key_for t q.command) (named q.command)

-- the usage period of a type: the one that is set, or the table's of this register
abbrev pub period_over : Tables → KeyType → Period
period_over t kind = period_or_default (period_at kind t.periods) kind

-- ---- what a request gives

-- the judgement that rests on what these tables count, and hold of the key that the request names
abbrev pub judgement_over : Tables → Request → Option Refusal
judgement_over t q = judge t.counts.latest (length t.keys) (period_over t) (key_needed t q) q

-- the verdict, where this is kept under the request's caller and number, if anything is
abbrev pub verdict_over : Tables → Request → Option KeptReply → Verdict
verdict_over t q found = unless_kept (cons_option found []) q.command (verdict_by (judgement_over t q))

-- The change that the request makes over these tables where it is accepted.
abbrev pub change_over : Tables → Request → Change
change_over t q = change_by_request (period_over t) (key_needed t q) q

-- The reply to the request over these tables where it is accepted.
abbrev pub reply_over : Tables → Request → Reply
reply_over t q = reply_to (length t.keys) q.moment (change_over t q)

-- the tables with its change, and with its row, which has that reply
abbrev pub with_accepted : Tables → Request → Tables
with_accepted t q = with_request (length t.keys) (change_over t q) (kept_with q (reply_over t q)) t

-- the tables after an answer to the request: only an acceptance changes them
abbrev pub tables_after : Tables → Request → Answer → Tables
tables_after t q (Accepted reply) = with_accepted t q
tables_after t q (Repeated first) = t
tables_after t q (Refused refusal) = t
