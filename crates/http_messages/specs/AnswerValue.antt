-- The JSON values of what is answered, each member in the order of their names' bytes.
use Rattle.std.specs.Prelude.{ℕ, List, [], ◌∷◌, map, codes, Option, Some, None}
use Rattle.lifecycle_core.specs.declared.usage_types.Usage.{Usage}
use Rattle.lifecycle_core.specs.{declared.state.State.State, State.state_text, Usage.process_text}
use Rattle.period_core.specs.KeyType.{key_type_text}
use Rattle.register_core.specs.declared.reply.Refusal.TheVariants.{MomentBehind, WrongState, PeriodTooLong}
use Rattle.register_core.specs.declared.reply.Refusal.TheVariants.{ApprovalsMissing}
use Rattle.register_core.specs.Reply.{refusal_name, refusal_number}
use Rattle.register_core.specs.{declared.reply.Reply.Reply, declared.reply.Refusal.Refusal}
use Rattle.key_rows.specs.declared.record.Record.{Record}
use Rattle.serde_json.specs.Data.{Data, null, boolean, string, array, object}
use Rattle.serde_json.specs.View.{items_of}
use Rattle.http_messages.specs.CommandValue.{number_data, date_data, members_of}

-- a state, or null where there is none
abbrev pub state_data : Option State → Data
state_data None = null
state_data (Some state) = string (state_text state)

-- what an accepted request is answered
abbrev pub reply_data : Reply → Data
reply_data reply =
    object (members_of ((codes "key", number_data reply.key) ∷ (codes "moment", number_data reply.moment)
    ∷ (codes "state", state_data reply.state) ∷ []))

-- the member with the name of a refusal
abbrev pub refusal_name_member : Refusal → List ℕ × Data
refusal_name_member refusal = (codes "name", string (refusal_name refusal))

-- the member with its number
abbrev pub refused_member : Refusal → List ℕ × Data
refused_member refusal = (codes "refused", number_data (refusal_number refusal))

-- why a request is refused
abbrev pub refusal_data : Refusal → Data
refusal_data (MomentBehind latest) =
    let refusal = MomentBehind latest in
    object (members_of
    ((codes "latest", number_data latest) ∷ refusal_name_member refusal ∷ refused_member refusal ∷ []))
refusal_data (WrongState state) =
    let refusal = WrongState state in
    object (members_of (refusal_name_member refusal ∷ refused_member refusal
    ∷ (codes "state", string (state_text state)) ∷ []))
refusal_data (PeriodTooLong limit) =
    let refusal = PeriodTooLong limit in
    object (members_of ((codes "limit", number_data limit) ∷ refusal_name_member refusal ∷ refused_member refusal ∷ []))
refusal_data (ApprovalsMissing have need) =
    let refusal = ApprovalsMissing have need in
    object (members_of ((codes "have", number_data have) ∷ refusal_name_member refusal
    ∷ (codes "need", number_data need) ∷ refused_member refusal ∷ []))
refusal_data refusal = object (members_of (refusal_name_member refusal ∷ refused_member refusal ∷ []))

-- what a key may be used for
abbrev pub usage_data : Usage → Data
usage_data usage =
    object (members_of ((codes "process", string (process_text usage.process))
    ∷ (codes "protect", boolean usage.protect) ∷ []))

-- a list of names
abbrev pub names_data : List (List ℕ) → Data
names_data names = array (items_of (map (λ name. string name) names))

-- a key, how many approvals its destruction needs, its custodians, and the names whose approvals stand
abbrev pub key_data : Record → Data
key_data shown =
    let key = shown.key in
    let dates = key.row.dates in
    object (members_of ((codes "activation", date_data dates.activation)
    ∷ (codes "approvals", names_data shown.approvals)
    ∷ (codes "compromised", date_data dates.compromise)
    ∷ (codes "custodians", names_data shown.custodians)
    ∷ (codes "deactivation", date_data dates.deactivation)
    ∷ (codes "destroyed", date_data dates.destroy)
    ∷ (codes "initial", number_data dates.initial)
    ∷ (codes "need", number_data shown.need)
    ∷ (codes "number", number_data key.number)
    ∷ (codes "occurrence", date_data dates.compromise_occurrence)
    ∷ (codes "owner", string key.owner)
    ∷ (codes "protect_stop", date_data dates.protect_stop)
    ∷ (codes "purpose", string key.purpose)
    ∷ (codes "state", string (state_text key.row.state))
    ∷ (codes "type", string (key_type_text key.kind)) ∷ []))
