-- The JSON value of each command. Which text is read as that value is `serde_json`'s matter.
use Rattle.std.specs.Prelude.{ℕ, List, [], ◌∷◌, codes, Option, Some, None}
use Rattle.lifecycle_core.specs.Reason.{reason_code}
use Rattle.period_core.specs.KeyType.{key_type_text}
use Rattle.register_requests.specs.CommandKind.{command_kind_text, kind_of}
use Rattle.register_requests.specs.declared.command_fields.Fields.TheVariants.{Nothing, Key, KeyAndName}
use Rattle.register_requests.specs.declared.command_fields.Fields.TheVariants.{KeyAndNeed, TypeAndPeriod, Registration}
use Rattle.register_requests.specs.declared.command_fields.Fields.TheVariants.{DateEdits, Revocation}
use Rattle.register_requests.specs.declared.request.Edit.TheVariants.{Keep, Clear, Set}
use Rattle.register_requests.specs.{declared.command_fields.CommandKind.CommandKind, declared.request.Command.Command}
use Rattle.register_requests.specs.{declared.command_fields.Fields.Fields, Fields.fields_of, declared.request.Edit.Edit}
use Rattle.register_requests.specs.declared.command_fields.CommandKind.TheVariants as kinds
use Rattle.serde_json.specs.Data.{Data, null, number, unsigned, string, object, Members, member, no_members}

-- ---- the values of members

-- a whole number from 0 on
abbrev pub number_data : ℕ → Data
number_data n = number (unsigned n)

-- a date, or null for none
abbrev pub date_data : Option ℕ → Data
date_data None = null
date_data (Some date) = number_data date

-- null for a date that is unset, and the text "keep" for one that stays
abbrev pub edit_data : Edit → Data
edit_data Keep = string (codes "keep")
edit_data Clear = null
edit_data (Set date) = number_data date

-- ---- fields and commands

-- the value of a kind
abbrev pub kind_data : CommandKind → Data
kind_data kind = string (command_kind_text kind)

-- the members of these names and values, one after the other
abbrev pub members_of : List (List ℕ × Data) → Members
members_of [] = no_members
members_of ((name, value) ∷ more) = member name value (members_of more)

-- the member in which a command of the kind has a name beside a key
abbrev pub name_member : CommandKind → List ℕ
name_member kinds.Assign = codes "owner"
name_member kind = codes "name"

-- the members of a command of the first kind with these fields, with this value of its kind among them, in the order of
-- their names' bytes
abbrev pub fields_members : CommandKind → Data → Fields → Members
fields_members of kind Nothing = members_of ((codes "kind", kind) ∷ [])
fields_members of kind (Key key) = members_of ((codes "key", number_data key) ∷ (codes "kind", kind) ∷ [])
fields_members of kind (KeyAndName key name) =
    members_of ((codes "key", number_data key) ∷ (codes "kind", kind) ∷ (name_member of, string name) ∷ [])
fields_members of kind (KeyAndNeed key need) =
    members_of ((codes "key", number_data key) ∷ (codes "kind", kind) ∷ (codes "need", number_data need) ∷ [])
fields_members of kind (TypeAndPeriod type period) =
    members_of ((codes "kind", kind) ∷ (codes "originator", number_data period.originator)
    ∷ (codes "recipient", number_data period.recipient) ∷ (codes "type", string (key_type_text type)) ∷ [])
fields_members of kind (Registration new) =
    members_of ((codes "activation", date_data new.activation) ∷ (codes "deactivation", date_data new.deactivation)
    ∷ (codes "kind", kind) ∷ (codes "owner", string new.owner) ∷ (codes "protect_stop", date_data new.protect_stop)
    ∷ (codes "purpose", string new.purpose) ∷ (codes "type", string (key_type_text new.kind)) ∷ [])
fields_members of kind (DateEdits key activation protect_stop deactivation) =
    members_of ((codes "activation", edit_data activation) ∷ (codes "deactivation", edit_data deactivation)
    ∷ (codes "key", number_data key) ∷ (codes "kind", kind) ∷ (codes "protect_stop", edit_data protect_stop) ∷ [])
fields_members of kind (Revocation key reason occurrence) =
    members_of ((codes "key", number_data key) ∷ (codes "kind", kind) ∷ (codes "occurrence", date_data occurrence)
    ∷ (codes "reason", number_data (reason_code reason)) ∷ [])

-- the JSON value of a command
abbrev pub command_data : Command → Data
command_data c = object (fields_members (kind_of c) (kind_data (kind_of c)) (fields_of c))
