-- The fields of a command, as its reader has them before it makes the command of them and of its kind.
use Rattle.std.specs.Prelude.{Option, None, Some}
use Rattle.register_requests.specs.declared.request.Command.TheVariants.{Register, Activate, SetDates, Revoke, Assign}
use Rattle.register_requests.specs.declared.request.Command.TheVariants.{AddCustodian, RemoveCustodian, Approve}
use Rattle.register_requests.specs.declared.request.Command.TheVariants.{Withdraw, Destroy, Advance, SetQuorum}
use Rattle.register_requests.specs.declared.request.Command.TheVariants.{SetPeriod}
use Rattle.register_requests.specs.declared.command_fields.Fields.TheVariants.{Nothing, Key, KeyAndName}
use Rattle.register_requests.specs.declared.command_fields.Fields.TheVariants.{KeyAndNeed, TypeAndPeriod, Registration}
use Rattle.register_requests.specs.declared.command_fields.Fields.TheVariants.{DateEdits, Revocation}
use Rattle.register_requests.specs.{declared.command_fields.CommandKind.CommandKind, declared.request.Command.Command}
use Rattle.register_requests.specs.{declared.command_fields.Fields.Fields, declared.command_fields.Shape.Shape}
use Rattle.register_requests.specs.declared.command_fields.CommandKind.TheVariants as kinds
use Rattle.register_requests.specs.declared.command_fields.Shape.TheVariants as shapes

-- the fields of a command
abbrev pub fields_of : Command → Fields
fields_of (Register new) = Registration new
fields_of (Activate key) = Key key
fields_of (SetDates key activation protect_stop deactivation) = DateEdits key activation protect_stop deactivation
fields_of (Revoke key reason occurrence) = Revocation key reason occurrence
fields_of (Assign key owner) = KeyAndName key owner
fields_of (AddCustodian key name) = KeyAndName key name
fields_of (RemoveCustodian key name) = KeyAndName key name
fields_of (Approve key) = Key key
fields_of (Withdraw key) = Key key
fields_of (Destroy key) = Key key
fields_of Advance = Nothing
fields_of (SetQuorum key need) = KeyAndNeed key need
fields_of (SetPeriod kind period) = TypeAndPeriod kind period

-- the command of this kind with these fields, if the kind has such fields
abbrev pub command_with : CommandKind → Fields → Option Command
command_with kinds.Register (Registration new) = Some (Register new)
command_with kinds.Activate (Key key) = Some (Activate key)
command_with kinds.SetDates (DateEdits key activation protect_stop deactivation) =
    Some (SetDates key activation protect_stop deactivation)
command_with kinds.Revoke (Revocation key reason occurrence) = Some (Revoke key reason occurrence)
command_with kinds.Assign (KeyAndName key name) = Some (Assign key name)
command_with kinds.AddCustodian (KeyAndName key name) = Some (AddCustodian key name)
command_with kinds.RemoveCustodian (KeyAndName key name) = Some (RemoveCustodian key name)
command_with kinds.Approve (Key key) = Some (Approve key)
command_with kinds.Withdraw (Key key) = Some (Withdraw key)
command_with kinds.Destroy (Key key) = Some (Destroy key)
command_with kinds.Advance Nothing = Some Advance
command_with kinds.SetQuorum (KeyAndNeed key need) = Some (SetQuorum key need)
command_with kinds.SetPeriod (TypeAndPeriod kind period) = Some (SetPeriod kind period)
command_with kind fields = None

-- what the fields are
abbrev pub shape_of : Fields → Shape
shape_of Nothing = shapes.Nothing
shape_of (Key key) = shapes.Key
shape_of (KeyAndName key name) = shapes.KeyAndName
shape_of (KeyAndNeed key need) = shapes.KeyAndNeed
shape_of (TypeAndPeriod kind period) = shapes.TypeAndPeriod
shape_of (Registration new) = shapes.Registration
shape_of (DateEdits key activation protect_stop deactivation) = shapes.DateEdits
shape_of (Revocation key reason occurrence) = shapes.Revocation
