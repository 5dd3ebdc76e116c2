-- What functions within the crate, and readers of fields above it, say of one another.
use Rattle.register_requests.specs.declared.request.Command.TheVariants.{Register, Activate, SetDates, Revoke}
use Rattle.register_requests.specs.declared.request.Command.TheVariants.{AddCustodian, Advance, SetQuorum, SetPeriod}
use Rattle.register_requests.specs.declared.command_fields.Fields.{Fields}
use Rattle.register_requests.specs.declared.command_fields.Fields.TheVariants.{Nothing, Key, KeyAndName}
use Rattle.register_requests.specs.declared.command_fields.Fields.TheVariants.{KeyAndNeed, TypeAndPeriod, Registration}
use Rattle.register_requests.specs.declared.command_fields.Fields.TheVariants.{DateEdits, Revocation}
use Rattle.register_requests.specs.{declared.request.Command.Command, Request.IsCommand}

-- a command with these fields: what is said of their text and their ranges is said of it
abbrev pub command_of : Fields → Command
command_of Nothing = Advance
command_of (Key key) = Activate key
command_of (KeyAndName key name) = AddCustodian key name
command_of (KeyAndNeed key need) = SetQuorum key need
command_of (TypeAndPeriod kind period) = SetPeriod kind period
command_of (Registration new) = Register new
command_of (DateEdits key activation protect_stop deactivation) = SetDates key activation protect_stop deactivation
command_of (Revocation key reason occurrence) = Revoke key reason occurrence

-- the fields are in their ranges
abbrev pub AreFieldsInRange : Fields → Type 0
AreFieldsInRange fields = IsCommand (command_of fields)
