-- The kinds of commands: what the reader of a command knows of it by its word alone.
use Rattle.std.specs.Prelude.{ℕ, List, [], None}
use Rattle.lifecycle_core.specs.declared.reason.Reason.TheVariants.{Unspecified}
use Rattle.period_core.specs.{declared.key_type.KeyType.TheVariants.DataEncryption, Period.of_months}
use Rattle.register_requests.specs.declared.command_fields.CommandKind.{CommandKind}
use Rattle.register_requests.specs.declared.request.Command.TheVariants.{Register, Activate, SetDates, Revoke, Assign}
use Rattle.register_requests.specs.declared.request.Command.TheVariants.{AddCustodian, RemoveCustodian, Approve}
use Rattle.register_requests.specs.declared.request.Command.TheVariants.{Withdraw, Destroy, Advance, SetQuorum}
use Rattle.register_requests.specs.declared.request.Command.TheVariants.{SetPeriod}
use Rattle.register_requests.specs.{declared.command_fields.Shape.Shape, declared.request.Command.Command}
use Rattle.register_requests.specs.{declared.request.Edit.TheVariants.Keep, declared.version.Version.Version}
use Rattle.register_requests.specs.{CommandRule.rule, Fields.fields_of, Fields.shape_of}
use Rattle.register_requests.specs.declared.command_fields.CommandKind.TheVariants as kinds

-- the kind of a command, which is the command without its fields
abbrev pub kind_of : Command → CommandKind
kind_of (Register new) = kinds.Register
kind_of (Activate key) = kinds.Activate
kind_of (SetDates key activation protect_stop deactivation) = kinds.SetDates
kind_of (Revoke key reason occurrence) = kinds.Revoke
kind_of (Assign key owner) = kinds.Assign
kind_of (AddCustodian key name) = kinds.AddCustodian
kind_of (RemoveCustodian key name) = kinds.RemoveCustodian
kind_of (Approve key) = kinds.Approve
kind_of (Withdraw key) = kinds.Withdraw
kind_of (Destroy key) = kinds.Destroy
kind_of Advance = kinds.Advance
kind_of (SetQuorum key need) = kinds.SetQuorum
kind_of (SetPeriod kind period) = kinds.SetPeriod

-- a command of the kind: its fields do not matter
abbrev pub any_of : CommandKind → Command
any_of kinds.Register = Register (record {
  kind = DataEncryption;
  owner = [];
  activation = None;
  protect_stop = None;
  deactivation = None;
  purpose = [];
})
any_of kinds.Activate = Activate 1
any_of kinds.SetDates = SetDates 1 Keep Keep Keep
any_of kinds.Revoke = Revoke 1 Unspecified None
any_of kinds.Assign = Assign 1 []
any_of kinds.AddCustodian = AddCustodian 1 []
any_of kinds.RemoveCustodian = RemoveCustodian 1 []
any_of kinds.Approve = Approve 1
any_of kinds.Withdraw = Withdraw 1
any_of kinds.Destroy = Destroy 1
any_of kinds.Advance = Advance
any_of kinds.SetQuorum = SetQuorum 1 2
any_of kinds.SetPeriod = SetPeriod DataEncryption (of_months 1 0)

-- the word with which the texts of the kind's commands begin
abbrev pub command_kind_text : CommandKind → List ℕ
command_kind_text kind = (rule (any_of kind)).word

-- the first version of the register that knows the kind
abbrev pub first_version : CommandKind → Version
first_version kind = (rule (any_of kind)).since

-- what the fields of the kind's commands are
abbrev pub command_shape : CommandKind → Shape
command_shape kind = shape_of (fields_of (any_of kind))
