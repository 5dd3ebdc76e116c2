-- A command is its kind and its fields.
use Rattle.std.proofs.Common.{◌≡◌, ℕ, List, ◌++◌, Some, None, Option, arith}
use Rattle.register_requests.specs.declared.command_fields.Fields.TheVariants.{Nothing, Key, KeyAndName}
use Rattle.register_requests.specs.declared.command_fields.Fields.TheVariants.{KeyAndNeed, TypeAndPeriod, Registration}
use Rattle.register_requests.specs.declared.command_fields.Fields.TheVariants.{DateEdits, Revocation}
use Rattle.register_requests.specs.CommandKind.{command_kind_text, command_shape, kind_of}
use Rattle.register_requests.specs.Request.{IsCommand, argument_texts, command_text, spaced}
use Rattle.register_requests.specs.Fields.{command_with, fields_of, shape_of}
use Rattle.register_requests.specs.{declared.command_fields.CommandKind.CommandKind, declared.request.Command.Command}
use Rattle.register_requests.specs.{declared.command_fields.Fields.Fields, Within.Fields.command_of}
use Rattle.register_requests.specs.declared.request.Registration.{Registration as Registered}
use Rattle.period_core.specs.declared.key_type.KeyType.{KeyType}
use Rattle.register_requests.specs.declared.command_fields.CommandKind.TheVariants as kinds

-- the registration with these fields
abbrev pub registration_of : KeyType → List ℕ → Option ℕ → Option ℕ → Option ℕ → List ℕ → Registered
registration_of kind owner activation protect_stop deactivation purpose = record {
  kind = kind;
  owner = owner;
  activation = activation;
  protect_stop = protect_stop;
  deactivation = deactivation;
  purpose = purpose;
}

-- two registrations with the same fields are one
pub one_registration : (a b : Registered) → a.kind ≡ b.kind → a.owner ≡ b.owner
    → a.activation ≡ b.activation → a.protect_stop ≡ b.protect_stop → a.deactivation ≡ b.deactivation
    → a.purpose ≡ b.purpose → a ≡ b
one_registration a b kinds owners activations protect_stops deactivations purposes = λ i.
    registration_of (kinds i) (owners i) (activations i) (protect_stops i) (deactivations i) (purposes i)

-- The last row of each has every other command.

-- the fields have the shape of the kind
pub has_shape : (c : Command) → shape_of (fields_of c) ≡ command_shape (kind_of c)
has_shape c = grind arith

pub same_command : (p q : Command) → kind_of p ≡ kind_of q → fields_of p ≡ fields_of q → p ≡ q
same_command p q kinds fields = grind arith

-- its word, and what stands after it
pub text_is : (c : Command) → command_text c
    ≡ command_kind_text (kind_of c) ++ spaced (argument_texts (command_of (fields_of c)))
text_is c = grind arith

-- what is said of its ranges is said of its fields'
pub in_range_of : (c : Command) → IsCommand c → IsCommand (command_of (fields_of c))
in_range_of c is = grind arith

pub is_command : (c : Command) → IsCommand (command_of (fields_of c)) → IsCommand c
is_command c is = grind arith

-- ---- the way back

pub record IsMadeOf (kind : CommandKind) (fields : Fields) (c : Command) : Type 0 where
  pub kind_is : kind_of c ≡ kind
  pub fields_are : fields_of c ≡ fields

-- A row for each shape has one kind, and the last row has every other kind with each shape.
pub made : (fields : Fields) (kind : CommandKind) (c : Command) → command_with kind fields ≡ Some c
    → IsMadeOf kind fields c
made Nothing kinds.Advance c e = record { kind_is = cc; fields_are = cc }
made (Key key) kinds.Activate c e = record { kind_is = cc; fields_are = cc }
made (KeyAndName key name) kinds.AddCustodian c e = record { kind_is = cc; fields_are = cc }
made (KeyAndName key name) kinds.Assign c e = record { kind_is = cc; fields_are = cc }
made (KeyAndNeed key need) kinds.SetQuorum c e = record { kind_is = cc; fields_are = cc }
made (TypeAndPeriod kind period) kinds.SetPeriod c e = record { kind_is = cc; fields_are = cc }
made (Registration new) kinds.Register c e = record { kind_is = cc; fields_are = cc }
made (DateEdits key a p d) kinds.SetDates c e = record { kind_is = cc; fields_are = cc }
made (Revocation key reason occurrence) kinds.Revoke c e = record { kind_is = cc; fields_are = cc }
made fields kind c e = record { kind_is = cc; fields_are = cc }

-- of fields that have the shape of the kind a command is made
pub some_made : (fields : Fields) (kind : CommandKind) → shape_of fields ≡ command_shape kind
    → command_with kind fields ≡ None → ⊥
some_made fields kind same none = grind arith
