use Rattle.std.proofs.Common.{◌≡◌, ◌≢◌, ℕ, Option}
use Rattle.serde_json.specs.Data.{Data, Members}
use Rattle.period_core.specs.{declared.key_type.KeyType.KeyType, Period.Period}
use Rattle.lifecycle_core.specs.declared.reason.Reason.{Reason}
use Rattle.register_requests.specs.declared.command_fields.Fields.TheVariants.{TypeAndPeriod, Registration, DateEdits}
use Rattle.register_requests.specs.declared.command_fields.Fields.TheVariants.{Revocation}
use Rattle.register_requests.specs.declared.request.Registration.{Registration as Registered}
use Rattle.register_requests.specs.{declared.command_fields.Fields.Fields, declared.command_fields.Shape.Shape}
use Rattle.register_requests.specs.{declared.command_fields.CommandKind.CommandKind, declared.request.Edit.Edit}
use Rattle.register_requests.specs.Within.Fields.{AreFieldsInRange}
use Rattle.register_requests.specs.declared.command_fields.Shape.TheVariants as shapes
use Rattle.http_messages.specs.{CommandValue.fields_members, Within.IsShaped}
use Rattle.http_messages.proofs.CommandValues.{none_then}
use Rattle.http_messages.proofs.command_value.fields_of_shape.Goals as goal

-- no fields of the shape have these members
abbrev NoneHas : CommandKind → Shape → Members → Type 0
NoneHas of shape ms = (f : Fields) → IsShaped of shape ms f → ⊥

module _ (of : CommandKind) {shape : Shape} {ms : Members} where
  no_period : shape ≡ shapes.TypeAndPeriod
      → ((t : KeyType) (p : Period) (k : Data) → AreFieldsInRange (TypeAndPeriod t p)
      → ms ≢ fields_members of k (TypeAndPeriod t p)) → NoneHas of shape ms
  no_period is none (TypeAndPeriod t p) has = none t p has.2.0 has.0 has.2.1
  no_period is none f has = absurd (let same = has.1 in cc (is, same))

  no_registration : shape ≡ shapes.Registration
      → ((new : Registered) (k : Data) → AreFieldsInRange (Registration new)
      → ms ≢ fields_members of k (Registration new)) → NoneHas of shape ms
  no_registration is none (Registration new) has = none new has.2.0 has.0 has.2.1
  no_registration is none f has = absurd (let same = has.1 in cc (is, same))

  no_edits : shape ≡ shapes.DateEdits
      → ((key : ℕ) (a p d : Edit) (k : Data) → AreFieldsInRange (DateEdits key a p d)
      → ms ≢ fields_members of k (DateEdits key a p d)) → NoneHas of shape ms
  no_edits is none (DateEdits key a p d) has = none key a p d has.2.0 has.0 has.2.1
  no_edits is none f has = absurd (let same = has.1 in cc (is, same))

  no_revocation : shape ≡ shapes.Revocation
      → ((key : ℕ) (r : Reason) (d : Option ℕ) (k : Data) → AreFieldsInRange (Revocation key r d)
      → ms ≢ fields_members of k (Revocation key r d)) → NoneHas of shape ms
  no_revocation is none (Revocation key r d) has = none key r d has.2.0 has.0 has.2.1
  no_revocation is none f has = absurd (let same = has.1 in cc (is, same))

pub returns-in-TypeAndPeriod-clause-none : goal.returns-in-TypeAndPeriod-clause-none
returns-in-TypeAndPeriod-clause-none c =
    none_then _ _ _ (no_period c.args.kind c.in-TypeAndPeriod.is) c.type_and_period_fields_of.ensures.none

pub returns-in-Registration-clause-none : goal.returns-in-Registration-clause-none
returns-in-Registration-clause-none c =
    none_then _ _ _ (no_registration c.args.kind c.in-Registration.is) c.registration_fields_of.ensures.none

pub returns-in-DateEdits-clause-none : goal.returns-in-DateEdits-clause-none
returns-in-DateEdits-clause-none c = none_then _ _ _ (no_edits c.args.kind c.in-DateEdits.is)
    c.date_edit_fields_of.ensures.none

pub returns-in-Revocation-clause-none : goal.returns-in-Revocation-clause-none
returns-in-Revocation-clause-none c =
    none_then _ _ _ (no_revocation c.args.kind c.in-Revocation.is) c.revocation_fields_of.ensures.none
