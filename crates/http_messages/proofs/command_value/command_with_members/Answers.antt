use Rattle.std.proofs.Common.{◌≡◌, Option, None, Some, IfSome, IfNone, sym, ap, subst, ◌∙◌}
use Rattle.serde_json.specs.{Data.Members, View.members_view}
use Rattle.register_requests.specs.{declared.command_fields.CommandKind.CommandKind, CommandKind.command_shape}
use Rattle.register_requests.specs.{CommandKind.kind_of, Fields.command_with, Fields.fields_of}
use Rattle.register_requests.specs.{declared.command_fields.Fields.Fields, declared.command_fields.Shape.Shape}
use Rattle.register_requests.specs.{declared.request.Command.Command, Within.Fields.AreFieldsInRange, Request.IsCommand}
use Rattle.register_requests.proofs.Commands.{made, has_shape, some_made, in_range_of, is_command}
use Rattle.http_messages.specs.Within.{HasMembers, IsShaped}
use Rattle.http_messages.proofs.command_value.command_with_members.Goals as goal

-- a command of the kind has these members
abbrev Has : CommandKind → Members → Command → Type 0
Has kind ms c = IsCommand c × (kind_of c ≡ kind) × HasMembers kind ms (fields_of c)

-- and none has
abbrev NoneHas : CommandKind → Members → Type 0
NoneHas kind ms = (c : Command) → IsCommand c → kind_of c ≡ kind → HasMembers kind ms (fields_of c) → ⊥

module _ (kind : CommandKind) (ms : Members) (shape : Shape) (is_shape : shape ≡ command_shape kind) where
  -- the fields that were found are some of the kind's shape
  found_fields : (o : Option Fields) (f : Fields) → o ≡ Some f → IfSome o (IsShaped kind shape ms)
      → IsShaped kind (command_shape kind) ms f
  found_fields o f is found =
      subst (λ (s : Shape). IsShaped kind s ms f) is_shape
      (subst (λ (x : Option Fields). IfSome x (IsShaped kind shape ms)) is found)

  some_command : (f : Fields) (o : Option Command) → o ≡ command_with kind f → IsShaped kind (command_shape kind) ms f
      → IfSome o (Has kind ms)
  some_command f None is has = tt
  some_command f (Some c) is has =
      let of = made f kind c (sym is) in
      let fields = sym of.fields_are in
      (is_command c (subst AreFieldsInRange fields has.0), of.kind_is, subst (HasMembers kind ms) fields has.2)

  always_some : (f : Fields) (o : Option Command) → o ≡ command_with kind f → IsShaped kind (command_shape kind) ms f
      → IfNone o (NoneHas kind ms)
  always_some f None is has = absurd (some_made f kind has.1 (sym is))
  always_some f (Some c) is has = tt

  -- so what is made of them is a command with these members
  made_of : {o : Option Fields} {f : Fields} {x : Option Command} → o ≡ Some f → IfSome o (IsShaped kind shape ms)
      → x ≡ command_with kind f → IfSome x (Has kind ms) × IfNone x (NoneHas kind ms)
  made_of {o} {f} {x} is found made_is =
      let has = found_fields o f is found in (some_command f x made_is has, always_some f x made_is has)

  no_command : (o : Option Fields) → o ≡ None → IfNone o ((f : Fields) → IsShaped kind shape ms f → ⊥) → NoneHas kind ms
  no_command None is none c in_range same has =
      none (fields_of c) (in_range_of c in_range, has_shape c ∙ ap command_shape same ∙ sym is_shape, has)
  no_command (Some f) is none c in_range same has = absurd cc

pub returns-in-Some-clause-found : goal.returns-in-Some-clause-found
returns-in-Some-clause-found c =
    (made_of c.args.kind (members_view c.args.members.now.entries) _ c.shape.ensures c.in-Some.is
    c.fields_of_shape.ensures.found c.with_fields.ensures).0

pub returns-in-Some-clause-none : goal.returns-in-Some-clause-none
returns-in-Some-clause-none c =
    (made_of c.args.kind (members_view c.args.members.now.entries) _ c.shape.ensures c.in-Some.is
    c.fields_of_shape.ensures.found c.with_fields.ensures).1

pub returns-in-None-clause-none : goal.returns-in-None-clause-none
returns-in-None-clause-none c =
    no_command c.args.kind (members_view c.args.members.now.entries) c.shape.result c.shape.ensures
    c.fields_of_shape.result c.in-None.is c.fields_of_shape.ensures.none
