use Rattle.std.proofs.Common.{◌≢◌}
use Rattle.std.specs.Prelude.{All, IfNone, Option, Some, None}
use Rattle.register_requests.specs.{declared.command_fields.CommandKind.CommandKind, CommandKind.command_kind_text}
use Rattle.register_requests.proofs.FieldTexts.{all_kinds, each_kind}
use Rattle.register_requests.proofs.command_fields.CommandKind.from_text.Goals as goal

none_of : (P : CommandKind → Type 0) (o : Option CommandKind) → IfNone o (All P all_kinds)
    → IfNone o ((k : CommandKind) → P k)
none_of P None all = each_kind P all
none_of P (Some k) all = tt

pub returns-clause-none : goal.returns-clause-none
returns-clause-none c = none_of (λ k. c.args.bytes.now ≢ command_kind_text k) c.first_with_text.result
    c.first_with_text.ensures.none
