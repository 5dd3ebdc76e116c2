use Rattle.std.proofs.Common.{None}
use Rattle.register_requests.specs.CommandKind.{command_kind_text}
use Rattle.register_requests.proofs.{FieldTexts.any_stands, Lines.no_kind, Lines.no_fields_of, Lines.command_made}
use Rattle.register_requests.proofs.request_reading.read_command.Goals as goal

pub returns-in_err-kind : goal.returns-in_err-kind
returns-in_err-kind c =
    rw c.from_residual.ensures (no_kind c.args.bytes.now _ _ c.split_command_word.ensures.word
    c.split_command_word.ensures.whole (any_stands command_kind_text _ None c.in_err-kind.ensures.found
    c.in_err-kind.ensures.none))

pub returns-in-None : goal.returns-in-None
returns-in-None c =
    let none = rw (c.in-None.is, c.shape.ensures) at c.fields_after_word.ensures in
    no_fields_of c.args.bytes.now _ _ c.split_command_word.ensures.word c.split_command_word.ensures.whole
    c.in_ok-kind.kind c.in_ok-kind.ensures.found none

pub returns-in-Some : goal.returns-in-Some
returns-in-Some c =
    let is = rw (c.in-Some.is, c.shape.ensures) at c.fields_after_word.ensures in
    command_made c.args.bytes.now _ _ c.split_command_word.ensures.word c.split_command_word.ensures.whole
    c.in_ok-kind.kind c.in_ok-kind.ensures.found c.in-Some.fields is c.with_fields.result c.with_fields.ensures
