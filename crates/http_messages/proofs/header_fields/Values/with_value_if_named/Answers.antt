use Rattle.std.proofs.Common.{◌++◌, ◌∷◌, [], sym, ap, subst, ◌∙◌}
use Rattle.httparse.specs.Spans.{header_bytes}
use Rattle.http_messages.specs.HeaderFields.{AreFound, values_of}
use Rattle.http_messages.proofs.Lines.{line_hit, line_missed}
use Rattle.http_messages.proofs.header_fields.Values.with_value_if_named.Goals as goal

pub returns-then-not-is_named : goal.returns-then-not-is_named
returns-then-not-is_named c = λ lines found.
    let line = header_bytes c.args.prefix.now c.args.line.now in
    subst (λ vs. AreFound vs c.args.self)
    (sym (line_missed c.args.name.now lines line (sym c.is_named.ensures ∙ c.if-not-is_named.true))) found

pub returns : goal.returns
returns c = λ lines found.
    let line = header_bytes c.args.prefix.now c.args.line.now in
    let before = values_of c.args.name.now lines in
    subst (λ vs. AreFound vs c.with_one_more.result)
    (ap (λ v. before ++ v ∷ []) c.of.ensures
    ∙ sym (line_hit c.args.name.now lines line (sym c.is_named.ensures ∙ c.if-not-is_named.false)))
    (c.with_one_more.ensures before found)
