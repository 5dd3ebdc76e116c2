use Rattle.std.proofs.Common.{sym, subst}
use Rattle.httparse.specs.declared.spans.HeaderSpan.{HeaderSpan}
use Rattle.http_messages.specs.HeaderFields.{AreGathered}
use Rattle.http_messages.proofs.Lines.{lines_more}
use Rattle.http_messages.proofs.header_fields.HeaderFields.gather_lines.Goals as goal

pub loop-line-preserved : goal.loop-line-preserved
loop-line-preserved c =
    let d : HeaderSpan = record { name = record { start = 0; end = 0 }; value = record { start = 0; end = 0 } } in
    subst (λ lines. AreGathered lines c.with_line-fields.result)
    (sym (lines_more c.args.prefix.now c.args.headers.now c.loop-line.line-index d c.loop-line-test.true))
    (c.with_line-fields.ensures _ c.loop-line.invariant)
