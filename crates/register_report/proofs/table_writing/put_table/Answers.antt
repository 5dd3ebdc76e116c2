use Rattle.std.proofs.Common.{◌≡◌, ◌≢◌, sym, ◌∙◌}
use Rattle.register_desk.specs.declared.end.End.{End}
use Rattle.register_desk.specs.declared.end.End.TheVariants.{Memory, WriteFault}
use Rattle.register_report.specs.Within.KeyTable.{foot_text, head_text}
use Rattle.register_report.proofs.TextLemmas.{text_same, value_so}
use Rattle.register_report.proofs.TableWritten.{no_foot, no_head, part_of_head, part_of_rows, table_passed_on}
use Rattle.register_report.proofs.TableWritten.{with_foot}
use Rattle.register_report.proofs.table_writing.put_table.Goals as goal

-- want of memory is no fault of a writer
no_writer : (e : End) → e ≡ Memory → e ≢ WriteFault
no_writer e is other = let both = sym is ∙ other in cc

pub returns-in_err-head-clause-table : goal.returns-in_err-head-clause-table
returns-in_err-head-clause-table g c =
    let e = c.in_err-head.field-0.0 in
    table_passed_on c.from_residual.result c.from_residual.ensures.1
    (no_head g.W.Write.contents c.args.table.now c.args.writer.now c.args.written.now
    c.args.rows.now e (no_writer e c.in_err-head.ensures.end))

pub returns-in_err-put_text-clause-table : goal.returns-in_err-put_text-clause-table
returns-in_err-put_text-clause-table g c =
    let head = text_same (c.deref.ensures.value ∙ value_so c.in_ok-head.ensures.text
    (λ text. text.items ≡ head_text c.args.table.now) c.head_text.ensures) c.in_err-put_text.ensures.puts in
    table_passed_on c.from_residual-in_err-put_text.result c.from_residual-in_err-put_text.ensures.1
    (part_of_head c.args.table.now c.args.rows.now head)

pub returns-in_err-count-clause-table : goal.returns-in_err-count-clause-table
returns-in_err-count-clause-table g c =
    let head = text_same (c.deref.ensures.value ∙ value_so c.in_ok-head.ensures.text
    (λ text. text.items ≡ head_text c.args.table.now) c.head_text.ensures) c.in_ok-put_text.ensures.puts in
    table_passed_on c.from_residual-in_err-count.result c.from_residual-in_err-count.ensures.1
    (part_of_rows c.args.table.now c.args.rows.now head c.in_err-count.ensures.rows)

pub returns-in_err-foot-clause-table : goal.returns-in_err-foot-clause-table
returns-in_err-foot-clause-table g c =
    let e = c.in_err-foot.field-0.0 in
    let head = text_same (c.deref.ensures.value ∙ value_so c.in_ok-head.ensures.text
    (λ text. text.items ≡ head_text c.args.table.now) c.head_text.ensures) c.in_ok-put_text.ensures.puts in
    table_passed_on c.from_residual-in_err-foot.result c.from_residual-in_err-foot.ensures.1
    (no_foot c.args.table.now c.args.rows.now head c.in_ok-count.ensures.rows e
    (no_writer e c.in_err-foot.ensures.end))

pub returns-clause-table : goal.returns-clause-table
returns-clause-table g c =
    let table = c.args.table.now in
    let head = text_same (c.deref.ensures.value ∙ value_so c.in_ok-head.ensures.text
    (λ text. text.items ≡ head_text table) c.head_text.ensures) c.in_ok-put_text.ensures.puts in
    let formed_foot = value_so c.in_ok-foot.ensures.text
    (λ text. text.items ≡ foot_text table c.in_ok-count.count) c.foot_text.ensures in
    let foot = text_same (c.deref-2.ensures.value ∙ formed_foot) c.put_text-2.ensures.puts in
    with_foot table c.args.rows.now head c.in_ok-count.ensures.rows foot
