use Rattle.std.proofs.Common.{sym, ◌∙◌}
use Rattle.csv.specs.Records.{fields_of}
use Rattle.register_report.proofs.RowLemmas.{six}
use Rattle.register_report.proofs.import_row.fields_of_row.Goals as goal

pub returns-clause-found : goal.returns-clause-found
returns-clause-found c =
    six (fields_of c.args.row.now) _ _ _ _ _ _ (sym c.len.ensures ∙ c.if-len-ne6.false)
    c.field_at.ensures c.field_at-2.ensures c.field_at-3.ensures c.field_at-4.ensures c.field_at-5.ensures
    c.field_at-6.ensures
