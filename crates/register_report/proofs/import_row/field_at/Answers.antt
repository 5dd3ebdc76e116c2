use Rattle.std.proofs.Common.{sym}
use Rattle.csv.specs.Records.{fields_of}
use Rattle.register_report.proofs.RowLemmas.{has_field_at}
use Rattle.register_report.proofs.import_row.field_at.Goals as goal

pub unreachable-requires : goal.unreachable-requires
unreachable-requires c =
    has_field_at (fields_of c.args.row.now) c.args.place c.requires (sym c.in_default.ensures.value)
