use Rattle.std.proofs.Common.{refl, ap}
use Rattle.streams.specs.declared.watched.Watched.{Watched}
use Rattle.key_rows.specs.Export.{export_text}
use Rattle.register_desk.specs.{declared.outcome.Outcome.Outcome, KeyRows.all_rows}
use Rattle.register_report.proofs.WholeTable.{agrees}
use Rattle.register_report.proofs.exporting.export.Goals as goal

pub returns-clause-agrees : goal.returns-clause-agrees
returns-clause-agrees g c h stands clean =
    let inner = ap (λ (w : Watched _). w.inner) c.reset_turn_counts.ensures in
    let end = ap (λ (o : Outcome). o.end) c.outcome_of_output.ensures in
    agrees c.put_export-done.ensures.puts inner end (export_text (all_rows h)) stands clean refl
