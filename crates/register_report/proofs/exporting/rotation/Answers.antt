use Rattle.std.proofs.Common.{refl, ap}
use Rattle.streams.specs.declared.watched.Watched.{Watched}
use Rattle.key_rows.specs.Report.{horizon, report_text}
use Rattle.register_core.specs.History.{latest}
use Rattle.register_desk.specs.declared.outcome.Outcome.{Outcome}
use Rattle.register_report.proofs.WholeTable.{agrees}
use Rattle.register_report.proofs.exporting.rotation.Goals as goal

pub returns-clause-agrees : goal.returns-clause-agrees
returns-clause-agrees g c h rows stands clean listed =
    let inner = ap (λ (w : Watched _). w.inner) c.reset_turn_counts.ensures in
    let end = ap (λ (o : Outcome). o.end) c.outcome_of_output.ensures in
    agrees c.put_rotation_report-done.ensures.puts inner end
    (report_text (latest h) (horizon (latest h) c.args.days) rows) stands clean (rows, listed, refl)
