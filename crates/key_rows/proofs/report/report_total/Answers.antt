use Rattle.std.proofs.Common.{rules}
use Rattle.key_rows.specs.Report.{report_total}
use Rattle.key_rows.proofs.report.report_total.Goals as goal

pub returns : goal.returns
unfolding report_total
returns c = search rules
