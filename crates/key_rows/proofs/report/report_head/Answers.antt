use Rattle.std.proofs.Common.{rules}
use Rattle.key_rows.specs.Report.{report_head}
use Rattle.key_rows.proofs.report.report_head.Goals as goal

pub returns : goal.returns
unfolding report_head
returns c = search rules
