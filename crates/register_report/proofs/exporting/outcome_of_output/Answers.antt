use Rattle.std.proofs.Common.{rules}
use Rattle.register_report.proofs.exporting.outcome_of_output.Goals as goal

pub returns : goal.returns
returns c = search rules
