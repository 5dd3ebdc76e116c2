use Rattle.std.proofs.Common.{rules}
use Rattle.register_report.proofs.importing.Rows.read_header.Goals as goal

pub returns-else-branch-clause-end : goal.returns-else-branch-clause-end
returns-else-branch-clause-end g c = search rules
