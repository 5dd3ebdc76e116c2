use Rattle.std.proofs.Common.{rules}
use Rattle.register_program.proofs.faults.report_finish.Goals as goal

pub returns-in-Ended-clause-status : goal.returns-in-Ended-clause-status
returns-in-Ended-clause-status g c = search rules
