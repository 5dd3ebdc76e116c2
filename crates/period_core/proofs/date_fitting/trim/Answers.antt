use Rattle.std.proofs.Common.{rules}
use Rattle.period_core.proofs.date_fitting.trim.Goals as goal

pub returns-clause-gives : goal.returns-clause-gives
returns-clause-gives c = search rules
