use Rattle.std.proofs.Common.{rules}
use Rattle.period_core.proofs.date_fitting.is_not_after.Goals as goal

pub returns-in-Some-Some : goal.returns-in-Some-Some
returns-in-Some-Some c = search rules
