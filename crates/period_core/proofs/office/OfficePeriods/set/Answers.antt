use Rattle.std.proofs.Common.{rules}
use Rattle.period_core.proofs.office.OfficePeriods.set.Goals as goal

pub returns-in-Master : goal.returns-in-Master
returns-in-Master c = search rules
