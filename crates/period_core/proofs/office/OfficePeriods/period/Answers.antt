use Rattle.std.proofs.Common.{rules}
use Rattle.period_core.proofs.office.OfficePeriods.period.Goals as goal

pub returns : goal.returns
returns c = search rules
