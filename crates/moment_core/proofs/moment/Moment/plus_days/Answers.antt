use Rattle.std.proofs.Common.{rules}
use Rattle.moment_core.proofs.moment.Moment.plus_days.Goals as goal

pub returns : goal.returns
returns c = search rules
