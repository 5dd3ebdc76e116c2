use Rattle.std.proofs.Common.{rules}
use Rattle.moment_core.proofs.moment.Moment.new.Goals as goal

pub returns-else-seconds-le-LAST_SECOND-clause-in_range : goal.returns-else-seconds-le-LAST_SECOND-clause-in_range
returns-else-seconds-le-LAST_SECOND-clause-in_range c = search rules
