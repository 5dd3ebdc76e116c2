use Rattle.std.proofs.Common.{rules}
use Rattle.moment_core.proofs.moment.Moment.seconds.Goals as goal

pub returns-clause-value : goal.returns-clause-value
returns-clause-value c = search rules
