use Rattle.std.proofs.Common.{rules}
use Rattle.moment_core.proofs.moment.Moment.read.Goals as goal

pub returns-else-eq-clause-found : goal.returns-else-eq-clause-found
returns-else-eq-clause-found c = search rules
