use Rattle.std.proofs.Common.{rules}
use Rattle.lifecycle_core.proofs.row.advance.Goals as goal

pub returns-else-matches-clause-right : goal.returns-else-matches-clause-right
returns-else-matches-clause-right c = search rules
