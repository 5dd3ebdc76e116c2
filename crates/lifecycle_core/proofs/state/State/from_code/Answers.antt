use Rattle.std.proofs.Common.{rules}
use Rattle.lifecycle_core.proofs.state.State.from_code.Goals as goal

pub returns-clause-none : goal.returns-clause-none
returns-clause-none c = search rules
