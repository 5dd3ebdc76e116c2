use Rattle.std.proofs.Common.{rules}
use Rattle.lifecycle_core.proofs.reason.Reason.from_code.Goals as goal

pub returns-in-7-clause-none : goal.returns-in-7-clause-none
returns-in-7-clause-none c = search rules
