use Rattle.std.proofs.Common.{rules}
use Rattle.lifecycle_core.proofs.reason.Reason.is_compromise.Goals as goal

pub returns-in_default : goal.returns-in_default
returns-in_default c = search rules
