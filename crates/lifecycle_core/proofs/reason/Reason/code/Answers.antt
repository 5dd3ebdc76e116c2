use Rattle.std.proofs.Common.{rules}
use Rattle.lifecycle_core.proofs.reason.Reason.code.Goals as goal

pub returns : goal.returns
returns c = search rules
