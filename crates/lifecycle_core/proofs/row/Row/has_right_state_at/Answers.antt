use Rattle.std.proofs.Common.{rules}
use Rattle.lifecycle_core.proofs.row.Row.has_right_state_at.Goals as goal

pub returns : goal.returns
returns c = search rules
