use Rattle.std.proofs.Common.{rules}
use Rattle.lifecycle_core.proofs.row.state_of.Goals as goal

pub returns-then-is_reached : goal.returns-then-is_reached
returns-then-is_reached c = search rules
