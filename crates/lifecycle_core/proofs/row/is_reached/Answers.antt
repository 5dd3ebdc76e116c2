use Rattle.std.proofs.Common.{rules}
use Rattle.lifecycle_core.proofs.row.is_reached.Goals as goal

pub returns-in-Some : goal.returns-in-Some
returns-in-Some c = search rules
