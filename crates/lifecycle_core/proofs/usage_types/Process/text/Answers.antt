use Rattle.std.proofs.Common.{rules}
use Rattle.lifecycle_core.proofs.usage_types.Process.text.Goals as goal

pub returns-in-Special : goal.returns-in-Special
returns-in-Special c = search rules
