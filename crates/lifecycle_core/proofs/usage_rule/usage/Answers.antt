use Rattle.std.proofs.Common.{rules}
use Rattle.lifecycle_core.proofs.usage_rule.usage.Goals as goal

pub returns-in-Active : goal.returns-in-Active
returns-in-Active c = search rules

pub returns-in-PreActive : goal.returns-in-PreActive
returns-in-PreActive c = search rules
