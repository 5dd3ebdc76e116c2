use Rattle.std.proofs.Common.{rules}
use Rattle.register_tables.proofs.counted.StepCount.count_one.Goals as goal

pub returns-clause-counted : goal.returns-clause-counted
returns-clause-counted c = search rules

pub returns-clause-takes : goal.returns-clause-takes
returns-clause-takes c = search rules
