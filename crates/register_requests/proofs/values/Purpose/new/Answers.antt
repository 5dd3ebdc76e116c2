use Rattle.std.proofs.Common.{rules}
use Rattle.register_requests.proofs.values.Purpose.new.Goals as goal

pub invariant_of-result : goal.invariant_of-result
invariant_of-result c = search rules

pub returns-clause-in_range : goal.returns-clause-in_range
returns-clause-in_range c = search rules
