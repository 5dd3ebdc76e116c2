use Rattle.std.proofs.Common.{rules}
use Rattle.register_requests.proofs.values.Name.new.Goals as goal

pub invariant_of-result : goal.invariant_of-result
invariant_of-result c = search rules

pub returns-then-has_name_bytes-clause-in_range : goal.returns-then-has_name_bytes-clause-in_range
returns-then-has_name_bytes-clause-in_range c = search rules
