use Rattle.std.proofs.Common.{rules}
use Rattle.register_requests.proofs.values.RequestNumber.new.Goals as goal

pub returns-else-contains-clause-in_range : goal.returns-else-contains-clause-in_range
returns-else-contains-clause-in_range c = search rules
