use Rattle.std.proofs.Common.{rules}
use Rattle.http_messages.proofs.route.route_of_pattern.Goals as goal

pub returns-then-eq-clause-found : goal.returns-then-eq-clause-found
returns-then-eq-clause-found c = search rules
