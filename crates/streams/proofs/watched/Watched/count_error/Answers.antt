use Rattle.std.proofs.Common.{rules}
use Rattle.streams.proofs.watched.Watched.count_error.Goals as goal

pub returns-then-eq-clause-kind : goal.returns-then-eq-clause-kind
returns-then-eq-clause-kind g c = search rules
