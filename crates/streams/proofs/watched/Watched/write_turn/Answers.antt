use Rattle.std.proofs.Common.{rules}
use Rattle.streams.proofs.watched.Watched.write_turn.Goals as goal

pub returns-in-Ok-clause-bound : goal.returns-in-Ok-clause-bound
returns-in-Ok-clause-bound g c = search rules
