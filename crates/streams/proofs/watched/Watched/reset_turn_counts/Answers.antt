use Rattle.std.proofs.Common.{rules}
use Rattle.streams.proofs.watched.Watched.reset_turn_counts.Goals as goal

pub returns : goal.returns
returns g c = search rules
