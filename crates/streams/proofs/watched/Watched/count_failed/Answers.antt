use Rattle.std.proofs.Common.{rules}
use Rattle.streams.proofs.watched.Watched.count_failed.Goals as goal

pub returns : goal.returns
returns g c = search rules
