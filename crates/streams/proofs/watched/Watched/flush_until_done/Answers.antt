use Rattle.std.proofs.Common.{rules}
use Rattle.streams.proofs.watched.Watched.flush_until_done.Goals as goal

pub returns-in-Failed-clause-sound : goal.returns-in-Failed-clause-sound
returns-in-Failed-clause-sound g c = search rules

pub returns-in-Failed-clause-flushed : goal.returns-in-Failed-clause-flushed
returns-in-Failed-clause-flushed g c = search rules
