use Rattle.std.proofs.Common.{rules}
use Rattle.streams.proofs.watched.Watched.write_flushed.Goals as goal

pub returns-then-flush_until_done-clause-flushed : goal.returns-then-flush_until_done-clause-flushed
returns-then-flush_until_done-clause-flushed g c = search rules
