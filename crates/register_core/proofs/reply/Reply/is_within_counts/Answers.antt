use Rattle.std.proofs.Common.{rules}
use Rattle.register_core.proofs.reply.Reply.is_within_counts.Goals as goal

pub returns-then-le : goal.returns-then-le
returns-then-le c = search rules
