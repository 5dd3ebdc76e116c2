use Rattle.std.proofs.Common.{rules}
use Rattle.register_core.proofs.kept_reply.KeptReply.new.Goals as goal

pub returns : goal.returns
returns c = search rules
