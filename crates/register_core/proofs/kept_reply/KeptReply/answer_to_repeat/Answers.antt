use Rattle.std.proofs.Common.{rules}
use Rattle.register_core.proofs.kept_reply.KeptReply.answer_to_repeat.Goals as goal

pub returns-else-has_command_of : goal.returns-else-has_command_of
returns-else-has_command_of c = search rules
