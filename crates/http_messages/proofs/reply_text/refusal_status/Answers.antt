use Rattle.std.proofs.Common.{rules}
use Rattle.http_messages.proofs.reply_text.refusal_status.Goals as goal

pub returns-in_default : goal.returns-in_default
returns-in_default c = search rules
