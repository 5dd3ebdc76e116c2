use Rattle.register_requests.proofs.TextLengths.{text_short}
use Rattle.register_core.proofs.laws.command_texts_are_short.Goals as goal

pub returns : goal.returns
returns c = text_short
