use Rattle.register_requests.proofs.Lines.{same_command}
use Rattle.register_core.proofs.laws.texts_are_of_one_command.Goals as goal

pub returns : goal.returns
returns c = same_command
