use Rattle.http_messages.proofs.OneAnswer.{one_answer}
use Rattle.http_messages.proofs.laws.inputs_ask_one_thing.Goals as goal

pub returns : goal.returns
returns c = one_answer
