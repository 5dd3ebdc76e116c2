use Rattle.register_requests.proofs.Texts.{no_space}
use Rattle.register_requests.proofs.request_reading.split_command_word.Goals as goal

pub returns-in-None-clause-word : goal.returns-in-None-clause-word
returns-in-None-clause-word c = no_space c.args.bytes.now c.in-None.ensures
