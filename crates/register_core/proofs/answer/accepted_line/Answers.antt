use Rattle.std.proofs.Common.{rules}
use Rattle.register_core.proofs.answer.accepted_line.Goals as goal

pub returns-clause-text : goal.returns-clause-text
returns-clause-text c = search rules
