use Rattle.std.proofs.Common.{rules}
use Rattle.lifecycle_core.proofs.state.State.code_and_text.Goals as goal

pub returns-in-PreActive-clause-text : goal.returns-in-PreActive-clause-text
returns-in-PreActive-clause-text c = search rules

pub returns-in-Compromised-clause-code : goal.returns-in-Compromised-clause-code
returns-in-Compromised-clause-code c = search rules
