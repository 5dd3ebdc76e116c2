use Rattle.std.proofs.Common.{rules}
use Rattle.period_core.proofs.key_type.KeyType.code_and_text.Goals as goal

pub returns-in-KeyWrapping-clause-text : goal.returns-in-KeyWrapping-clause-text
returns-in-KeyWrapping-clause-text c = search rules

pub returns-in-Master-clause-code : goal.returns-in-Master-clause-code
returns-in-Master-clause-code c = search rules
