use Rattle.std.proofs.Common.{rules}
use Rattle.register_desk.proofs.end.End.exit_status.Goals as goal

pub returns-in-Memory : goal.returns-in-Memory
returns-in-Memory c = search rules

pub returns-in-ReadFault : goal.returns-in-ReadFault
returns-in-ReadFault c = search rules
