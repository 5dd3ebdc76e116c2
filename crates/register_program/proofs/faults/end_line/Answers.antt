use Rattle.std.proofs.Common.{rules}
use Rattle.register_program.proofs.faults.end_line.Goals as goal

pub returns-in-Memory : goal.returns-in-Memory
returns-in-Memory c = search rules
