use Rattle.std.proofs.Common.{rules}
use Rattle.register_desk.proofs.end.End.number.Goals as goal

pub returns-in-ReadFault : goal.returns-in-ReadFault
returns-in-ReadFault c = search rules
