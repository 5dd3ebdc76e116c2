use Rattle.std.proofs.Common.{rules}
use Rattle.register_desk.proofs.desk.Desk.keys.Goals as goal

pub returns : goal.returns
returns g c = search rules
