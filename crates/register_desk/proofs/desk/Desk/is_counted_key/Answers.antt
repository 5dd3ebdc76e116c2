use Rattle.std.proofs.Common.{rules}
use Rattle.register_desk.proofs.desk.Desk.is_counted_key.Goals as goal

pub returns-then-number-ge1-clause-none : goal.returns-then-number-ge1-clause-none
returns-then-number-ge1-clause-none g c = search rules
