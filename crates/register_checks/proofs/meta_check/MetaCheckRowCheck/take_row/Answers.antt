use Rattle.register_checks.proofs.MetaChecked.{two_refused}
use Rattle.register_checks.proofs.meta_check.MetaCheckRowCheck.take_row.Goals as goal
use Rattle.std.proofs.Common.{arith}

pub returns-then-is_some-clause-refused : goal.returns-then-is_some-clause-refused
returns-then-is_some-clause-refused c result first rows taken = search (arith, two_refused)
