use Rattle.std.proofs.Common.{refl}
use Rattle.register_tables.proofs.counted.Counted.new.Goals as goal

pub returns-clause-steps : goal.returns-clause-steps
returns-clause-steps g c = refl
