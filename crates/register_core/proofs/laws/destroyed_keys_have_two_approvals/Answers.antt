use Rattle.register_core.proofs.CustodyLaws.{stay}
use Rattle.register_core.proofs.Destructions.{enough}
use Rattle.register_core.proofs.laws.destroyed_keys_have_two_approvals.Goals as goal

pub returns-clause-enough : goal.returns-clause-enough
returns-clause-enough c = enough

pub returns-clause-stay : goal.returns-clause-stay
returns-clause-stay c = stay
