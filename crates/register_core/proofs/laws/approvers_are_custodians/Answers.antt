use Rattle.register_core.proofs.Approvers.{approve}
use Rattle.register_core.proofs.laws.approvers_are_custodians.Goals as goal

pub returns : goal.returns
returns c = approve
