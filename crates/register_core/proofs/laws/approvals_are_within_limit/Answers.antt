use Rattle.register_core.proofs.FewApprovals.{few}
use Rattle.register_core.proofs.laws.approvals_are_within_limit.Goals as goal

pub returns : goal.returns
returns c = few
