use Rattle.register_core.proofs.FewLaws.{few_custodians}
use Rattle.register_core.proofs.laws.custodians_are_within_limit.Goals as goal

pub returns : goal.returns
returns c = few_custodians
