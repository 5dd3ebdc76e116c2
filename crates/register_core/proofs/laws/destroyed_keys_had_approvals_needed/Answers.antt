use Rattle.register_core.proofs.Destructions.{were_destroyed}
use Rattle.register_core.proofs.laws.destroyed_keys_had_approvals_needed.Goals as goal

pub returns : goal.returns
returns c = were_destroyed
