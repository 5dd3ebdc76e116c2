use Rattle.lifecycle_core.proofs.Transitions.{time_leads}
use Rattle.lifecycle_core.proofs.laws.time_follows_transitions.Goals as goal

pub returns : goal.returns
returns c = time_leads
