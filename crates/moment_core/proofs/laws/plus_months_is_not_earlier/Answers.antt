use Rattle.moment_core.proofs.Forward.{months_forward}
use Rattle.moment_core.proofs.laws.plus_months_is_not_earlier.Goals as goal

pub returns : goal.returns
returns c = months_forward
