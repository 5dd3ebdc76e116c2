use Rattle.register_core.proofs.DateRanges.{stop_in_range}
use Rattle.register_core.proofs.laws.protect_stop_is_a_moment.Goals as goal

pub returns : goal.returns
returns c = stop_in_range
