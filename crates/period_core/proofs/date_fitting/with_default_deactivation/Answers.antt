use Rattle.std.proofs.Common.{rules}
use Rattle.period_core.proofs.date_fitting.with_default_deactivation.Goals as goal

pub returns : goal.returns
returns c = search rules
