use Rattle.std.proofs.Common.{rules}
use Rattle.period_core.proofs.date_fitting.defaulted_dates_cut_to_limits.Goals as goal

pub returns : goal.returns
returns c = search rules
