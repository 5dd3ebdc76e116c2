use Rattle.std.proofs.Common.{rules}
use Rattle.period_core.proofs.date_fitting.fits.Goals as goal

pub returns-then-is_not_after : goal.returns-then-is_not_after
returns-then-is_not_after c = search rules
