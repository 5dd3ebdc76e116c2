use Rattle.std.proofs.Common.{sym, subst}
use Rattle.lifecycle_core.specs.declared.dates.Dates.{Dates}
use Rattle.period_core.specs.Fitting.{KeepsGiven}
use Rattle.period_core.proofs.Keeping.{filled_keeps}
use Rattle.period_core.proofs.date_fitting.fill.Goals as goal

pub returns-clause-keeps : goal.returns-clause-keeps
returns-clause-keeps c =
    subst (λ (new : Dates). KeepsGiven c.args.dates.now new) (sym c.dates_with_defaults_and_limits.ensures.dates)
    (filled_keeps c.args.period c.args.dates.now)
