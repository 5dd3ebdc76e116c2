use Rattle.std.proofs.Common.{refl, sym}
use Rattle.register_core.proofs.Filling.{is_asked, is_given}
use Rattle.register_core.proofs.effect.key_dates_after_command.Goals as goal

pub returns-in_default-clause-dates : goal.returns-in_default-clause-dates
returns-in_default-clause-dates c =
    let told = is_asked c.args.set c.args.key.now c.args.at c.args.command.now (sym c.in_default.ensures)
    c.asked_dates-asked.ensures c.dates_before.ensures in told.dates c.asked_dates-asked.result refl

pub returns-clause-dates : goal.returns-clause-dates
returns-clause-dates c =
    let told = is_given c.args.set c.args.key.now c.args.at c.args.command.now c.in-Some.kind (sym c.in-Some.ensures)
    c.fit.ensures c.period_or_default.ensures c.of.ensures c.asked_dates-asked.ensures c.dates_before.ensures in
    told.dates c.in_ok-fit.field-0 c.in_ok-fit.was
