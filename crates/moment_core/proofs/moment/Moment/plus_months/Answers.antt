use Rattle.std.proofs.Common.{ℕ, ◌/◌, ap, ◌∙◌}
use Rattle.moment_core.specs.Calendar.{civil, months_after}
use Rattle.moment_core.proofs.Dates.{past_range, sum_is}
use Rattle.moment_core.proofs.moment.Moment.plus_months.Goals as goal

pub returns-in_err-day : goal.returns-in_err-day
returns-in_err-day c =
    c.from_residual.ensures ∙ past_range c.seconds-seconds.result c.args.months
    (c.in_err-day.ensures.day (civil (c.seconds-seconds.result / 86_400)) c.date_of_day_number.ensures)
    ∙ ap (λ (s : ℕ). months_after s c.args.months) c.seconds-seconds.ensures.value

pub returns : goal.returns
returns c =
    sum_is c.seconds-seconds.result c.args.months c.in_ok-day.day c.new.result
    (c.in_ok-day.ensures.day (civil (c.seconds-seconds.result / 86_400)) c.date_of_day_number.ensures)
    c.new.ensures.in_range c.new.ensures.value
    ∙ ap (λ (s : ℕ). months_after s c.args.months) c.seconds-seconds.ensures.value
