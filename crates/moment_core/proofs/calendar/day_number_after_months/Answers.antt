use Rattle.std.proofs.Common.{ℕ, ◌+◌, ◌*◌, ap, arith}
use Rattle.jiff_core.proofs.SignedLemmas.{signed_arith}
use Rattle.moment_core.specs.{Calendar.Civil, Calendar.months_on, Within.HasParts}
use Rattle.moment_core.proofs.Dates.{later_parts, total_is, number_is}
use Rattle.moment_core.proofs.calendar.day_number_after_months.Goals as goal

-- the later date has the parts of the civil date so many months on
parts : (c : goal.After-days_since_min) (of : Civil) → HasParts c.args.date of
    → HasParts c.clamp_to_month_end-later.result (months_on of c.args.months)
parts c of has =
    let total = total_is c.args.date of c.args.months c.year_of.result c.from.result _ has c.year_of.ensures
    c.from.ensures (ap (λ (n : ℕ). c.year_of.result * 12 + c.from.result + n) c.from-2.ensures) in
    later_parts c.args.date c.clamp_to_month_end-later.result of c.args.months _ has total
    c.clamp_to_month_end-later.ensures.year
    c.clamp_to_month_end-later.ensures.month c.clamp_to_month_end-later.ensures.day

pub overflow_sub-days_since_min : goal.overflow_sub-days_since_min
overflow_sub-days_since_min c =
    let day = number_is c.clamp_to_month_end-later.result (months_on c.requires.0 c.args.months)
    (parts c c.requires.0 c.requires.1) in
    omega (arith, signed_arith, day, c.days_since_min.ensures.value)

pub returns-clause-day : goal.returns-clause-day
returns-clause-day c of has =
    let day = number_is c.clamp_to_month_end-later.result (months_on of c.args.months) (parts c.before of has) in
    omega (arith, signed_arith, day, c.days_since_min.ensures.value, c.from-3.ensures)
