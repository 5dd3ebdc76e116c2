use Rattle.std.proofs.Common.{◌≡◌, pos, arith}
use Rattle.jiff_core.specs.Date.{epoch_day}
use Rattle.jiff_core.proofs.SignedLemmas.{signed_arith}
use Rattle.moment_core.proofs.Dates.{date_is}
use Rattle.moment_core.proofs.calendar.date_of_day_number.Goals as goal

pub returns : goal.returns
returns c =
    let day : epoch_day c.from_days_since_min.result ≡ pos c.args.day =
    omega (arith, signed_arith, c.from_days_since_min.ensures) in
    date_is c.from_days_since_min.result c.args.day c.requires day
