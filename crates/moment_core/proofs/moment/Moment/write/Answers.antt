use Rattle.std.proofs.Common.{◌≡◌, pos, ◌∙◌, arith}
use Rattle.jiff_core.proofs.SignedLemmas.{signed_arith}
use Rattle.moment_core.proofs.Texts.{text_is, date_at}
use Rattle.moment_core.proofs.moment.Moment.write.Goals as goal

pub returns : goal.returns
returns c =
    let same : pos c.year_of.result ≡ pos (date_at c.seconds-seconds.result).year = c.year_of.ensures
    ∙ c.date_of_day_number-date.ensures.year in
    let year : c.year_of.result ≡ (date_at c.seconds-seconds.result).year = omega (arith, signed_arith, same) in
    c.format_date_and_time.ensures ∙ text_is c.args.self c.seconds-seconds.result c.year_of.result c.from-month.result
    c.from-day.result c.seconds-seconds.ensures.value year
    (c.from-month.ensures ∙ c.date_of_day_number-date.ensures.month) (c.from-day.ensures
    ∙ c.date_of_day_number-date.ensures.day)
