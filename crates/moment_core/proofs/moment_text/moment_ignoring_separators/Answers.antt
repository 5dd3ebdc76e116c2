use Rattle.std.proofs.Common.{◌≡◌, ◌+◌, ◌*◌, arith}
use Rattle.moment_core.specs.Calendar.{day_number}
use Rattle.moment_core.proofs.Texts.{format_date_and_time, unread, in_years, date_at, date_read, time_read, some_is}
use Rattle.moment_core.proofs.Texts.{some_same, text_length}
use Rattle.moment_core.proofs.moment_text.moment_ignoring_separators.Goals as goal

pub returns-then-text-ne20 : goal.returns-then-text-ne20
returns-then-text-ne20 c m is e = absurd (omega (arith, text_length c.args.text.now m e))

pub returns-in_err-read_two_digits : goal.returns-in_err-read_two_digits
returns-in_err-read_two_digits c m is e =
    absurd (unread (format_date_and_time c.args.text.now m is e).century c.in_err-read_two_digits.ensures.value)

pub returns-in_err-read_two_digits-2 : goal.returns-in_err-read_two_digits-2
returns-in_err-read_two_digits-2 c m is e =
    absurd (unread (format_date_and_time c.args.text.now m is e).year c.in_err-read_two_digits-2.ensures.value)

pub returns-in_err-read_two_digits-3 : goal.returns-in_err-read_two_digits-3
returns-in_err-read_two_digits-3 c m is e =
    absurd (unread (format_date_and_time c.args.text.now m is e).month c.in_err-read_two_digits-3.ensures.value)

pub returns-in_err-read_two_digits-4 : goal.returns-in_err-read_two_digits-4
returns-in_err-read_two_digits-4 c m is e =
    absurd (unread (format_date_and_time c.args.text.now m is e).day c.in_err-read_two_digits-4.ensures.value)

pub returns-in_err-hour : goal.returns-in_err-hour
returns-in_err-hour c m is e =
    absurd (unread (format_date_and_time c.args.text.now m is e).hour c.in_err-hour.ensures.value)

pub returns-in_err-minute : goal.returns-in_err-minute
returns-in_err-minute c m is e =
    absurd (unread (format_date_and_time c.args.text.now m is e).minute c.in_err-minute.ensures.value)

pub returns-in_err-second : goal.returns-in_err-second
returns-in_err-second c m is e =
    absurd (unread (format_date_and_time c.args.text.now m is e).second c.in_err-second.ensures.value)

pub returns-in_err-day : goal.returns-in_err-day
returns-in_err-day c m is e =
    let date = date_read c.args.text.now m is e c.in_ok-read_two_digits.ensures.value
    c.in_ok-read_two_digits-2.ensures.value
    c.in_ok-read_two_digits-3.ensures.value c.in_ok-read_two_digits-4.ensures.value in
    let year : c.from.result * 100 + c.from-2.result ≡ (date_at m).year =
    omega (arith, date.year, c.from.ensures, c.from-2.ensures) in
    let not = c.in_err-day.ensures.value (date_at m) (in_years m is).civil year date.month date.day in
    absurd (cc)

pub returns : goal.returns
returns c m is e =
    let date = date_read c.args.text.now m is e c.in_ok-read_two_digits.ensures.value
    c.in_ok-read_two_digits-2.ensures.value
    c.in_ok-read_two_digits-3.ensures.value c.in_ok-read_two_digits-4.ensures.value in
    let year : c.from.result * 100 + c.from-2.result ≡ (date_at m).year =
    omega (arith, date.year, c.from.ensures, c.from-2.ensures) in
    let day = some_same c.in_ok-day.day (day_number (date_at m))
    (c.in_ok-day.ensures.value (date_at m) (in_years m is).civil year date.month date.day) in
    let time = time_read c.args.text.now m is e
    c.in_ok-hour.ensures.value c.in_ok-minute.ensures.value c.in_ok-second.ensures.value in
    some_is c.new.result m _ is (omega (arith, time, day, c.from-3.ensures, c.from-4.ensures, c.from-5.ensures))
    c.new.ensures.in_range c.new.ensures.value
