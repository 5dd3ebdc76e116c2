use Rattle.moment_core.proofs.Numbers.{date_of_number}
use Rattle.moment_core.proofs.laws.dates_invert_day_numbers.Goals as goal

pub returns : goal.returns
returns c = date_of_number
