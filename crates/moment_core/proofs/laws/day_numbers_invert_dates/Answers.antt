use Rattle.moment_core.proofs.Civils.{civil_is}
use Rattle.moment_core.proofs.laws.day_numbers_invert_dates.Goals as goal

pub returns : goal.returns
returns c n = (civil_is n).number
