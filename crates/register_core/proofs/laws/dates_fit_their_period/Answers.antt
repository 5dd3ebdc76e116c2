use Rattle.register_core.proofs.DateLaws.{sound_after}
use Rattle.register_core.proofs.laws.dates_fit_their_period.Goals as goal

pub returns : goal.returns
returns c h q is k has = (sound_after h q is k has).fits
