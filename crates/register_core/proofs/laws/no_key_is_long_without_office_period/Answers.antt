use Rattle.register_core.proofs.UnsetPeriods.{none_long}
use Rattle.register_core.proofs.laws.no_key_is_long_without_office_period.Goals as goal

pub returns : goal.returns
returns c = none_long
