use Rattle.register_core.proofs.DateLaws.{all_sound}
use Rattle.register_core.proofs.laws.activation_comes_with_stop_and_deactivation.Goals as goal

pub returns-clause-protect_stop : goal.returns-clause-protect_stop
returns-clause-protect_stop c h lawful k has = (all_sound h lawful k has).whole.protect_stop

pub returns-clause-deactivation : goal.returns-clause-deactivation
returns-clause-deactivation c h lawful k has = (all_sound h lawful k has).whole.deactivation
