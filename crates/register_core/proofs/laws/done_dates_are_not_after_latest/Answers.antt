use Rattle.register_core.proofs.PastLaws.{all_past}
use Rattle.register_core.proofs.laws.done_dates_are_not_after_latest.Goals as goal

pub returns-clause-initial : goal.returns-clause-initial
returns-clause-initial c h lawful k has = (all_past h lawful k has).initial

pub returns-clause-destroy : goal.returns-clause-destroy
returns-clause-destroy c h lawful k has = (all_past h lawful k has).destroy

pub returns-clause-compromise : goal.returns-clause-compromise
returns-clause-compromise c h lawful k has = (all_past h lawful k has).compromise
