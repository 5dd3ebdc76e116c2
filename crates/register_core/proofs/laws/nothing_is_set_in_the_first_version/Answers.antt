use Rattle.register_core.proofs.Versions.{no_needs, no_periods}
use Rattle.register_core.proofs.laws.nothing_is_set_in_the_first_version.Goals as goal

pub returns-clause-periods : goal.returns-clause-periods
returns-clause-periods c = no_periods

pub returns-clause-needs : goal.returns-clause-needs
returns-clause-needs c = no_needs
