use Rattle.register_core.proofs.Versions.{answered_still, lawful_still}
use Rattle.register_core.proofs.laws.older_histories_are_lawful_now.Goals as goal

pub returns-clause-lawful : goal.returns-clause-lawful
returns-clause-lawful c = lawful_still

pub returns-clause-answers : goal.returns-clause-answers
returns-clause-answers c = answered_still
