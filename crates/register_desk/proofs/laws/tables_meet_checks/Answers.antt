use Rattle.register_desk.proofs.Opened.{meet_checks}
use Rattle.register_desk.proofs.laws.tables_meet_checks.Goals as goal

pub returns : goal.returns
returns c = meet_checks
