use Rattle.register_core.proofs.Versions.{all_known}
use Rattle.register_core.proofs.laws.versions_know_their_commands.Goals as goal

pub returns : goal.returns
returns c = all_known
