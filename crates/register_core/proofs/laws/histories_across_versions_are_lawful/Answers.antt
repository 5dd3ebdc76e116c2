use Rattle.register_core.proofs.Versions.{versions_follow}
use Rattle.register_core.proofs.laws.histories_across_versions_are_lawful.Goals as goal

pub returns : goal.returns
returns c = versions_follow
