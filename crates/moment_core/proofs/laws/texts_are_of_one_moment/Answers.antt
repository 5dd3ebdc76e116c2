use Rattle.moment_core.proofs.Texts.{one_moment}
use Rattle.moment_core.proofs.laws.texts_are_of_one_moment.Goals as goal

pub returns : goal.returns
returns c = one_moment
