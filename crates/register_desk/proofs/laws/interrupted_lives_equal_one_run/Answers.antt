use Rattle.register_desk.proofs.Lives.{runs_alike}
use Rattle.register_desk.proofs.laws.interrupted_lives_equal_one_run.Goals as goal

pub returns : goal.returns
returns c = runs_alike
