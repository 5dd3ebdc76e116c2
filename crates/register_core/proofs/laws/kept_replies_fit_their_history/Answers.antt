use Rattle.register_core.proofs.Kept.{all_kept}
use Rattle.register_core.proofs.laws.kept_replies_fit_their_history.Goals as goal

pub returns : goal.returns
returns c = all_kept
