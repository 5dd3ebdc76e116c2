use Rattle.register_requests.proofs.Lines.{same_request}
use Rattle.register_core.proofs.laws.lines_are_of_one_request.Goals as goal

pub returns : goal.returns
returns c = same_request
