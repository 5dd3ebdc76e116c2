use Rattle.std.proofs.Common.{arith}
use Rattle.register_requests.proofs.Lines.{within_stands}
use Rattle.register_requests.proofs.request_line.read_request.Goals as goal

pub returns : goal.returns
returns c = within_stands c.args.line.now (omega arith) c.from_bytes.result c.from_bytes.ensures
