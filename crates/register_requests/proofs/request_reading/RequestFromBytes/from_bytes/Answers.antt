use Rattle.std.proofs.Common.{None}
use Rattle.register_requests.proofs.{Texts.made_stands, Lines.request}
use Rattle.register_requests.proofs.request_reading.RequestFromBytes.from_bytes.Goals as goal

pub returns-in_err-moment : goal.returns-in_err-moment
returns-in_err-moment c =
    rw c.from_residual.ensures (made_stands request c.args.bytes.now None c.in_err-moment.ensures)
