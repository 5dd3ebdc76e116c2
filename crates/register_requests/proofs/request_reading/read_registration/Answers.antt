use Rattle.std.proofs.Common.{None}
use Rattle.register_requests.proofs.{Texts.made_stands, Lines.registration}
use Rattle.register_requests.proofs.request_reading.read_registration.Goals as goal

pub returns-in_err-kind : goal.returns-in_err-kind
returns-in_err-kind c =
    rw c.from_residual.ensures (made_stands registration c.args.bytes.now None c.in_err-kind.ensures)

pub returns : goal.returns
returns c = registration.there c.args.bytes.now _ c.in_ok-kind.ensures
