use Rattle.std.proofs.Common.{None}
use Rattle.register_requests.proofs.{Texts.made_stands, Lines.date_edits}
use Rattle.register_requests.proofs.request_reading.read_date_edits.Goals as goal

pub returns-in_err-key : goal.returns-in_err-key
returns-in_err-key c =
    rw c.from_residual.ensures (made_stands date_edits c.args.bytes.now None c.in_err-key.ensures)
