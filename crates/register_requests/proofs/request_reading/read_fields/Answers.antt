use Rattle.std.proofs.Common.{None}
use Rattle.register_requests.proofs.Texts.{made_stands}
use Rattle.register_requests.proofs.Lines.{key_and_name, key_and_need, type_and_period}
use Rattle.register_requests.proofs.request_reading.read_fields.Goals as goal

pub returns-in_err-key-in-KeyAndName : goal.returns-in_err-key-in-KeyAndName
returns-in_err-key-in-KeyAndName c =
    rw (c.from_residual.ensures, c.in-KeyAndName.is)
    (made_stands key_and_name c.args.bytes.now None c.in_err-key-in-KeyAndName.ensures)

pub returns-in_err-key-in-KeyAndNeed : goal.returns-in_err-key-in-KeyAndNeed
returns-in_err-key-in-KeyAndNeed c =
    rw (c.from_residual-in_err-key-in-KeyAndNeed.ensures, c.in-KeyAndNeed.is)
    (made_stands key_and_need c.args.bytes.now None c.in_err-key-in-KeyAndNeed.ensures)

pub returns-in_err-kind-in-TypeAndPeriod : goal.returns-in_err-kind-in-TypeAndPeriod
returns-in_err-kind-in-TypeAndPeriod c =
    rw (c.from_residual-in_err-kind-in-TypeAndPeriod.ensures, c.in-TypeAndPeriod.is)
    (made_stands type_and_period c.args.bytes.now None c.in_err-kind-in-TypeAndPeriod.ensures)
