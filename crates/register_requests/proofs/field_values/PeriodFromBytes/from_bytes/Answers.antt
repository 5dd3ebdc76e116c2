use Rattle.register_requests.proofs.Lines.{no_months, new_period}
use Rattle.register_requests.proofs.field_values.PeriodFromBytes.from_bytes.Goals as goal

pub returns-in_err-originator : goal.returns-in_err-originator
returns-in_err-originator c =
    rw c.from_residual.ensures (no_months c.args.bytes.now c.in_err-originator.ensures)

pub returns : goal.returns
returns c =
    new_period c.args.bytes.now _ _ c.in_ok-originator.ensures c.new.result c.new.ensures.in_range c.new.ensures.value
