use Rattle.register_requests.proofs.Texts.{split_none, first_none, second_none, both}
use Rattle.register_requests.proofs.field_values.Tuple2FromBytes.from_bytes.Goals as goal

pub returns-in_err-field : goal.returns-in_err-field
returns-in_err-field g c = rw c.from_residual.ensures (split_none _ _ _ c.in_err-field.ensures)

pub returns-in_err-first : goal.returns-in_err-first
returns-in_err-first g c =
    rw c.from_residual-in_err-first.ensures (first_none _ _ _ _ _ c.in_ok-field.ensures c.in_err-first.ensures)

pub returns-in_err-second : goal.returns-in_err-second
returns-in_err-second g c =
    rw c.from_residual-in_err-second.ensures (second_none _ _ _ _ _ c.in_ok-field.ensures c.in_err-second.ensures)

pub returns : goal.returns
returns g c = both _ _ _ _ _ c.in_ok-field.ensures _ _ c.in_ok-first.ensures c.in_ok-second.ensures
