use Rattle.std.proofs.Common.{rules, arith}
use Rattle.register_rows.specs.Within.Due.{update_text}
use Rattle.register_rows.proofs.DueChange.{params, moves}
use Rattle.register_tables.proofs.Wrote.{ran}
use Rattle.register_rows.proofs.accepted_request.advance_keys_by_date.Goals as goal

pub returns : goal.returns
returns g c =
    let at = c.args.at in
    let date = c.args.date in
    let moment = c.params-to_sql.ensures.in_range in
    ran (update_text date) (params at moment) c.in_ok-execute.field-0 (search rules) (search rules)
    (moves at moment date _ _) c.update_sql.ensures (search arith) c.in_ok-execute.ensures.runs
    c.in_ok-execute.ensures.survives
