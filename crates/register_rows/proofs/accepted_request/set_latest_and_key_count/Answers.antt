use Rattle.std.proofs.Common.{rules, arith, refl}
use Rattle.register_rows.proofs.CountsRow.{counts_text, params, records}
use Rattle.register_tables.proofs.Wrote.{ran}
use Rattle.register_rows.proofs.accepted_request.set_latest_and_key_count.Goals as goal

pub returns : goal.returns
returns g c =
    let latest = c.args.latest in
    let count = c.args.key_count in
    ran counts_text (params latest count) c.in_ok-execute.field-0 (search rules) (search rules)
    (records latest count c.params-to_sql.ensures.in_range _ _) refl (search arith) c.in_ok-execute.ensures.runs
    c.in_ok-execute.ensures.survives
