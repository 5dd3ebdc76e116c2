use Rattle.std.proofs.Common.{rules, arith, refl}
use Rattle.register_tables.specs.Tables.{request_cells}
use Rattle.register_rows.proofs.RequestAdded.{insert_text, adds_request}
use Rattle.register_tables.proofs.Wrote.{ran}
use Rattle.register_rows.proofs.accepted_request.add_request.Goals as goal

pub returns : goal.returns
returns g c =
    let kept = c.args.kept.now in
    ran insert_text (request_cells kept) c.in_ok-execute.field-0 (search rules) (search rules)
    (adds_request kept _ _) refl (search arith) c.in_ok-execute.ensures.runs c.in_ok-execute.ensures.survives
