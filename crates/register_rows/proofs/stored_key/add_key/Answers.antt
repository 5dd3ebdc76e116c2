use Rattle.std.proofs.Common.{rules, arith, refl}
use Rattle.register_tables.specs.Tables.{IsKey}
use Rattle.register_rows.proofs.KeyRow.{insert_text, params, adds_key}
use Rattle.register_tables.proofs.Wrote.{ran}
use Rattle.register_rows.proofs.stored_key.add_key.Goals as goal

pub returns : goal.returns
returns g c =
    let number = c.args.number in
    let key = c.args.key.now in
    let in_range : IsKey key = search arith in
    ran insert_text (params number key) c.in_ok-execute.field-0 (search rules) (search rules)
    (adds_key number key in_range _ _) refl (search arith) c.in_ok-execute.ensures.runs c.in_ok-execute.ensures.survives
