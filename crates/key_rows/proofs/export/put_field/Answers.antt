use Rattle.key_rows.proofs.RowWriting.{on_ok_both, on_ok_of, has_more}
use Rattle.key_rows.proofs.export.put_field.Goals as goal

pub returns : goal.returns
returns c =
    let wrote = c.write_field.ensures in
    let field = c.as_bytes.ensures.value in
    let setup = on_ok_both _ _ c.write_field.result wrote.same wrote.count in
    on_ok_of c.write_field.result _ c.map_err.ensures.variant (λ (text, (same, count)).
    has_more c.args.row.now c.write_field.new.self c.args.field.now (rw field at text) same count)
    (on_ok_both _ _ c.write_field.result wrote.text setup)
