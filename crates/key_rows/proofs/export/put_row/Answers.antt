use Rattle.std.proofs.Common.{subst, map, arith}
use Rattle.std.proofs.lemmas.List.{take_all}
use Rattle.key_rows.specs.{Within.cell_text, Export.export_fields, Export.export_row, Within.HasFields}
use Rattle.key_rows.proofs.RowWriting.{on_ok_of, row_ended}
use Rattle.key_rows.proofs.export.put_row.Goals as goal

pub returns : goal.returns
unfolding export_row
returns c =
    let row = c.loop-cell.row in
    on_ok_of c.end_record.result _ c.map_err.ensures.variant (λ ended new.
    let has = subst (λ cells. HasFields row (map cell_text cells)) (take_all _ _ (omega arith))
    (c.loop-cell.invariant new) in
    row_ended row c.end_record.new.self row.wrote ended (export_fields c.args.key.now) (omega arith) has)
    c.end_record.ensures.bytes
