use Rattle.std.proofs.Common.{◌<◌, ◌^◌, ◌∙◌, rules}
use Rattle.key_rows.proofs.Printable.{number_printable, date_printable, name_printable, purpose_printable}
use Rattle.key_rows.proofs.RowWriting.{cell_put}
use Rattle.key_rows.proofs.export.put_cell.Goals as goal

pub returns-in-Number : goal.returns-in-Number
returns-in-Number c =
    let small : c.in-Number.number < 2 ^ 64 = search rules in
    cell_put c.put_field.result _ _ _ _ c.in-Number.is _ c.format.ensures.text (number_printable _ small)
    c.put_field.ensures

pub returns-in-Date : goal.returns-in-Date
returns-in-Date c =
    cell_put c.put_field-in-Date.result _ _ _ _ c.in-Date.is _ (c.as_str.ensures.value ∙ c.date_text.ensures)
    (date_printable _) c.put_field-in-Date.ensures

pub returns-in-Name : goal.returns-in-Name
returns-in-Name c =
    let text = c.text-in-Name.ensures in
    cell_put c.put_field-in-Name.result _ _ _ _ c.in-Name.is _ text.value
    (name_printable _ (rw text.value at text.in_range)) c.put_field-in-Name.ensures

pub returns-in-Purpose : goal.returns-in-Purpose
returns-in-Purpose c =
    let text = c.text-in-Purpose.ensures in
    cell_put c.put_field-in-Purpose.result _ _ _ _ c.in-Purpose.is _ text.value
    (purpose_printable _ (rw text.value at text.in_range)) c.put_field-in-Purpose.ensures
