use Rattle.std.proofs.Common.{rules, arith, refl}
use Rattle.register_rows.proofs.KeyChange.{AreLaterDates, key_params, key_text, updates_key}
use Rattle.register_tables.proofs.Wrote.{ran}
use Rattle.register_rows.proofs.stored_key.set_owner_state_and_dates.Goals as goal

pub returns : goal.returns
returns g c =
    let number = c.args.number in
    let owner = c.args.owner.now in
    let row = c.args.row.now in
    let in_range : AreLaterDates row.dates = search arith in
    ran key_text (key_params number owner row) c.in_ok-execute.field-0 (search rules) (search rules)
    (updates_key number owner row (rw c.text.ensures.value at c.text.ensures.in_range) in_range _ _) refl
    (search arith) c.in_ok-execute.ensures.runs c.in_ok-execute.ensures.survives
