use Rattle.std.proofs.Common.{rules, arith}
use Rattle.register_core.specs.KeyName.{key_name}
use Rattle.register_rows.specs.Within.Roles.{change_text}
use Rattle.register_tables.specs.Tables.{name_cells}
use Rattle.register_rows.proofs.NameChanges.{changes_role}
use Rattle.register_tables.proofs.Wrote.{ran}
use Rattle.register_rows.proofs.stored_key.give_or_take_role.Goals as goal

pub returns : goal.returns
returns g c =
    let change = c.args.change in
    let key = c.args.key in
    let name = c.args.name.now in
    ran (change_text change) (name_cells (key_name key name)) c.in_ok-execute.field-0 (search rules) (search rules)
    (changes_role change key name (rw c.text.ensures.value at c.text.ensures.in_range) _ _) c.sql.ensures (search arith)
    c.in_ok-execute.ensures.runs c.in_ok-execute.ensures.survives
