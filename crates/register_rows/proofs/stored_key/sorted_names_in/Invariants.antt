use Rattle.std.proofs.Common.{◌≡◌, map, take}
use Rattle.sqlite.specs.{declared.types.Value.TheVariants.Text as Words, Order.column}
use Rattle.register_rows.proofs.stored_key.sorted_names_in.Given as goal

-- the names in the rows so far
abbrev pub invariant-loop-row : goal.invariant-loop-row
invariant-loop-row l = map (λ row. column row 0) (take l.row-index l.rows) ≡ map Words l.shown.items
