use Rattle.std.proofs.Common.{ℕ, Option, pos, sym, ap}
use Rattle.sqlite.specs.declared.types.Value.TheVariants.{Int}
use Rattle.register_tables.specs.Tables.{date_cell}
use Rattle.register_tables.proofs.cells.DateCellToSql.to_sql.Goals as goal

pub returns-in-None-clause-value : goal.returns-in-None-clause-value
returns-in-None-clause-value c = ap (λ (date : Option ℕ). Int (pos (date_cell date))) (sym c.in-None.is)
