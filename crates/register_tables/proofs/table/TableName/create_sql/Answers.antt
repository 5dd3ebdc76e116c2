use Rattle.std.proofs.Common.{sym, ap}
use Rattle.register_tables.specs.Tables.{create_statement}
use Rattle.register_tables.proofs.table.TableName.create_sql.Goals as goal

pub returns-in-Keys : goal.returns-in-Keys
returns-in-Keys c = ap create_statement (sym c.in-Keys.is)

pub returns-in-Approval : goal.returns-in-Approval
returns-in-Approval c = ap create_statement (sym c.in-Approval.is)
