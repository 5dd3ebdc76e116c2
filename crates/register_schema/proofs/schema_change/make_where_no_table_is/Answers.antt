use Rattle.sql_steps.proofs.Stepping.{fails}
use Rattle.register_schema.proofs.WhereNone.{made_where_none}
use Rattle.register_schema.proofs.schema_change.make_where_no_table_is.Goals as goal
use Rattle.std.proofs.Common.{arith}

pub returns-then-branch-clause-made : goal.returns-then-branch-clause-made
returns-then-branch-clause-made g c = search (arith, fails)

pub returns-clause-made : goal.returns-clause-made
returns-clause-made g c = grind (arith, made_where_none)
