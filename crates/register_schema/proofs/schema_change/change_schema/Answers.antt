use Rattle.std.proofs.Common.{arith, rules}
use Rattle.sqlite.specs.Held.{state}
use Rattle.sql_steps.specs.Steps.{TransactsBy}
use Rattle.sql_steps.proofs.Stepping.{commits, given_up_survives, rolls_back, transacts_as, fails_as}
use Rattle.register_schema.specs.{declared.refusal.CreateError.CreateError, Creation.WhereNone}
use Rattle.register_schema.proofs.schema_change.change_schema.Goals as goal

pub returns-in_err-commit-clause-made : goal.returns-in_err-commit-clause-made
returns-in_err-commit-clause-made g c =
    let Makes = WhereNone g.C.SchemaChange.has_one g.C.SchemaChange.makes in
    let old = state g.S.Store c.args.connection.now in
    let end = c.commit.new.self.0 in
    let whole : TransactsBy {E = CreateError} Makes old (state g.S.Store end)
    c.from_residual-in_err-commit.result =
    fails_as Makes old (state g.S.Store end) _ _ c.from_residual-in_err-commit.ensures.0
    (commits Makes old (λ _. Makes)
    (state g.S.Store c.make_where_no_table_is.new.tx.conn.now) (state g.S.Store end) _ _ (λ db made. made)
    (rw c.transaction-tx.ensures.begun at c.in_ok-make_where_no_table_is.ensures.made)
    c.in_err-commit.ensures.ok c.in_err-commit.ensures.err c.in_err-commit.ensures.survives) in
    search rules

pub returns-clause-made : goal.returns-clause-made
returns-clause-made g c = grind (arith, transacts_as, commits)

pub returns-in_err-make_where_no_table_is-clause-made : goal.returns-in_err-make_where_no_table_is-clause-made
returns-in_err-make_where_no_table_is-clause-made g c = search (arith, rolls_back)

pub returns-in_err-make_where_no_table_is-clause-there : goal.returns-in_err-make_where_no_table_is-clause-there
returns-in_err-make_where_no_table_is-clause-there g c is = search (arith, given_up_survives)
