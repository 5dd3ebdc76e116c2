use Rattle.std.proofs.Common.{◌==◌, Err, ap, refl, arith}
use Rattle.sqlite.specs.Held.{state}
use Rattle.register_tables.specs.declared.table.TableName.TheVariants.{Keys}
use Rattle.register_checks.proofs.Asked.{query_of}
use Rattle.register_checks.proofs.KeysChecked.{given_where, keys_begin, keys_fail, keys_given}
use Rattle.register_checks.proofs.key_check.check_keys_and_list_owners.Goals as goal

pub check_rows-requires-clause-query : goal.check_rows-requires-clause-query
check_rows-requires-clause-query g c = query_of Keys

pub returns-clause-checks : goal.returns-clause-checks
returns-clause-checks g c t told =
    let check = c.check_rows.new.check in
    keys_given t c.args.found.now told
    (state g.S.Store c.args.connection.now) (state g.S.Store c.check_rows.new.connection) c.check_rows.ensures.survives
    check.found check.count check.owners (search (arith, keys_begin)) _
    (given_where (check.count == check.found.keys) check.owners c.then_some.result _ c.then_some.ensures
    c.ok_or.ensures.value)

pub returns-in_err-check_rows-clause-checks : goal.returns-in_err-check_rows-clause-checks
returns-in_err-check_rows-clause-checks g c t told =
    let old = state g.S.Store c.args.connection.now in
    let new = state g.S.Store c.check_rows.new.connection in
    let stopped = c.in_err-check_rows in
    let begun = keys_begin c.args.found.now c.new.result.items c.new.ensures.items in
    keys_fail t c.args.found.now told old new c.check_rows.ensures.survives stopped.field-0.0
    c.from_residual.result
    c.from_residual.ensures.1 (λ clean is. stopped.ensures.meaning clean (ap Err is))
    (λ clean is. stopped.ensures.refused clean (refl, begun) (ap Err is))
    (λ clean is. stopped.ensures.memory clean (ap Err is))
