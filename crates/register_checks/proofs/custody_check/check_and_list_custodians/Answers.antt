use Rattle.std.proofs.Common.{◌≡◌, length, Err, ap, refl, ◌∙◌, arith}
use Rattle.sqlite.specs.Held.{state}
use Rattle.register_requests.specs.Version.{custodians_of}
use Rattle.register_tables.specs.declared.table.TableName.TheVariants.{Custodian}
use Rattle.register_checks.proofs.Asked.{query_of}
use Rattle.register_checks.proofs.CustodiansChecked.{begin_custodians, custodians_fail, custodians_unread}
use Rattle.register_checks.proofs.CustodiansChecked.{custodians_read}
use Rattle.register_checks.proofs.custody_check.check_and_list_custodians.Goals as goal

pub check_rows-requires-clause-query : goal.check_rows-requires-clause-query
check_rows-requires-clause-query g c = query_of Custodian

pub returns-in_err-custodians-clause-checks : goal.returns-in_err-custodians-clause-checks
returns-in_err-custodians-clause-checks g c is_open t version are = search (arith, custodians_unread)

pub returns-clause-checks : goal.returns-clause-checks
returns-clause-checks g c is_open t version are =
    let owners = c.args.owners.items in
    let lists = c.in_ok-custodians in
    let counted : length lists.custodians.items ≡ length owners =
    let many = lists.ensures.made.1 in let len = c.len.ensures in omega (arith, many, len) in
    let begun = begin_custodians c.max_custodians.result owners lists.custodians.items lists.ensures.made.0 counted in
    custodians_read t c.max_custodians.result (c.max_custodians.ensures ∙ ap custodians_of version) owners are
    (state g.S.Store c.args.connection.now) (state g.S.Store c.check_rows.new.connection)
    c.check_rows.ensures.survives c.check_rows.new.check.custodians
    (search arith)

pub returns-in_err-check_rows-clause-checks : goal.returns-in_err-check_rows-clause-checks
returns-in_err-check_rows-clause-checks g c is_open t version are =
    let owners = c.args.owners.items in
    let lists = c.in_ok-custodians in
    let counted : length lists.custodians.items ≡ length owners = search arith in
    let begun = begin_custodians c.max_custodians.result owners lists.custodians.items lists.ensures.made.0 counted in
    let stopped = c.in_err-check_rows in
    custodians_fail t c.max_custodians.result (c.max_custodians.ensures ∙ ap custodians_of version) owners are
    (state g.S.Store c.args.connection.now) (state g.S.Store c.check_rows.new.connection)
    c.check_rows.ensures.survives stopped.field-0.0 c.from_residual-in_err-check_rows.result
    c.from_residual-in_err-check_rows.ensures.1 (λ clean is. stopped.ensures.meaning clean (ap Err is))
    (λ clean is. stopped.ensures.refused clean (refl, refl, begun) (ap Err is))
    (λ clean is. stopped.ensures.memory clean (ap Err is))
