use Rattle.register_rows.specs.Within.Roles.{names_of, select_text}
use Rattle.register_tables.specs.declared.error.StoreError.TheVariants.{Database}
use Rattle.register_tables.specs.TableReads.{seen}
use Rattle.register_rows.specs.Within.Names.{HasNames}
use Rattle.register_rows.proofs.NamesFound.{names_read, names_refused, rows_counted, names_ranged, names_shown}
use Rattle.register_rows.proofs.NamesFound.{select_is, table_at}
use Rattle.register_tables.proofs.Readings.{reads_fail}
use Rattle.register_rows.proofs.stored_key.find_names_in_role.Goals as goal
use Rattle.std.proofs.Common.{arith}

pub returns-clause-reads : goal.returns-clause-reads
returns-clause-reads g c =
    let role = c.args.role in
    names_read (select_text role) (table_at role) (select_is role) c.args.key (names_of role) (names_shown role)
    (names_ranged role) _ _ (rw (c.select_sql.ensures, c.params-to_sql.ensures) at c.query_all.ensures.survives)
    c.in_ok-rows.rows.items c.sorted_names_in.result (rw c.deref.ensures.value at c.sorted_names_in.ensures.names)
    (rw c.deref.ensures.value at c.sorted_names_in.ensures.unregistered)
    (λ clean. rw (c.select_sql.ensures, c.params-to_sql.ensures) at (c.in_ok-rows.ensures.ok clean))

pub returns-in_err-rows-clause-reads : goal.returns-in_err-rows-clause-reads
returns-in_err-rows-clause-reads g c =
    let role = c.args.role in
    let Found = HasNames role c.args.key in
    reads_fail Found Found (seen g.S.Store c.args.connection.now) (seen g.S.Store c.query_all.new.self)
    (Database c.in_err-rows.field-0.0) c.from_residual.result c.from_residual.ensures.1
    (names_refused (select_text role) (table_at role) (select_is role) c.args.key (names_of role) (names_shown role)
    (names_ranged role) _ _ (rw (c.select_sql.ensures, c.params-to_sql.ensures) at c.query_all.ensures.survives)
    c.in_err-rows.field-0.0)

pub returns-clause-counted : goal.returns-clause-counted
returns-clause-counted g c clean t holds =
    let role = c.args.role in
    let asked = rw (c.select_sql.ensures, c.params-to_sql.ensures) at (c.in_ok-rows.ensures.ok clean) in
    let survives = rw (c.select_sql.ensures, c.params-to_sql.ensures) at c.query_all.ensures.survives in
    let same = rows_counted (select_text role) (table_at role) (select_is role) c.args.key (names_of role)
    (names_shown role) (names_ranged role) _ _ survives t holds c.in_ok-rows.rows.items asked in search arith
