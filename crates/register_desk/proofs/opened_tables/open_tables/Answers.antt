use Rattle.std.proofs.Common.{Err, ap}
use Rattle.sqlite.specs.Held.{state}
use Rattle.register_desk.proofs.OpenedIn.{check_fails, first_fails, first_opens, second_opens}
use Rattle.register_desk.proofs.opened_tables.open_tables.Goals as goal

pub returns-in_err-found-clause-opens : goal.returns-in_err-found-clause-opens
returns-in_err-found-clause-opens g c =
    check_fails (state g.S.Store c.args.connection.now) (state g.S.Store c.check.new.connection) _ _
    c.from_residual.ensures.1 c.in_err-found.ensures.checks

pub returns-in-Second-clause-opens : goal.returns-in-Second-clause-opens
returns-in-Second-clause-opens g c =
    second_opens (state g.S.Store c.args.connection.now) (state g.S.Store c.check.new.connection)
    c.in_ok-found.found c.in-Second.is c.in_ok-found.ensures.checks

pub returns-in-Err-clause-opens : goal.returns-in-Err-clause-opens
returns-in-Err-clause-opens g c =
    first_fails (state g.S.Store c.args.connection.now) (state g.S.Store c.check.new.connection)
    (state g.S.Store c.migrate.new.connection) c.in_ok-found.found c.in-First.is c.in_ok-found.ensures.checks
    c.in-Err.error c.in-Err.ensures.migrated
    (λ is. c.in-Err.ensures.there (ap (λ e. Err e) is)) _ c.migration_error.ensures

pub returns-in-Ok-clause-opens : goal.returns-in-Ok-clause-opens
returns-in-Ok-clause-opens g c =
    first_opens (state g.S.Store c.args.connection.now) (state g.S.Store c.check.new.connection)
    (state g.S.Store c.migrate.new.connection) c.in_ok-found.found c.in-First.is c.in_ok-found.ensures.checks _
    c.in-Ok.ensures.migrated
