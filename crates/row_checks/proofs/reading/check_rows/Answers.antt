use Rattle.std.proofs.Common.{◌≡◌, [], Err, OnOk, rules, arith}
use Rattle.sqlite.specs.{Held.Held, Held.state, State.HasCleanDisk, State.Survives}
use Rattle.row_checks.specs.{declared.error.RowsError.TheVariants.Refused, ShownRows.ShowsAll, ShownRows.ShowsFirst}
use Rattle.sqlite.proofs.{Callers.unchanged_then, StateLemmas.survives_then}
use Rattle.row_checks.proofs.RowByRow.{commits_none, no_meaning, carry, at_start, first_from, met_from}
use Rattle.row_checks.proofs.RowByRow.{database_no_other}
use Rattle.row_checks.proofs.reading.check_rows.Goals as goal

pub returns-in-Ok-clause-met : goal.returns-in-Ok-clause-met
returns-in-Ok-clause-met g c =
    let sql = c.args.sql.now in
    let first = state g.S.Store c.args.connection.now in
    let begun = c.in-Ok.ensures in
    let last = c.check_rows_left.new.rows.conn.now in
    let P : Held g.row.S.Denot → Type 0 = λ h. HasCleanDisk (state g.S.Store h)
    → g.T.RowCheck.has_taken c.args.check.now c.args.check.now []
    → OnOk c.check_rows_left.result
    (ShowsAll sql (g.T.RowCheck.has_taken c.args.check.now c.check_rows_left.new.check) first (state g.S.Store h)) in
    let it : P last = λ clean taken. met_from c.check_rows_left.result sql
    (g.T.RowCheck.has_taken c.args.check.now c.check_rows_left.new.check) first (state g.S.Store c.in-Ok.rows.conn.now)
    (state g.S.Store last) c.requires.query
    (grind (arith, at_start)) (λ given. c.check_rows_left.ensures.met clean given taken) in
    let eq : c.connection-1.given.0 ≡ last = search rules in carry P c.connection-1.given.0 last eq it

pub returns-in-Err-SqlInputError-clause-meaning : goal.returns-in-Err-SqlInputError-clause-meaning
returns-in-Err-SqlInputError-clause-meaning g c clean is = grind (arith, no_meaning)

pub returns-in-Err-SqlInputError-clause-survives : goal.returns-in-Err-SqlInputError-clause-survives
returns-in-Err-SqlInputError-clause-survives g c =
    let refused = rw (c.in-Err-SqlInputError.is) at c.query.follows.holds-at-none in
    commits_none c.args.sql.now [] _ _ c.requires.query refused.survives

pub returns-in-Err : goal.returns-in-Err
returns-in-Err g c =
    let refused = rw (c.in-Err.is) at c.query.follows.holds-at-none in
    record {
      idle = refused.mode c.requires.idle;
      met = λ clean begun. tt;
      meaning = λ clean is. absurd (database_no_other.2 is);
      refused = λ clean begun is. absurd (database_no_other.0 is);
      memory = λ clean is. absurd (database_no_other.1 is);
      survives = commits_none c.args.sql.now [] _ _ c.requires.query refused.survives;
    }

pub returns-in-Ok-clause-survives : goal.returns-in-Ok-clause-survives
returns-in-Ok-clause-survives g c =
    let first = state g.S.Store c.args.connection.now in
    let mid = state g.S.Store c.in-Ok.rows.conn.now in
    let last = c.check_rows_left.new.rows.conn.now in
    let eq : c.connection-1.given.0 ≡ last = search rules in
    let P : Held g.row.S.Denot → Type 0 = λ h. Survives first (state g.S.Store h) (λ _. ⊥) in
    carry P c.connection-1.given.0 last eq
    (survives_then first mid (state g.S.Store last) (λ _. ⊥) (λ _. ⊥) (λ _. ⊥) (λ _ _ none. none) (λ _ _ none. none)
    (commits_none c.args.sql.now [] first mid c.requires.query c.in-Ok.ensures.survives)
    c.check_rows_left.ensures.survives)

pub returns-in-Ok-clause-memory : goal.returns-in-Ok-clause-memory
returns-in-Ok-clause-memory g c = grind (arith, at_start, unchanged_then, carry)

pub returns-in-Ok-clause-refused : goal.returns-in-Ok-clause-refused
returns-in-Ok-clause-refused g c =
    let sql = c.args.sql.now in
    let first = state g.S.Store c.args.connection.now in
    let mid = c.in-Ok.rows.conn.now in
    let last = c.check_rows_left.new.rows.conn.now in
    let refuses = g.T.RowCheck.refuses c.args.check.now c.check_rows_left.new.check in
    let eq : c.connection-1.given.0 ≡ last = search rules in
    let P : Held g.row.S.Denot → Type 0 = λ h. HasCleanDisk (state g.S.Store h)
    → g.T.RowCheck.has_taken c.args.check.now c.args.check.now [] → c.check_rows_left.result ≡ Err Refused
    → ShowsFirst sql refuses first (state g.S.Store h) in
    let it : P last = λ clean taken is.
    let start = at_start g.S.Store sql c.args.connection.now mid last c.requires.query c.in-Ok.ensures.begun
    c.check_rows_left.ensures.survives clean in
    first_from sql refuses first (state g.S.Store mid) (state g.S.Store last) start.1
    (c.check_rows_left.ensures.refused clean start.0 taken is) in
    carry P c.connection-1.given.0 last eq it
