use Rattle.sql_steps.proofs.Stepping.{fails_as, transacts_as}
use Rattle.register_rows.specs.AcceptedRequest.{CanTake, with_request}
use Rattle.register_tables.specs.{TableChanges.Makes, TableReads.seen}
use Rattle.register_rows.proofs.accepted_request.commit_request.Goals as goal
use Rattle.std.proofs.Common.{arith}

-- each of the other two cites one of these, and so is not tried where that fails

pub returns-clause-steps : goal.returns-clause-steps
returns-clause-steps g c = c.transact.ensures.steps

pub returns-in_err-transact-clause-steps : goal.returns-in_err-transact-clause-steps
returns-in_err-transact-clause-steps g c = c.transact.ensures.steps

pub returns-clause-written : goal.returns-clause-written
returns-clause-written g c =
    let steps = returns-clause-steps g c in
    let Made = Makes (CanTake c.args.keys c.args.latest c.args.kept.now)
    (with_request c.args.keys c.args.change.now c.args.kept.now) in
    transacts_as Made (seen g.S.Store c.args.connection.now) (seen g.S.Store c.transact.new.self)
    c.in_ok-transact.field-0 _ c.in_ok-transact.ensures.made

pub returns-in_err-transact-clause-written : goal.returns-in_err-transact-clause-written
returns-in_err-transact-clause-written g c = search (arith, returns-in_err-transact-clause-steps, fails_as)
